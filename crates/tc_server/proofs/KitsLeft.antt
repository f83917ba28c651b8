-- What is left of the files of engines that are closed, kit by kit, by the worlds at which they stood.
use Rattle.std.proofs.Common.{◌≡◌, ◌⊎◌, ◌∙◌, ◌≤◌, ◌<◌, ℕ, suc, false, List, [], ◌∷◌, All, length, Some, arith, refl, ap, sym, subst, inl, inr}
use Rattle.std.specs.Prelude.{map, slice_get, zip, Option, Result, Ok, Err, IfErr, OnOk}
use Rattle.std.proofs.lemmas.Bool.{true≢false}
use Rattle.std.proofs.lemmas.List.Elements.{All-cons, All-head, All-nil, All-tail}
use Rattle.tc_keeper.specs.Places.{AtEach, EachFrom}
use Rattle.tc_keeper.specs.Standing.{partition_at, HoldsPart, HoldWorld, IsSeen, KeepsPart, KeepWorlds}
use Rattle.tc_keeper.specs.WithJobs.{told_of, works_of, WithJobs}
use Rattle.tc_keeper.proofs.PlaceLaws.{at_each-join}
use Rattle.tc_list.specs.Policies.{listed_least}
use Rattle.tc_log.specs.Layout.{empty_size}
use Rattle.tc_lsm_model.specs.Contents.{Partition}
use Rattle.tc_machine.specs.Pictures.{Opens}
use Rattle.tc_machine.specs.Steps.{nothing_held}
use Rattle.tc_plain_model.specs.Writes.{Pairs}
use Rattle.tc_run_model.specs.World.{Part, World, store_at}
use Rattle.tc_store.specs.Disk.{Disk}
use Rattle.tc_store.specs.KitFaults.{KitFaults}
use Rattle.tc_store.specs.Moments.{IfTold}
use Rattle.tc_store.specs.Pictures.{LeavesPictures}
use Rattle.tc_store.specs.declared.kit.Kit.{Kit}
use Rattle.tc_words.specs.declared.run.Options.{Options}
use Rattle.tc_work.specs.Moving.{Eyes}
use Rattle.tc_work.specs.declared.fault.EngineFault.{EngineFault}
use Rattle.tc_work.specs.declared.finishing.Finished.{Finished}
use Rattle.tc_keeper.specs.Calls.{IsSettled}
use Rattle.tc_keeper.specs.Holds.{IsOneOf}
use Rattle.tc_server.specs.Kits.{IsClosed}
use Rattle.tc_server.specs.OverFiles.{IsStoredInOne, LeavesOneOf, LeavesSmall, OpensSmall}
use Rattle.tc_server.proofs.ClosedFiles.{held_left, kept_left, leaves_so, stored_there, Leaves}
use Rattle.tc_keeper.proofs.EachLaws.{at_each-placed, each-right, zip_places}
use Rattle.tc_server.proofs.FinishedFiles.{few_left, short_log}

-- what is left small of a partition, at a world
abbrev pub Small : Options → Partition → World → List Disk → Type 0
Small options here w disks = IfTold disks (LeavesPictures nothing_held (OpensSmall here options.memory options.merge w.flushed))

-- what is read of the stores of kits is read of what engines left
pub ended_stores : {S W D F X : Type 0} (read : S → X) (ended : List (Finished S W D F)) → map (λ (k : Kit S W D F). read k.store) (map (λ (f : Finished S W D F). f.kit) ended) ≡ map (λ (f : Finished S W D F). read f.kit.store) ended
ended_stores read [] = refl
ended_stores read (f ∷ ended) = ap (λ more. read f.kit.store ∷ more) (ended_stores read ended)

-- ---- one of more worlds

stored_at : (p : ℕ) (w : World) (part : Part) (pairs : Pairs) (worlds : List World) → slice_get w.parts p ≡ Some part → IsOneOf w worlds → pairs ≡ part.now.pairs → IsStoredInOne p worlds pairs
stored_at p w part pairs [] there is same = absurd is
stored_at p w part pairs (v ∷ vs) there (inl here) same = inl (subst (λ (u : World). pairs ≡ (store_at p u).pairs) here (same ∙ ap (λ s. s.pairs) (sym (stored_there w p part there))))
stored_at p w part pairs (v ∷ vs) there (inr more) same = inr (stored_at p w part pairs vs there more same)

-- where a call ended well
ended_well : {P : Type 0} (r : Result (Unit {0}) EngineFault) → IfErr r (λ fault. ⊥) → OnOk r P → P
ended_well (Ok done) well p = p
ended_well (Err fault) well p = absurd well

module _ {S D F W K : Type 0} (eyes : Eyes S D F W) (size : D → ℕ) (outcome : K → Result (Unit {0}) EngineFault) (disks : K → List Disk) (faults : K → KitFaults) where
  abbrev pub AreClosed : List (WithJobs S D F W) → List K → Type 0
  AreClosed es ks = AtEach (λ p e k. IsClosed eyes size e (outcome k) (disks k) (faults k)) 0 es ks

  -- the engines that are looked at stand at a world
  pub held_kits : (only : Option ℕ) (count : ℕ) (w : World) (worlds : List World) (es : List (WithJobs S D F W)) (ks : List K) → length w.parts ≡ count → IsOneOf w worlds → HoldWorld eyes only es w → AreClosed es ks
      → EachFrom (λ p k. IsSeen only p → LeavesOneOf count worlds p (disks k)) 0 ks
  held_kits only count w worlds es ks many is held closed =
      each-right Beside (λ p k. IsSeen only p → LeavesOneOf count worlds p (disks k)) 0 w.parts ks (λ p part k left. left)
      (at_each-join (λ p e part. (IsSeen only p → HoldsPart (works_of eyes e) (told_of eyes e) e.engine.part.limits (partition_at p (length w.parts)) w part) × (slice_get w.parts p ≡ Some part)) (λ p e k. IsClosed eyes size e (outcome k) (disks k) (faults k)) Beside 0 es w.parts ks
      one
      (at_each-placed (λ p e part. IsSeen only p → HoldsPart (works_of eyes e) (told_of eyes e) e.engine.part.limits (partition_at p (length w.parts)) w part) [] es w.parts held.each) closed)
    where
      Beside : ℕ → Part → K → Type 0
      Beside p part k = IsSeen only p → LeavesOneOf count worlds p (disks k)

      one : (p : ℕ) (e : WithJobs S D F W) (part : Part) (k : K) →
          (IsSeen only p → HoldsPart (works_of eyes e) (told_of eyes e) e.engine.part.limits (partition_at p (length w.parts)) w part)
          × (slice_get w.parts p ≡ Some part) → IsClosed eyes size e (outcome k) (disks k) (faults k) → Beside p part k
      one p e part k (h, there) c = λ seen.
          leaves_so (partition_at p count) (λ pairs. pairs ≡ part.now.pairs) (IsStoredInOne p worlds) (disks k) (λ pairs same. stored_at p w part pairs worlds there is same)
          (subst (λ n. Leaves (partition_at p n) (λ pairs. pairs ≡ part.now.pairs) (disks k)) many (held_left eyes size (partition_at p (length w.parts)) w part e (outcome k) (disks k) (faults k) c (h seen)))

  -- or each of them keeps its part of one of two
  pub kept_kits : (only : Option ℕ) (count : ℕ) (w v : World) (worlds : List World) (es : List (WithJobs S D F W)) (ks : List K) → length w.parts ≡ count → IsOneOf w worlds → IsOneOf v worlds → KeepWorlds eyes only es w v → AreClosed es ks
      → EachFrom (λ p k. IsSeen only p → LeavesOneOf count worlds p (disks k)) 0 ks
  kept_kits only count w v worlds es ks many one_of other_of kept closed =
      each-right Beside (λ p k. IsSeen only p → LeavesOneOf count worlds p (disks k)) 0 both ks (λ p parts k left. left)
      (at_each-join (λ p e parts. (IsSeen only p → KeepsPart (works_of eyes e) (told_of eyes e) e.engine.part.limits (partition_at p (length w.parts)) w v parts.0 parts.1) × (slice_get both p ≡ Some parts)) (λ p e k. IsClosed eyes size e (outcome k) (disks k) (faults k)) Beside 0 es both ks
      one
      (at_each-placed (λ p e parts. IsSeen only p → KeepsPart (works_of eyes e) (told_of eyes e) e.engine.part.limits (partition_at p (length w.parts)) w v parts.0 parts.1) [] es both kept) closed)
    where
      both : List (Part × Part)
      both = zip w.parts v.parts

      Beside : ℕ → Part × Part → K → Type 0
      Beside p parts k = IsSeen only p → LeavesOneOf count worlds p (disks k)

      one : (p : ℕ) (e : WithJobs S D F W) (parts : Part × Part) (k : K)
          → (IsSeen only p → KeepsPart (works_of eyes e) (told_of eyes e) e.engine.part.limits (partition_at p (length w.parts)) w v parts.0 parts.1)
          × (slice_get both p ≡ Some parts) → IsClosed eyes size e (outcome k) (disks k) (faults k) → Beside p parts k
      one p e parts k (kept, there) c = λ seen.
          let at = zip_places w.parts v.parts p parts there in
          leaves_so (partition_at p count) (λ pairs. (pairs ≡ parts.0.now.pairs) ⊎ (pairs ≡ parts.1.now.pairs)) (IsStoredInOne p worlds) (disks k)
          (λ pairs same. elim same [ inl before ↦ stored_at p w parts.0 pairs worlds at.0 one_of before | inr after ↦ stored_at p v parts.1 pairs worlds at.1 other_of after ])
          (subst (λ n. Leaves (partition_at p n) (λ pairs. (pairs ≡ parts.0.now.pairs) ⊎ (pairs ≡ parts.1.now.pairs)) (disks k)) many
          (kept_left eyes size (partition_at p (length w.parts)) w v parts.0 parts.1 e (outcome k) (disks k) (faults k) c (kept seen)))

  -- ---- engines that have not failed

  -- one that has not failed holds its part
  holds_sound : (here : Partition) (w : World) (part : Part) (e : WithJobs S D F W) → e.engine.part.failed ≡ false → KeepsPart (works_of eyes e) (told_of eyes e) e.engine.part.limits here w w part part → HoldsPart (works_of eyes e) (told_of eyes e) e.engine.part.limits here w part
  holds_sound here w part e sound (inl h) = h
  holds_sound here w part e sound (inr (inl h)) = h
  holds_sound here w part e sound (inr (inr f)) = absurd (elim f.kept [ inl k ↦ true≢false (sym k.files.failed ∙ sound) | inr k ↦ true≢false (sym k.1.files.failed ∙ sound) ])

  -- so what is kept of one world alone is held
  pub all_hold : (only : Option ℕ) (w : World) (es : List (WithJobs S D F W)) → All (IsSettled size) es → KeepWorlds eyes only es w w → AtEach (λ p e part. IsSeen only p → HoldsPart (works_of eyes e) (told_of eyes e) e.engine.part.limits (partition_at p (length w.parts)) w part) 0 es w.parts
  all_hold only w es settled kept = each_holds 0 es w.parts settled kept
    where
      each_holds : (n : ℕ) (es : List (WithJobs S D F W)) (parts : List Part) → All (IsSettled size) es → AtEach (λ p e both. IsSeen only p → KeepsPart (works_of eyes e) (told_of eyes e) e.engine.part.limits (partition_at p (length w.parts)) w w both.0 both.1) n es (zip parts parts)
          → AtEach (λ p e part. IsSeen only p → HoldsPart (works_of eyes e) (told_of eyes e) e.engine.part.limits (partition_at p (length w.parts)) w part) n es parts
      each_holds n [] [] settled kept = tt
      each_holds n [] (part ∷ parts) settled kept = absurd kept
      each_holds n (e ∷ es) [] settled kept = absurd kept
      each_holds n (e ∷ es) (part ∷ parts) settled kept = (
        λ seen. holds_sound (partition_at n (length w.parts)) w part e (All-head (IsSettled size) e es settled).sound (kept.0 seen),
        each_holds (suc n) es parts (All-tail (IsSettled size) e es settled) kept.1,
      )

  -- ---- what is left small

  -- what the settings of an engine are
  abbrev pub IsSet : Options → WithJobs S D F W → Type 0
  IsSet options e = (e.engine.part.memory ≡ options.memory) × (listed_least e.engine.policy ≡ options.merge)

  module _ (sized : (e : WithJobs S D F W) → IfTold (told_of eyes e).log (λ f. size e.engine.part.log.device ≡ length f.content)) where
    part_small : (options : Options) (here : Partition) (w : World) (part : Part) (e : WithJobs S D F W) (k : List Disk) (ended : Result (Unit {0}) EngineFault) (counted : KitFaults) → 2 ≤ options.merge → options.merge ≤ 9 → empty_size < options.memory → IsSet options e → IsSettled size e
        → IfErr ended (λ fault. ⊥) → IsClosed eyes size e ended k counted → HoldsPart (works_of eyes e) (told_of eyes e) e.engine.part.limits here w part → Small options here w k
    part_small options here w part e [] ended counted two nine long set settled well closed h = tt
    part_small options here w part e (disk ∷ past) ended counted two nine long set settled well closed h = λ picture left.
        let small = ended_well ended well (closed.opens h.view h.is h.jobs) in
        let is = small.opens picture left in
        let short : size e.engine.part.log.device < options.memory = subst (λ m. size e.engine.part.log.device < m) set.0 (settled.short (subst (λ m. empty_size < m) (sym set.0) long)) in
        let few : length small.list < options.merge = subst (λ m. length small.list < m) set.1 (few_left (listed_least e.engine.policy) (length small.list) (subst (λ m. 2 ≤ m) (sym set.1) two) small.few) in record {
          contents = small.list;
          logs = small.writes ∷ [];
          opens = subst (λ part. Opens part picture small.list (small.writes ∷ [])) h.of_number is.0;
          few = omega (arith, few, nine);
          merged = few;
          short = omega (arith, is.1, short);
          no_frame = λ flushed. All-cons (λ ws. ws ≡ []) small.writes [] (small.unwritten (short_log (told_of eyes e) h.view (size e.engine.part.log.device) h.is h.tells (sized e) (h.flushed flushed))) (All-nil (λ ws. ws ≡ []));
        }

    -- each part of a world that is looked at is left small, where each engine ended well
    pub held_small : (only : Option ℕ) (options : Options) (w : World) (es : List (WithJobs S D F W)) (ks : List K) → length w.parts ≡ options.partitions → 2 ≤ options.merge → options.merge ≤ 9 → empty_size < options.memory → All (IsSet options) es → All (IsSettled size) es
        → EachFrom (λ p k. IfErr (outcome k) (λ fault. ⊥)) 0 ks → AtEach
        (λ p e part. IsSeen only p → HoldsPart (works_of eyes e) (told_of eyes e) e.engine.part.limits (partition_at p (length w.parts)) w part) 0 es w.parts
        → AreClosed es ks → EachFrom (λ p k. IsSeen only p → LeavesSmall options w.flushed p (disks k)) 0 ks
    held_small only options w es ks many two nine long sets settled well held closed =
        subst (λ n. EachFrom (λ p k. IsSeen only p → Small options (partition_at p n) w (disks k)) 0 ks) many
        (each_small 0 es w.parts ks sets settled well held closed)
      where
        each_small : (n : ℕ) (es : List (WithJobs S D F W)) (parts : List Part) (ks : List K) → All (IsSet options) es → All (IsSettled size) es → EachFrom (λ p k. IfErr (outcome k) (λ fault. ⊥)) n ks
            → AtEach (λ p e part. IsSeen only p → HoldsPart (works_of eyes e) (told_of eyes e) e.engine.part.limits (partition_at p (length w.parts)) w part) n es parts → AtEach (λ p e k. IsClosed eyes size e (outcome k) (disks k) (faults k)) n es ks
            → EachFrom (λ p k. IsSeen only p → Small options (partition_at p (length w.parts)) w (disks k)) n ks
        each_small n [] [] [] sets settled well held closed = tt
        each_small n [] [] (k ∷ ks) sets settled well held closed = absurd closed
        each_small n [] (part ∷ parts) ks sets settled well held closed = absurd held
        each_small n (e ∷ es) [] ks sets settled well held closed = absurd held
        each_small n (e ∷ es) (part ∷ parts) [] sets settled well held closed = absurd closed
        each_small n (e ∷ es) (part ∷ parts) (k ∷ ks) sets settled well held closed = (
          λ seen. part_small options (partition_at n (length w.parts)) w part e (disks k) (outcome k) (faults k) two nine long (All-head (IsSet options) e es sets) (All-head (IsSettled size) e es settled) well.0 closed.0 (held.0 seen),
          each_small (suc n) es parts ks (All-tail (IsSet options) e es sets) (All-tail (IsSettled size) e es settled) well.1 held.1 closed.1,
        )
