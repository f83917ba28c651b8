-- A part has no files but its own: what the machine expects of its files are these names.
use Rattle.std.proofs.Common.{◌≡◌, ◌<◌, ◌+◌, ◌-◌, ◌∙◌, ℕ, List, [], ◌∷◌, length, take, drop, sym, ap, subst, arith, inl, inr, false, refl, length-append, Option, Some, None, is_some}
use Rattle.std.specs.Prelude.{IfSome, option_map}
use Rattle.std.specs.List.{AllZip}
use Rattle.std.proofs.lemmas.Bool.{true≢false}
use Rattle.tc_model.specs.Document.{Name}
use Rattle.tc_plain_model.specs.Writes.{Pairs, after_writes}
use Rattle.tc_store.specs.declared.file_name.FileName.{FileName}
use Rattle.tc_store.specs.declared.file_name.FileName.TheVariants.{Component, Log}
use Rattle.tc_store.specs.Disk.{Disk}
use Rattle.tc_store.specs.DiskFile.{DiskFile}
use Rattle.tc_store.specs.Moments.{IfTold}
use Rattle.tc_memory.specs.Table as memory
use Rattle.tc_component.specs.Spelling.{Index}
use Rattle.tc_lsm_model.specs.Contents.{Content, Partition}
use Rattle.tc_lsm_model.specs.Lists.{Covers, GoOn, last_after, last_of}
use Rattle.tc_lsm_model.specs.Merges.{IsMerge, in_run}
use Rattle.tc_list.specs.declared.run.Run.{Run}
use Rattle.tc_list.proofs.RunPairs.{AllZip-in_run}
use Rattle.tc_machine.specs.Kept.{MergeFits}
use Rattle.tc_machine.specs.State.{Flushing, Merging, Sealed, sealed_logs}
use Rattle.tc_machine.specs.Steps.{IsExpected, IsOfFlush, IsOfMerge}
use Rattle.tc_machine.proofs.Targets.{FlushTarget, flush_target}
use Rattle.tc_part_model.specs.Meaning.{IsOfContent, IsPart, KeepsSealed}
use Rattle.tc_part.specs.OwnFiles.{AreOfFlush, AreOfMerge, BeginBy, EndFrom, FollowInOrder, HasOnlyOwn, HasOwnFiles, IsOwn, LieWithin}
use Rattle.tc_part_model.specs.PartFiles.{AreKeptAt, IfFiles, device_at, files_at, no_job}
use Rattle.tc_part_model.specs.PartState.{AreTold, IsTold, Told, ToldComponent}
use Rattle.tc_part_model.specs.PartView.{PartView, state_with}
use Rattle.tc_part_model.proofs.DeviceFiles.{no_job_leaves, some_sealed, there_seen}

-- ---- the intervals of what is told are those of the contents

pub from_is : (c : ToldComponent) (d : Content) → IsOfContent c d → c.index.head.from ≡ d.from
from_is c d of = ap (λ (i : Index). i.head.from) of.index

pub to_is : (c : ToldComponent) (d : Content) → IsOfContent c d → c.index.head.to ≡ d.to
to_is c d of = ap (λ (i : Index). i.head.to) of.index

in_order : (part : Partition) (g : ℕ) (p : Pairs) (names : List Name) (ts : List ToldComponent) (cs : List Content) → AllZip IsOfContent ts cs → GoOn part g p names cs → FollowInOrder g ts
in_order part g p names [] cs zip goes = tt
in_order part g p names (t ∷ ts) [] zip goes = absurd zip
in_order part g p names (t ∷ ts) (c ∷ cs) zip goes = (
  from_is t c zip.0 ∙ goes.0.next,
  omega (arith, from_is t c zip.0, to_is t c zip.0, goes.0.content.order),
  subst (λ h. FollowInOrder h ts) (sym (to_is t c zip.0)) (in_order part c.to (after_writes p c.entries) c.names ts cs zip.1 goes.1),
)

covered : (from to : ℕ) (ts : List ToldComponent) (cs : List Content) → AllZip IsOfContent ts cs → Covers cs from to → LieWithin from to ts
covered from to ts [] zip none = absurd none
covered from to [] (c ∷ cs) zip is = absurd zip
covered from to (t ∷ ts) (c ∷ cs) zip (inl here) = inl (omega (arith, from_is t c zip.0, here.0), omega (arith, to_is t c zip.0, here.1))
covered from to (t ∷ ts) (c ∷ cs) zip (inr further) = inr (covered from to ts cs zip.1 further)

begins : (ts : List ToldComponent) (cs : List Content) (first : Content) (others : List Content) → AllZip IsOfContent ts cs → cs ≡ first ∷ others → BeginBy first.from ts
begins ts [] first others zip is = absurd (cc)
begins [] (c ∷ cs) first others zip is = absurd zip
begins (t ∷ ts) (c ∷ cs) first others zip is = inl (omega (arith, from_is t c zip.0, same))
  where
    same : c.from ≡ first.from
    same = let one : c ≡ first = cc in ap (λ (d : Content). d.from) one

ends : (g : ℕ) (ts : List ToldComponent) (cs : List Content) → AllZip IsOfContent ts cs → 0 < length cs → EndFrom (last_after g cs) ts
ends g ts [] zip some = absurd (omega (arith, some))
ends g [] (c ∷ cs) zip some = absurd zip
ends g (t ∷ ts) (c ∷ []) zip some = inl (omega (arith, to_is t c zip.0))
ends g (t ∷ ts) (c ∷ d ∷ cs) zip some = inr (ends c.to ts (d ∷ cs) zip.1 (omega arith))

merges : (ts : List ToldComponent) (cs : List Content) (c : Content) → AllZip IsOfContent ts cs → IsMerge cs c → BeginBy c.from ts × EndFrom c.to ts
merges ts cs c zip is = (
  subst (λ n. BeginBy n ts) (sym is.from) (begins ts cs is.first is.others zip is.is),
  subst (λ n. EndFrom n ts) (sym is.to) (ends 0 ts cs zip (subst (λ ds. 0 < length ds) (sym is.is) (omega arith))),
)

one_log : (T : Type 0) (o : Option Sealed) (kept : Option memory.Table) (d : Sealed) → KeepsSealed T o kept → o ≡ Some d → (length d.logs ≡ 1) × (length (sealed_logs o) ≡ 1)
one_log T None kept d keeps is = absurd (cc)
one_log T (Some e) None d keeps is = absurd keeps
one_log T (Some e) (Some k) d keeps is = let same : e ≡ d = cc in (subst (λ (x : Sealed). length x.logs ≡ 1) same keeps.0, keeps.0)

-- ---- the names

module _ (t : Told) (p : PartView) (is : IsPart t p) where
  pub of_flush : (from to : ℕ) (flush : Option Flushing) → p.flush ≡ flush → IsOfFlush flush from to → AreOfFlush t.flushing t.generation from to
  of_flush from to None same named = absurd named
  of_flush from to (Some j) same named = subst (λ b. AreOfFlush b t.generation from to) (sym (is.view.flushing ∙ ap (λ o. is_some o) same)) (omega (arith, named.0, target.from, behind, logs.0), omega (arith, named.1, target.to, behind, logs.0))
    where
      target : FlushTarget p.list p.sealed j
      target = flush_target p.list p.sealed p.flush j same is.memory.flush

      logs : (length target.table.logs ≡ 1) × (length (sealed_logs p.sealed) ≡ 1)
      logs = one_log (AreTold t.components) p.sealed t.sealed target.table is.view.sealed target.is_sealed

      behind : t.generation ≡ last_of p.list + 2
      behind = omega (arith, is.view.generation, logs.1)

  of_merge : (from to : ℕ) (merge : Option Merging) → IfSome merge (MergeFits p.list) → IsOfMerge merge from to → AreOfMerge (option_map (λ m. m.run) merge) t.components from to
  of_merge from to None fits named = absurd named
  of_merge from to (Some m) fits named =
      let positions : Run = record { first = m.run.first; last = m.run.first + m.run.length - 1 } in
      let many : positions.last + 1 - positions.first ≡ m.run.length = omega (arith, fits.two) in
      let zip = subst (λ n. AllZip IsOfContent (take n (drop m.run.first t.components)) (take n (drop m.run.first p.list))) many (AllZip-in_run IsOfContent positions t.components p.list is.view.components) in
      let both = merges (take m.run.length (drop m.run.first t.components)) (in_run m.run p.list) m.target zip fits.is_merge in
      (subst (λ n. BeginBy n (take m.run.length (drop m.run.first t.components))) (sym named.0) both.0, subst (λ n. EndFrom n (take m.run.length (drop m.run.first t.components))) (sym named.1) both.1)

  module _ (disk : Disk) (f g : DiskFile) (k : AreKeptAt p false None disk f g) where
    own : (name : FileName) → IsExpected (state_with p false None (files_at p disk f g no_job)) name → IsOwn t name
    own (Component from to) (inl listed) = inl (covered from to t.components p.list is.view.components listed)
    own (Component from to) (inr (inl flushed)) = inr (inl (of_flush from to p.flush refl flushed))
    own (Component from to) (inr (inr merged)) = inr (inr (subst (λ o. AreOfMerge o t.components from to) (sym is.view.merging) (of_merge from to p.merge is.memory.merge merged)))
    own (Log n) (inl earlier) = omega (arith, is.view.generation, length-append (sealed_logs p.sealed) (p.active.writes ∷ []), earlier)
    own (Log n) (inr next) = absurd (true≢false (sym next.1))

    only_own : HasOnlyOwn t disk
    only_own name there = own name ((k.kept no_job (no_job_leaves p)).expected refl refl name (there_seen (device_at p f g no_job name) (disk name) there))

  pub part_owns : HasOwnFiles t
  part_owns = at t.disks t.log is.tells.active is.files.kept
    where
      at : (disks : List Disk) (log : List DiskFile) → IfTold disks (λ disk. IsTold log) → IfFiles disks log t.sealed_log (AreKeptAt p false None) → IfTold disks (λ disk. FollowInOrder 0 t.components × HasOnlyOwn t disk)
      at [] log tells kept = tt
      at (disk ∷ before) [] tells kept = absurd tells
      at (disk ∷ before) (f ∷ past) tells kept =
          let any = some_sealed t.sealed_log in (in_order p.part 0 [] [] t.components p.list is.view.components is.memory.list, only_own disk f any.0 (kept any.0 any.1))
