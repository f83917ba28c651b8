-- Every picture of a kept state is lawful, and recovers to what the state holds.
use Rattle.std.proofs.Common.{◌≡◌, ◌⊎◌, ◌<◌, ◌+◌, ℕ, Bool, true, false, List, [], ◌∷◌, ◌++◌, length, refl, sym, ap, ◌∙◌, subst, arith, inl, inr, Option, Some, None, length-append, append_assoc, append-nil}
use Rattle.std.specs.Prelude.{All, IfSome}
use Rattle.std.proofs.lemmas.Bool.{false≢true, cases_lt, cases_Bool}
use Rattle.std.proofs.lemmas.List.Elements.{All-nil, All-cons, All-append, All-weaker}
use Rattle.std.proofs.lemmas.Option.{MatchOption-at_some}
use Rattle.tc_model.specs.Document.{Name}
use Rattle.tc_plain_model.specs.Store.{names_after}
use Rattle.tc_plain_model.specs.Writes.{Pairs, Write, after_writes}
use Rattle.tc_plain_model.proofs.WriteLaws.{after_writes-append}
use Rattle.tc_lsm_model.specs.Contents.{Content, Partition}
use Rattle.tc_lsm_model.specs.Flushes.{IsFlush}
use Rattle.tc_lsm_model.specs.Lists.{Covers, IsList, last_of, live, names_of}
use Rattle.tc_lsm_model.specs.Merges.{swapped}
use Rattle.tc_lsm_model.specs.Tables.{over, table_over, writes_of}
use Rattle.tc_lsm_model.proofs.FlushLaws.{flushed_list}
use Rattle.tc_lsm_model.proofs.ListLaws.{Ascends-live, held_over-append, last_after-append, newest_names-append}
use Rattle.tc_lsm_model.proofs.ListNewest.{newest_of_list}
use Rattle.tc_lsm_model.proofs.Covering.{Covers-back, Covers-front}
use Rattle.tc_lsm_model.proofs.MergeLaws.{Replaces, swapped_replaces}
use Rattle.tc_lsm_model.proofs.WrittenNames.{names_after-table, names_of_table, no_more_together}
use Rattle.tc_store.specs.Disk.{IsPictureOf, MayLeaveAt, Picture, bytes_at}
use Rattle.tc_store.specs.Gate.{is_open_file}
use Rattle.tc_store.specs.Images.{Image}
use Rattle.tc_store.specs.declared.file_name.FileName.{FileName}
use Rattle.tc_store.specs.declared.file_name.FileName.TheVariants.{Component, Log}
use Rattle.tc_component.specs.Rows.{IsComponent}
use Rattle.tc_machine.specs.Components.{HasComponentHead, LeavesComponent, file_of}
use Rattle.tc_machine.specs.Kept.{IsKept, MergeFits}
use Rattle.tc_machine.specs.Logs.{HasLogHead, IsLog, LeavesLog, all_writes}
use Rattle.tc_machine.specs.Pictures.{HasLogs, IfOpen, Opens, Recovers, recovered}
use Rattle.tc_machine.specs.Sound.{Flushes, IsExplained, IsFlushOf, IsFlushTarget, IsMergeTarget, IsWithOrWithout, LeavesActive, LeavesLogs, LeavesOf}
use Rattle.tc_machine.specs.State.{Active, Flushing, IsIdle, Merging, Sealed, State, active_generation, active_logs, active_table, below_active, flush_name, frame_writes, history, logs, next_generation, sealed_logs, sealed_table}
use Rattle.tc_machine.specs.Steps.{IsFlushed, IsShutOrHas, nothing_held}
use Rattle.tc_machine.specs.Writes.{AreFew, HasRoom, IsStorableWrite}
use Rattle.tc_machine.proofs.ComponentHeads.{component_has_head}
use Rattle.tc_machine.proofs.FilesMade.{closed_or_open, log_there}
use Rattle.tc_machine.proofs.Holding.{all_writes-append, all_writes-one, sealed_is}
use Rattle.tc_machine.proofs.InstallSteps.{All-swapped, IsFlush-same, flushed_head}
use Rattle.tc_machine.proofs.LogHeads.{log_has_head}
use Rattle.tc_machine.proofs.NextLogs.{shut_is_not_open}
use Rattle.tc_machine.proofs.Options.{All-back, All-front}

-- the file of a name is there and open
abbrev open_image : Image → Bool
open_image None = false
open_image (Some b) = is_open_file b

record IsThere (o : Image) : Type 0 where
  bytes : List ℕ
  is : o ≡ Some bytes
  is_open : is_open_file bytes ≡ true

there_if_open : (o : Image) → open_image o ≡ true → IsThere o
there_if_open None is = absurd (false≢true is)
there_if_open (Some b) is = record { bytes = b; is = refl; is_open = is }

not_open : (o : Image) (b : List ℕ) (X : Type 0) → open_image o ≡ false → o ≡ Some b → is_open_file b ≡ true → X
not_open o b X closed is is_open = closed_or_open b X (subst (λ i. open_image i ≡ false) is closed) is_open

whole_if_open : (P : List ℕ → Type 0) (b : List ℕ) → is_open_file b ≡ true → IsShutOrHas P (Some b) → P b
whole_if_open P b is_open (inl closed) = closed_or_open b _ closed is_open
whole_if_open P b is_open (inr is) = is

module _ (part : Partition) (s : State) (k : IsKept part s) (picture : Picture) (left : IsPictureOf nothing_held s.files picture) where
  -- the names of the list and of the sealed table
  abbrev sealed_names : List Name
  sealed_names = names_after (names_of s.list) (writes_of (sealed_table s.sealed))

  abbrev Holds : Content → Type 0
  Holds c = LeavesComponent c (bytes_at picture (file_of c))

  listed_there : All Holds s.list
  listed_there = All-weaker (λ c. LeavesOf s.files (file_of c) (LeavesComponent c)) Holds (λ c leaves. leaves (bytes_at picture (file_of c)) (left.each (file_of c))) s.list k.files.listed

  open_target : (c : Content) → LeavesOf s.files (file_of c) (IsShutOrHas (IsComponent c)) → IsThere (bytes_at picture (file_of c)) → Holds c
  open_target c leaves t =
      subst (λ o. LeavesComponent c o) (sym t.is) (whole_if_open (IsComponent c) t.bytes t.is_open (subst (λ o. IsShutOrHas (IsComponent c) o) t.is (leaves (bytes_at picture (file_of c)) (left.each (file_of c)))))

  -- ---- the components, where the merge is done or not

  record Merged (cs : List Content) : Type 0 where
    list : IsList part cs
    there : All Holds cs
    same : live cs ≡ live s.list
    names : names_of cs ≡ names_of s.list
    last : last_of cs ≡ last_of s.list
    covers : (from to : ℕ) → Covers s.list from to → Covers cs from to
    merged : (from to : ℕ) (b : List ℕ) → IsMergeTarget s.merge from to b → bytes_at picture (Component from to) ≡ Some b → is_open_file b ≡ true → Covers cs from to

  as_listed : ((from to : ℕ) (b : List ℕ) → IsMergeTarget s.merge from to b → bytes_at picture (Component from to) ≡ Some b → is_open_file b ≡ true → Covers s.list from to) → Merged s.list
  as_listed merged = record { list = k.memory.list; there = listed_there; same = refl; names = refl; last = refl; covers = λ from to c. c; merged = merged }

  merge_or_not : (o : Option Merging) → s.merge ≡ o → (cs : List Content) × Merged cs
  merge_or_not None is = (s.list, as_listed (λ from to b target there is_open. absurd (subst (λ o. IsMergeTarget o from to b) is target)))
  merge_or_not (Some m) is = elim (cases_Bool (open_image (bytes_at picture (file_of m.target)))) [
    | inl is_open ↦
        let fits : MergeFits s.list m = subst (λ o. IfSome o (MergeFits s.list)) is k.memory.merge in
        let r : Replaces part s.list (swapped m.run m.target s.list) m.target = swapped_replaces part m.run s.list m.target k.memory.list fits.is_merge in
        let device : LeavesOf s.files (file_of m.target) (IsShutOrHas (IsComponent m.target)) =
        subst (λ o. IfSome o (λ m. LeavesOf s.files (file_of m.target) (IsShutOrHas (IsComponent m.target)))) is k.files.merge_file in (
          swapped m.run m.target s.list,
          record {
            list = r.list;
            there = All-swapped Holds m.run m.target s.list listed_there (open_target m.target device (there_if_open (bytes_at picture (file_of m.target)) is_open));
            same = r.live;
            names = r.names;
            last = r.last;
            covers = r.covers;
            merged = λ from to b target there opened.
                let t : IsMergeTarget (Some m) from to b = subst (λ o. IsMergeTarget o from to b) is target in rw (t.0.0, t.0.1) r.covered;
          },
        )
    | inr closed ↦ (
      s.list,
      as_listed (λ from to b target there is_open.
          let t : IsMergeTarget (Some m) from to b = subst (λ o. IsMergeTarget o from to b) is target in
          not_open (bytes_at picture (file_of m.target)) b _ closed (subst (λ (name : FileName). bytes_at picture name ≡ Some b) (same_name from to m.target t.0.0 t.0.1) there) is_open),
    )
  ]
    where
      same_name : (from to : ℕ) (c : Content) → from ≡ c.from → to ≡ c.to → Component from to ≡ file_of c
      same_name from to c e f = cc

  -- ---- the components, where the flush is done or not, and the logs that it leaves

  record Flushed (cs : List Content) (ls : List (List Write)) : Type 0 where
    list : IsList part cs
    there : All Holds cs
    same : after_writes (live cs) (all_writes ls) ≡ after_writes (live s.list) (all_writes (sealed_logs s.sealed))
    covers : (from to : ℕ) → Covers s.list from to → Covers cs from to
    merged : (from to : ℕ) (b : List ℕ) → IsMergeTarget s.merge from to b → bytes_at picture (Component from to) ≡ Some b → is_open_file b ≡ true → Covers cs from to
    flushed : (from to : ℕ) (b : List ℕ) → IsFlushTarget part s.list s.sealed s.flush from to b → bytes_at picture (Component from to) ≡ Some b → is_open_file b ≡ true → Covers cs from to
    few : (rest : List Write) → AreFew (names_after sealed_names rest) → AreFew (names_after (names_of cs) (all_writes ls ++ rest))
    logs : LeavesLogs part s.files (last_of cs + 1) ls
    generation : last_of cs + length ls ≡ last_of s.list + length (sealed_logs s.sealed)
    writes : All IsStorableWrite (all_writes ls)

  sealed_writes : All IsStorableWrite (all_writes (sealed_logs s.sealed))
  sealed_writes = All-front IsStorableWrite (all_writes (sealed_logs s.sealed)) (all_writes (active_logs s.active)) (subst (λ l. All IsStorableWrite l) (all_writes-append (sealed_logs s.sealed) (active_logs s.active)) k.memory.writes)

  -- the names that the sealed table has are those of its logs
  sealed_names_are : (o : Option Sealed) → IfSome o (λ d. d.table ≡ table_over (live s.list) (all_writes d.logs)) → names_after (names_of s.list) (writes_of (sealed_table o)) ≡ names_after (names_of s.list) (all_writes (sealed_logs o))
  sealed_names_are None is = refl
  sealed_names_are (Some d) is = names_of_table (names_of s.list) (live s.list) d.table (all_writes d.logs) is

  -- names are few together where they are few one lot after the other
  few_together : (us vs : List Write) → AreFew (names_after (names_after (names_of s.list) us) vs) → AreFew (names_after (names_of s.list) (us ++ vs))
  few_together us vs few = omega (arith, few, no_more_together (names_of s.list) us vs (newest_of_list part s.list k.memory.list).dictionary.distinct)

  unflushed : (cs : List Content) → Merged cs → ((from to : ℕ) (b : List ℕ) → IsFlushTarget part s.list s.sealed s.flush from to b → bytes_at picture (Component from to) ≡ Some b → is_open_file b ≡ true → Covers cs from to) → Flushed cs (sealed_logs s.sealed)
  unflushed cs m flushed = record {
    list = m.list;
    there = m.there;
    same = ap (λ p. after_writes p (all_writes (sealed_logs s.sealed))) m.same;
    covers = m.covers;
    merged = m.merged;
    flushed = flushed;
    few = λ rest few. subst (λ ns. AreFew (names_after ns (all_writes (sealed_logs s.sealed) ++ rest))) (sym m.names)
        (few_together (all_writes (sealed_logs s.sealed)) rest (subst (λ ns. AreFew (names_after ns rest)) (sealed_names_are s.sealed k.memory.sealed) few));
    logs = subst (λ g. LeavesLogs part s.files (g + 1) (sealed_logs s.sealed)) (sym m.last) k.files.sealed_logs;
    generation = ap (λ g. g + length (sealed_logs s.sealed)) m.last;
    writes = sealed_writes;
  }

  flush_done : (cs : List Content) → Merged cs → (d : Sealed) (j : Flushing) → s.flush ≡ Some j → s.sealed ≡ Some d → (c : Content) → IsFlush part s.list d.table (length d.logs) c → Holds c → (cs' : List Content) × (ls : List (List Write)) × Flushed cs' ls
  flush_done cs m d j is is_sealed c fits here =
      let fits' : Flushes s.list d j = subst (λ o. IsFlushOf s.list o (Some j)) is_sealed (subst (λ o. IsFlushOf s.list s.sealed o) is k.memory.flush) in
      let f = IsFlush-same part s.list cs d.table (length d.logs) c m.names m.last m.same fits in
      let names : names_of (cs ++ c ∷ []) ≡ sealed_names =
      newest_names-append [] cs (c ∷ []) ∙ fits.names ∙ ap (λ o. names_after (names_of s.list) (writes_of (sealed_table o))) (sym is_sealed) in
      let last : last_of (cs ++ c ∷ []) ≡ last_of s.list + length d.logs = last_after-append 0 cs (c ∷ []) ∙ fits.to in
      let lives : live (cs ++ c ∷ []) ≡ after_writes (live s.list) (all_writes (sealed_logs s.sealed)) =
      held_over-append [] cs (c ∷ []) ∙ ap (λ p. after_writes p c.entries) m.same ∙ ap (λ es. after_writes (live s.list) es) fits.entries
      ∙ ap (λ o. over (live s.list) (sealed_table o)) (sym is_sealed) ∙ sealed_is (live s.list) s.sealed (Ascends-live s.list) k.memory.sealed in (
        cs ++ c ∷ [],
        [],
        record {
          list = flushed_list part cs d.table (length d.logs) c m.list f;
          there = All-append Holds cs (c ∷ []) m.there (All-cons Holds c [] here (All-nil Holds));
          same = lives;
          covers = λ from to x. Covers-front cs (c ∷ []) from to (m.covers from to x);
          merged = λ from to b target there opened. Covers-front cs (c ∷ []) from to (m.merged from to b target there opened);
          flushed = λ from to b target there opened.
              let t : IsFlushTarget part s.list s.sealed (Some j) from to b = subst (λ o. IsFlushTarget part s.list s.sealed o from to b) is target in
              Covers-back cs (c ∷ []) from to (inl (omega (arith, t.0.0, fits'.from, fits.goes_on.next), omega (arith, t.0.1, fits'.to, fits.to)));
          few = λ rest few. subst (λ ns. AreFew (names_after ns rest)) (sym names) few;
          logs = tt;
          generation = omega (arith, last, ap (λ o. length (sealed_logs o)) is_sealed);
          writes = All-nil IsStorableWrite;
        },
      )

  -- what the flush left, where its file is open
  flushed_there : (d : Sealed) (j : Flushing) → s.flush ≡ Some j → s.sealed ≡ Some d → IsThere (bytes_at picture (flush_name j)) → (c : Content) × IsFlush part s.list d.table (length d.logs) c × Holds c
  flushed_there d j is is_sealed t = found t.bytes t.is t.is_open (subst (λ o. IsShutOrHas (IsFlushed part s.list s.sealed) o) t.is (device (bytes_at picture (flush_name j)) (left.each (flush_name j))))
    where
      device : LeavesOf s.files (flush_name j) (IsShutOrHas (IsFlushed part s.list s.sealed))
      device = MatchOption-at_some _ (λ j. LeavesOf s.files (flush_name j) (IsShutOrHas (IsFlushed part s.list s.sealed))) j is k.files.flush_file

      fits : Flushes s.list d j
      fits = subst (λ o. IsFlushOf s.list o (Some j)) is_sealed (subst (λ o. IsFlushOf s.list s.sealed o) is k.memory.flush)

      named : (c : Content) → IsFlush part s.list d.table (length d.logs) c → flush_name j ≡ file_of c
      named c f = same_name j.from j.to c (omega (arith, fits.from, f.goes_on.next)) (omega (arith, fits.to, f.to))
        where
          same_name : (from to : ℕ) (c : Content) → from ≡ c.from → to ≡ c.to → Component from to ≡ file_of c
          same_name from to c e g = cc

      found : (b : List ℕ) → bytes_at picture (flush_name j) ≡ Some b → is_open_file b ≡ true → IsShutOrHas (IsFlushed part s.list s.sealed) (Some b) → (c : Content) × IsFlush part s.list d.table (length d.logs) c × Holds c
      found b there is_open (inl closed) = closed_or_open b _ closed is_open
      found b there is_open (inr is') =
          let x : IsFlushed part s.list (Some d) b = subst (λ o. IsFlushed part s.list o b) is_sealed is' in
          (x.0, x.1, subst (λ (name : FileName). LeavesComponent x.0 (bytes_at picture name)) (named x.0 x.1) (subst (λ o. LeavesComponent x.0 o) (sym there) x.2))

  flush_or_not : (cs : List Content) → Merged cs → (o : Option Flushing) (d : Option Sealed) → s.flush ≡ o → s.sealed ≡ d → (cs' : List Content) × (ls : List (List Write)) × Flushed cs' ls
  flush_or_not cs m None d is is_sealed = (cs, sealed_logs s.sealed, unflushed cs m (λ from to b target there is_open. absurd ((subst (λ o. IsFlushTarget part s.list s.sealed o from to b) is target).0)))
  flush_or_not cs m (Some j) None is is_sealed = absurd (subst (λ o. IsFlushOf s.list o (Some j)) is_sealed (subst (λ o. IsFlushOf s.list s.sealed o) is k.memory.flush))
  flush_or_not cs m (Some j) (Some d) is is_sealed = elim (cases_Bool (open_image (bytes_at picture (flush_name j)))) [
    | inl is_open ↦
        let x = flushed_there d j is is_sealed (there_if_open (bytes_at picture (flush_name j)) is_open) in
        flush_done cs m d j is is_sealed x.0 x.1 x.2
    | inr closed ↦ (
      cs,
      sealed_logs s.sealed,
      unflushed cs m (λ from to b target there is_open.
          let t : IsFlushTarget part s.list s.sealed (Some j) from to b = subst (λ o. IsFlushTarget part s.list s.sealed o from to b) is target in
          not_open (bytes_at picture (flush_name j)) b _ closed (subst (λ (name : FileName). bytes_at picture name ≡ Some b) (same_name from to t.0.0 t.0.1) there) is_open),
    )
  ]
    where
      same_name : (from to : ℕ) → from ≡ j.from → to ≡ j.to → Component from to ≡ flush_name j
      same_name from to e g = cc

  -- ---- the logs

  there_at : (name : FileName) (P : Image → Type 0) → LeavesOf s.files name P → P (bytes_at picture name)
  there_at name P leaves = leaves (bytes_at picture name) (left.each name)

  log_at : (g : ℕ) (ws : List Write) (o : Image) → LeavesLog part g ws o → (b : List ℕ) × (o ≡ Some b) × IsLog part g ws b
  log_at g ws None is = absurd is
  log_at g ws (Some b) is = (b, refl, is)

  sealed_has : (g : ℕ) (ls tail : List (List Write)) → LeavesLogs part s.files g ls → HasLogs part picture (g + length ls) tail → HasLogs part picture g (ls ++ tail)
  sealed_has g [] tail there has = subst (λ n. HasLogs part picture n tail) (let e : g + 0 ≡ g = omega arith in e) has
  sealed_has g (ws ∷ ls) tail there has = (
    log_at g ws (bytes_at picture (Log g)) (there_at (Log g) (LeavesLog part g ws) there.0),
    sealed_has (g + 1) ls tail there.1 (subst (λ n. HasLogs part picture n tail) (let e : g + length (ws ∷ ls) ≡ g + 1 + length ls = omega arith in e) has),
  )

  -- nothing is open behind the next log
  beyond : (g : ℕ) → next_generation s < g → IfOpen picture (Log g) (λ b. ⊥)
  beyond g far b there is_open = reason (k.files.others (Log g) b (subst (λ o. MayLeaveAt (nothing_held (Log g)) (s.files (Log g)) o) there (left.each (Log g))) is_open)
    where
      reason : IsExplained part s (Log g) b → ⊥
      reason (inl covered) = omega (arith, covered.0, far)
      reason (inr (inl between)) = omega (arith, between.1, far)
      reason (inr (inr is)) = omega (arith, is.0, far)

  -- the next log is there, without a frame, or is not
  next_or_not : (tail : List (List Write)) × HasLogs part picture (next_generation s) tail × (all_writes tail ≡ [])
  next_or_not = elim (cases_Bool (open_image (bytes_at picture (Log (next_generation s))))) [
    | inl is_open ↦
        let t : IsThere (bytes_at picture (Log (next_generation s))) = there_if_open (bytes_at picture (Log (next_generation s))) is_open in (
          [] ∷ [],
          (
            (t.bytes, t.is, reason t.bytes (k.files.others (Log (next_generation s)) t.bytes (subst (λ o. MayLeaveAt (nothing_held (Log (next_generation s))) (s.files (Log (next_generation s))) o) t.is (left.each (Log (next_generation s)))) t.is_open)),
            λ g from. beyond g (omega (arith, from)),
          ),
          refl,
        )
    | inr closed ↦ (
      [],
      (λ g from b there is_open. elim (cases_lt (next_generation s) g) [
        | inl far ↦ beyond g far b there is_open
        | inr at ↦
            let same : g ≡ next_generation s = omega (arith, from) in
            not_open (bytes_at picture (Log (next_generation s))) b ⊥ closed (subst (λ (n : ℕ). bytes_at picture (Log n) ≡ Some b) same there) is_open
      ]),
      refl,
    )
  ]
    where
      reason : (b : List ℕ) → IsExplained part s (Log (next_generation s)) b → IsLog part (next_generation s) [] b
      reason b (inl covered) = absurd (omega (arith, covered.0))
      reason b (inr (inl between)) = absurd (omega (arith, between.1))
      reason b (inr (inr is)) = is.1

  -- the active log, without the frame or with it
  record ActiveLogs (tail : List (List Write)) : Type 0 where
    logs : List (List Write)
    has : HasLogs part picture (active_generation s) (logs ++ tail)
    writes : (all_writes logs ≡ all_writes (active_logs s.active)) ⊎ (all_writes logs ≡ all_writes (active_logs s.active) ++ frame_writes s.frame)

  active_at : (g : ℕ) (ws : List Write) (frame : Option (List Write)) (o : Image) → LeavesActive part g ws frame o
      → (ws' : List Write) × ((b : List ℕ) × (o ≡ Some b) × IsLog part g ws' b) × ((ws' ≡ ws) ⊎ (ws' ≡ ws ++ frame_writes frame))
  active_at g ws None o is = (ws, log_at g ws o is, inl refl)
  active_at g ws (Some f) None is = absurd is
  active_at g ws (Some f) (Some b) (inl is) = (ws, (b, refl, is), inl refl)
  active_at g ws (Some f) (Some b) (inr is) = (ws ++ f, (b, refl, is), inr refl)

  active_has : (tail : List (List Write)) (a : Option Active) → s.active ≡ a → HasLogs part picture (next_generation s) tail → ActiveLogs tail
  active_has tail None is has = record {
    logs = [];
    has = subst (λ g. HasLogs part picture g tail) (let e : next_generation s ≡ active_generation s = omega (arith, length-append (sealed_logs s.sealed) (active_logs s.active), ap (λ a. length (active_logs a)) is) in e) has;
    writes = inl (ap (λ a. all_writes (active_logs a)) (sym is));
  }
  active_has tail (Some d) is has =
      let leaves : LeavesOf s.files (Log (active_generation s)) (LeavesActive part (active_generation s) d.writes s.frame) =
      subst (λ a. IfSome a (λ d. LeavesOf s.files (Log (active_generation s)) (LeavesActive part (active_generation s) d.writes s.frame))) is k.files.active_log in
      let found = active_at (active_generation s) d.writes s.frame (bytes_at picture (Log (active_generation s))) (there_at (Log (active_generation s)) (LeavesActive part (active_generation s) d.writes s.frame) leaves) in
      let here : all_writes (active_logs s.active) ≡ d.writes = ap (λ a. all_writes (active_logs a)) is ∙ all_writes-one d.writes in
      record {
        logs = found.0 ∷ [];
        has = (found.1, subst (λ g. HasLogs part picture g tail) (let e : next_generation s ≡ active_generation s + 1 = omega (arith, length-append (sealed_logs s.sealed) (active_logs s.active), ap (λ a. length (active_logs a)) is) in e) has);
        writes = elim found.2 [
          | inl without ↦ inl (all_writes-one found.0 ∙ without ∙ sym here)
          | inr with_frame ↦ inr (all_writes-one found.0 ∙ with_frame ∙ ap (λ ws. ws ++ frame_writes s.frame) (sym here))
        ];
      }

  -- ---- all together

  log_head_at : (g : ℕ) (b : List ℕ) → bytes_at picture (Log g) ≡ Some b → is_open_file b ≡ true → HasLogHead part g b
  log_head_at g b there is_open = reason (k.files.others (Log g) b image is_open)
    where
      image : MayLeaveAt (nothing_held (Log g)) (s.files (Log g)) (Some b)
      image = subst (λ o. MayLeaveAt (nothing_held (Log g)) (s.files (Log g)) o) there (left.each (Log g))

      reason : IsExplained part s (Log g) b → HasLogHead part g b
      reason (inl covered) = covered.1
      reason (inr (inl between)) = (log_there part s g k.files between.0 between.1 (Some b) image).1
      reason (inr (inr is)) = log_has_head part g [] b is.1

  flush_here : (o : Option Flushing) (d : Option Sealed) (from to : ℕ) (b : List ℕ) → IsFlushOf s.list d o → IsFlushTarget part s.list d o from to b → HasComponentHead part from to b
  flush_here None d from to b fits t = absurd t.0
  flush_here (Some j) None from to b fits t = absurd fits
  flush_here (Some j) (Some d) from to b fits t = flushed_head part s.list d j fits from to b t.0.0 t.0.1 t.1

  merge_here : (o : Option Merging) (from to : ℕ) (b : List ℕ) → s.merge ≡ o → IsMergeTarget o from to b → HasComponentHead part from to b
  merge_here None from to b is t = absurd t
  merge_here (Some m) from to b is t =
      let r : Replaces part s.list (swapped m.run m.target s.list) m.target = swapped_replaces part m.run s.list m.target k.memory.list (subst (λ o. IfSome o (MergeFits s.list)) is k.memory.merge).is_merge in
      rw (t.0.0, t.0.1) (component_has_head part m.target b r.here t.1)

  components : (cs : List Content) (ls : List (List Write)) → Flushed cs ls → (from to : ℕ) → IfOpen picture (Component from to) (λ b. HasComponentHead part from to b × Covers cs from to)
  components cs ls f from to b there is_open = reason (k.files.others (Component from to) b (subst (λ o. MayLeaveAt (nothing_held (Component from to)) (s.files (Component from to)) o) there (left.each (Component from to))) is_open)
    where
      reason : IsExplained part s (Component from to) b → HasComponentHead part from to b × Covers cs from to
      reason (inl covered) = (covered.1, f.covers from to covered.0)
      reason (inr (inl is)) = (flush_here s.flush s.sealed from to b k.memory.flush is, f.flushed from to b is there is_open)
      reason (inr (inr is)) = (merge_here s.merge from to b refl is, f.merged from to b is there is_open)

  whole : (cs : List Content) (ls tail : List (List Write)) → Flushed cs ls → (a : ActiveLogs tail) → HasLogs part picture (last_of cs + 1) (ls ++ (a.logs ++ tail))
  whole cs ls tail f a = sealed_has (last_of cs + 1) ls (a.logs ++ tail) f.logs (subst (λ g. HasLogs part picture g (a.logs ++ tail)) (let e : active_generation s ≡ last_of cs + 1 + length ls = omega (arith, f.generation) in e) a.has)

  holds_after : (cs : List Content) (ls : List (List Write)) → Flushed cs ls → (ws : List Write) → after_writes (live cs) (all_writes ls ++ ws) ≡ after_writes s.base (s.folded ++ (all_writes (sealed_logs s.sealed) ++ ws))
  holds_after cs ls f ws =
      after_writes-append (live cs) (all_writes ls) ws ∙ ap (λ p. after_writes p ws) f.same ∙ sym (after_writes-append (live s.list) (all_writes (sealed_logs s.sealed)) ws)
      ∙ ap (λ p. after_writes p (all_writes (sealed_logs s.sealed) ++ ws)) k.memory.list_holds ∙ sym (after_writes-append s.base s.folded (all_writes (sealed_logs s.sealed) ++ ws))

  without_frame : s.folded ++ (all_writes (sealed_logs s.sealed) ++ all_writes (active_logs s.active)) ≡ history s
  without_frame = ap (λ ws. s.folded ++ ws) (sym (all_writes-append (sealed_logs s.sealed) (active_logs s.active)))

  active_writes : All IsStorableWrite (all_writes (active_logs s.active))
  active_writes = All-back IsStorableWrite (all_writes (sealed_logs s.sealed)) (all_writes (active_logs s.active)) (subst (λ l. All IsStorableWrite l) (all_writes-append (sealed_logs s.sealed) (active_logs s.active)) k.memory.writes)

  -- what the logs in the picture come to
  record Comes (cs : List Content) (found : List (List Write)) : Type 0 where
    writes : All IsStorableWrite (all_writes found)
    few : AreFew (names_after (names_of cs) (all_writes found))
    store : ((recovered cs found).pairs ≡ after_writes s.base (history s)) ⊎ ((recovered cs found).pairs ≡ after_writes (after_writes s.base (history s)) (frame_writes s.frame))

  -- the names of the active table are those of its log
  rest_few : (more : List Write) (o : Option Active) → IfSome o (λ d. d.table ≡ table_over (below_active s) d.writes) → AreFew (names_after sealed_names (writes_of (active_table o) ++ more)) → AreFew (names_after sealed_names (all_writes (active_logs o) ++ more))
  rest_few more None is few = few
  rest_few more (Some d) is few =
      subst (λ ns. AreFew ns) (ap (λ t. names_after sealed_names (writes_of t ++ more)) is ∙ names_after-table sealed_names (below_active s) d.writes more ∙ ap (λ ws. names_after sealed_names (ws ++ more)) (sym (all_writes-one d.writes))) few

  comes : (cs : List Content) (ls tail : List (List Write)) → Flushed cs ls → all_writes tail ≡ [] → (a : ActiveLogs tail) → Comes cs (ls ++ (a.logs ++ tail))
  comes cs ls tail f no_more a = elim a.writes [
    | inl is ↦
        let found : all_writes (ls ++ (a.logs ++ tail)) ≡ all_writes ls ++ all_writes (active_logs s.active) = flat ∙ ap (λ ws. all_writes ls ++ ws) is in
        record {
          writes = subst (λ l. All IsStorableWrite l) (sym found) (All-append IsStorableWrite (all_writes ls) (all_writes (active_logs s.active)) f.writes active_writes);
          few = subst (λ l. AreFew (names_after (names_of cs) l)) (sym found) (f.few (all_writes (active_logs s.active)) (subst (λ l. AreFew (names_after sealed_names l)) (append-nil (all_writes (active_logs s.active))) (rest_few [] s.active k.memory.active k.memory.few)));
          store = inl (ap (λ l. after_writes (live cs) l) found ∙ holds_after cs ls f (all_writes (active_logs s.active)) ∙ ap (λ l. after_writes s.base l) without_frame);
        }
    | inr is ↦
        let more : List Write = all_writes (active_logs s.active) ++ frame_writes s.frame in
        let found : all_writes (ls ++ (a.logs ++ tail)) ≡ all_writes ls ++ (all_writes (active_logs s.active) ++ frame_writes s.frame) = flat ∙ ap (λ ws. all_writes ls ++ ws) is in
        record {
          writes = subst (λ l. All IsStorableWrite l) (sym found) (All-append IsStorableWrite (all_writes ls) (all_writes (active_logs s.active) ++ frame_writes s.frame) f.writes (All-append IsStorableWrite (all_writes (active_logs s.active)) (frame_writes s.frame) active_writes k.memory.frame));
          few = subst (λ l. AreFew (names_after (names_of cs) l)) (sym found) (f.few (all_writes (active_logs s.active) ++ frame_writes s.frame) (rest_few (frame_writes s.frame) s.active k.memory.active k.memory.frame_few));
          store = inr (ap (λ l. after_writes (live cs) l) found ∙ holds_after cs ls f (all_writes (active_logs s.active) ++ frame_writes s.frame)
              ∙ ap (λ l. after_writes s.base l) (ap (λ ws. s.folded ++ ws)
              (sym (append_assoc (all_writes (sealed_logs s.sealed)) (all_writes (active_logs s.active)) (frame_writes s.frame)))
              ∙ sym (append_assoc s.folded (all_writes (sealed_logs s.sealed) ++ all_writes (active_logs s.active)) (frame_writes s.frame))
              ∙ ap (λ ws. ws ++ frame_writes s.frame) without_frame)
              ∙ after_writes-append s.base (history s) (frame_writes s.frame));
        }
  ]
    where
      flat : all_writes (ls ++ (a.logs ++ tail)) ≡ all_writes ls ++ all_writes a.logs
      flat = all_writes-append ls (a.logs ++ tail) ∙ ap (λ ws. all_writes ls ++ ws) (all_writes-append a.logs tail ∙ ap (λ ws. all_writes a.logs ++ ws) no_more ∙ append-nil (all_writes a.logs))

  with_or_without : (frame : Option (List Write)) (store pairs : Pairs) → (store ≡ pairs) ⊎ (store ≡ after_writes pairs (frame_writes frame)) → IsWithOrWithout pairs frame store
  with_or_without None store pairs (inl is) = is
  with_or_without None store pairs (inr is) = is
  with_or_without (Some f) store pairs is = is

  room_of : (store : Pairs) → (store ≡ after_writes s.base (history s)) ⊎ (store ≡ after_writes (after_writes s.base (history s)) (frame_writes s.frame)) → HasRoom store
  room_of store (inl is) = subst (λ p. HasRoom p) (sym is) k.memory.room
  room_of store (inr is) = subst (λ p. HasRoom p) (sym is) k.memory.frame_room

  opened_as : (cs : List Content) (ls tail : List (List Write)) → (f : Flushed cs ls) → all_writes tail ≡ [] → (a : ActiveLogs tail) → Opens part picture cs (ls ++ (a.logs ++ tail))
  opened_as cs ls tail f no_more a =
      let c : Comes cs (ls ++ (a.logs ++ tail)) = comes cs ls tail f no_more a in
      record {
        list = f.list;
        there = f.there;
        components = components cs ls f;
        heads = log_head_at;
        logs_there = whole cs ls tail f a;
        writes = c.writes;
        room = room_of (recovered cs (ls ++ (a.logs ++ tail))).pairs c.store;
        few = c.few;
      }

  opens_as : (cs : List Content) (ls tail : List (List Write)) → (f : Flushed cs ls) → all_writes tail ≡ [] → (a : ActiveLogs tail) → Recovers part picture (IsWithOrWithout (after_writes s.base (history s)) s.frame)
  opens_as cs ls tail f no_more a =
      let found : List (List Write) = ls ++ (a.logs ++ tail) in record {
        lawful = record { contents = cs; logs = found; opens = opened_as cs ls tail f no_more a };
        holds = with_or_without s.frame (recovered cs found).pairs (after_writes s.base (history s)) (comes cs ls tail f no_more a).store;
      }

  pub picture_recovers : Recovers part picture (IsWithOrWithout (after_writes s.base (history s)) s.frame)
  picture_recovers =
      let m = merge_or_not s.merge refl in
      let f = flush_or_not m.0 m.1 s.flush s.sealed refl refl in
      let n = next_or_not in
      opens_as f.0 f.1 n.0 f.2 n.2 (active_has n.0 s.active refl n.1)

  -- ---- where nothing goes on

  no_next_log : IsIdle s → HasLogs part picture (next_generation s) []
  no_next_log idle g from b there is_open = elim (cases_lt (next_generation s) g) [
    | inl far ↦ beyond g far b there is_open
    | inr at ↦
        let same : g ≡ next_generation s = omega (arith, from) in
        shut_is_not_open b is_open (k.next_log idle.running idle.sound idle.no_next (Some b)
        (subst (λ (n : ℕ). MayLeaveAt (nothing_held (Log n)) (s.files (Log n)) (Some b)) same (subst (λ o. MayLeaveAt (nothing_held (Log g)) (s.files (Log g)) o) there (left.each (Log g)))))
  ]

  active_itself : (a : Option Active) → s.active ≡ a → s.frame ≡ None → HasLogs part picture (next_generation s) [] → HasLogs part picture (active_generation s) (active_logs a ++ [])
  active_itself None is no_frame has =
      subst (λ g. HasLogs part picture g []) (let e : next_generation s ≡ active_generation s = omega (arith, length-append (sealed_logs s.sealed) (active_logs s.active), ap (λ a. length (active_logs a)) is) in e) has
  active_itself (Some d) is no_frame has =
      let leaves : LeavesOf s.files (Log (active_generation s)) (LeavesActive part (active_generation s) d.writes s.frame) =
      subst (λ a. IfSome a (λ d. LeavesOf s.files (Log (active_generation s)) (LeavesActive part (active_generation s) d.writes s.frame))) is k.files.active_log in (
        log_at (active_generation s) d.writes (bytes_at picture (Log (active_generation s)))
            (subst (λ f. LeavesActive part (active_generation s) d.writes f (bytes_at picture (Log (active_generation s)))) no_frame (there_at (Log (active_generation s)) (LeavesActive part (active_generation s) d.writes s.frame) leaves)),
        subst (λ g. HasLogs part picture g []) (let e : next_generation s ≡ active_generation s + 1 = omega (arith, length-append (sealed_logs s.sealed) (active_logs s.active), ap (λ a. length (active_logs a)) is) in e) has,
      )

  as_it_is : IsIdle s → Flushed s.list (sealed_logs s.sealed)
  as_it_is idle = unflushed s.list (as_listed (λ from to b target there is_open. absurd (subst (λ o. IsMergeTarget o from to b) idle.no_merge target)))
      (λ from to b target there is_open. absurd ((subst (λ o. IsFlushTarget part s.list s.sealed o from to b) idle.no_flush target).0))

  pub opens_as_it_is : IsIdle s → Opens part picture s.list (logs s)
  opens_as_it_is idle =
      subst (λ l. Opens part picture s.list (sealed_logs s.sealed ++ l)) (append-nil (active_logs s.active))
      (opened_as s.list (sealed_logs s.sealed) [] (as_it_is idle) refl (record { logs = active_logs s.active; has = active_itself s.active refl idle.no_frame (no_next_log idle); writes = inl refl }))
