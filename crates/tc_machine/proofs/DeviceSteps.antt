-- The events that freeze and remove a file, and the calls of a device.
use Rattle.std.proofs.Common.{◌≡◌, ◌≢◌, ◌+◌, ℕ, true, List, [], ◌∷◌, refl, sym, ap, ◌∙◌, subst, arith, inl, inr, Option, Some, None}
use Rattle.std.specs.Prelude.{All, IfSome}
use Rattle.std.proofs.lemmas.Option.{same_Some, MatchOption-at_some}
use Rattle.std.proofs.lemmas.List.Elements.{All-nil, All-cons, All-weaker}
use Rattle.tc_plain_model.specs.Writes.{Write}
use Rattle.tc_lsm_model.specs.Contents.{Content, Partition}
use Rattle.tc_lsm_model.specs.Lists.{IsList, last_of}
use Rattle.tc_store.specs.Disk.{MayLeaveAt, content_of, home, none, put, still, taken}
use Rattle.tc_store.specs.DiskFile.{DiskFile, IsSettled, settled_file}
use Rattle.tc_store.specs.Gate.{is_open_file}
use Rattle.tc_store.specs.Images.{Image, MayLeave}
use Rattle.tc_store.specs.Moments.{LeavesAt}
use Rattle.tc_store.specs.declared.file_name.FileName.{FileName}
use Rattle.tc_store.specs.declared.file_name.FileName.TheVariants.{Component, Log}
use Rattle.tc_component.specs.Rows.{IsComponent}
use Rattle.tc_machine.specs.Components.{IsStillComponent, LeavesComponent, file_of}
use Rattle.tc_machine.specs.Kept.{MergeFits}
use Rattle.tc_machine.specs.Logs.{IsLog}
use Rattle.tc_machine.specs.Sound.{AreFilesSound, IsExplained, IsFlushOf, IsFlushTarget, IsMergeTarget, LeavesActive, LeavesOf}
use Rattle.tc_machine.specs.State.{Active, Flushing, Merging, State, active_generation, flush_name, next_generation, sealed_logs}
use Rattle.tc_machine.specs.Steps.{CallsDevice, FreezesFile, IsFlushed, IsShutOrHas, IsSpare, LeavesWithOrWithout, MayCall, RemovesFile, nothing_held}
use Rattle.tc_machine.proofs.FilesLeft.{LeavesLogs-put, LeavesOf-here, LeavesOf-other, at_name, put_other}
use Rattle.tc_machine.proofs.FilesMade.{closed_or_open, log_there, put_fewer}
use Rattle.tc_machine.proofs.OneFile.{IsUnneeded, put_unneeded}
use Rattle.tc_machine.proofs.Options.{if_some_from, if_some_map}
use Rattle.tc_machine.proofs.Targets.{FlushTarget, MergeTarget, active_below_next, beyond_list, file_not_log, flush_target, log_generation, merge_target}

-- ---- frozen

pub settled_image : (b : List ℕ) → MayLeave (settled_file b) (Some b)
settled_image b = inl (record { no_longer = omega arith; untouched = λ position is. (is.synced, refl) })

frozen_fewer : (name : FileName) (f : DiskFile) → IsSettled f → (image : Image) → MayLeaveAt (nothing_held name) (still f.content) image → MayLeaveAt (nothing_held name) (home f) image
frozen_fewer name f settled image left =
    subst (λ (i : Image). MayLeave f i) (sym left) (subst (λ (g : DiskFile). MayLeave g (Some f.content)) (sym settled) (settled_image f.content))

home_not_still : (f : DiskFile) (b : List ℕ) → home f ≡ still b → ⊥
home_not_still f b e = cc

pub file_frozen_keeps : (part : Partition) (s : State) (name : FileName) → AreFilesSound part s → FreezesFile s name → AreFilesSound part (record s { files = put name (taken (s.files name)) s.files })
file_frozen_keeps part s name k m =
    let entry : taken (s.files name) ≡ still m.file.content = ap taken m.home in
    subst (λ e. AreFilesSound part (record s { files = put name e s.files })) (sym entry)
    (put_fewer part s name (still m.file.content) k
    (λ image left. subst (λ e. MayLeaveAt (nothing_held name) e image) (sym m.home) (frozen_fewer name m.file m.settled image left))
    (λ b is. home_not_still m.file b (sym m.home ∙ is)))

-- ---- removed

still_there : (part : Partition) (s : State) (name : FileName) (b : List ℕ) → s.files name ≡ still b → MayLeaveAt (nothing_held name) (s.files name) (Some b)
still_there part s name b is = subst (λ e. MayLeaveAt (nothing_held name) e (Some b)) (sym is) refl

log_not_file : (c : Content) (g : ℕ) → file_of c ≢ Log g
log_not_file c g e = cc

no_files : (g : ℕ) (cs : List Content) → All (λ c. file_of c ≢ Log g) cs
no_files g [] = All-nil (λ c. file_of c ≢ Log g)
no_files g (c ∷ cs) = All-cons (λ c. file_of c ≢ Log g) c cs (log_not_file c g) (no_files g cs)

spare_unneeded : (part : Partition) (s : State) (name : FileName) (b : List ℕ) → AreFilesSound part s → s.files name ≡ still b → IsSpare s name b → IsUnneeded s name
spare_unneeded part s (Component from to) b k is spare = record { listed = spare; logs = λ g low high same. file_not_log from to g same }
spare_unneeded part s (Log n) b k is (inl covered) = record { listed = no_files n s.list; logs = λ g low high same. absurd (omega (arith, covered, low, log_generation n g same)) }
spare_unneeded part s (Log n) b k is (inr closed) = record {
  listed = no_files n s.list;
  logs = λ g low high same. closed_or_open b ⊥ closed (log_there part s g k low high (Some b) (subst (λ m. MayLeaveAt (nothing_held m) (s.files m) (Some b)) same (still_there part s (Log n) b is))).0;
}

removed_at : (name : FileName) (b : List ℕ) (P : Image → Type 0) → P None → P (Some b) → (image : Image) → MayLeaveAt (nothing_held name) (none (Some b)) image → P image
removed_at name b P absent old None left = absent
removed_at name b P absent old (Some x) left = subst (λ y. P (Some y)) (same_Some b x left) old

pub file_removed_keeps : (part : Partition) (s : State) (name : FileName) → AreFilesSound part s → RemovesFile s name → AreFilesSound part (record s { files = put name (none (content_of (s.files name))) s.files })
file_removed_keeps part s name k m =
    let entry : none (content_of (s.files name)) ≡ none (Some m.bytes) = ap (λ e. none (content_of e)) m.still in
    subst (λ e. AreFilesSound part (record s { files = put name e s.files })) (sym entry)
    (put_unneeded part s name (none (Some m.bytes)) k (spare_unneeded part s name m.bytes k m.still m.spare) (record {
      explained = λ b left is_open. k.others name b (subst (λ x. MayLeaveAt (nothing_held name) (s.files name) (Some x)) (same_Some m.bytes b left) (still_there part s name m.bytes m.still)) is_open;
      flush = λ j is same. removed_at name m.bytes (IsShutOrHas (IsFlushed part s.list s.sealed)) tt
          (MatchOption-at_some _ (λ j. LeavesOf s.files (flush_name j) (IsShutOrHas (IsFlushed part s.list s.sealed))) j is k.flush_file (Some m.bytes)
          (subst (λ n. MayLeaveAt (nothing_held n) (s.files n) (Some m.bytes)) same (still_there part s name m.bytes m.still)));
      merge = λ j is same. removed_at name m.bytes (IsShutOrHas (IsComponent j.target)) tt
          (MatchOption-at_some _ (λ m. LeavesOf s.files (file_of m.target) (IsShutOrHas (IsComponent m.target))) j is k.merge_file (Some m.bytes)
          (subst (λ n. MayLeaveAt (nothing_held n) (s.files n) (Some m.bytes)) same (still_there part s name m.bytes m.still)));
    }))

-- ---- device calls

-- of the next log
next_called : (part : Partition) (s : State) (f : DiskFile) → AreFilesSound part s → LeavesAt (IsShutOrHas (IsLog part (next_generation s) [])) f
    → AreFilesSound part (record s { files = put (Log (next_generation s)) (home f) s.files })
next_called part s f k leaves =
    put_unneeded part s (Log (next_generation s)) (home f) k
    (record { listed = no_files (next_generation s) s.list; logs = λ g low high same. absurd (omega (arith, high, log_generation (next_generation s) g same)) })
    (record {
      explained = λ b left is_open. reason b is_open (leaves (Some b) left);
      flush = λ j is same. absurd (file_not_log j.from j.to (next_generation s) (sym same));
      merge = λ m is same. absurd (log_not_file m.target (next_generation s) (sym same));
    })
  where
    reason : (b : List ℕ) → is_open_file b ≡ true → IsShutOrHas (IsLog part (next_generation s) []) (Some b) → IsExplained part s (Log (next_generation s)) b
    reason b is_open (inl closed) = closed_or_open b _ closed is_open
    reason b is_open (inr is) = inr (inr (refl, is))

-- of the active log
active_called : (part : Partition) (s : State) (f : DiskFile) (active : Active) (frame : List Write) → s.active ≡ Some active → s.frame ≡ Some frame → AreFilesSound part s
    → LeavesAt (LeavesWithOrWithout part (active_generation s) active.writes frame) f
    → AreFilesSound part (record s { files = put (Log (active_generation s)) (home f) s.files })
active_called part s f active frame is_active is_frame k leaves = record {
  listed = All-weaker (λ c. LeavesOf s.files (file_of c) (LeavesComponent c)) (λ c. LeavesOf (put name (home f) s.files) (file_of c) (LeavesComponent c))
      (λ c was. LeavesOf-other name (file_of c) (home f) s.files (LeavesComponent c) (λ same. log_not_file c (active_generation s) (sym same)) was) s.list k.listed;
  still = λ running. All-weaker (λ c. IsStillComponent c (s.files (file_of c))) (λ c. IsStillComponent c (put name (home f) s.files (file_of c)))
      (λ c is. subst (λ e. IsStillComponent c e) (sym (put_other name (file_of c) (home f) s.files (λ same. log_not_file c (active_generation s) (sym same)))) is)
      s.list (k.still running);
  sealed_logs = LeavesLogs-put part name (home f) s.files (last_of s.list + 1) (sealed_logs s.sealed) (λ g low high same. absurd (omega (arith, high, log_generation (active_generation s) g same))) k.sealed_logs;
  active_log = if_some_from (λ d. LeavesOf (put name (home f) s.files) name (LeavesActive part (active_generation s) d.writes s.frame)) s.active
      (λ d is. LeavesOf-here name (home f) s.files (LeavesActive part (active_generation s) d.writes s.frame) (now d is));
  others = λ other b left is_open. at_name name other (home f) s.files (λ e. MayLeaveAt (nothing_held other) e (Some b) → IsExplained part s other b)
      (λ same left. subst (λ n. IsExplained part s n b) same in_range) (λ apart left. k.others other b left is_open) left;
  flush_file = if_some_map (λ j. LeavesOf s.files (flush_name j) (IsShutOrHas (IsFlushed part s.list s.sealed))) (λ j. LeavesOf (put name (home f) s.files) (flush_name j) (IsShutOrHas (IsFlushed part s.list s.sealed))) s.flush
      (λ j is was. LeavesOf-other name (flush_name j) (home f) s.files (IsShutOrHas (IsFlushed part s.list s.sealed)) (λ same. file_not_log j.from j.to (active_generation s) (sym same)) was) k.flush_file;
  merge_file = if_some_map (λ m. LeavesOf s.files (file_of m.target) (IsShutOrHas (IsComponent m.target))) (λ m. LeavesOf (put name (home f) s.files) (file_of m.target) (IsShutOrHas (IsComponent m.target))) s.merge
      (λ m is was. LeavesOf-other name (file_of m.target) (home f) s.files (IsShutOrHas (IsComponent m.target)) (λ same. log_not_file m.target (active_generation s) (sym same)) was) k.merge_file;
}
  where
    name : FileName
    name = Log (active_generation s)

    in_range : {b : List ℕ} → IsExplained part s (Log (active_generation s)) b
    in_range = inr (inl (omega arith, omega (arith, active_below_next s active is_active)))

    now : (d : Active) → s.active ≡ Some d → (image : Image) → MayLeaveAt (nothing_held (Log (active_generation s))) (home f) image → LeavesActive part (active_generation s) d.writes s.frame image
    now d is image left =
        let same : Some active ≡ Some d = sym is_active ∙ is in
        let writes : active.writes ≡ d.writes = of_same same in
        subst (λ fr. LeavesActive part (active_generation s) d.writes fr image) (sym is_frame)
        (subst (λ ws. LeavesWithOrWithout part (active_generation s) ws frame image) writes (leaves image left))
      where
        of_same : Some active ≡ Some d → active.writes ≡ d.writes
        of_same e = cc

-- of a job
pub flush_called : (part : Partition) (s : State) (f : DiskFile) (j : Flushing) → IsList part s.list → s.flush ≡ Some j → IsFlushOf s.list s.sealed s.flush → IfSome s.merge (MergeFits s.list) → AreFilesSound part s
    → LeavesAt (IsShutOrHas (IsFlushed part s.list s.sealed)) f
    → AreFilesSound part (record s { files = put (flush_name j) (home f) s.files })
flush_called part s f j list is_flush fits merges k leaves =
    let t : FlushTarget s.list s.sealed j = flush_target s.list s.sealed s.flush j is_flush fits in
    put_unneeded part s (flush_name j) (home f) k
    (record { listed = beyond_list part s.list j.from j.to list (omega (arith, t.from)); logs = λ g low high same. file_not_log j.from j.to g same })
    (record {
      explained = λ b left is_open. reason b is_open (leaves (Some b) left);
      flush = λ i is same image left. leaves image left;
      merge = λ m is same. absurd (let e : MergeTarget s.list m = merge_target part s.list m list (MatchOption-at_some _ (MergeFits s.list) m is merges) in
          omega (arith, t.from, t.order, e.to, e.order, first_of j.from j.to m.target same));
    })
  where
    first_of : (from to : ℕ) (c : Content) → Component from to ≡ file_of c → from ≡ c.from
    first_of from to c e = cc

    target_here : (flush : Option Flushing) (b : List ℕ) → flush ≡ Some j → IsFlushed part s.list s.sealed b → IsFlushTarget part s.list s.sealed flush j.from j.to b
    target_here flush b is e = subst (λ fl. IsFlushTarget part s.list s.sealed fl j.from j.to b) (sym is) ((refl, refl), e)

    reason : (b : List ℕ) → is_open_file b ≡ true → IsShutOrHas (IsFlushed part s.list s.sealed) (Some b) → IsExplained part s (flush_name j) b
    reason b is_open (inl closed) = closed_or_open b _ closed is_open
    reason b is_open (inr is) = inr (inl (target_here s.flush b is_flush is))

pub merge_called : (part : Partition) (s : State) (f : DiskFile) (m : Merging) → IsList part s.list → s.merge ≡ Some m → IsFlushOf s.list s.sealed s.flush → IfSome s.merge (MergeFits s.list) → AreFilesSound part s
    → LeavesAt (IsShutOrHas (IsComponent m.target)) f
    → AreFilesSound part (record s { files = put (file_of m.target) (home f) s.files })
merge_called part s f m list is_merge fits merges k leaves =
    let fit : MergeFits s.list m = MatchOption-at_some _ (MergeFits s.list) m is_merge merges in
    let e : MergeTarget s.list m = merge_target part s.list m list fit in
    put_unneeded part s (file_of m.target) (home f) k
    (record { listed = fit.apart; logs = λ g low high same. file_not_log m.target.from m.target.to g same })
    (record {
      explained = λ b left is_open. reason b is_open (leaves (Some b) left);
      flush = λ j is same. absurd (let t : FlushTarget s.list s.sealed j = flush_target s.list s.sealed s.flush j is fits in
          omega (arith, t.from, t.order, e.to, e.order, first_of m.target j.from j.to same));
      merge = λ n is same image left. subst (λ n. IsShutOrHas (IsComponent n.target) image) (same_job (sym is_merge ∙ is)) (leaves image left);
    })
  where
    first_of : (c : Content) (from to : ℕ) → file_of c ≡ Component from to → c.from ≡ from
    first_of c from to e = cc

    same_job : {n : Merging} → Some m ≡ Some n → m ≡ n
    same_job e = cc

    target_here : (merge : Option Merging) (b : List ℕ) → merge ≡ Some m → IsComponent m.target b → IsMergeTarget merge m.target.from m.target.to b
    target_here merge b is e = subst (λ fl. IsMergeTarget fl m.target.from m.target.to b) (sym is) ((refl, refl), e)

    reason : (b : List ℕ) → is_open_file b ≡ true → IsShutOrHas (IsComponent m.target) (Some b) → IsExplained part s (file_of m.target) b
    reason b is_open (inl closed) = closed_or_open b _ closed is_open
    reason b is_open (inr is) = inr (inr (target_here s.merge b is_merge is))

pub device_called_keeps : (part : Partition) (s : State) (name : FileName) (f : DiskFile) → IsList part s.list → IsFlushOf s.list s.sealed s.flush → IfSome s.merge (MergeFits s.list) → AreFilesSound part s
    → CallsDevice part s name f → AreFilesSound part (record s { files = put name (home f) s.files })
device_called_keeps part s name f list fits merges k calls = by calls.may
  where
    to_name : {n : FileName} → name ≡ n → AreFilesSound part (record s { files = put n (home f) s.files }) → AreFilesSound part (record s { files = put name (home f) s.files })
    to_name is sound = subst (λ n. AreFilesSound part (record s { files = put n (home f) s.files })) (sym is) sound

    by : MayCall part s name f → AreFilesSound part (record s { files = put name (home f) s.files })
    by (inl c) = to_name c.named (active_called part s f c.active c.frame c.is_active c.is_frame k c.leaves)
    by (inr (inl c)) = to_name c.named (next_called part s f k c.leaves)
    by (inr (inr (inl c))) = to_name c.named (flush_called part s f c.flushing list c.is_out fits merges k c.leaves)
    by (inr (inr (inr c))) = to_name c.named (merge_called part s f c.merging list c.is_out fits merges k c.leaves)
