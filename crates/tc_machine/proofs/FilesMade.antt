-- The logs outside of the list are there; a file is made, and one becomes still.
use Rattle.std.proofs.Common.{◌≡◌, ◌≢◌, ◌<◌, ◌≤◌, ◌+◌, ℕ, true, false, List, [], ◌∷◌, ◌++◌, length, refl, sym, ap, ◌∙◌, subst, arith, inl, inr, Option, Some, None, length-append}
use Rattle.std.specs.Prelude.{IfSome}
use Rattle.std.proofs.lemmas.List.Elements.{All-weaker}
use Rattle.std.proofs.lemmas.Bool.{cases_lt, true≢false}
use Rattle.std.proofs.lemmas.Option.{same_Some, MatchOption-at_some}
use Rattle.std.proofs.lemmas.List.{nil_from_length}
use Rattle.tc_plain_model.specs.Writes.{Write}
use Rattle.tc_lsm_model.specs.Contents.{Partition}
use Rattle.tc_lsm_model.specs.Lists.{last_of}
use Rattle.tc_store.specs.Disk.{Disk, Entry, MayLeaveAt, home, none, put, still}
use Rattle.tc_store.specs.DiskFile.{empty_file}
use Rattle.tc_store.specs.Gate.{is_open_file}
use Rattle.tc_store.specs.Images.{Image, IsImageOf}
use Rattle.tc_store.specs.declared.file_name.FileName.{FileName}
use Rattle.tc_store.specs.declared.file_name.FileName.TheVariants.{Log}
use Rattle.tc_component.specs.Rows.{IsComponent}
use Rattle.tc_machine.specs.Components.{IsStillComponent, LeavesComponent, file_of}
use Rattle.tc_machine.specs.Events.{made}
use Rattle.tc_machine.specs.Logs.{HasLogHead, LeavesLog}
use Rattle.tc_machine.specs.Sound.{AreFilesSound, IsExplained, LeavesActive, LeavesLogs, LeavesOf}
use Rattle.tc_machine.specs.State.{Active, State, active_generation, active_logs, flush_name, logs, next_generation, sealed_logs}
use Rattle.tc_machine.specs.Steps.{IsFlushed, IsShutOrHas, MakesFile, nothing_held}
use Rattle.tc_machine.proofs.FilesLeft.{LeavesOf-weaker, at_name, log_file, put_other}
use Rattle.tc_machine.proofs.LogHeads.{log_has_head, log_is_open}
use Rattle.tc_machine.proofs.OneFile.{IsUnneeded, put_unneeded}
use Rattle.tc_machine.proofs.Options.{if_some_map}

pub closed_or_open : (b : List ℕ) (X : Type 0) → is_open_file b ≡ false → is_open_file b ≡ true → X
closed_or_open b X closed is_open = absurd (true≢false (sym is_open ∙ closed))

-- ---- the logs are there

abbrev pub IsOpenLog : Partition → ℕ → Image → Type 0
IsOpenLog part g None = ⊥
IsOpenLog part g (Some bytes) = (is_open_file bytes ≡ true) × HasLogHead part g bytes

open_log : (part : Partition) (g : ℕ) (ws : List Write) (image : Image) → LeavesLog part g ws image → IsOpenLog part g image
open_log part g ws None is = is
open_log part g ws (Some bytes) is = (log_is_open part g ws bytes is, log_has_head part g ws bytes is)

open_active : (part : Partition) (g : ℕ) (ws : List Write) (frame : Option (List Write)) (image : Image) → LeavesActive part g ws frame image → IsOpenLog part g image
open_active part g ws None image is = open_log part g ws image is
open_active part g ws (Some f) None is = is
open_active part g ws (Some f) (Some bytes) (inl is) = open_log part g ws (Some bytes) is
open_active part g ws (Some f) (Some bytes) (inr is) = open_log part g (ws ++ f) (Some bytes) is

active_there : (part : Partition) (files : Disk) (g : ℕ) (frame : Option (List Write)) (active : Option Active) → IfSome active (λ d. LeavesOf files (Log g) (LeavesActive part g d.writes frame)) → 0 < length (active_logs active) → LeavesOf files (Log g) (IsOpenLog part g)
active_there part files g frame None leaves some = absurd (omega (arith, some))
active_there part files g frame (Some d) leaves some = LeavesOf-weaker (Log g) files (LeavesActive part g d.writes frame) (IsOpenLog part g) (open_active part g d.writes frame) leaves

pub log_there : (part : Partition) (s : State) (g : ℕ) → AreFilesSound part s → last_of s.list < g → g < next_generation s → LeavesOf s.files (Log g) (IsOpenLog part g)
log_there part s g k from to = elim (cases_lt g (active_generation s)) [
  | inl before ↦
      let found = log_file part s.files (last_of s.list + 1) (sealed_logs s.sealed) g k.sealed_logs (omega arith) (omega arith) in
      LeavesOf-weaker (Log g) s.files (LeavesLog part g found.0) (IsOpenLog part g) (open_log part g found.0) found.1
  | inr at ↦
      let total : length (logs s) ≡ length (sealed_logs s.sealed) + length (active_logs s.active) = length-append (sealed_logs s.sealed) (active_logs s.active) in
      let few : length (active_logs s.active) ≤ 1 = at_most s.active in
      let same : active_generation s ≡ g = omega arith in
      subst (λ n. LeavesOf s.files (Log n) (IsOpenLog part n)) same (active_there part s.files (active_generation s) s.frame s.active k.active_log (omega arith))
]
  where
    at_most : (active : Option Active) → length (active_logs active) ≤ 1
    at_most None = omega arith
    at_most (Some d) = omega arith

-- ---- a file is made

pub none_is_not_some : (b : List ℕ) (X : Type 0) → ◌≡◌ {A = Option (List ℕ)} None (Some b) → X
none_is_not_some b X e = absurd (cc)

pub absent_unneeded : (part : Partition) (s : State) (name : FileName) (before : Option (List ℕ)) → AreFilesSound part s → s.files name ≡ none before → IsUnneeded s name
absent_unneeded part s name before k absent = record {
  listed = All-weaker (λ c. LeavesOf s.files (file_of c) (LeavesComponent c)) (λ c. file_of c ≢ name) (λ c leaves same. leaves None (gone (sym same))) s.list k.listed;
  logs = λ g from to same. log_there part s g k from to None (gone same);
}
  where
    gone : {other : FileName} → name ≡ other → MayLeaveAt (nothing_held other) (s.files other) None
    gone same = subst (λ n. MayLeaveAt (nothing_held n) (s.files n) None) same (subst (λ e. MayLeaveAt (nothing_held name) e None) (sym absent) tt)

pub empty_image : (before : Option (List ℕ)) (b : List ℕ) → IsImageOf (empty_file before) b → is_open_file b ≡ false
empty_image before b is = rw (nil_from_length b (omega (arith, is.no_longer))) refl

pub made_at : (name : FileName) (before : Option (List ℕ)) (P : Image → Type 0) → P None → ((b : List ℕ) → is_open_file b ≡ false → P (Some b)) → ((b : List ℕ) → before ≡ Some b → P (Some b))
    → (image : Image) → MayLeaveAt (nothing_held name) (home (empty_file before)) image → P image
made_at name before P absent closed old None left = absent
made_at name before P absent closed old (Some b) (inl is) = closed b (empty_image before b is)
made_at name before P absent closed old (Some b) (inr is) = old b is

pub file_made_keeps : (part : Partition) (s : State) (name : FileName) → AreFilesSound part s → MakesFile s name → AreFilesSound part (record s { files = put name (made (s.files name)) s.files })
file_made_keeps part s name k m =
    let entry : made (s.files name) ≡ home (empty_file m.before) = ap made m.absent in
    subst (λ e. AreFilesSound part (record s { files = put name e s.files })) (sym entry)
    (put_unneeded part s name (home (empty_file m.before)) k (absent_unneeded part s name m.before k m.absent) (record {
      explained = λ b left is_open.
          made_at name m.before (λ image. image ≡ Some b → IsExplained part s name b) (λ e. none_is_not_some b _ e)
          (λ b' closed e. closed_or_open b _ (subst (λ x. is_open_file x ≡ false) (same_Some b' b e) closed) is_open)
          (λ b' is e. k.others name b (subst (λ e. MayLeaveAt (nothing_held name) e (Some b)) (sym m.absent) (is ∙ e)) is_open)
          (Some b) left refl;
      flush = λ j is same. made_at name m.before (IsShutOrHas (IsFlushed part s.list s.sealed)) tt (λ b closed. inl closed)
          (λ b before. MatchOption-at_some _ (λ j. LeavesOf s.files (flush_name j) (IsShutOrHas (IsFlushed part s.list s.sealed))) j is k.flush_file (Some b) (old same b before));
      merge = λ j is same. made_at name m.before (IsShutOrHas (IsComponent j.target)) tt (λ b closed. inl closed)
          (λ b before. MatchOption-at_some _ (λ m. LeavesOf s.files (file_of m.target) (IsShutOrHas (IsComponent m.target))) j is k.merge_file (Some b) (old same b before));
    }))
  where
    old : {other : FileName} → name ≡ other → (b : List ℕ) → m.before ≡ Some b → MayLeaveAt (nothing_held other) (s.files other) (Some b)
    old same b before = subst (λ n. MayLeaveAt (nothing_held n) (s.files n) (Some b)) same (subst (λ e. MayLeaveAt (nothing_held name) e (Some b)) (sym m.absent) before)

-- ---- a file becomes still

pub put_fewer : (part : Partition) (s : State) (name : FileName) (entry : Entry) → AreFilesSound part s → ((image : Image) → MayLeaveAt (nothing_held name) entry image → MayLeaveAt (nothing_held name) (s.files name) image)
    → ((b : List ℕ) → s.files name ≡ still b → ⊥) → AreFilesSound part (record s { files = put name entry s.files })
put_fewer part s name entry k fewer not_still = record {
  listed = All-weaker (λ c. LeavesOf s.files (file_of c) (LeavesComponent c)) (λ c. LeavesOf (put name entry s.files) (file_of c) (LeavesComponent c)) (λ c leaves. as_before (file_of c) (LeavesComponent c) leaves) s.list k.listed;
  still = λ running. All-weaker (λ c. IsStillComponent c (s.files (file_of c))) (λ c. IsStillComponent c (put name entry s.files (file_of c)))
      (λ c is. subst (λ e. IsStillComponent c e) (sym (put_other name (file_of c) entry s.files (λ same. not_still is.0 (ap s.files same ∙ is.1)))) is)
      s.list (k.still running);
  sealed_logs = logs_after (last_of s.list + 1) (sealed_logs s.sealed) k.sealed_logs;
  active_log = if_some_map (λ d. LeavesOf s.files (Log (active_generation s)) (LeavesActive part (active_generation s) d.writes s.frame)) (λ d. LeavesOf (put name entry s.files) (Log (active_generation s)) (LeavesActive part (active_generation s) d.writes s.frame)) s.active
      (λ d is leaves. as_before (Log (active_generation s)) (LeavesActive part (active_generation s) d.writes s.frame) leaves) k.active_log;
  others = λ other b left is_open. k.others other b (before other (Some b) left) is_open;
  flush_file = if_some_map (λ j. LeavesOf s.files (flush_name j) (IsShutOrHas (IsFlushed part s.list s.sealed))) (λ j. LeavesOf (put name entry s.files) (flush_name j) (IsShutOrHas (IsFlushed part s.list s.sealed))) s.flush
      (λ j is leaves. as_before (flush_name j) (IsShutOrHas (IsFlushed part s.list s.sealed)) leaves) k.flush_file;
  merge_file = if_some_map (λ m. LeavesOf s.files (file_of m.target) (IsShutOrHas (IsComponent m.target))) (λ m. LeavesOf (put name entry s.files) (file_of m.target) (IsShutOrHas (IsComponent m.target))) s.merge
      (λ m is leaves. as_before (file_of m.target) (IsShutOrHas (IsComponent m.target)) leaves) k.merge_file;
}
  where
    before : (other : FileName) (image : Image) → MayLeaveAt (nothing_held other) (put name entry s.files other) image → MayLeaveAt (nothing_held other) (s.files other) image
    before other image left =
        at_name name other entry s.files (λ e. MayLeaveAt (nothing_held other) e image → MayLeaveAt (nothing_held other) (s.files other) image)
        (λ same left. subst (λ n. MayLeaveAt (nothing_held n) (s.files n) image) same (fewer image (subst (λ n. MayLeaveAt (nothing_held n) entry image) (sym same) left)))
        (λ apart left. left) left

    as_before : (other : FileName) (P : Image → Type 0) → LeavesOf s.files other P → LeavesOf (put name entry s.files) other P
    as_before other P leaves image left = leaves image (before other image left)

    logs_after : (g : ℕ) (ls : List (List Write)) → LeavesLogs part s.files g ls → LeavesLogs part (put name entry s.files) g ls
    logs_after g [] there = tt
    logs_after g (ws ∷ ls) there = (as_before (Log g) (LeavesLog part g ws) there.0, logs_after (g + 1) ls there.1)
