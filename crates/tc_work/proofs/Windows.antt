-- What a window leaves of a part, by what its commands staged and what the commit made of that.
use Rattle.std.proofs.Common.{◌≡◌, ◌∙◌, ◌≤◌, ◌+◌, ℕ, List, [], ◌∷◌, ◌++◌, Option, Some, map, length, true, false, refl, sym, ap, subst, arith}
use Rattle.std.specs.Prelude.{◌^◌, All, Result, Ok, Err, OnErr}
use Rattle.std.proofs.lemmas.List.{length-map, nil_from_length}
use Rattle.tc_store.specs.Disk.{Disk}
use Rattle.tc_store.specs.DiskFile.{DiskFile}
use Rattle.tc_store.specs.Moments.{IfTold, EachSince}
use Rattle.tc_store.proofs.MomentLemmas.{EachSince-none}
use Rattle.tc_request_model.specs.Request.{Request}
use Rattle.tc_log.specs.declared.write.Write as log
use Rattle.tc_machine.specs.Logs.{kept_write}
use Rattle.tc_machine.specs.Writes.{IsStorableWrite}
use Rattle.tc_plain_model.specs.Room.{Limits}
use Rattle.tc_request_model.specs.Part.{part_left_all, part_writes_all}
use Rattle.tc_plain_model.specs.Writes.{Write, after_writes}
use Rattle.tc_part_model.specs.Leaving.{LeavesStore, LogMomentsLeaveStore}
use Rattle.tc_part_model.specs.Meaning.{IsPart, plain_of}
use Rattle.tc_part_model.specs.PartFiles.{IsSealedFile, no_job}
use Rattle.tc_part_model.specs.PartState.{PartState, Told}
use Rattle.tc_part_model.specs.PartView.{PartView, store_of}
use Rattle.tc_work.specs.declared.fault.EngineFault.{EngineFault}
use Rattle.tc_work.specs.Windowed.{staged_as, windowed, HasOnlyStaged, IsStagedAs, IsWindowed}

-- ---- what is staged

pub none_mapped : {X Y : Type 0} (f : X → Y) (xs : List X) → [] ≡ map f xs → xs ≡ []
none_mapped f [] is = refl
none_mapped f (x ∷ xs) is = absurd (cc)

pub none_staged_in : (t : Told) (p : PartView) → IsPart t p → t.staged ≡ [] → p.staged ≡ []
none_staged_in t p is none = none_mapped kept_write p.staged (sym none ∙ is.view.staged)

-- those of the window are all
all_staged : (p : PartView) (ws : List Write) → p.staged ≡ [] → (staged_as ws p).staged ≡ ws
all_staged p ws none = ap (λ (staged : List Write). staged ++ ws) none

pub writes_staged : (t : Told) (p : PartView) (ws : List Write) → p.staged ≡ [] → IsPart t (staged_as ws p) → t.staged ≡ map kept_write ws
writes_staged t p ws none is = is.view.staged ∙ ap (map kept_write) (all_staged p ws none)

pub storable_staged : (t : Told) (p : PartView) (ws : List Write) → p.staged ≡ [] → IsPart t (staged_as ws p) → All IsStorableWrite ws
storable_staged t p ws none is = subst (All IsStorableWrite) (all_staged p ws none) is.staged.each

pub count_staged : (t : Told) (p : PartView) (ws : List Write) → p.staged ≡ [] → IsPart t (staged_as ws p) → length t.staged ≡ length ws
count_staged t p ws none is = ap length (writes_staged t p ws none is) ∙ length-map ws kept_write

pub staged_again : {S D F W : Type 0} (first second third : PartState S D F W) → HasOnlyStaged first second → HasOnlyStaged second third → HasOnlyStaged first third
staged_again {S = S} {D = D} {F = F} {W = W} first second third one two =
    two ∙ ap (λ (s : PartState S D F W). record s { main = third.main; active = third.active; staged = third.staged; taken = third.taken; live = third.live; failed = third.failed }) one

-- ---- what is committed

pub is_windowed : (limits : Limits) (rs : List Request) (t u v : Told) (p : PartView) → p.staged ≡ [] → IsStagedAs (part_writes_all limits rs (plain_of t p)) (part_left_all limits rs (plain_of t p)) p u
    → IsPart v (windowed (part_writes_all limits rs (plain_of t p)) p) → store_of (windowed (part_writes_all limits rs (plain_of t p)) p) ≡ after_writes (store_of p) (staged_as (part_writes_all limits rs (plain_of t p)) p).staged
    → plain_of v (windowed (part_writes_all limits rs (plain_of t p)) p) ≡ plain_of u (staged_as (part_writes_all limits rs (plain_of t p)) p)
    → IsWindowed limits rs t p v
is_windowed limits rs t u v p none staged is stores plain = record {
  part = is;
  plain = plain ∙ staged.plain;
  stores = stores ∙ ap (after_writes (store_of p)) (all_staged p (part_writes_all limits rs (plain_of t p)) none);
}

-- ---- the moments of a log

-- a log that is as it was has no new moment
unmoved : (L : Disk → DiskFile → DiskFile → Type 0) (disks : List Disk) (log : List DiskFile) (sealed : Option (List DiskFile)) → IfTold disks λ disk. (g : DiskFile) → IsSealedFile sealed g → IfTold log λ f. EachSince (L disk g) log log
unmoved L [] log sealed = tt
unmoved L (disk ∷ before) [] sealed = λ g is. tt
unmoved L (disk ∷ before) (f ∷ past) sealed = λ g is. EachSince-none (L disk g) (f ∷ past) (f ∷ past) refl

pub no_moments : (t : Told) (q : PartView) (log : List DiskFile) → log ≡ t.log → LogMomentsLeaveStore q t log
no_moments t q log same = subst (LogMomentsLeaveStore q t) (sym same) (unmoved (λ disk g f. LeavesStore q (Some q.staged) no_job disk g f) t.disks t.log t.sealed_log)

pub err_always : {X : Type 0} (r : Result X EngineFault) (Q : Type 0) → Q → OnErr r Q
err_always (Ok x) Q q = tt
err_always (Err e) Q q = q

-- nothing more changes where the commit fails, or is not made
pub left_staged : {S D F W : Type 0} (first second : PartState S D F W) → HasOnlyStaged first second
    → second ≡ record first { main = second.main; active = second.active; staged = second.staged; taken = second.taken; live = second.live; log = second.log; failed = second.failed }
left_staged {S = S} {D = D} {F = F} {W = W} first second is =
    subst (λ (s : PartState S D F W). s ≡ record first { main = s.main; active = s.active; staged = s.staged; taken = s.taken; live = s.live; log = s.log; failed = s.failed }) (sym is) refl

pub left_uncommitted : {S D F W : Type 0} (first second third : PartState S D F W) → HasOnlyStaged first second → third ≡ record second { main = third.main; log = third.log; failed = true }
    → third ≡ record first { main = third.main; active = third.active; staged = third.staged; taken = third.taken; live = third.live; log = third.log; failed = third.failed }
left_uncommitted {S = S} {D = D} {F = F} {W = W} first second third one two =
    let here : third ≡ record first { main = third.main; active = second.active; staged = second.staged; taken = second.taken; live = second.live; log = third.log; failed = true } =
    two ∙ ap (λ (s : PartState S D F W). record s { main = third.main; log = third.log; failed = true }) one in
    subst (λ (s : PartState S D F W). s ≡ record first { main = s.main; active = s.active; staged = s.staged; taken = s.taken; live = s.live; log = s.log; failed = s.failed }) (sym here) refl

pub kept_committed : {S D F W : Type 0} (first second third : PartState S D F W) (count : ℕ) → first.staged ≡ [] → second.failed ≡ false → first.failed ≡ false
    → HasOnlyStaged first second → third ≡ record second { main = third.main; log = third.log; staged = third.staged; writes = count } → third.staged ≡ []
    → third ≡ record first { main = third.main; active = third.active; log = third.log; taken = third.taken; live = third.live; writes = third.writes }
kept_committed {S = S} {D = D} {F = F} {W = W} first second third count none sound was one two cleared =
    let here : third ≡ record first { main = third.main; active = second.active; taken = second.taken; live = second.live; log = third.log; writes = count; failed = second.failed; staged = [] } =
    two ∙ ap (λ (ws : List log.Write). record second { main = third.main; log = third.log; staged = ws; writes = count }) cleared
    ∙ ap (λ (s : PartState S D F W). record s { main = third.main; log = third.log; staged = []; writes = count }) one in
    let there : third ≡ record first { main = third.main; active = second.active; taken = second.taken; live = second.live; log = third.log; writes = count } =
    here ∙ ap (λ b. record first { main = third.main; active = second.active; taken = second.taken; live = second.live; log = third.log; writes = count; failed = b; staged = [] }) (sound ∙ sym was)
    ∙ ap (λ (ws : List log.Write). record first { main = third.main; active = second.active; taken = second.taken; live = second.live; log = third.log; writes = count; staged = ws }) (sym none) in
    subst (λ (s : PartState S D F W). s ≡ record first { main = s.main; active = s.active; log = s.log; taken = s.taken; live = s.live; writes = s.writes }) (sym there) refl

pub spent_of : (old mid staged most : ℕ) → mid ≡ old → staged + 0 ≤ most → 2 ^ 63 ≤ mid + staged → 2 ^ 63 ≤ old + most
spent_of old mid staged most same few spent = omega (arith, same, few, spent)

pub few_written : (old mid staged most new : ℕ) → mid ≡ old → staged + 0 ≤ most → new ≡ mid + staged → new ≤ old + most
few_written old mid staged most new same few is = omega (arith, same, few, is)

-- where nothing is staged a commit leaves the log
pub log_stays : {S D F W : Type 0} (first second third : PartState S D F W) → HasOnlyStaged first second → (second.staged ≡ [] → third ≡ second) → length second.staged ≡ 0 → third.log ≡ first.log
log_stays {S = S} {D = D} {F = F} {W = W} first second third one nothing none =
    ap (λ (s : PartState S D F W). s.log) (nothing (nil_from_length second.staged none)) ∙ ap (λ (s : PartState S D F W). s.log) one
