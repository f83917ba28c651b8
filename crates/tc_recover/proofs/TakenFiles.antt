-- Files at rest that are taken, some or all, one after the other: the machine keeps them at each moment.
use Rattle.std.proofs.Common.{◌≡◌, ◌∙◌, ◌⊎◌, ℕ, Bool, false, true, List, [], ◌∷◌, refl, sym, subst, ap, inl, inr, Option, None, Some}
use Rattle.std.specs.Prelude.{All}
use Rattle.std.proofs.Math.Path.{fun_ext}
use Rattle.std.proofs.lemmas.Bool.{cases_Bool}
use Rattle.std.proofs.lemmas.List.Elements.{All-weaker}
use Rattle.tc_plain_model.specs.Writes.{Write}
use Rattle.tc_lsm_model.specs.Contents.{Content, Partition}
use Rattle.tc_store.specs.declared.file_name.FileName.{FileName}
use Rattle.tc_store.specs.Disk.{Disk, Entry, IsAtRest, IsPictureOf, IsSettledHome, MayLeaveAt, Picture, bytes_at, content_of, home, is_out, none, out, put, same_name, still, taken}
use Rattle.tc_store.specs.DiskFile.{DiskFile, IsSettled, settled_file}
use Rattle.tc_store.specs.Images.{Image}
use Rattle.tc_store.specs.Memory.Remains.{left_disk, left_entry}
use Rattle.tc_store.specs.Moments.{EachSince, IfTold}
use Rattle.tc_store.specs.StoreCalls.{takes}
use Rattle.tc_store.proofs.MomentLemmas.{EachSince-none, EachSince-one, EachSince-trans, told_map}
use Rattle.tc_store.proofs.NameLemmas.{same_name-is}
use Rattle.tc_store.proofs.StopLaws.{since_weaker}
use Rattle.tc_machine.specs.Events.{Event, file_frozen, opened, step}
use Rattle.tc_machine.specs.Kept.{IsKept}
use Rattle.tc_machine.specs.Pictures.{Opens}
use Rattle.tc_machine.specs.State.{State}
use Rattle.tc_machine.specs.Steps.{May, nothing_held}
use Rattle.tc_recover.specs.Files.{TakesSome, takes_all}
use Rattle.tc_recover.specs.Lawful.{DiskOpens, KeepsFiles, resting}
use Rattle.tc_recover.proofs.LawfulDisks.{left_bytes}

-- ---- one disk after the other

pub takes_keep : (Q : Disk → Type 0) → ((name : FileName) (disk : Disk) → Q disk → Q (put name (taken (disk name)) disk)) → (names : List FileName) (disk : Disk) (past : List Disk) → Q disk
    → IfTold (takes_all names (disk ∷ past)) Q × EachSince Q (disk ∷ past) (takes_all names (disk ∷ past))
takes_keep Q keeps [] disk past holds = (holds, EachSince-none Q (disk ∷ past) (disk ∷ past) refl)
takes_keep Q keeps (name ∷ names) disk past holds =
    let next = put name (taken (disk name)) disk in
    let one = keeps name disk holds in
    let rest = takes_keep Q keeps names next (disk ∷ past) one in
    (rest.0, EachSince-trans Q (disk ∷ past) (next ∷ disk ∷ past) (takes_all names (next ∷ disk ∷ past)) (EachSince-one Q (λ d. put name (taken (d name)) d) (disk ∷ past) one) rest.1)

-- ---- one file

-- nothing is pending on a file, and it is not out
abbrev pub IsCalm : Entry → Type 0
IsCalm (home f) = IsSettled f
IsCalm out = ⊥
IsCalm _ = Unit {0}

calm_taken : (e : Entry) → IsCalm e → IsCalm (taken e)
calm_taken (none before) calm = tt
calm_taken (home f) calm = tt
calm_taken (still bytes) calm = tt
calm_taken out calm = absurd calm

pub rests_calm : (e : Entry) → (e ≡ none None) ⊎ IsSettledHome e → IsCalm e
rests_calm (none before) rests = tt
rests_calm (home f) (inl gone) = absurd (cc)
rests_calm (home f) (inr settled) = settled
rests_calm (still bytes) rests = tt
rests_calm out (inl gone) = absurd (cc)
rests_calm out (inr settled) = absurd settled

calm_in : (e : Entry) → IsCalm e → is_out e ≡ false
calm_in (none before) calm = refl
calm_in (home f) calm = refl
calm_in (still bytes) calm = refl
calm_in out calm = absurd calm

content_taken : (e : Entry) → content_of (taken e) ≡ content_of e
content_taken (none before) = refl
content_taken (home f) = refl
content_taken (still bytes) = refl
content_taken out = refl

-- of the entry under one name and of all others
at_each : (P : FileName → Entry → Type 0) (name : FileName) (e : Entry) (disk : Disk) → P name e → ((n : FileName) → P n (disk n)) → (n : FileName) → P n (put name e disk n)
at_each P name e disk here others n = elim (cases_Bool (same_name name n)) [
  | inl same ↦ rw same (subst (λ m. P m e) (same_name-is name n same) here)
  | inr apart ↦ rw apart (others n)
]

put_own : (name : FileName) (disk : Disk) → put name (disk name) disk ≡ disk
put_own name disk = fun_ext λ n. elim (cases_Bool (same_name name n)) [
  | inl same ↦ rw same (ap disk (same_name-is name n same))
  | inr apart ↦ rw apart refl
]

-- ---- what the machine keeps

abbrev pub EventsKeep : Type 0
EventsKeep = (part : Partition) (s : State) (e : Event) → IsKept part s → May part e s → IsKept part (step e s)

abbrev pub OpeningsKeep : Type 0
OpeningsKeep = (part : Partition) (picture : Picture) (cs : List Content) (logs : List (List Write)) → Opens part picture cs logs → IsKept part (opened picture cs logs)

-- these files are kept, nothing is pending on one, and each holds what one of another disk does
pub record IsTakenOf (part : Partition) (cs : List Content) (logs : List (List Write)) (before disk : Disk) : Type 0 where
  pub kept : IsKept part (resting cs logs disk)
  pub calm : (name : FileName) → IsCalm (disk name)
  pub same : (name : FileName) → content_of (disk name) ≡ content_of (before name)

module _ (events : EventsKeep) (part : Partition) (cs : List Content) (logs : List (List Write)) where
  frozen : (name : FileName) (disk : Disk) (e : Entry) → disk name ≡ e → IsCalm e → IsKept part (resting cs logs disk) → IsKept part (resting cs logs (put name (taken e) disk))
  frozen name disk (none before) is calm kept = subst (λ d. IsKept part (resting cs logs d)) (sym (subst (λ e. put name e disk ≡ disk) is (put_own name disk))) kept
  frozen name disk (still bytes) is calm kept = subst (λ d. IsKept part (resting cs logs d)) (sym (subst (λ e. put name e disk ≡ disk) is (put_own name disk))) kept
  frozen name disk (home f) is calm kept =
      subst (λ x. IsKept part (resting cs logs (put name (taken x) disk))) is (events part (resting cs logs disk) (file_frozen name) kept (record { file = f; home = is; settled = calm }))
  frozen name disk out is calm kept = absurd calm

  taken_one : (before : Disk) (name : FileName) (disk : Disk) → IsTakenOf part cs logs before disk → IsTakenOf part cs logs before (put name (taken (disk name)) disk)
  taken_one before name disk is = record {
    kept = frozen name disk (disk name) refl (is.calm name) is.kept;
    calm = at_each (λ n e. IsCalm e) name (taken (disk name)) disk (calm_taken (disk name) (is.calm name)) is.calm;
    same = at_each (λ n e. content_of e ≡ content_of (before n)) name (taken (disk name)) disk (content_taken (disk name) ∙ is.same name) is.same;
  }

-- ---- from the beginning

-- what a stop leaves of a disk at rest is that disk again
left_again : (name : FileName) (e : Entry) (image : Image) → (e ≡ none None) ⊎ IsSettledHome e → image ≡ content_of e → left_entry image ≡ e
left_again name (none before) image (inl gone) is = ap left_entry is ∙ sym gone
left_again name (none before) image (inr settled) is = absurd settled
left_again name (home f) image (inl gone) is = absurd (cc)
left_again name (home f) image (inr settled) is = ap left_entry is ∙ ap home (sym settled)
left_again name (still bytes) image (inl gone) is = absurd (cc)
left_again name (still bytes) image (inr settled) is = absurd settled
left_again name out image (inl gone) is = absurd (cc)
left_again name out image (inr settled) is = absurd settled

pub same_disk : (disk : Disk) (picture : Picture) → IsAtRest disk → IsPictureOf nothing_held disk picture → left_disk picture ≡ disk
same_disk disk picture rests left = fun_ext λ name. left_again name (disk name) (bytes_at picture name) (rests name) (left_bytes disk rests picture left name)

pub taken_first : OpeningsKeep → (part : Partition) (cs : List Content) (logs : List (List Write)) (disk : Disk) → IsAtRest disk → DiskOpens part disk cs logs → IsTakenOf part cs logs disk disk
taken_first openings part cs logs disk rests opens = record {
  kept = subst (λ d. IsKept part (resting cs logs d)) (same_disk disk opens.picture rests opens.left) (openings part opens.picture cs logs opens.opens);
  calm = λ name. rests_calm (disk name) (rests name);
  same = λ name. refl;
}

keeps_files : (part : Partition) (cs : List Content) (logs : List (List Write)) (before disk : Disk) → IsTakenOf part cs logs before disk → KeepsFiles part cs logs disk
keeps_files part cs logs before disk is = record { kept = is.kept; home = λ name. calm_in (disk name) (is.calm name) }

-- at each moment while files are taken, and behind that, the machine keeps them
pub record StaysKept (part : Partition) (cs : List Content) (logs : List (List Write)) (disk : Disk) (old new : List Disk) : Type 0 where
  pub moments : EachSince (KeepsFiles part cs logs) old new
  pub kept : IfTold new (KeepsFiles part cs logs)
  pub same : IfTold new (IsTakenOf part cs logs disk)

pub taken_kept : EventsKeep → OpeningsKeep → (part : Partition) (cs : List Content) (logs : List (List Write)) (disk : Disk) (past new : List Disk) → IsAtRest disk → DiskOpens part disk cs logs → TakesSome (disk ∷ past) new → StaysKept part cs logs disk (disk ∷ past) new
taken_kept events openings part cs logs disk past new rests opens takes =
    let all = takes_keep (IsTakenOf part cs logs disk) (taken_one events part cs logs disk) takes.0 disk past (taken_first openings part cs logs disk rests opens) in
    let now : IfTold new (IsTakenOf part cs logs disk) = subst (λ ds. IfTold ds (IsTakenOf part cs logs disk)) (sym takes.1) all.0 in
    record {
      moments = subst (λ ds. EachSince (KeepsFiles part cs logs) (disk ∷ past) ds) (sym takes.1) (since_weaker (IsTakenOf part cs logs disk) (KeepsFiles part cs logs) (disk ∷ past) (takes_all takes.0 (disk ∷ past)) (keeps_files part cs logs disk) all.1);
      kept = told_map (IsTakenOf part cs logs disk) (KeepsFiles part cs logs) new (keeps_files part cs logs disk) now;
      same = now;
    }
