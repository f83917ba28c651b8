-- The verdict on components and logs that were read, by what is found of each.
use Rattle.std.proofs.Common.{◌≡◌, ◌∙◌, ◌≤◌, ◌+◌, ℕ, suc, List, [], ◌∷◌, ◌++◌, Option, Some, Ok, Err, Result, arith, length, length-append, map, refl, sym, subst, ap}
use Rattle.std.specs.Prelude.{All, IfOk, IsErrOf, slice_get}
use Rattle.std.specs.List.{AllZip}
use Rattle.std.proofs.Math.Seq.{get_or-append_seam}
use Rattle.std.proofs.lemmas.Grind.{common_steps}
use Rattle.std.proofs.lemmas.Option.{slice_get-get_or}
use Rattle.std.proofs.lemmas.Slice.Zip.{AllZip-long}
use Rattle.tc_bytes.specs.Counts.{Rose}
use Rattle.tc_model.specs.Document.{Name}
use Rattle.tc_store.specs.declared.file_name.FileName.{FileName}
use Rattle.tc_store.specs.Counted.{Counts}
use Rattle.tc_component.specs.Loaded.{IsLoadedOf}
use Rattle.tc_component.specs.Loading.{ComponentState}
use Rattle.tc_component.specs.Rows.{IsIndexOf}
use Rattle.tc_component.specs.Spelling.{name_of}
use Rattle.tc_component.proofs.Versions.{of_version}
use Rattle.tc_log.specs.declared.write.Write.{Write as LogWrite}
use Rattle.tc_plain_model.specs.Writes.{Write}
use Rattle.tc_lsm_model.specs.Contents.{Content, Partition}
use Rattle.tc_lsm_model.specs.Lists.{live}
use Rattle.tc_machine.specs.Pictures.{recovered}
use Rattle.tc_merge.specs.Merging.{newest_names}
use Rattle.tc_audit.specs.Reasons.{AreRight, IsReason, IsWatched, IsWrongBehind}
use Rattle.tc_audit.specs.Stops as audits
use Rattle.tc_audit.specs.Stops.{position_of}
use Rattle.tc_audit.specs.Told.{IsHeld, IsOf}
use Rattle.tc_audit.specs.declared.verdict.Verdict.{Verdict as Audited}
use Rattle.tc_audit.specs.declared.verdict.Verdict.TheVariants as audited
use Rattle.tc_audit.specs.declared.verdict.Wrong.{Wrong as AuditWrong}
use Rattle.tc_audit.specs.declared.verdict.Wrong.TheVariants.{Count, Documents, Record}
use Rattle.tc_recover.specs.declared.cause.FilesCause.{FilesCause}
use Rattle.tc_recover.specs.declared.cause.FilesCause.TheVariants.{Disk as DiskFault}
use Rattle.tc_recover.specs.Reads.{IsCountedTimes}
use Rattle.tc_lawful.specs.Audited.{IsAudited}
use Rattle.tc_check.specs.Verdicts.{AreRightLogs, HasWrong, IfRight, IfWrong, IsReasonIn, IsRightIn}
use Rattle.tc_check.specs.declared.fault.CheckFault.{CheckFault}
use Rattle.tc_check.specs.declared.fault.CheckFault.TheVariants.{Disk}
use Rattle.tc_check.specs.declared.verdict.Verdict.{Verdict}
use Rattle.tc_check.specs.declared.verdict.Verdict.TheVariants.{Right, Wrong}

-- ---- components

-- the newest names are those of the last component
pub last_mapped : {A F : Type 0} (f : A → ComponentState F) (names : List Name) (older : List A) (newest : A) → newest_names names (map f (older ++ newest ∷ [])) ≡ (f newest).index.names
last_mapped f names [] newest = refl
last_mapped f names (m ∷ older) newest = last_mapped f (f m).index.names older newest

-- what components have beside their records is what the contents have
pub indexes : {F : Type 0} (content : F → Option (List ℕ)) (list : List (ComponentState F)) (cs : List Content) → AllZip (IsLoadedOf content) list cs → AllZip (λ (m : ComponentState F) c. IsIndexOf m.index c) list cs
indexes content [] [] loaded = tt
indexes content [] (c ∷ cs) loaded = absurd loaded
indexes content (m ∷ list) [] loaded = absurd loaded
indexes content (m ∷ list) (c ∷ cs) loaded = (of_version m.index _ c loaded.0.index, indexes content list cs loaded.1)

wrong_at : {F : Type 0} (content : F → Option (List ℕ)) (cs : List Content) (c : ComponentState F) (wrong : AuditWrong) → IsWrongBehind content cs c wrong → position_of wrong ≡ length cs
wrong_at content cs c (Record at place bytes) is = is.0
wrong_at content cs c (Documents at) is = is.0
wrong_at content cs c (Count at first) is = is.0

-- what is wrong is that of the component there, by the name of its file
pub wrong_here : {F : Type 0} (content : F → Option (List ℕ)) (part : Partition) (list : List (ComponentState F)) (name : FileName) (at : ℕ) (wrong : AuditWrong) → position_of wrong ≡ at
    → ((component : ComponentState F) → slice_get list at ≡ Some component → name ≡ name_of component.index.head) → IsReason content part list wrong → HasWrong content part list name at wrong
wrong_here {F = F} content part list name at wrong position named is =
    let long : at ≡ length is.older = sym position ∙ (wrong_at content is.contents is.component wrong is.wrong ∙ AllZip-long (IsLoadedOf content) is.older is.contents is.right.loaded) in
    let all : List (ComponentState F) = is.older ++ is.component ∷ is.newer in
    let longer : length all ≡ length is.older + suc (length is.newer) = length-append is.older (is.component ∷ is.newer) in
    let seam : slice_get all (length is.older) ≡ Some is.component = slice_get-get_or all (length is.older) is.component (omega (arith, longer)) ∙ ap Some (get_or-append_seam is.older is.component is.newer is.component) in
    let here : slice_get list at ≡ Some is.component = ap (λ xs. slice_get xs at) is.parts ∙ (ap (slice_get all) long ∙ seam) in
    record { component = is.component; here = here; named = named is.component here; reason = is }

-- what is said of all that an audit tells, where it tells this
pub audit_right : (v : Audited) (n : ℕ) (P : ℕ → Type 0) → v ≡ audited.Right n → audits.IfRight v P → P n
audit_right v n P is right = subst (λ x. audits.IfRight x P) is right

pub audit_wrong : (v : Audited) (w : AuditWrong) (P : AuditWrong → Type 0) → v ≡ audited.Wrong w → audits.IfTold v P → P w
audit_wrong v w P is told = subst (λ x. audits.IfTold x P) is told

pub never_both : (v : Audited) (w : AuditWrong) (n : ℕ) → v ≡ audited.Wrong w → v ≡ audited.Right n → ⊥
never_both v w n wrong right = cc

-- as many are live as were counted
pub live_counted : (v : Audited) (m n : ℕ) → v ≡ audited.Right m → v ≡ audited.Right n → m ≡ n
live_counted v m n is same = cc

-- ---- the logs above them

pub right_in : {F : Type 0} (content : F → Option (List ℕ)) (list : List (ComponentState F)) (writes : List (List LogWrite)) (counted : ℕ) (result : Result Verdict CheckFault)
    → ((part : Partition) → All (IsHeld content) list → All (IsOf part) list → (cs : List Content) × AreRight content part list cs × (counted ≡ length (live cs)))
    → IfOk result (λ verdict. IfRight verdict (λ documents. (part : Partition) (cs : List Content) → AreRight content part list cs → counted ≡ length (live cs) → AreRightLogs cs writes documents))
    → IfOk result (λ verdict. IfRight verdict (λ documents. (part : Partition) → All (IsHeld content) list → All (IsOf part) list → IsRightIn content part list writes documents))
right_in content list writes counted (Err fault) right logs = tt
right_in content list writes counted (Ok (Wrong reason)) right logs = tt
right_in content list writes counted (Ok (Right documents)) right logs = λ part held of.
    let found = right part held of in
    let is = logs part found.0 found.1 found.2 in
    record {
      contents = found.0;
      logs = is.logs;
      audited = record { loaded = found.1.loaded; listed = found.1.listed; kept = is.kept.kept; storable = is.kept.storable; room = is.room; few = is.few };
      documents_are = is.documents_are;
    }

pub lawful_in : {F : Type 0} (content : F → Option (List ℕ)) (part : Partition) (list : List (ComponentState F)) (writes : List (List LogWrite)) (cs : List Content) (logs : List (List Write)) (counted : ℕ) (result : Result Verdict CheckFault)
    → IsAudited content part list writes cs logs → counted ≡ length (live cs)
    → IfOk result (λ verdict. (p : Partition) (xs : List Content) (kept : List (List Write)) → IsAudited content p list writes xs kept → counted ≡ length (live xs) → verdict ≡ Right (length (recovered xs kept).pairs))
    → IfOk result (λ verdict. verdict ≡ Right (length (recovered cs logs).pairs))
lawful_in content part list writes cs logs counted (Err fault) audited is lawful = tt
lawful_in content part list writes cs logs counted (Ok verdict) audited is lawful = lawful part cs logs audited is

pub wrong_in : {F : Type 0} (content : F → Option (List ℕ)) (list : List (ComponentState F)) (writes : List (List LogWrite)) (counted : ℕ) (result : Result Verdict CheckFault)
    → ((part : Partition) → All (IsHeld content) list → All (IsOf part) list → (cs : List Content) × AreRight content part list cs × (counted ≡ length (live cs)))
    → IfOk result (λ verdict. IfWrong verdict (λ reason. (part : Partition) (cs : List Content) → AreRight content part list cs → counted ≡ length (live cs) → IsReasonIn content part list writes reason))
    → IfOk result (λ verdict. IfWrong verdict (λ reason. (part : Partition) → All (IsHeld content) list → All (IsOf part) list → IsReasonIn content part list writes reason))
wrong_in content list writes counted (Err fault) right logs = tt
wrong_in content list writes counted (Ok (Right documents)) right logs = tt
wrong_in content list writes counted (Ok (Wrong reason)) right logs = λ part held of. let found = right part held of in logs part found.0 found.1 found.2

-- ---- causes

-- a call that was watched, and what came behind it did not fail for a fault
pub watched_never : (Failed Told : Type 0) (old new : Counts) → (Told → ⊥) → IsWatched Failed old new → IsCountedTimes Told ⊥ 0 old new
watched_never Failed Told old new not_told watched = record { faults = watched.faults; cause = λ told. absurd (not_told told); done = λ never. absurd never }

pub never_fails : {T E : Type 0} (x : T) (e : E) → IsErrOf {T = T} {E = E} (Ok x) e → ⊥
never_fails x e failed = cc

-- a call behind one that did not fail
pub counted_behind : (First Second : Type 0) (old now new : Counts) → IsCountedTimes First ⊥ 0 old now → IsCountedTimes Second ⊥ 0 now new → IsCountedTimes Second ⊥ 0 old new
counted_behind First Second old now new first second = record {
  faults = omega (arith, first.faults, second.faults);
  cause = λ failed. later (second.cause failed) first.faults;
  done = λ never. absurd never;
}
  where
    later : Rose now.faults new.faults → old.faults ≤ now.faults → Rose old.faults new.faults
    later rose low = grind (arith, common_steps)

-- what is answered of a cause fails only where that did
pub refused_counts : (T : Type 0) (cause : FilesCause) (result : Result Verdict CheckFault) (old new : Counts) → (IsErrOf result Disk → cause ≡ DiskFault) → IsCountedTimes (IsErrOf {T = T} (Err cause) DiskFault) ⊥ 0 old new
    → IsCountedTimes (IsErrOf result Disk) ⊥ 0 old new
refused_counts T cause result old new so first = record { faults = first.faults; cause = λ failed. first.cause (ap Err (so failed)); done = λ never. absurd never }
