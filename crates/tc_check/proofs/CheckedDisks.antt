-- A disk at rest whose files were read: what is said of it by what was said of them.
use Rattle.std.proofs.Common.{◌≡◌, ℕ, List, [], ◌∷◌, Option, Some, Ok, Err, Result, inl, inr, length}
use Rattle.std.specs.Prelude.{◌↔◌, All, IfOk}
use Rattle.std.proofs.lemmas.List.Elements.{All-weaker}
use Rattle.std.proofs.lemmas.Result.{IfOk-weaker}
use Rattle.tc_store.specs.declared.file_name.FileName.{FileName}
use Rattle.tc_store.specs.declared.damage.Damage.{Damage}
use Rattle.tc_store.specs.declared.damage.Damage.TheVariants.{Bytes, Files}
use Rattle.tc_store.specs.Disk.{Disk, IsAtRest, content_of}
use Rattle.tc_store.specs.Moments.{IfTold}
use Rattle.tc_component.specs.Loading.{ComponentState}
use Rattle.tc_component.specs.Spelling.{Holds}
use Rattle.tc_log.specs.declared.write.Write.{Write as LogWrite}
use Rattle.tc_plain_model.specs.Writes.{Write}
use Rattle.tc_lsm_model.specs.Contents.{Content, Partition}
use Rattle.tc_machine.specs.Pictures.{recovered}
use Rattle.tc_audit.specs.Told.{IsHeld, IsOf}
use Rattle.tc_recover.specs.declared.cause.FilesCause.{FilesCause}
use Rattle.tc_recover.specs.declared.cause.FilesCause.TheVariants.{Damaged, Disk as DiskFault, Layout, Memory}
use Rattle.tc_recover.specs.declared.taken.Taken.{Taken}
use Rattle.tc_recover.specs.Causes.{IsNoRefusal}
use Rattle.tc_recover.specs.Lawful.{DiskOpens}
use Rattle.tc_recover.specs.Loading.{interval_of, tile_name}
use Rattle.tc_recover.specs.Opening.{AnswersBy, AreAllTaken, DiskJudged, Found, IsReadOf, found_in}
use Rattle.tc_recover.specs.Refusals.{Refusal}
use Rattle.tc_lawful.specs.Audited.{IsAudited}
use Rattle.tc_check.specs.Answers.{IsAnswer, IsRefusal}
use Rattle.tc_check.specs.Verdicts.{IfRight, IfWrong, IsReasonIn, IsReasonOf, IsRefused, IsRight, IsRightIn}
use Rattle.tc_check.specs.declared.fault.CheckFault.{CheckFault}
use Rattle.tc_check.specs.declared.verdict.Reason.TheVariants as reason
use Rattle.tc_check.specs.declared.verdict.Verdict.{Verdict}
use Rattle.tc_check.specs.declared.verdict.Verdict.TheVariants.{Right, Wrong}

-- ---- what is known of files that were read

-- what an opening read of a store
pub record IsReadFrom {F W : Type 0} (content : F → Option (List ℕ)) (name : F → FileName) (part : Partition) (old new : List Disk) (files left : List (Taken F W)) (list : List (ComponentState F)) (writes : List (List LogWrite))
    (last : ℕ) : Type 0 where
  pub rests : IfTold old IsAtRest
  pub taken : AreAllTaken content name files old new
  pub read : IsReadOf files list left last
  pub judged : IfTold old (λ disk. DiskJudged part disk (Ok (found_in list writes)))
  pub of : All (IsOf part) list

abbrev pub AuditsOpen : {F : Type 0} (W : Type 0) → (F → Option (List ℕ)) → (F → FileName) → Type 0
AuditsOpen {F = F} W content name = (part : Partition) (disk : Disk) (past new : List Disk) (files left : List (Taken F W)) (list : List (ComponentState F)) (writes : List (List LogWrite)) (last : ℕ) (cs : List Content) (logs : List (List Write))
    → IsAtRest disk → AreAllTaken content name files (disk ∷ past) new → DiskJudged part disk (Ok (found_in list writes)) → IsReadOf files list left last → IsAudited content part list writes cs logs ↔ DiskOpens part disk cs logs

abbrev pub FilesHold : {F : Type 0} (W : Type 0) → (F → Option (List ℕ)) → (F → FileName) → Type 0
FilesHold {F = F} W content name = (part : Partition) (disk : Disk) (past new : List Disk) (files left : List (Taken F W)) (list : List (ComponentState F)) (writes : List (List LogWrite)) (last : ℕ)
    → IsAtRest disk → AreAllTaken content name files (disk ∷ past) new → DiskJudged part disk (Ok (found_in list writes)) → IsReadOf files list left last → All (λ x. (bytes : List ℕ) × (content x.file ≡ Some bytes) × Holds bytes x.index) list

abbrev pub FilesTell : {F : Type 0} (W : Type 0) → (F → Option (List ℕ)) → (F → FileName) → Type 0
FilesTell {F = F} W content name = (disk : Disk) (past new : List Disk) (files left : List (Taken F W)) (list : List (ComponentState F)) (last : ℕ)
    → IsAtRest disk → AreAllTaken content name files (disk ∷ past) new → IsReadOf files list left last → All (λ x. content x.file ≡ content_of (disk (tile_name (interval_of x)))) list

module _ {F W : Type 0} (content : F → Option (List ℕ)) (name : F → FileName) where
  held : FilesHold W content name → (part : Partition) (disk : Disk) (past new : List Disk) (files left : List (Taken F W)) (list : List (ComponentState F)) (writes : List (List LogWrite)) (last : ℕ)
      → IsReadFrom content name part (disk ∷ past) new files left list writes last → All (IsHeld content) list
  held holds part disk past new files left list writes last from =
      All-weaker (λ (x : ComponentState F). (bytes : List ℕ) × (content x.file ≡ Some bytes) × Holds bytes x.index) (IsHeld content) (λ x is. record { bytes = is.0; tells = is.1; holds = is.2 }) list
      (holds part disk past new files left list writes last from.rests from.taken from.judged from.read)

  -- ---- right

  pub right_told : AuditsOpen W content name → FilesHold W content name → (part : Partition) (old new : List Disk) (files left : List (Taken F W)) (list : List (ComponentState F)) (writes : List (List LogWrite)) (last : ℕ) (result : Result Verdict CheckFault)
      → IsReadFrom content name part old new files left list writes last
      → IfOk result (λ verdict. IfRight verdict (λ documents. (p : Partition) → All (IsHeld content) list → All (IsOf p) list → IsRightIn content p list writes documents)) → IfTold old (λ disk. IfOk result (λ verdict. IfRight verdict (IsRight part disk)))
  right_told opens holds part [] new files left list writes last result from right = tt
  right_told opens holds part (disk ∷ past) new files left list writes last (Err fault) from right = tt
  right_told opens holds part (disk ∷ past) new files left list writes last (Ok (Wrong reason)) from right = tt
  right_told opens holds part (disk ∷ past) new files left list writes last (Ok (Right documents)) from right =
      let found = right part (held holds part disk past new files left list writes last from) from.of in
      record {
        contents = found.contents;
        logs = found.logs;
        opens = (opens part disk past new files left list writes last found.contents found.logs from.rests from.taken from.judged from.read).0 found.audited;
        documents_are = found.documents_are;
      }

  pub lawful_told : AuditsOpen W content name → (part : Partition) (old new : List Disk) (files left : List (Taken F W)) (list : List (ComponentState F)) (writes : List (List LogWrite)) (last : ℕ) (result : Result Verdict CheckFault) → IsReadFrom content name part old new files left list writes last
      → ((p : Partition) (cs : List Content) (logs : List (List Write)) → IsAudited content p list writes cs logs → IfOk result (λ verdict. verdict ≡ Right (length (recovered cs logs).pairs)))
      → IfTold old (λ disk. (cs : List Content) (logs : List (List Write)) → DiskOpens part disk cs logs → IfOk result (λ verdict. verdict ≡ Right (length (recovered cs logs).pairs)))
  lawful_told opens part [] new files left list writes last result from lawful = tt
  lawful_told opens part (disk ∷ past) new files left list writes last result from lawful = λ cs logs is.
      lawful part cs logs ((opens part disk past new files left list writes last cs logs from.rests from.taken from.judged from.read).1 is)

  -- ---- wrong

  pub wrong_told : FilesHold W content name → FilesTell W content name → (part : Partition) (old new : List Disk) (files left : List (Taken F W)) (list : List (ComponentState F)) (writes : List (List LogWrite)) (last : ℕ) (result : Result Verdict CheckFault)
      → IsReadFrom content name part old new files left list writes last
      → IfOk result (λ verdict. IfWrong verdict (λ reason. (p : Partition) → All (IsHeld content) list → All (IsOf p) list → IsReasonIn content p list writes reason)) → IfTold old (λ disk. IfOk result (λ verdict. IfWrong verdict (IsReasonOf content part disk)))
  wrong_told holds tells part [] new files left list writes last result from wrong = tt
  wrong_told holds tells part (disk ∷ past) new files left list writes last (Err fault) from wrong = tt
  wrong_told holds tells part (disk ∷ past) new files left list writes last (Ok (Right documents)) from wrong = tt
  wrong_told holds tells part (disk ∷ past) new files left list writes last (Ok (Wrong reason)) from wrong =
      inr (list, writes, record { judged = from.judged; told = tells disk past new files left list last from.rests from.taken from.read }, wrong part (held holds part disk past new files left list writes last from) from.of)

-- ---- refused

-- what is said of a refusal is said of its cause
answer_of : {T : Type 0} (view : T → Found) (cause : FilesCause) (P : Result Found Refusal → Type 0) → AnswersBy view (Err cause) P → IsAnswer cause (λ refusal. P (Err refusal))
answer_of view DiskFault P is = tt
answer_of view (Damaged (Bytes file place bytes)) P is = is
answer_of view (Damaged (Files names)) P is = is
answer_of view (Layout found found_of) P is = is
answer_of view Memory P is = tt

refused_is : {F : Type 0} (content : F → Option (List ℕ)) (part : Partition) (disk : Disk) (result : Result Verdict CheckFault) → IfOk result (λ verdict. IfWrong verdict (IsRefused part disk)) → IfOk result (λ verdict. IfWrong verdict (IsReasonOf content part disk))
refused_is content part disk (Err fault) refused = tt
refused_is content part disk (Ok (Right documents)) refused = tt
refused_is content part disk (Ok (Wrong reason)) refused = inl refused

pub refused_told : {T F : Type 0} (view : T → Found) (content : F → Option (List ℕ)) (part : Partition) (old : List Disk) (cause : FilesCause) (result : Result Verdict CheckFault)
    → ((p : Partition) (disk : Disk) → IsAnswer cause (λ refusal. DiskJudged p disk (Err refusal)) → IfOk result (λ verdict. IfWrong verdict (IsRefused p disk))) → IfTold old (λ disk. AnswersBy view (Err cause) (DiskJudged part disk))
    → IfTold old (λ disk. IfOk result (λ verdict. IfWrong verdict (IsReasonOf content part disk)))
refused_told view content part [] cause result answered judged = tt
refused_told view content part (disk ∷ past) cause result answered judged = refused_is content part disk result (answered part disk (answer_of view cause (DiskJudged part disk) judged))

pub never_right : (part : Partition) (old : List Disk) (result : Result Verdict CheckFault) → IfOk result (λ verdict. IfRight verdict (λ documents. ⊥)) → IfTold old (λ disk. IfOk result (λ verdict. IfRight verdict (IsRight part disk)))
never_right part [] result right = tt
never_right part (disk ∷ past) (Err fault) right = tt
never_right part (disk ∷ past) (Ok (Wrong reason)) right = tt
never_right part (disk ∷ past) (Ok (Right documents)) right = absurd right

passed : (T : Type 0) (cause : FilesCause) → IsNoRefusal {X = T} (Err cause) → IsRefusal cause → ⊥
passed T DiskFault passes refusal = refusal
passed T (Damaged damage) passes refusal = passes
passed T (Layout found found_of) passes refusal = passes
passed T Memory passes refusal = refusal

-- lawful files are not refused
pub never_refused : (T : Type 0) (part : Partition) (old : List Disk) (cause : FilesCause) (result : Result Verdict CheckFault) → IfOk result (λ verdict. IsRefusal cause)
    → IfTold old (λ disk. (cs : List Content) (logs : List (List Write)) → DiskOpens part disk cs logs → IsNoRefusal {X = T} (Err cause))
    → IfTold old (λ disk. (cs : List Content) (logs : List (List Write)) → DiskOpens part disk cs logs → IfOk result (λ verdict. verdict ≡ Right (length (recovered cs logs).pairs)))
never_refused T part [] cause result refusal passes = tt
never_refused T part (disk ∷ past) cause result refusal passes = λ cs logs is.
    IfOk-weaker result (λ verdict. IsRefusal cause) (λ verdict. verdict ≡ Right (length (recovered cs logs).pairs)) (λ verdict refused. absurd (passed T cause (passes cs logs is) refused)) refusal

-- what damage refuses is what is told of it
pub damage_refused : (part : Partition) (disk : Disk) (damage : Damage) → IsAnswer (Damaged damage) (λ refusal. DiskJudged part disk (Err refusal)) → IsRefused part disk (reason.Damaged damage)
damage_refused part disk (Bytes file place bytes) is = is
damage_refused part disk (Files names) is = is
