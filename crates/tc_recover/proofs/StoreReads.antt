-- What is read of all files of a store is what is judged of its disk, and of lawful files it is what they open as.
use Rattle.std.proofs.Common.{◌≡◌, ℕ, List, [], ◌∷◌, subst}
use Rattle.std.specs.Prelude.{◌↔◌, Contains, Option, IfErr, IfOk, OnErr, OnOk, Result, Ok, Err}
use Rattle.std.specs.List.Sorted.{IsStrictlySortedBy}
use Rattle.tc_plain_model.specs.Writes.{Write as Stored}
use Rattle.tc_lsm_model.specs.Contents.{Content, Partition}
use Rattle.tc_store.specs.declared.file_name.FileName.{FileName}
use Rattle.tc_store.specs.Disk.{Disk, IsAtRest, IsThere}
use Rattle.tc_store.specs.Moments.{EachSince, IfTold}
use Rattle.tc_store.specs.NameOrder.{name_cmp}
use Rattle.tc_store.proofs.MomentLemmas.{told_map}
use Rattle.tc_component.specs.Loading.{ComponentState}
use Rattle.tc_log.specs.declared.write.Write.{Write}
use Rattle.tc_recover.specs.declared.cause.FilesCause.{FilesCause}
use Rattle.tc_recover.specs.declared.taken.Taken.{Taken}
use Rattle.tc_recover.specs.Causes.{IsNoRefusal}
use Rattle.tc_recover.specs.Files.{picture_in, picture_at, names_in, takes_all, AreLawful, AreTold, AreNamed, TakesSome}
use Rattle.tc_recover.specs.Lawful.{AreSpare, DiskOpens, KeepsFiles, ReadsAs, found_of, images_of}
use Rattle.tc_recover.specs.Opening.{AnswersBy, AreAllTaken, DiskJudged, Found, IsReadCause, IsReadOf, OpeningJudged, found_in}
use Rattle.tc_recover.specs.Refusals.{Refusal}
use Rattle.tc_recover.specs.Removing.{needless_names}
use Rattle.tc_recover.proofs.LawfulDisks.{IsOneWay, IsRead, disk_read, only_passes}
use Rattle.tc_recover.proofs.LawfulReads.{files_tell, reads_as}
use Rattle.tc_recover.proofs.NeedlessLeft.{left_is_spare}
use Rattle.tc_recover.proofs.ReadSteps.{answers_follow}
use Rattle.tc_recover.proofs.TakenFiles.{EventsKeep, IsTakenOf, OpeningsKeep, taken_kept}

pub disk_answers : {T F W : Type 0} (view : T → Found) (content : F → Option (List ℕ)) (part : Partition) (files : List (Taken F W)) (result : Result T FilesCause) (old : List Disk) → IsStrictlySortedBy name_cmp (names_in files)
    → IfTold old (λ disk. (n : FileName) → Contains (names_in files) n ↔ IsThere (disk n)) → IfTold old (λ disk. AreTold content files) → IfTold old (λ disk. picture_in content files ≡ picture_at disk (names_in files))
    → (AreTold content files → AnswersBy view result (OpeningJudged part (picture_in content files))) → IfTold old (λ disk. AnswersBy view result (DiskJudged part disk))
disk_answers view content part files result [] ascend exact told picture judged = tt
disk_answers view content part files result (disk ∷ past) ascend exact told picture judged =
    answers_follow view result (OpeningJudged part (picture_in content files)) (DiskJudged part disk)
    (λ r is. (names_in files, exact, ascend, subst (λ shown. OpeningJudged part shown r) picture is)) (judged told)

pub causes_of_all : {T F W : Type 0} (size : F → ℕ) (name : F → FileName) (part : Partition) (files : List (Taken F W)) (result : Result T FilesCause) → AreNamed name files → IfErr result (IsReadCause size part files)
    → IfErr result (λ cause. (all : List (Taken F W)) × AreNamed name all × IsReadCause size part all cause)
causes_of_all size name part files (Ok x) named caused = tt
causes_of_all size name part files (Err cause) named caused = (files, named, caused)

pub read_of_all : {T F W : Type 0} (content : F → Option (List ℕ)) (name : F → FileName) (files : List (Taken F W)) (old new : List Disk) (result : Result T FilesCause) (list : T → List (ComponentState F)) (left : T → List (Taken F W)) (last : T → ℕ)
    → AreAllTaken content name files old new → IfOk result (λ read. IsReadOf files (list read) (left read) (last read)) → OnOk result (AreLawful files)
    → IfOk result (λ read. (all : List (Taken F W)) × AreAllTaken content name all old new × IsReadOf all (list read) (left read) (last read) × AreLawful all)
read_of_all content name files old new (Ok x) list left last taken is lawful = (files, taken, is, lawful)
read_of_all content name files old new (Err cause) list left last taken is lawful = tt

pub some_taken : {T : Type 0} (names : List FileName) (old new : List Disk) (result : Result T FilesCause) → new ≡ takes_all names old → OnErr result (TakesSome old new)
some_taken names old new (Ok x) taken = tt
some_taken names old new (Err cause) taken = (names, taken)

-- ---- lawful files

one_found : (x y : Found) → ◌≡◌ {A = Result Found Refusal} (Ok x) (Ok y) → x ≡ y
one_found x y same = cc

pub passes_told : {T : Type 0} (view : T → Found) (part : Partition) (result : Result T FilesCause) (old : List Disk) → IsRead → IsOneWay → IfTold old IsAtRest → IfTold old (λ disk. AnswersBy view result (DiskJudged part disk))
    → IfTold old (λ disk. (cs : List Content) (logs : List (List Stored)) → DiskOpens part disk cs logs → IsNoRefusal result)
passes_told view part result [] reads one_way rests judged = tt
passes_told view part result (disk ∷ past) reads one_way rests judged = λ cs logs opens. only_passes view result (DiskJudged part disk) (found_of (images_of disk) cs logs) (λ answer is. disk_read reads one_way part disk cs logs answer rests opens is) judged

pub moments_told : (part : Partition) (old new : List Disk) → EventsKeep → OpeningsKeep → IfTold old IsAtRest → TakesSome old new
    → IfTold old (λ disk. (cs : List Content) (logs : List (List Stored)) → DiskOpens part disk cs logs → EachSince (KeepsFiles part cs logs) old new)
moments_told part [] new events openings rests takes = tt
moments_told part (disk ∷ past) new events openings rests takes = λ cs logs opens. (taken_kept events openings part cs logs disk past new rests opens takes).moments

pub kept_told : (part : Partition) (old new : List Disk) → EventsKeep → OpeningsKeep → IfTold old IsAtRest → TakesSome old new
    → IfTold old (λ disk. (cs : List Content) (logs : List (List Stored)) → DiskOpens part disk cs logs → IfTold new (KeepsFiles part cs logs))
kept_told part [] new events openings rests takes = tt
kept_told part (disk ∷ past) new events openings rests takes = λ cs logs opens. (taken_kept events openings part cs logs disk past new rests opens takes).kept

module _ {T F W : Type 0} (content : F → Option (List ℕ)) (name : F → FileName) (part : Partition) (files : List (Taken F W)) (list : T → List (ComponentState F)) (left : T → List (Taken F W)) (last : T → ℕ) (writes : T → List (List Write)) (reads : IsRead) (one_way : IsOneWay) where
  pub opened_one : (disk : Disk) (past new : List Disk) (cs : List Content) (logs : List (List Stored)) (result : Result T FilesCause) → IsAtRest disk → AreAllTaken content name files (disk ∷ past) new → IfOk result (λ x. IsReadOf files (list x) (left x) (last x))
      → AnswersBy (λ x. found_in (list x) (writes x)) result (DiskJudged part disk) → DiskOpens part disk cs logs → IfOk result (λ x. ReadsAs content cs logs (list x) (writes x) (last x))
  opened_one disk past new cs logs (Err cause) rests taken is judged opens = tt
  opened_one disk past new cs logs (Ok x) rests taken is judged opens =
      reads_as content name part disk past new cs logs files (left x) (list x) (writes x) (last x) rests opens taken is (one_found (found_in (list x) (writes x)) (found_of (images_of disk) cs logs) (disk_read reads one_way part disk cs logs (Ok (found_in (list x) (writes x))) rests opens judged))

  pub opened_told : (old new : List Disk) (result : Result T FilesCause) → IfTold old IsAtRest → AreAllTaken content name files old new → IfOk result (λ x. IsReadOf files (list x) (left x) (last x)) → IfTold old (λ disk. AnswersBy (λ x. found_in (list x) (writes x)) result (DiskJudged part disk))
      → IfTold old (λ disk. (cs : List Content) (logs : List (List Stored)) → DiskOpens part disk cs logs → IfOk result (λ x. ReadsAs content cs logs (list x) (writes x) (last x)))
  opened_told [] new result rests taken is judged = tt
  opened_told (disk ∷ past) new result rests taken is judged = λ cs logs opens. opened_one disk past new cs logs result rests taken is judged opens

  spare_one : EventsKeep → OpeningsKeep → (disk : Disk) (past new : List Disk) (cs : List Content) (logs : List (List Stored)) (result : Result T FilesCause) → IsAtRest disk → AreAllTaken content name files (disk ∷ past) new → IfOk result (λ x. IsReadOf files (list x) (left x) (last x))
      → IfOk result (λ x. ReadsAs content cs logs (list x) (writes x) (last x)) → DiskOpens part disk cs logs → IfOk result (λ x. IfTold new (λ now. AreSpare cs now (needless_names name (last x) (left x))))
  spare_one events openings disk past new cs logs (Err cause) rests taken is read opens = tt
  spare_one events openings disk past new cs logs (Ok x) rests taken is read opens =
      let stays = taken_kept events openings part cs logs disk past new rests opens (names_in files, taken.taken) in
      let tell = files_tell content disk files rests (λ n member. (taken.exact n).0 member) taken.told taken.picture in
      told_map (IsTakenOf part cs logs disk) (λ now. AreSpare cs now (needless_names name (last x) (left x))) new
      (λ now here. left_is_spare content name disk now cs files (left x) (list x) (last x) here.same taken.ascend taken.named taken.gates tell is read.loaded read.last_is) stays.same

  pub spare_told : EventsKeep → OpeningsKeep → (old new : List Disk) (result : Result T FilesCause) → IfTold old IsAtRest → AreAllTaken content name files old new
      → IfOk result (λ x. IsReadOf files (list x) (left x) (last x)) → IfTold old (λ disk. AnswersBy (λ x. found_in (list x) (writes x)) result (DiskJudged part disk))
      → IfTold old (λ disk. (cs : List Content) (logs : List (List Stored)) → DiskOpens part disk cs logs → IfOk result (λ x. IfTold new (λ now. AreSpare cs now (needless_names name (last x) (left x)))))
  spare_told events openings [] new result rests taken is judged = tt
  spare_told events openings (disk ∷ past) new result rests taken is judged = λ cs logs opens. spare_one events openings disk past new cs logs result rests taken is (opened_one disk past new cs logs result rests taken is judged opens) opens
