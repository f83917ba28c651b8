-- What is read of the files of a partition, with its kit.
use Rattle.std.proofs.Common.{◌≡◌, ◌∙◌, ◌+◌, ◌<◌, ◌^◌, ℕ, List, [], ◌∷◌, filter, length, map, sym, subst, arith, inl, false, Option, None}
use Rattle.std.specs.Prelude.{All, Err}
use Rattle.std.specs.List.{AllByRecursion}
use Rattle.std.proofs.lemmas.List.Elements.{All-filter, All-head, All-tail}
use Rattle.tc_store.specs.declared.damage.Damage.TheVariants.{Bytes, Files}
use Rattle.tc_store.specs.declared.file_name.FileName.{FileName}
use Rattle.tc_store.specs.Disk.{Disk}
use Rattle.tc_store.specs.Moments.{EachSince, IfTold}
use Rattle.tc_store.proofs.StopLaws.{since_weaker}
use Rattle.tc_component.specs.Loading.{ComponentState}
use Rattle.tc_component.specs.Spelling.{IsIndex}
use Rattle.tc_log.specs.declared.write.Write as log
use Rattle.tc_log.specs.Writes.{IsWrite}
use Rattle.tc_lsm_model.specs.Contents.{Content, Partition}
use Rattle.tc_list.specs.Intervals.{last_after}
use Rattle.tc_machine.specs.Pictures.{recovered}
use Rattle.tc_machine.proofs.MemorySteps.{opened_memory, same_memory}
use Rattle.tc_machine.specs.Events.{opened}
use Rattle.tc_part_model.specs.Leaving.{KeepsStore}
use Rattle.tc_part_model.specs.PartView.{no_files}
use Rattle.tc_plain_model.specs.Writes.{Write}
use Rattle.tc_jobs.specs.Lists.{IsListOf}
use Rattle.tc_recover.specs.declared.cause.FilesCause.{FilesCause}
use Rattle.tc_recover.specs.declared.cause.FilesCause.TheVariants as files
use Rattle.tc_recover.specs.declared.taken.Taken.{Taken}
use Rattle.tc_recover.specs.Causes.{IsNoRefusal}
use Rattle.tc_recover.specs.Files.{AreLawful, AreNamed}
use Rattle.tc_recover.specs.Lawful.{DiskOpens, KeepsFiles, ReadsAs}
use Rattle.tc_recover.specs.Loading.{interval_of}
use Rattle.tc_recover.specs.Loads.{is_log}
use Rattle.tc_recover.specs.Opening.{AnswersBy, AreAllTaken, DiskJudged, Found, IsReadCause, IsReadOf}
use Rattle.tc_recover.specs.Sorting.{Follow, logs_above, open_names}
use Rattle.tc_recover.specs.Tilings.{end_of}
use Rattle.tc_open.specs.BeingOpened.{AreIn, IsOpening}
use Rattle.tc_open.proofs.ToldMoments.{tells_since}
use Rattle.tc_open.specs.Judged.{CauseJudged, IsOpenCause}
use Rattle.tc_open.specs.OpenCauses.{IfDamaged, IfLayout, of_files}
use Rattle.tc_open.specs.Openings.{LeavesStored}
use Rattle.tc_open.specs.Steps.{AreAbove, AreListed, IsLogUpTo, Keeps, Stands}
use Rattle.tc_open.proofs.FilesRead.{Reach, left_named, listed_named, logs_reach}
use Rattle.tc_open.proofs.LogsCovered.{end_listed}
use Rattle.tc_open.proofs.OpenStates.{files_keep}

-- ---- lawful files

module _ (part : Partition) where
  -- for all that the files may hold
  abbrev OfLawful : List Disk → (List Content → List (List Write) → Type 0) → Type 0
  OfLawful old P = IfTold old (λ disk. (cs : List Content) (logs : List (List Write)) → DiskOpens part disk cs logs → P cs logs)

  kept_told : (cs : List Content) (logs : List (List Write)) (new : List Disk) → IfTold new (KeepsFiles part cs logs) → IfTold new (λ disk. AreIn disk × KeepsStore part (recovered cs logs).pairs None disk)
  kept_told cs logs [] kept = tt
  kept_told cs logs (disk ∷ past) kept = (kept.home, files_keep part cs logs disk kept.kept)

  pub files_kept : (old new : List Disk) → OfLawful old (λ cs logs. EachSince (KeepsFiles part cs logs) old new) → OfLawful old (λ cs logs. IfTold new (KeepsFiles part cs logs)) → OfLawful old (λ cs logs. Keeps part (recovered cs logs).pairs old new)
  files_kept [] new moments kept = tt
  files_kept (disk ∷ past) new moments kept = λ cs logs opens. record {
    moments = since_weaker (KeepsFiles part cs logs) (LeavesStored part (recovered cs logs).pairs) (disk ∷ past) new (λ d keeps. inl (keeps.home, files_keep part cs logs d keeps.kept)) (moments cs logs opens);
    kept = kept_told cs logs new (kept cs logs opens);
  }

  module _ {F : Type 0} (content : F → Option (List ℕ)) (list : List (ComponentState F)) (writes : List (List log.Write)) (last : ℕ) where
    opening : (disk : Disk) (cs : List Content) (logs : List (List Write)) (new : List Disk) → DiskOpens part disk cs logs → IfTold new (KeepsFiles part cs logs) → IsOpening part cs logs new
    opening disk cs logs [] opens kept = record { memory = same_memory part (opened opens.picture cs logs) no_files false false (opened_memory part opens.picture cs logs opens.opens); kept = tt; home = tt }
    opening disk cs logs (now ∷ past) opens kept = record {
      memory = same_memory part (opened opens.picture cs logs) no_files false false (opened_memory part opens.picture cs logs opens.opens);
      kept = kept.kept;
      home = kept.home;
    }

    pub read_stands : (old new : List Disk) → OfLawful old (λ cs logs. ReadsAs content cs logs list writes last) → OfLawful old (λ cs logs. EachSince (KeepsFiles part cs logs) old new) → OfLawful old (λ cs logs. IfTold new (KeepsFiles part cs logs))
        → OfLawful old (λ cs logs. Stands content part cs logs list writes new)
    read_stands [] new reads moments kept = tt
    read_stands (disk ∷ past) new reads moments kept = λ cs logs opens. record {
      tells = tells_since (KeepsFiles part cs logs) disk past new (moments cs logs opens);
      opening = opening disk cs logs new opens (kept cs logs opens);
      loaded = (reads cs logs opens).loaded;
      written = (reads cs logs opens).written;
    }

-- ---- causes

module _ {T F : Type 0} (view : T → Found) (content : F → Option (List ℕ)) (name : F → FileName) (part : Partition) where
  judged_one : (disk : Disk) (cause : FilesCause) → AnswersBy view (Err cause) (DiskJudged part disk) → CauseJudged content name part disk (of_files cause)
  judged_one disk files.Disk is = tt
  judged_one disk (files.Damaged (Bytes file place bytes)) is = inl is
  judged_one disk (files.Damaged (Files names)) is = inl is
  judged_one disk (files.Layout found found_of) is = is
  judged_one disk files.Memory is = tt

  pub refusal_judged : (old : List Disk) (cause : FilesCause) → IfTold old (λ disk. AnswersBy view (Err cause) (DiskJudged part disk)) → IfTold old (λ disk. CauseJudged content name part disk (of_files cause))
  refusal_judged [] cause is = tt
  refusal_judged (disk ∷ past) cause is = judged_one disk cause is

pub refusal_caused : {F W : Type 0} (size : F → ℕ) (content : F → Option (List ℕ)) (name : F → FileName) (part : Partition) (cause : FilesCause) → ((taken : List (Taken F W)) × AreNamed name taken × IsReadCause size part taken cause)
    → IsOpenCause W size content name part (of_files cause)
refusal_caused size content name part files.Disk is = tt
refusal_caused size content name part (files.Damaged damage) is = inl (record { taken = is.0; named = is.1; harm = is.2 })
refusal_caused size content name part (files.Layout found found_of) is = record { taken = is.0; named = is.1; harm = is.2 }
refusal_caused size content name part files.Memory is = tt

no_layout : (X : Type 0) (cause : FilesCause) → IsNoRefusal {X = X} (Err cause) → IfLayout (of_files cause) ⊥
no_layout X files.Disk is = tt
no_layout X (files.Damaged damage) is = absurd is
no_layout X (files.Layout found found_of) is = is
no_layout X files.Memory is = tt

pub lawful_passes : (X : Type 0) (part : Partition) (cause : FilesCause) (old : List Disk) → OfLawful part old (λ cs logs. IsNoRefusal {X = X} (Err cause)) → OfLawful part old (λ cs logs. IfLayout (of_files cause) ⊥)
lawful_passes X part cause [] passes = tt
lawful_passes X part cause (disk ∷ past) passes = λ cs logs opens. no_layout X cause (passes cs logs opens)

no_damage : (X : Type 0) (cause : FilesCause) → IsNoRefusal {X = X} (Err cause) → IfDamaged (of_files cause) (λ damage. ⊥)
no_damage X files.Disk is = tt
no_damage X (files.Damaged damage) is = is
no_damage X (files.Layout found found_of) is = absurd is
no_damage X files.Memory is = tt

pub lawful_sound : (X : Type 0) (part : Partition) (cause : FilesCause) (old : List Disk) → OfLawful part old (λ cs logs. IsNoRefusal {X = X} (Err cause)) → OfLawful part old (λ cs logs. IfDamaged (of_files cause) (λ damage. ⊥))
lawful_sound X part cause [] passes = tt
lawful_sound X part cause (disk ∷ past) passes = λ cs logs opens. no_damage X cause (passes cs logs opens)

-- ---- over every store

last_lawful : {F : Type 0} (g : ℕ) (list : List (ComponentState F)) → g < 2 ^ 63 → All (λ c. IsIndex c.index) list → last_after g list < 2 ^ 63
last_lawful g [] bound all = bound
last_lawful g (c ∷ list) bound all =
    let this = (All-head (λ (d : ComponentState _). IsIndex d.index) c list all).head in
    last_lawful c.index.head.to list this.last (All-tail (λ (d : ComponentState _). IsIndex d.index) c list all)

module _ {F W : Type 0} (content : F → Option (List ℕ)) (name : F → FileName) (part : Partition) (list : List (ComponentState F)) (left all : List (Taken F W)) (writes : List (List log.Write)) (last : ℕ) (old new : List Disk)
    (taken : AreAllTaken content name all old new) (read : IsReadOf all list left last) where
  pub read_listed : IsListOf part.number part.count list → All (λ c. IsIndex c.index) list → AreListed name part list
  read_listed of lawful = record { of = of; lawful = lawful; named = listed_named name list all taken.named read.files_are; tile = read.together.tiling.tile }

  end_read : end_of 0 (map interval_of list) ≡ last
  end_read = end_listed list ∙ sym read.last_is

  pub read_above : All (λ c. IsIndex c.index) list → All (AllByRecursion IsWrite) writes → length writes ≡ length (filter (is_log last) left) → AreLawful all → AreAbove name list (filter (is_log last) left) writes last
  read_above lawful each count names =
      let logs = filter (is_log last) left in
      let bound : last < 2 ^ 63 = subst (λ n. n < 2 ^ 63) (sym read.last_is) (last_lawful 0 list (omega arith) lawful) in
      let follow : Follow last (logs_above last (open_names all)) = subst (λ n. Follow n (logs_above n (open_names all))) end_read read.together.logs in
      let reach = subst (λ (ts : List (Taken F W)). Reach last (filter (is_log last) ts)) (sym read.left_are) (logs_reach last (map interval_of list) all bound names follow) in
      record {
        last_is = read.last_is;
        each = each;
        count = count;
        named = All-filter (is_log last) (λ (t : Taken F W). name t.file ≡ t.name) left (subst (λ (ts : List (Taken F W)). All (λ t. name t.file ≡ t.name) ts) (sym read.left_are) (left_named name (map interval_of list) all taken.named));
        up_to = subst (λ n. All (λ (t : Taken F W). IsLogUpTo (last + n) t.name) logs) (sym count) reach.up_to;
        bound = subst (λ n. last + n < 2 ^ 63) (sym count) reach.bound;
      }
