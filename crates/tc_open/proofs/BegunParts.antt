-- What is answered over every store, once the files were brought to rest and the partition was started over them, or was not.
use Rattle.std.proofs.Common.{◌≡◌, ◌∙◌, ◌≤◌, ◌+◌, ℕ, true, List, [], ◌∷◌, Option, length, map, option_map, sym, ap, subst, inl, inr, arith}
use Rattle.tc_store.specs.declared.file_name.FileName.{FileName}
use Rattle.tc_store.specs.declared.file_name.FileName.TheVariants.{Log}
use Rattle.tc_store.specs.declared.kit.Kit.{Kit}
use Rattle.tc_store.specs.Counted.{Counts, IsCounted}
use Rattle.std.specs.Prelude.{IfSome}
use Rattle.std.proofs.lemmas.Bool.{true≢false}
use Rattle.tc_store.specs.Disk.{Disk, is_out, out}
use Rattle.tc_store.specs.DiskFile.{DiskFile}
use Rattle.tc_store.specs.Moments.{IfTold}
use Rattle.tc_store.specs.StoreCalls.{makes}
use Rattle.tc_store.proofs.MomentLemmas.{told_map}
use Rattle.tc_bytes.specs.Counts.{Rose}
use Rattle.tc_component.specs.Loading.{ComponentState}
use Rattle.tc_list.specs.Intervals.{last_of}
use Rattle.tc_log.specs.Appending.{LogState}
use Rattle.tc_lsm_model.specs.Contents.{Partition}
use Rattle.tc_machine.proofs.FilesLeft.{at_name}
use Rattle.tc_merge.specs.Faults.{IsWatched}
use Rattle.tc_part.specs.declared.limits.Limits.{Limits}
use Rattle.tc_part.specs.FilesOut.{HoldsDevices, LogIsOut, OnlyOut}
use Rattle.tc_part.specs.OwnFiles.{HasOwnFiles}
use Rattle.tc_part_model.specs.PartState.{AreTold, IsTold, PartState, told, told_component}
use Rattle.tc_open.specs.BeingOpened.{AreIn}
use Rattle.tc_open.specs.declared.fault.OpenCause.{OpenCause}
use Rattle.tc_open.specs.declared.fault.OpenCause.TheVariants.{Disk as DiskFault, Damaged, Layout, Spent, Memory}
use Rattle.tc_open.specs.Answered.{begun_part, Begins, GivesBack, HasOnlyThese}
use Rattle.tc_open.specs.Judged.{ArePassed, IsOpenCause}
use Rattle.tc_open.specs.Listed.{most_listed}
use Rattle.tc_open.specs.OpenCauses.{IfLayout, IsOfNoFile}
use Rattle.tc_open.specs.Resting.{AreOwn}
use Rattle.tc_open.proofs.OpenedParts.{made_own}
use Rattle.tc_open.proofs.ToldOpenings.{told_still}

-- a call that reads nothing, behind calls in which no fault was counted
counted_behind : (Failed : Type 0) (old mid new : Counts) → IsWatched ⊥ old mid → IsCounted Failed mid new → IsWatched Failed old new
counted_behind Failed old mid new watched counted = record {
  faults = omega (arith, watched.faults, counted.faults);
  cause = λ failed. let rose : Rose mid.faults new.faults = counted.cause failed in omega (arith, watched.faults, rose);
}

-- what no file is the cause of
no_file_caused : {F : Type 0} (W : Type 0) (size : F → ℕ) (content : F → Option (List ℕ)) (name : F → FileName) (part : Partition) (cause : OpenCause) → IsOfNoFile cause → IsOpenCause W size content name part cause
no_file_caused W size content name part DiskFault is = tt
no_file_caused W size content name part (Damaged damage) is = absurd is
no_file_caused W size content name part (Layout found found_of) is = absurd is
no_file_caused W size content name part Spent is = tt
no_file_caused W size content name part Memory is = tt

no_layout : (P : Type 0) (cause : OpenCause) → IsOfNoFile cause → IfLayout cause P
no_layout P DiskFault is = tt
no_layout P (Damaged damage) is = tt
no_layout P (Layout found found_of) is = absurd is
no_layout P Spent is = tt
no_layout P Memory is = tt

-- where no file was out, only that is which was made
only_made : {F : Type 0} (list : List (ComponentState F)) (log : FileName) (disks : List Disk) → IfTold disks (AreOwn list []) → IfTold (makes log disks) (OnlyOut log)
only_made list log [] own = tt
only_made list log (disk ∷ past) own = λ name there.
    at_name log name out disk (λ e. is_out e ≡ true → name ≡ log) (λ same there. sym same) (λ apart there. absurd (true≢false (sym there ∙ own.is_in name))) there

-- The kit came with the one store and first watch, and has another store and first watch once the files are at rest.
module _ {S D F W : Type 0} (history : S → List Disk) (counts : W → Counts) (content : F → Option (List ℕ)) (part : Partition) (kit rested : Kit S W D F) (same : rested ≡ record kit { store = rested.store; main = rested.main }) (watched : IsWatched ⊥ (counts kit.main) (counts rested.main)) where
  pub begun_over : (limits : Limits) (list : List (ComponentState F)) (p : PartState S D F W) → p ≡ begun_part content part limits rested list p → p ≡ begun_part content part limits kit p.list p
  begun_over limits list p begun = subst (λ (l : List (ComponentState F)). p ≡ begun_part content part limits kit l p) (sym (ap (λ (q : PartState S D F W). q.list) begun))
      (subst (λ (k : Kit S W D F). p ≡ begun_part content part limits k list p) same begun)

  module _ (moments : D → List DiskFile) (limits : Limits) (list : List (ComponentState F)) (p : PartState S D F W) (begun : p ≡ begun_part content part limits rested list p)
      (made : history p.store ≡ makes (Log (last_of list + 1)) (history rested.store)) (are_own : IfTold (history rested.store) (AreOwn list [])) where
    abbrev log : FileName
    log = Log (last_of list + 1)

    listed : p.list ≡ list
    listed = ap (λ (q : PartState S D F W). q.list) begun

    own_files : IfTold (history p.store) (HasOnlyThese p.list (Log p.generation))
    own_files = subst (λ (n : ℕ). IfTold (history p.store) (HasOnlyThese p.list (Log n))) (sym (ap (λ (q : PartState S D F W). q.generation) begun))
        (subst (λ (l : List (ComponentState F)). IfTold (history p.store) (HasOnlyThese l log)) (sym listed)
        (subst (λ (ds : List Disk). IfTold ds (HasOnlyThese list log)) (sym made) (made_own list (last_of list + 1) (history rested.store) are_own)))

    -- the components tell behind the log that was made, as they did before
    tell : IfTold (history rested.store) (λ disk. AreTold (map (told_component content) list)) → IfTold (history p.store) (λ disk. AreTold (told history moments content p).components)
    tell are = subst (λ (l : List (ComponentState F)). IfTold (history p.store) (λ disk. AreTold (map (told_component content) l))) (sym listed)
        (subst (λ (ds : List Disk). IfTold ds (λ disk. AreTold (map (told_component content) list))) (sym made)
        (told_still (AreTold (map (told_component content) list)) (history rested.store) (makes log (history rested.store)) (λ none. ap (makes log) none) are))

    -- the log alone is out, and its device tells
    devices : LogIsOut (told history moments content p) → HoldsDevices (told history moments content p)
    devices log_out =
        let t = told history moments content p in
        let Out : Disk → Type 0 = λ disk. (disk (Log p.generation) ≡ out) × IsTold t.log in
        record {
          tells = record {
            active = told_map Out (λ disk. IsTold t.log) t.disks (λ disk is. is.1) log_out;
            sealed = subst (λ (o : Option (LogState D)). IfTold t.disks (λ disk. IfSome (option_map (λ l. moments l.device) o) (λ ms. IsTold ms))) (sym (ap (λ (q : PartState S D F W). q.sealed_log) begun)) (told_map Out (λ disk. Unit {0}) t.disks (λ disk is. tt) log_out);
          };
          only = told_map (OnlyOut log) _ t.disks (λ disk only name there. inl (inl (only name there ∙ ap (λ (n : ℕ). Log n) (sym (ap (λ (q : PartState S D F W). q.generation) begun)))))
              (subst (λ (ds : List Disk). IfTold ds (OnlyOut log)) (sym made) (only_made list log (history rested.store) are_own));
        }

    pub begins : IfTold (history rested.store) (λ disk. AreTold (map (told_component content) list)) → length list ≤ most_listed → HasOwnFiles (told history moments content p) → LogIsOut (told history moments content p)
        → IsCounted ⊥ (counts rested.main) (counts p.main) → Begins history moments content counts kit p
    begins are_told few own log_out counted = record {
      components = tell are_told;
      few = subst (λ (l : List (ComponentState F)). length l ≤ most_listed) (sym listed) few;
      own = own_files;
      has_own = own;
      log_out = log_out;
      devices = devices log_out;
      watched = counted_behind ⊥ (counts kit.main) (counts rested.main) (counts p.main) watched counted;
    }

  pub gives_back : (size : F → ℕ) (name : F → FileName) (back : Kit S W D F) (cause : OpenCause) → IfTold (history kit.store) (ArePassed part) → IsOfNoFile cause → IfTold (history back.store) AreIn
      → back ≡ record rested { store = back.store; main = back.main } → IsCounted (cause ≡ DiskFault) (counts rested.main) (counts back.main) → GivesBack history counts size content name part kit back cause
  gives_back size name back cause passed is home given counted = record {
    causes = no_file_caused W size content name part cause is;
    layout = no_layout _ cause is;
    untouched = inr passed;
    home = home;
    given_back = given ∙ ap (λ (k : Kit S W D F). record k { store = back.store; main = back.main }) same;
    failed = counted_behind (cause ≡ DiskFault) (counts kit.main) (counts rested.main) (counts back.main) watched counted;
  }
