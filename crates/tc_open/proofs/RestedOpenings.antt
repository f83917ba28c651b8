-- What the flush of the logs above the components says of the opening that it ends.
use Rattle.std.proofs.Common.{◌≡◌, ◌∙◌, ◌+◌, ◌<◌, ◌^◌, ℕ, List, [], length, map, refl, sym, ap, subst, inr, Option}
use Rattle.std.specs.Prelude.{Result, Ok, Err, IfErr, IfOk}
use Rattle.std.specs.Result.{IsErrAnd}
use Rattle.tc_store.specs.declared.damage.Damage.{Damage}
use Rattle.tc_store.specs.declared.file_name.FileName.{FileName}
use Rattle.tc_store.specs.Disk.{Disk}
use Rattle.tc_component.specs.Loading.{ComponentState}
use Rattle.tc_list.specs.Intervals.{last_of}
use Rattle.tc_lsm_model.specs.Contents.{Content, Partition}
use Rattle.tc_machine.specs.Pictures.{recovered}
use Rattle.tc_plain_model.specs.Store.{Store}
use Rattle.tc_plain_model.specs.Writes.{Write}
use Rattle.tc_recover.specs.Loading.{interval_of}
use Rattle.tc_recover.specs.Opening.{DiskJudged, Found, found_in}
use Rattle.tc_open.specs.declared.fault.OpenCause.{OpenCause}
use Rattle.tc_open.specs.declared.fault.OpenCause.TheVariants.{Disk as DiskFault, Damaged, Layout, Spent, Memory}
use Rattle.tc_open.specs.Merges.{IsMergeDamage, head_over}
use Rattle.tc_open.specs.Judged.{AreOfDisk, CauseJudged, IsOfFound, IsOpenCause, Passes}
use Rattle.tc_open.specs.Listed.{AreFlushed, AreFlushedFrom, AreMergedFrom, AreOpenedFrom, listed_as, most_listed}
use Rattle.tc_open.specs.OpenCauses.{IfDamaged, IsOfJob, IsOfNoFile}
use Rattle.tc_open.specs.Steps.{Keeps, Rests}
use Rattle.tc_open.proofs.FlushedAbove.{damage_weaker}
use Rattle.tc_open.proofs.ListedIntervals.{ends_listed, flushed_so, none_flushed}
use Rattle.tc_open.proofs.OpenStates.{keeps_on}

-- ---- an answer of which both hold

pub ok_joined : {X E : Type 0} (r : Result X E) (P Q : X → Type 0) → IfOk r P → IfOk r Q → IfOk r (λ x. P x × Q x)
ok_joined (Ok x) P Q p q = (p, q)
ok_joined (Err e) P Q p q = tt

pub err_joined : {X E : Type 0} (r : Result X E) (P Q : E → Type 0) → IfErr r P → IfErr r Q → IfErr r (λ e. P e × Q e)
err_joined (Ok x) P Q p q = tt
err_joined (Err e) P Q p q = (p, q)

-- ---- causes

module _ {F : Type 0} (content : F → Option (List ℕ)) (name : F → FileName) (part : Partition) (found : Found) where
  pub job_judged : (disk : Disk) (cause : OpenCause) → DiskJudged part disk (Ok found) → IsOfJob cause → IfDamaged cause (IsOfFound content name part (AreOfDisk content disk) found) → CauseJudged content name part disk cause
  job_judged disk DiskFault judged is of = tt
  job_judged disk (Damaged damage) judged is of = inr (found, judged, of)
  job_judged disk (Layout found found_of) judged is of = absurd is
  job_judged disk Spent judged is of = absurd is
  job_judged disk Memory judged is of = tt

  pub job_caused : (W : Type 0) (size : F → ℕ) (cause : OpenCause) → IsOfJob cause → IfDamaged cause (IsOfFound content name part (λ list. Unit {0}) found) → IsOpenCause W size content name part cause
  job_caused W size DiskFault is of = tt
  job_caused W size (Damaged damage) is of = inr (found, of)
  job_caused W size (Layout found found_of) is of = absurd is
  job_caused W size Spent is of = tt
  job_caused W size Memory is of = tt

-- ---- all components are merged

pub keeps_as : (part : Partition) (s t : Store) (first second third : List Disk) → s ≡ t → Keeps part t.pairs first second → Keeps part s.pairs second third → Keeps part t.pairs first third
keeps_as part s t first second third same before after = keeps_on part t.pairs first second third before (subst (λ (x : Store). Keeps part x.pairs second third) same after)

pub opened_rests : {F : Type 0} (content : F → Option (List ℕ)) (part : Partition) (cs : List Content) (logs : List (List Write)) (list new : List (ComponentState F)) (old later : List Disk) (rests : Rests content part (AreFlushedFrom part cs logs) (recovered cs logs) list old)
    → Rests content part (AreMergedFrom rests.contents) (recovered rests.contents []) new later → Rests content part (AreOpenedFrom part cs logs) (recovered cs logs) new later
opened_rests content part cs logs list new old later rests now = record {
  contents = now.contents;
  are = record { all = rests.contents; flushed = rests.are; merged = now.are };
  stands = now.stands;
  same = now.same ∙ rests.same;
}

module _ {F : Type 0} (content : F → Option (List ℕ)) (name : F → FileName) (part : Partition) (list : List (ComponentState F)) where
  abbrev Harm : Damage → Type 0
  Harm damage = (most_listed < length list) × IsMergeDamage content name (head_over part.number part.count list) list damage

  abbrev Harms : OpenCause → Type 0
  Harms cause = IfDamaged cause Harm

  of_merge : (Are : List (ComponentState F) → Type 0) (found : Found) (cause : OpenCause) → AreFlushed Are found list → Harms cause → IfDamaged cause (IsOfFound content name part Are found)
  of_merge Are found cause flushed harms = damage_weaker Harm (IsOfFound content name part Are found) cause (λ damage harm. inr (record { list = list; flushed = flushed; many = harm.0; harm = harm.1 })) harms

  pub merge_judged : (disk : Disk) (cause : OpenCause) → Passes part disk (λ found. AreFlushed (AreOfDisk content disk) found list) → IsOfJob cause → Harms cause → CauseJudged content name part disk cause
  merge_judged disk cause passes is harms = job_judged content name part passes.0 disk cause passes.1 is (of_merge (AreOfDisk content disk) passes.0 cause passes.2 harms)

  pub merge_caused : (W : Type 0) (size : F → ℕ) (cause : OpenCause) → IsOfJob cause → Harms cause → IsOpenCause W size content name part cause
  merge_caused W size cause is harms = job_caused content name part (found_in list []) W size cause is (of_merge (λ read. Unit {0}) (found_in list []) cause (flushed_so (λ older. older ≡ list) (λ older. Unit {0}) (found_in list []) list (λ older same. tt) (none_flushed list)) harms)

-- ---- the partition starts

pub err_tells : {X E : Type 0} (r : Result X E) (P : E → Type 0) (Q : Type 0) → (IsErrAnd r P → Q) → IfErr r (λ e. P e → Q)
err_tells (Ok x) P Q tells = tt
err_tells (Err e) P Q tells = tells

module _ {F : Type 0} (content : F → Option (List ℕ)) (name : F → FileName) (part : Partition) (list : List (ComponentState F)) where
  pub start_judged : (disk : Disk) (cause : OpenCause) → Passes part disk (λ found. map interval_of list ≡ listed_as found) → IsOfNoFile cause → (cause ≡ Spent → last_of list + 1 ≡ 2 ^ 63) → CauseJudged content name part disk cause
  start_judged disk DiskFault passes is spent = tt
  start_judged disk (Damaged damage) passes is spent = absurd is
  start_judged disk (Layout found found_of) passes is spent = absurd is
  start_judged disk Spent passes is spent = (passes.0, passes.1, ap (λ n. n + 1) (sym (ends_listed passes.0 list passes.2)) ∙ spent refl)
  start_judged disk Memory passes is spent = tt
