-- What comes of a kit: the engine of its partition, or the kit again, since the partition was not opened.
use Rattle.std.proofs.Common.{[], ◌∷◌, ◌≡◌, ◌≤◌, ap, arith, inl, inr, is_some, refl, subst, sym, List, ℕ}
use Rattle.std.specs.Prelude.{Option, Some, None, IfSome, IsSome, IfErr, Result, Ok, Err, option_map, unwrap_or}
use Rattle.tc_bytes.specs.Counts.{Rose}
use Rattle.tc_keeper.specs.Standing.{partition_at, IsSeen}
use Rattle.tc_keeper.specs.WithJobs.{engine_with, no_jobs, WithJobs}
use Rattle.tc_list.specs.declared.policy.Policy.{Policy}
use Rattle.tc_lsm_model.specs.Contents.{Content, Partition}
use Rattle.tc_machine.specs.Pictures.{recovered}
use Rattle.tc_merge.specs.Faults.{IsWatched}
use Rattle.tc_open.specs.declared.fault.OpenCause.{OpenCause}
use Rattle.tc_open.specs.declared.fault.OpenCause.TheVariants as opening
use Rattle.tc_open.proofs.Lawfully.{both_lawful}
use Rattle.tc_open.specs.Answered.{OfLawful}
use Rattle.tc_open.specs.Judged.{ArePassed, AreSpent, CauseJudged, IsOpenCause, IsUntouched, Passes}
use Rattle.tc_open.specs.OpenCauses as causes
use Rattle.tc_open.specs.Openings.{IsOpenedAs}
use Rattle.tc_open.specs.Steps as step
use Rattle.tc_part_model.specs.PartState.{PartState}
use Rattle.tc_plain_model.specs.Writes.{Write as PlainWrite}
use Rattle.tc_recover.specs.Lawful.{DiskOpens}
use Rattle.tc_open.specs.BeingOpened.{AreIn}
use Rattle.tc_run_model.specs.Course.{input_failed, output_failed, unopened}
use Rattle.tc_store.specs.Counted.{Counts}
use Rattle.tc_store.specs.Disk.{Disk}
use Rattle.tc_store.specs.KitFaults.{KitFaults}
use Rattle.tc_store.specs.Moments.{IfTold}
use Rattle.tc_store.specs.declared.file_name.FileName.{FileName}
use Rattle.tc_store.specs.declared.kit.Kit.{Kit}
use Rattle.tc_store.specs.declared.fault.ShelfFault.{ShelfFault}
use Rattle.tc_store.specs.declared.fault.ShelfFault.TheVariants as shelf
use Rattle.tc_store.proofs.MomentLemmas.{told_map}
use Rattle.tc_work.specs.Moving.{told_part, Eyes}
use Rattle.tc_work.specs.declared.fault.EngineFault.{EngineFault}
use Rattle.tc_words.specs.declared.run.Options.{Options}
use Rattle.tc_keeper.specs.Calls.{faults_at, MayBeAsked}
use Rattle.tc_server.specs.Ending.{limits_of, policy_asked}
use Rattle.tc_keeper.specs.Faults.{faults_in, faults_of_part, IfDisk, IsNoDamage, IsWrite, NoneFell, OneRose}
use Rattle.tc_server.specs.OpeningFaults.{fault_of_opening, fault_of_shelf}
use Rattle.tc_server.specs.KitCauses.{nothing_met, HasFilesCause, IsJudged}
use Rattle.tc_server.specs.Kits.{IsClosed, IsGivenBack, IsNotGiven, IsOfOpening, IsOpened}
use Rattle.tc_server.specs.OverFiles.{EndsOver, IsHere}
use Rattle.tc_keeper.specs.declared.fault.RunFault.{RunFault}
use Rattle.tc_keeper.specs.declared.fault.RunFault.TheVariants.{Usage, Read, Write, Spent, Disk as DiskFault, Damaged, Memory, Layout}
use Rattle.tc_keeper.proofs.Causes.{none_fell_twice}
use Rattle.tc_server.proofs.NotOpened.{opened_keeps}

-- what holds always holds where files are told
told_always : {X : Type 0} (P : X → Type 0) (xs : List X) → ((x : X) → P x) → IfTold xs P
told_always P [] always = tt
told_always P (x ∷ xs) always = always x

-- ---- the kit of a partition that was not opened

is_of_opening : (p count : ℕ) (cause : OpenCause) → IsOfOpening (partition_at p count) (fault_of_opening p count cause)
is_of_opening p count opening.Disk = refl
is_of_opening p count (opening.Damaged damage) = refl
is_of_opening p count (opening.Layout found found_of) = (refl, refl)
is_of_opening p count opening.Spent = tt
is_of_opening p count opening.Memory = tt

undamaged_here : (p count : ℕ) (cause : OpenCause) → causes.IfLayout cause ⊥ → causes.IfDamaged cause (λ damage. ⊥) → IsNoDamage None (fault_of_opening p count cause) × IsHere None (fault_of_opening p count cause)
undamaged_here p count opening.Disk here sound = (tt, tt)
undamaged_here p count (opening.Damaged damage) here sound = absurd sound
undamaged_here p count (opening.Layout found found_of) here sound = absurd here
undamaged_here p count opening.Spent here sound = (tt, tt)
undamaged_here p count opening.Memory here sound = (tt, tt)

refused_by : {F : Type 0} (content : F → Option (List ℕ)) (name : F → FileName) (p count : ℕ) (cause : OpenCause) (disk : Disk) → CauseJudged content name (partition_at p count) disk cause
    → IsJudged nothing_met content name (partition_at p count) disk (Some (fault_of_opening p count cause))
refused_by content name p count opening.Disk disk judged = tt
refused_by content name p count (opening.Damaged damage) disk judged = inl (refl, judged)
refused_by content name p count (opening.Layout found found_of) disk judged = judged
refused_by content name p count opening.Spent disk judged = (judged.0, judged.1, tt)
refused_by content name p count opening.Memory disk judged = tt

spent_by : {F : Type 0} (content : F → Option (List ℕ)) (name : F → FileName) (p count : ℕ) (cause : OpenCause) (disk : Disk) → fault_of_opening p count cause ≡ Spent → CauseJudged content name (partition_at p count) disk cause → Passes (partition_at p count) disk AreSpent
spent_by content name p count opening.Disk disk same judged = absurd (cc)
spent_by content name p count (opening.Damaged damage) disk same judged = absurd (cc)
spent_by content name p count (opening.Layout found found_of) disk same judged = absurd (cc)
spent_by content name p count opening.Spent disk same judged = judged
spent_by content name p count opening.Memory disk same judged = absurd (cc)

pub opening_found : {F : Type 0} (W : Type 0) (size : F → ℕ) (content : F → Option (List ℕ)) (name : F → FileName) (p count : ℕ) (cause : OpenCause) → IsOpenCause W size content name (partition_at p count) cause → HasFilesCause nothing_met W size content name count (fault_of_opening p count cause)
opening_found W size content name p count opening.Disk is = tt
opening_found W size content name p count (opening.Damaged damage) is = inl is
opening_found W size content name p count (opening.Layout found other) is = is
opening_found W size content name p count opening.Spent is = tt
opening_found W size content name p count opening.Memory is = tt

-- what the first watch of a kit counted is what all four did
watched_stay : {S W D F : Type 0} (counts : W → Counts) (kit back : Kit S W D F) (failed : Type 0) → back ≡ record kit { store = back.store; main = back.main } → IsWatched failed (counts kit.main) (counts back.main) → NoneFell (faults_in counts kit) (faults_in counts back)
watched_stay {S = S} {W = W} {D = D} {F = F} counts kit back failed same watched = record {
  main = watched.faults;
  flusher = let is : back.flusher ≡ kit.flusher = ap (λ (k : Kit S W D F). k.flusher) same in subst (λ w. (counts kit.flusher).faults ≤ (counts w).faults) (sym is) (omega arith);
  merger = let is : back.merger ≡ kit.merger = ap (λ (k : Kit S W D F). k.merger) same in subst (λ w. (counts kit.merger).faults ≤ (counts w).faults) (sym is) (omega arith);
  reader = let is : back.reader ≡ kit.reader = ap (λ (k : Kit S W D F). k.reader) same in subst (λ w. (counts kit.reader).faults ≤ (counts w).faults) (sym is) (omega arith);
}

disk_of : (p count : ℕ) (cause : OpenCause) (old new : KitFaults) → (cause ≡ opening.Disk → Rose old.main new.main) → IfDisk (fault_of_opening p count cause) (λ q. OneRose old new)
disk_of p count opening.Disk old new rose = inl (rose refl)
disk_of p count (opening.Damaged damage) old new rose = tt
disk_of p count (opening.Layout found found_of) old new rose = tt
disk_of p count opening.Spent old new rose = tt
disk_of p count opening.Memory old new rose = tt

pub given_back : {S W D F : Type 0} (disks : S → List Disk) (counts : W → Counts) (content : F → Option (List ℕ)) (name : F → FileName) (p count : ℕ) (cause : OpenCause) (kit back : Kit S W D F)
    → OfLawful (partition_at p count) (disks kit.store) (λ cs logs. causes.IfLayout cause ⊥) → OfLawful (partition_at p count) (disks kit.store) (λ cs logs. causes.IfDamaged cause (λ damage. ⊥))
    → OfLawful (partition_at p count) (disks kit.store) (λ cs logs. step.Keeps (partition_at p count) (recovered cs logs).pairs (disks kit.store) (disks back.store))
    → IfTold (disks kit.store) (λ disk. CauseJudged content name (partition_at p count) disk cause) → IsUntouched (partition_at p count) (disks kit.store) (disks back.store)
    → IfTold (disks back.store) AreIn → back ≡ record kit { store = back.store; main = back.main } → IsWatched (cause ≡ opening.Disk) (counts kit.main) (counts back.main)
    → IsGivenBack content name (partition_at p count) (disks kit.store) (faults_in counts kit) (fault_of_opening p count cause) (disks back.store) (faults_in counts back)
given_back disks counts content name p count cause kit back here undamaged keeps judged untouched home same watched = record {
  of = is_of_opening p count cause;
  home = home;
  keeps = told_map (λ disk. (cs : List Content) (logs : List (List PlainWrite)) → DiskOpens (partition_at p count) disk cs logs → step.Keeps (partition_at p count) (recovered cs logs).pairs (disks kit.store) (disks back.store)) _ (disks kit.store)
      (λ disk all cs logs opens. (all cs logs opens).kept) keeps;
  sound = both_lawful (partition_at p count) (λ cs logs. causes.IfLayout cause ⊥) (λ cs logs. causes.IfDamaged cause (λ damage. ⊥))
      (λ cs logs. IsNoDamage None (fault_of_opening p count cause) × IsHere None (fault_of_opening p count cause)) (disks kit.store) here undamaged
      (λ cs logs. undamaged_here p count cause);
  judged = told_map (λ disk. CauseJudged content name (partition_at p count) disk cause) (λ disk. IsJudged nothing_met content name (partition_at p count) disk (Some (fault_of_opening p count cause))) (disks kit.store) (refused_by content name p count cause) judged;
  untouched = untouched;
  spent = λ is. told_map (λ disk. CauseJudged content name (partition_at p count) disk cause) (λ disk. Passes (partition_at p count) disk AreSpent) (disks kit.store) (λ disk. spent_by content name p count cause disk is) judged;
  none_fell = watched_stay counts kit back (cause ≡ opening.Disk) same watched;
  disk = disk_of p count cause (faults_in counts kit) (faults_in counts back) watched.cause;
}

-- ---- there was no room for the engine of a partition that was opened, which is closed again

pub pushed_back : {S D F W : Type 0} (eyes : Eyes S D F W) (name : F → FileName) (size : D → ℕ) (options : Options) (here : Partition) (came : List Disk) (counted : KitFaults) (e : WithJobs S D F W) (outcome : Result (Unit {0}) EngineFault) (disks : List Disk) (left : KitFaults)
    → IsOpened eyes options here came counted e → IsClosed eyes size e outcome disks left → IsGivenBack eyes.content name here came counted Memory disks left
pushed_back eyes name size options here came counted e outcome disks left i c = record {
  of = tt;
  home = c.home;
  keeps = opened_keeps eyes size options here came counted e outcome disks left i c;
  sound = told_always (λ disk. (cs : List Content) (logs : List (List PlainWrite)) → DiskOpens here disk cs logs → IsNoDamage None Memory × IsHere None Memory) came (λ disk cs logs opens. (tt, tt));
  judged = told_always (λ disk. IsJudged nothing_met eyes.content name here disk (Some Memory)) came (λ disk. tt);
  untouched = inr i.passed;
  spent = λ never. absurd (cc);
  none_fell = none_fell_twice counted (faults_at eyes.counts e) left i.none_fell c.none_fell;
  disk = tt;
}

-- ---- how a run ends that opens no partition

pub ends_of_opening : (here : Partition) (fault : RunFault) → IsOfOpening here fault → EndsOver (Some fault) unopened
ends_of_opening here Usage is = is
ends_of_opening here Read is = absurd is
ends_of_opening here (Write n) is = absurd is
ends_of_opening here Spent is = inr (inr refl)
ends_of_opening here (DiskFault p) is = inr refl
ends_of_opening here (Damaged p damage) is = inr refl
ends_of_opening here Memory is = inr refl
ends_of_opening here (Layout p found found_of asked_of) is = refl

pub ends_not_given : (rose : Type 0) (p : ℕ) (fault : RunFault) → IsNotGiven rose p fault → EndsOver (Some fault) unopened
ends_not_given rose p fault n = elim n.is [ inl disk ↦ subst (λ f. EndsOver (Some f) unopened) (sym disk) (inr refl) | inr memory ↦ subst (λ f. EndsOver (Some f) unopened) (sym memory) (inr refl) ]

pub sound_not_given : (only : Option ℕ) (rose : Type 0) (p : ℕ) (fault : RunFault) → IsNotGiven rose p fault → IsNoDamage only fault × IsHere only fault
sound_not_given only rose p fault n = elim n.is [ inl disk ↦ subst (λ f. IsNoDamage only f × IsHere only f) (sym disk) (tt, tt) | inr memory ↦ subst (λ f. IsNoDamage only f × IsHere only f) (sym memory) (tt, tt) ]

-- where the files of the partition that was not opened are lawful, if it is looked at, it is neither
pub sound_seen : (only : Option ℕ) (p count : ℕ) (fault : RunFault) → IsOfOpening (partition_at p count) fault → (IsSeen only p → IsNoDamage None fault × IsHere None fault) → IsNoDamage only fault × IsHere only fault
sound_seen only p count Usage of sound = absurd of
sound_seen only p count Read of sound = absurd of
sound_seen only p count (Write n) of sound = absurd of
sound_seen only p count Spent of sound = (tt, tt)
sound_seen only p count (DiskFault q) of sound = (tt, tt)
sound_seen only p count (Damaged q damage) of sound = (λ seen. (sound (subst (λ m. IsSeen only m) of seen)).0 tt, tt)
sound_seen only p count Memory of sound = (tt, tt)
sound_seen only p count (Layout q found found_of asked_of) of sound = (tt, λ seen. (sound (subst (λ m. IsSeen only m) of.0 seen)).1 tt)

-- so it is no fault of the words, of the source, or of the sink
pub ends_unopened : {K : Type 0} (rose : Type 0) (here : Partition) (p : ℕ) (fault : RunFault) (Back : K → Type 0) (kit : Option K) → ((k : K) → Back k → IsOfOpening here fault) → IfSome kit Back → (kit ≡ None → IsNotGiven rose p fault)
    → EndsOver (Some fault) unopened
ends_unopened rose here p fault Back None of back not_given = ends_not_given rose p fault (not_given refl)
ends_unopened rose here p fault Back (Some k) of back not_given = ends_of_opening here fault (of k back)

pub no_usage : (fault : RunFault) → EndsOver (Some fault) unopened → Some fault ≡ Some Usage → ⊥
no_usage fault ends same = subst (λ f. EndsOver f unopened) same ends

pub no_read : {P : Type 0} (fault : RunFault) → EndsOver (Some fault) unopened → Some fault ≡ Some Read → P
no_read fault ends same = let never : unopened ≡ input_failed = subst (λ f. EndsOver f unopened) same ends in absurd (cc)

pub no_write : {P : Type 0} (fault : RunFault) → EndsOver (Some fault) unopened → IsWrite fault → P
no_write Usage ends is = absurd is
no_write Read ends is = absurd is
no_write (Write n) ends is = let never : unopened ≡ output_failed n = ends in absurd (cc)
no_write Spent ends is = absurd is
no_write (DiskFault p) ends is = absurd is
no_write (Damaged p damage) ends is = absurd is
no_write Memory ends is = absurd is
no_write (Layout p found found_of asked_of) ends is = absurd is

-- ---- the engine of the part that was opened

none_fell_opened : {S D F W : Type 0} (counts : W → Counts) (kit : Kit S W D F) (part : PartState S D F W) → IsWatched ⊥ (counts kit.main) (counts part.main) → part.flusher ≡ Some kit.flusher → part.merger ≡ Some kit.merger → part.reader ≡ Some kit.reader
    → NoneFell (faults_in counts kit) (faults_of_part counts part)
none_fell_opened counts kit part watched flusher merger reader = record {
  main = watched.faults;
  flusher = subst (λ o. (counts kit.flusher).faults ≤ unwrap_or (option_map (λ w. (counts w).faults) o) 0) (sym flusher) (omega arith);
  merger = subst (λ o. (counts kit.merger).faults ≤ unwrap_or (option_map (λ w. (counts w).faults) o) 0) (sym merger) (omega arith);
  reader = subst (λ o. (counts kit.reader).faults ≤ unwrap_or (option_map (λ w. (counts w).faults) o) 0) (sym reader) (omega arith);
}

pub engine_opened : {S D F W : Type 0} (eyes : Eyes S D F W) (options : Options) (here : Partition) (came : List Disk) (kit : Kit S W D F) (part : PartState S D F W) (policy : Policy)
    → MayBeAsked (told_part eyes part) part → part.staged ≡ [] → part.limits ≡ limits_of options → part.memory ≡ options.memory → policy ≡ policy_asked options
    → IfTold came (λ disk. (cs : List Content) (logs : List (List PlainWrite)) → DiskOpens here disk cs logs → IsOpenedAs here cs logs (told_part eyes part)) → IfTold came (ArePassed here)
    → IsWatched ⊥ (eyes.counts kit.main) (eyes.counts part.main) → part.flusher ≡ Some kit.flusher → part.merger ≡ Some kit.merger → part.reader ≡ Some kit.reader → part.sealed ≡ None → part.active ≡ [] → partition_at part.number part.count ≡ here
    → IsOpened eyes options here came (faults_in eyes.counts kit) (engine_with (record { part = part; policy = policy }) no_jobs)
engine_opened eyes options here came kit part policy ready unstaged limits memory asked opened passed watched flusher merger reader unsealed empty is_here = record {
  begun = record { ready = ready; unstaged = unstaged; limits = limits; memory = memory; policy = asked; alone = refl; unsealed = unsealed; empty = empty; reader = ap (λ o. is_some o) reader };
  is_here = is_here;
  opened = opened;
  passed = passed;
  none_fell = none_fell_opened eyes.counts kit part watched flusher merger reader;
}

-- ---- the kit was not given

pub shelf_not_given : (rose : Type 0) (p : ℕ) (fault : ShelfFault) → (fault ≡ shelf.Fault → rose) → IsNotGiven rose p (fault_of_shelf p fault)
shelf_not_given rose p shelf.Fault cause = record { is = inl refl; cause = λ same. cause refl }
shelf_not_given rose p shelf.Memory cause = record { is = inr refl; cause = λ never. absurd (cc) }

pub shelf_memory : (p : ℕ) (fault : ShelfFault) → fault_of_shelf p fault ≡ Memory → fault ≡ shelf.Memory
shelf_memory p shelf.Fault is = absurd (cc)
shelf_memory p shelf.Memory is = refl

pub shelf_found : {F : Type 0} (W : Type 0) (size : F → ℕ) (content : F → Option (List ℕ)) (name : F → FileName) (count p : ℕ) (fault : ShelfFault) → HasFilesCause nothing_met W size content name count (fault_of_shelf p fault)
shelf_found W size content name count p shelf.Fault = tt
shelf_found W size content name count p shelf.Memory = tt

-- a refusal that has its kit
none_there : {K : Type 0} (o : Option K) → o ≡ None → IsSome o → ⊥
none_there None none some = absurd (cc)
none_there (Some k) none some = absurd (cc)

pub never_none : {T E K : Type 0} (kit : E → Option K) (P : E → Type 0) (r : Result T E) → IfErr r (λ e. IsSome (kit e)) → IfErr r (λ e. kit e ≡ None → P e)
never_none kit P (Ok x) some = tt
never_none kit P (Err e) some = λ none. absurd (none_there (kit e) none some)
