-- A run over partitions that were all opened: what is said of its kits, by what is said of their engines.
use Rattle.std.proofs.Common.{◌≡◌, ◌⊎◌, ◌∙◌, ◌<◌, ℕ, suc, List, All, map, length, arith, refl, ap, sym, subst, inr}
use Rattle.std.specs.Prelude.{Option, Some, None, IfSome, IsSomeAnd, option_map, slice_get}
use Rattle.std.proofs.lemmas.Option.{slice_get-map}
use Rattle.std.proofs.lemmas.List.{length-map}
use Rattle.tc_keeper.proofs.PlaceLaws.{at_each-length}
use Rattle.tc_keeper.specs.Places.{AtEach, EachFrom, SomeFrom}
use Rattle.tc_keeper.specs.Standing.{partition_at}
use Rattle.tc_lsm_model.specs.Contents.{Partition}
use Rattle.tc_open.specs.Judged.{ArePassed, AreSpent, IsUntouched, Passes}
use Rattle.tc_keeper.specs.WithJobs.{settings, WithJobs}
use Rattle.tc_store.specs.Disk.{Disk}
use Rattle.tc_store.specs.KitFaults.{KitFaults}
use Rattle.tc_store.specs.Moments.{IfTold}
use Rattle.tc_store.specs.declared.damage.Damage.{Damage}
use Rattle.tc_store.specs.declared.file_name.FileName.{FileName}
use Rattle.tc_store.proofs.MomentLemmas.{told_map}
use Rattle.tc_work.specs.Moving.{Eyes}
use Rattle.tc_words.specs.declared.run.Options.{Options}
use Rattle.tc_keeper.specs.Calls.{faults_at}
use Rattle.tc_keeper.specs.Faults.{IfDamaged, IfDisk, IsOfRun, NoneFell, OneRose}
use Rattle.tc_server.specs.KitCauses.{AreAsked, AreGenerationsSpent, AreJudged, HasDiskCauseOver, HasFilesCause, HasLastGeneration, IsJudged, NoneFellOf}
use Rattle.tc_server.specs.Kits.{AreOpened, IsBegun, IsOpened}
use Rattle.tc_keeper.specs.declared.fault.RunFault.{RunFault}
use Rattle.tc_keeper.specs.declared.fault.RunFault.TheVariants.{Usage, Read, Write, Spent, Disk as DiskFault, Damaged, Memory, Layout}
use Rattle.tc_keeper.proofs.Causes.{none_fell_twice, one_rose}
use Rattle.tc_keeper.proofs.EachLaws.{at_each-at, each-all, each-at, each-beside, each-map, each-so, some-map, some-so, there}

pub asked_all : (count : ℕ) (fault : Option RunFault) → 0 < count → IfSome fault IsOfRun → IfSome fault (λ f. IfDisk f (λ q. q < count)) → IfSome fault (λ f. IfDamaged f (λ q damage. q < count)) → AreAsked count fault count
asked_all count None some kind disk damaged = refl
asked_all count (Some Usage) some kind disk damaged = absurd kind
asked_all count (Some Read) some kind disk damaged = refl
asked_all count (Some (Write n)) some kind disk damaged = refl
asked_all count (Some Spent) some kind disk damaged = some
asked_all count (Some (DiskFault p)) some kind disk damaged = (omega (arith, disk), disk)
asked_all count (Some (Damaged p damage)) some kind disk damaged = inr (damaged, refl)
asked_all count (Some Memory) some kind disk damaged = tt
asked_all count (Some (Layout p found found_of asked_of)) some kind disk damaged = absurd kind

judged_run : {F : Type 0} (met : Partition → Damage → Type 0) (content : F → Option (List ℕ)) (name : F → FileName) (here : Partition) (disk : Disk) (fault : Option RunFault) → suc here.number ≡ here.count → IfSome fault IsOfRun
    → IfSome fault (λ f. IfDamaged f (λ p damage. met (partition_at p here.count) damage)) → ArePassed here disk → IsJudged met content name here disk fault
judged_run met content name here disk None last kind damaged passed = passed
judged_run met content name here disk (Some Usage) last kind damaged passed = tt
judged_run met content name here disk (Some Read) last kind damaged passed = passed
judged_run met content name here disk (Some (Write n)) last kind damaged passed = passed
judged_run met content name here disk (Some Spent) last kind damaged passed = passed
judged_run met content name here disk (Some (DiskFault p)) last kind damaged passed = tt
judged_run met content name here disk (Some (Damaged p damage)) last kind damaged passed = inr (damaged, last, passed)
judged_run met content name here disk (Some Memory) last kind damaged passed = tt
judged_run met content name here disk (Some (Layout p found found_of asked_of)) last kind damaged passed = absurd kind

pub found_run : {F : Type 0} (met : Partition → Damage → Type 0) (W : Type 0) (size : F → ℕ) (content : F → Option (List ℕ)) (name : F → FileName) (count : ℕ) (fault : Option RunFault) → IfSome fault IsOfRun
    → IfSome fault (λ f. IfDamaged f (λ p damage. met (partition_at p count) damage)) → IfSome fault (HasFilesCause met W size content name count)
found_run met W size content name count None kind damaged = tt
found_run met W size content name count (Some Usage) kind damaged = tt
found_run met W size content name count (Some Read) kind damaged = tt
found_run met W size content name count (Some (Write n)) kind damaged = tt
found_run met W size content name count (Some Spent) kind damaged = tt
found_run met W size content name count (Some (DiskFault p)) kind damaged = tt
found_run met W size content name count (Some (Damaged p damage)) kind damaged = inr damaged
found_run met W size content name count (Some Memory) kind damaged = tt
found_run met W size content name count (Some (Layout p found found_of asked_of)) kind damaged = absurd kind

pub usage_run : (fault : Option RunFault) → IfSome fault IsOfRun → fault ≡ Some Usage → ⊥
usage_run fault kind is = subst (λ f. IfSome f IsOfRun) is kind

pub disk_within : (P Q : ℕ → Type 0) (fault : Option RunFault) → ((q : ℕ) → P q → Q q) → IfSome fault (λ f. IfDisk f P) → IfSome fault (λ f. IfDisk f Q)
disk_within P Q None so is = tt
disk_within P Q (Some Usage) so is = tt
disk_within P Q (Some Read) so is = tt
disk_within P Q (Some (Write n)) so is = tt
disk_within P Q (Some Spent) so is = tt
disk_within P Q (Some (DiskFault p)) so is = so p is
disk_within P Q (Some (Damaged p damage)) so is = tt
disk_within P Q (Some Memory) so is = tt
disk_within P Q (Some (Layout p found found_of asked_of)) so is = tt

pub damaged_within : (P Q : ℕ → Damage → Type 0) (fault : Option RunFault) → ((q : ℕ) (damage : Damage) → P q damage → Q q damage) → IfSome fault (λ f. IfDamaged f P) → IfSome fault (λ f. IfDamaged f Q)
damaged_within P Q None so is = tt
damaged_within P Q (Some Usage) so is = tt
damaged_within P Q (Some Read) so is = tt
damaged_within P Q (Some (Write n)) so is = tt
damaged_within P Q (Some Spent) so is = tt
damaged_within P Q (Some (DiskFault p)) so is = tt
damaged_within P Q (Some (Damaged p damage)) so is = so p damage is
damaged_within P Q (Some Memory) so is = tt
damaged_within P Q (Some (Layout p found found_of asked_of)) so is = tt

module _ {S D F W K : Type 0} (eyes : Eyes S D F W) (disks : K → List Disk) (faults : K → KitFaults) (options : Options) (files : ℕ → List Disk) (came : ℕ → KitFaults) (es : List (WithJobs S D F W)) (opened : AreOpened eyes options files came es) where
  pub all_begun : All (IsBegun eyes options) es
  all_begun = each-all (IsBegun eyes options) 0 es (each-so (λ p e. IsOpened eyes options (partition_at p options.partitions) (files p) (came p) e) (λ p e. IsBegun eyes options e) 0 es (λ p e i. i.begun) opened)

  -- each is of the partition of its number
  pub all_here : EachFrom (λ p (e : WithJobs S D F W). (settings e).here ≡ partition_at p options.partitions) 0 es
  all_here = each-so (λ p e. IsOpened eyes options (partition_at p options.partitions) (files p) (came p) e) (λ p (e : WithJobs S D F W). (settings e).here ≡ partition_at p options.partitions) 0 es (λ p e i. i.is_here) opened

  pub none_fell_all : (ks : List K) → AtEach (λ p e k. NoneFell (faults_at eyes.counts e) (faults k)) 0 es ks → NoneFellOf came (map faults ks)
  none_fell_all ks fell =
      each-map faults (λ p left. NoneFell (came p) left) 0 ks
      (each-beside (λ p e. IsOpened eyes options (partition_at p options.partitions) (files p) (came p) e) (λ p e k. NoneFell (faults_at eyes.counts e) (faults k)) (λ p k. NoneFell (came p) (faults k)) 0 es ks
      (λ p e k i f. none_fell_twice (came p) (faults_at eyes.counts e) (faults k) i.none_fell f) opened fell)

  -- the watches of the kit of a partition counted a fault
  rose_all : (before now q : ℕ) (ks : List K) → q < length es → AtEach (λ p e k. p ≡ q → OneRose (faults_at eyes.counts e) (faults k)) 0 es ks → HasDiskCauseOver before now came (map faults ks) q
  rose_all before now q ks below rose =
      let e = there es q below in
      let i = each-at (λ p e. IsOpened eyes options (partition_at p options.partitions) (files p) (came p) e) q es e.0 opened e.1 in
      let k = at_each-at (λ p e k. p ≡ q → OneRose (faults_at eyes.counts e) (faults k)) q es ks e.0 rose e.1 in
      let at : slice_get (map faults ks) q ≡ Some (faults k.0) = slice_get-map faults ks q ∙ ap (option_map faults) k.1 in
      inr (subst (λ o. IsSomeAnd o (OneRose (came q))) (sym at) (one_rose (came q) (faults_at eyes.counts e.0) (faults k.0) i.none_fell (k.2 refl)))

  pub disk_all : (before now : ℕ) (ks : List K) (fault : Option RunFault) → IfSome fault (λ f. IfDisk f (λ q. (q < length es) × AtEach (λ p e k. p ≡ q → OneRose (faults_at eyes.counts e) (faults k)) 0 es ks)) → IfSome fault (λ f. IfDisk f (HasDiskCauseOver before now came (map faults ks)))
  disk_all before now ks None is = tt
  disk_all before now ks (Some Usage) is = tt
  disk_all before now ks (Some Read) is = tt
  disk_all before now ks (Some (Write n)) is = tt
  disk_all before now ks (Some Spent) is = tt
  disk_all before now ks (Some (DiskFault p)) is = rose_all before now p ks is.0 is.1
  disk_all before now ks (Some (Damaged p damage)) is = tt
  disk_all before now ks (Some Memory) is = tt
  disk_all before now ks (Some (Layout p found found_of asked_of)) is = tt

  passed_at : (p : ℕ) → p < length es → IfTold (files p) (ArePassed (partition_at p options.partitions))
  passed_at p below = let e = there es p below in (each-at (λ p e. IsOpened eyes options (partition_at p options.partitions) (files p) (came p) e) p es e.0 opened e.1).passed

  pub judged_all : (met : Partition → Damage → Type 0) (name : F → FileName) (ks : List K) (fault : Option RunFault) → length es ≡ options.partitions → AtEach (λ p e k. NoneFell (faults_at eyes.counts e) (faults k)) 0 es ks → IfSome fault IsOfRun
      → IfSome fault (λ f. IfDamaged f (λ p damage. met (partition_at p options.partitions) damage)) → AreJudged met eyes.content name options.partitions files fault (map disks ks)
  judged_all met name ks fault all fell kind damaged = record {
    opened = λ p lower. passed_at p (omega (arith, lower, many));
    last = λ p is. told_map (ArePassed (partition_at p options.partitions)) (λ disk. IsJudged met eyes.content name (partition_at p options.partitions) disk fault) (files p)
        (λ disk. judged_run met eyes.content name (partition_at p options.partitions) disk fault (is ∙ many ∙ all) kind damaged) (passed_at p (omega (arith, is, many)));
    untouched =
        each-map disks (λ p left. IsUntouched (partition_at p options.partitions) (files p) left) 0 ks
        (each-beside (λ p e. IsOpened eyes options (partition_at p options.partitions) (files p) (came p) e) (λ p e k. NoneFell (faults_at eyes.counts e) (faults k)) (λ p k. IsUntouched (partition_at p options.partitions) (files p) (disks k)) 0 es ks
        (λ p e k i f. inr i.passed) opened fell);
  }
    where
      many : length (map disks ks) ≡ length es
      many = length-map ks disks ∙ sym (at_each-length (λ p e k. NoneFell (faults_at eyes.counts e) (faults k)) 0 es ks fell)

  pub spent_all : (ks : List K) → SomeFrom (λ p k. IfTold (disks k) HasLastGeneration) 0 ks → AreGenerationsSpent options.partitions files (map disks ks)
  spent_all ks some =
      some-map disks (λ p left. IfTold (files p) (λ disk. Passes (partition_at p options.partitions) disk AreSpent) ⊎ IfTold left HasLastGeneration) 0 ks
      (some-so (λ p k. IfTold (disks k) HasLastGeneration) (λ p k. IfTold (files p) (λ disk. Passes (partition_at p options.partitions) disk AreSpent) ⊎ IfTold (disks k) HasLastGeneration) 0 ks (λ p k last. inr last) some)
