-- The kits that are given back where not all partitions were opened: those of the engines that were, and behind them the one that
-- came last, where it was given.
use Rattle.std.proofs.Common.{◌≡◌, ◌⊎◌, ◌∙◌, ◌≤◌, ◌<◌, ◌+◌, ℕ, suc, List, [], ◌∷◌, ◌++◌, map, length, append-nil, length-append, arith, refl, ap, sym, subst, inl, inr}
use Rattle.std.proofs.lemmas.List.{length-map, map-append, nil_from_length}
use Rattle.std.specs.Prelude.{Option, Some, None, IfSome, IsSomeAnd, Result, option_to_list, slice_get}
use Rattle.tc_bytes.specs.Counts.{Rose}
use Rattle.tc_keeper.specs.Places.{AtEach, EachFrom, SomeFrom}
use Rattle.tc_keeper.specs.Standing.{partition_at, IsSeen}
use Rattle.tc_keeper.specs.WithJobs.{WithJobs}
use Rattle.tc_keeper.proofs.PlaceLaws.{at_each-length, at_each-reads, at_each-so}
use Rattle.tc_keeper.specs.Keeping.{IsMetIn}
use Rattle.tc_lsm_model.specs.Contents.{Partition}
use Rattle.tc_open.specs.Judged.{ArePassed, AreSpent, IsUntouched, Passes}
use Rattle.tc_run_model.specs.Course.{unopened}
use Rattle.tc_store.specs.Disk.{Disk}
use Rattle.tc_store.specs.DiskFile.{DiskFile}
use Rattle.tc_store.specs.KitFaults.{KitFaults}
use Rattle.tc_store.specs.Moments.{IfTold}
use Rattle.tc_store.specs.declared.damage.Damage.{Damage}
use Rattle.tc_store.specs.declared.file_name.FileName.{FileName}
use Rattle.tc_store.proofs.MomentLemmas.{told_map}
use Rattle.tc_work.specs.Moving.{Eyes}
use Rattle.tc_work.specs.declared.fault.EngineFault.{EngineFault}
use Rattle.tc_words.specs.declared.asked.Invocation.{Invocation}
use Rattle.tc_words.specs.declared.run.Options.{Options}
use Rattle.tc_keeper.specs.Calls.{faults_at}
use Rattle.tc_server.specs.Ending.{limits_of}
use Rattle.tc_keeper.specs.Faults.{IfDisk, IsNoDamage, IsWrite, NoneFell, OneRose}
use Rattle.tc_server.specs.KitCauses.{nothing_met, AreAsked, AreGenerationsSpent, AreJudged, GivesKitsBack, HasCauseOver, HasDiskCauseOver, HasFilesCause, HasLastGeneration, IsInputSpent, IsJudged, NoneFellOf}
use Rattle.tc_server.specs.Kits.{AreOpened, IsClosed, IsGivenBack, IsNotGiven, IsOfOpening, IsOpened}
use Rattle.tc_server.specs.OverFiles.{partitions_asked, BeginsAs, EndsOver, IsHere, KeepsOpened}
use Rattle.tc_keeper.specs.Sight.{nothing, sees, IfKnown, Sight}
use Rattle.tc_keeper.specs.declared.fault.RunFault.{RunFault}
use Rattle.tc_keeper.specs.declared.fault.RunFault.TheVariants.{Usage, Read, Write, Spent, Disk as DiskFault, Damaged, Memory, Layout}
use Rattle.tc_keeper.proofs.Causes.{none_fell_twice}
use Rattle.tc_keeper.proofs.EachLaws.{behind_front, each-append, each-at, each-beside, each-map, some-append, there}
use Rattle.tc_server.proofs.KitOpenings.{ends_not_given, ends_of_opening, sound_not_given, sound_seen}
use Rattle.tc_server.proofs.NotOpened.{lawful_first, opened_keeps}
use Rattle.tc_server.proofs.SightLaws.{if_known}

-- what is asked for by the kit that came back, of the partition of this number
asked_back : (count p : ℕ) (fault : RunFault) → p < count → IsOfOpening (partition_at p count) fault → AreAsked count (Some fault) (suc p)
asked_back count p Usage below is = absurd is
asked_back count p Read below is = absurd is
asked_back count p (Write n) below is = absurd is
asked_back count p Spent below is = omega arith
asked_back count p (DiskFault q) below is = (omega (arith, is), omega (arith, is, below))
asked_back count p (Damaged q damage) below is = inl (ap suc is)
asked_back count p Memory below is = tt
asked_back count p (Layout q found found_of asked_of) below is = (ap suc is.0, is.1)

asked_not_given : (rose : Type 0) (count p : ℕ) (fault : RunFault) → p < count → IsNotGiven rose p fault → AreAsked count (Some fault) p
asked_not_given rose count p fault below n = elim n.is [
  | inl disk ↦ subst (λ f. AreAsked count (Some f) p) (sym disk) (omega arith, below)
  | inr memory ↦ subst (λ f. AreAsked count (Some f) p) (sym memory) tt
]

-- a fault of the disk of the partition of a number
disk_back : (before now count p : ℕ) (came : ℕ → KitFaults) (left : List KitFaults) (counted : KitFaults) (fault : RunFault) → slice_get left p ≡ Some counted → IsOfOpening (partition_at p count) fault → IfDisk fault (λ q. OneRose (came p) counted)
    → IfDisk fault (HasDiskCauseOver before now came left)
disk_back before now count p came left counted Usage at is rose = tt
disk_back before now count p came left counted Read at is rose = tt
disk_back before now count p came left counted (Write n) at is rose = tt
disk_back before now count p came left counted Spent at is rose = tt
disk_back before now count p came left counted (DiskFault q) at is rose = inr (subst (λ q. IsSomeAnd (slice_get left q) (OneRose (came q))) (sym is) (subst (λ o. IsSomeAnd o (OneRose (came p))) (sym at) rose))
disk_back before now count p came left counted (Damaged q damage) at is rose = tt
disk_back before now count p came left counted Memory at is rose = tt
disk_back before now count p came left counted (Layout q found found_of asked_of) at is rose = tt

disk_not_given : (before now p : ℕ) (came : ℕ → KitFaults) (left : List KitFaults) (fault : RunFault) → length left ≡ p → IsNotGiven (Rose before now) p fault → IfDisk fault (HasDiskCauseOver before now came left)
disk_not_given before now p came left fault many n = elim n.is [
  | inl disk ↦ subst (λ f. IfDisk f (HasDiskCauseOver before now came left)) (sym disk) (inl (sym many, n.cause disk))
  | inr memory ↦ subst (λ f. IfDisk f (HasDiskCauseOver before now came left)) (sym memory) tt
]

-- What is said of the kits that are given back where not all partitions were opened.
pub record AreGivenBack {F : Type 0} (content : F → Option (List ℕ)) (name : F → FileName) (options : Options) (before now : ℕ) (files : ℕ → List Disk) (came : ℕ → KitFaults) (fault : RunFault) (kits : List (List Disk)) (counted : List KitFaults) : Type 0 where
  pub few : length kits ≤ options.partitions
  pub asked : AreAsked options.partitions (Some fault) (length kits)
  pub by : EndsOver (Some fault) unopened
  pub sound : (first : Sight) → BeginsAs (limits_of options) options.partitions files first → IfKnown first (λ only w. IsNoDamage only fault × IsHere only fault)
  pub keep : EachFrom (λ p. KeepsOpened (partition_at p options.partitions) (files p)) 0 kits
  pub none_fell : NoneFellOf came counted
  pub disk : IfDisk fault (HasDiskCauseOver before now came counted)
  pub judged : AreJudged nothing_met content name options.partitions files (Some fault) kits
  pub spent : fault ≡ Spent → AreGenerationsSpent options.partitions files kits

-- an engine was closed, however it ended
abbrev pub IsEnded : {S D F W K : Type 0} → Eyes S D F W → (D → ℕ) → (K → List Disk) → (K → KitFaults) → WithJobs S D F W → K → Type 0
IsEnded eyes size disks faults e k = (outcome : Result (Unit {0}) EngineFault) × IsClosed eyes size e outcome (disks k) (faults k)

-- so it is of the kits of all that were
pub kits_ended : {S D F W C K : Type 0} (eyes : Eyes S D F W) (size : D → ℕ) (kit : C → K) (outcome : C → Result (Unit {0}) EngineFault) (disks : K → List Disk) (faults : K → KitFaults) (es : List (WithJobs S D F W)) (cs : List C)
    → AtEach (λ p e c. IsClosed eyes size e (outcome c) (disks (kit c)) (faults (kit c))) 0 es cs → AtEach (λ p e k. IsEnded eyes size disks faults e k) 0 es (map kit cs)
kits_ended eyes size kit outcome disks faults es cs closed =
    at_each-reads kit (λ p e k. IsEnded eyes size disks faults e k) 0 es cs
    (at_each-so (λ p e c. IsClosed eyes size e (outcome c) (disks (kit c)) (faults (kit c))) (λ p e c. IsEnded eyes size disks faults e (kit c)) 0 es cs (λ p e c is. (outcome c, is)) closed)

module _ {S D F W K : Type 0} (eyes : Eyes S D F W) (name : F → FileName) (size : D → ℕ) (disks : K → List Disk) (faults : K → KitFaults) (options : Options) (files : ℕ → List Disk) (came : ℕ → KitFaults) where
  keep_closed : (es : List (WithJobs S D F W)) (ks : List K) → AreOpened eyes options files came es → AtEach (λ p e k. IsEnded eyes size disks faults e k) 0 es ks
      → EachFrom (λ p. KeepsOpened (partition_at p options.partitions) (files p)) 0 (map disks ks)
  keep_closed es ks opened closed =
      each-map disks (λ p. KeepsOpened (partition_at p options.partitions) (files p)) 0 ks
      (each-beside (λ p e. IsOpened eyes options (partition_at p options.partitions) (files p) (came p) e) (λ p e k. IsEnded eyes size disks faults e k) (λ p k. KeepsOpened (partition_at p options.partitions) (files p) (disks k)) 0 es ks
      (λ p e k i c. opened_keeps eyes size options (partition_at p options.partitions) (files p) (came p) e c.0 (disks k) (faults k) i c.1) opened closed)

  none_closed : (es : List (WithJobs S D F W)) (ks : List K) → AreOpened eyes options files came es → AtEach (λ p e k. IsEnded eyes size disks faults e k) 0 es ks → NoneFellOf came (map faults ks)
  none_closed es ks opened closed =
      each-map faults (λ p left. NoneFell (came p) left) 0 ks
      (each-beside (λ p e. IsOpened eyes options (partition_at p options.partitions) (files p) (came p) e) (λ p e k. IsEnded eyes size disks faults e k) (λ p k. NoneFell (came p) (faults k)) 0 es ks
      (λ p e k i c. none_fell_twice (came p) (faults_at eyes.counts e) (faults k) i.none_fell c.1.none_fell) opened closed)

  passed_closed : (es : List (WithJobs S D F W)) (ks : List K) → AreOpened eyes options files came es → AtEach (λ p e k. IsEnded eyes size disks faults e k) 0 es ks
      → EachFrom (λ p left. IsUntouched (partition_at p options.partitions) (files p) left) 0 (map disks ks)
  passed_closed es ks opened closed =
      each-map disks (λ p left. IsUntouched (partition_at p options.partitions) (files p) left) 0 ks
      (each-beside (λ p e. IsOpened eyes options (partition_at p options.partitions) (files p) (came p) e) (λ p e k. IsEnded eyes size disks faults e k) (λ p k. IsUntouched (partition_at p options.partitions) (files p) (disks k)) 0 es ks
      (λ p e k i c. inr i.passed) opened closed)

  -- the files of the partitions that were opened were not refused
  pub passed_at : (es : List (WithJobs S D F W)) (p : ℕ) → AreOpened eyes options files came es → p < length es → IfTold (files p) (ArePassed (partition_at p options.partitions))
  passed_at es p opened below =
      let e = there es p below in
      (each-at (λ p e. IsOpened eyes options (partition_at p options.partitions) (files p) (came p) e) p es e.0 opened e.1).passed

  -- the last kit was not given
  pub not_given_back : (before now : ℕ) (es : List (WithJobs S D F W)) (ks : List K) (fault : RunFault) → length es < options.partitions → AreOpened eyes options files came es → AtEach (λ p e k. IsEnded eyes size disks faults e k) 0 es ks
      → IsNotGiven (Rose before now) (length es) fault → AreGivenBack eyes.content name options before now files came fault (map disks ks) (map faults ks)
  not_given_back before now es ks fault below opened closed n = record {
    few = omega (arith, many, below);
    asked = subst (AreAsked options.partitions (Some fault)) (sym many) (asked_not_given (Rose before now) options.partitions (length es) fault below n);
    by = ends_not_given (Rose before now) (length es) fault n;
    sound = always;
    keep = keep_closed es ks opened closed;
    none_fell = none_closed es ks opened closed;
    disk = disk_not_given before now (length es) came (map faults ks) fault (length-map ks faults ∙ sym same) n;
    judged = record {
      opened = λ p lower. passed_at es p opened (omega (arith, lower, many));
      last = λ p is. judged_last (files p) (partition_at p options.partitions) (passed_at es p opened (omega (arith, is, many)));
      untouched = passed_closed es ks opened closed;
    };
    spent = λ is. absurd (elim n.is [ inl disk ↦ let never : Spent ≡ DiskFault (length es) = sym is ∙ disk in absurd (cc) | inr memory ↦ let never : Spent ≡ Memory = sym is ∙ memory in absurd (cc) ]);
  }
    where
      same : length es ≡ length ks
      same = at_each-length (λ p e k. IsEnded eyes size disks faults e k) 0 es ks closed

      many : length (map disks ks) ≡ length es
      many = length-map ks disks ∙ sym same

      always : (first : Sight) → BeginsAs (limits_of options) options.partitions files first → IfKnown first (λ only w. IsNoDamage only fault × IsHere only fault)
      always first begins = if_known first (λ only. IsNoDamage only fault × IsHere only fault) (λ only w is. sound_not_given only (Rose before now) (length es) fault n)

      judged_last : (given : List Disk) (here : _) → IfTold given (ArePassed here) → IfTold given (λ disk. IsJudged nothing_met eyes.content name here disk (Some fault))
      judged_last [] here passed = tt
      judged_last (disk ∷ past) here passed = elim n.is [ inl is ↦ subst (λ f. IsJudged nothing_met eyes.content name here disk (Some f)) (sym is) tt | inr is ↦ subst (λ f. IsJudged nothing_met eyes.content name here disk (Some f)) (sym is) tt ]

  -- it came back
  pub kit_back : (before now : ℕ) (es : List (WithJobs S D F W)) (ks : List K) (k : K) (fault : RunFault) → length es < options.partitions → AreOpened eyes options files came es → AtEach (λ p e k. IsEnded eyes size disks faults e k) 0 es ks
      → IsGivenBack eyes.content name (partition_at (length es) options.partitions) (files (length es)) (came (length es)) fault (disks k) (faults k) → AreGivenBack eyes.content name options before now files came fault (map disks (ks ++ k ∷ [])) (map faults (ks ++ k ∷ []))
  kit_back before now es ks k fault below opened closed b = record {
    few = omega (arith, many, below);
    asked = subst (AreAsked options.partitions (Some fault)) (sym many) (asked_back options.partitions (length es) fault below b.of);
    by = ends_of_opening (partition_at (length es) options.partitions) fault b.of;
    sound = λ first begins. sound_known first (lawful_first (limits_of options) options.partitions (length es) files first (IsNoDamage None fault × IsHere None fault) below begins b.sound);
    keep = subst (EachFrom Keeps 0) (sym (map-append disks ks (k ∷ []))) (each-append Keeps 0 (map disks ks) (disks k ∷ []) (keep_closed es ks opened closed) (subst (λ n. EachFrom Keeps n (disks k ∷ [])) at_disks (b.keeps, tt)));
    none_fell = subst (EachFrom Fell 0) (sym (map-append faults ks (k ∷ []))) (each-append Fell 0 (map faults ks) (faults k ∷ []) (none_closed es ks opened closed) (subst (λ n. EachFrom Fell n (faults k ∷ [])) at_faults (b.none_fell, tt)));
    disk = disk_back before now options.partitions (length es) came (map faults (ks ++ k ∷ [])) (faults k) fault last_counted b.of b.disk;
    judged = record {
      opened = λ p lower. passed_at es p opened (omega (arith, lower, many));
      last = λ p is. let same_place : length es ≡ p = omega (arith, is, many) in subst (λ p. IfTold (files p) (λ disk. IsJudged nothing_met eyes.content name (partition_at p options.partitions) disk (Some fault))) same_place b.judged;
      untouched = subst (EachFrom Stays 0) (sym (map-append disks ks (k ∷ []))) (each-append Stays 0 (map disks ks) (disks k ∷ []) (passed_closed es ks opened closed) (subst (λ n. EachFrom Stays n (disks k ∷ [])) at_disks (b.untouched, tt)));
    };
    spent = λ is. subst (SomeFrom Spends 0) (sym (map-append disks ks (k ∷ []))) (some-append Spends 0 (map disks ks) (disks k ∷ []) (subst (λ n. SomeFrom Spends n (disks k ∷ [])) at_disks (inl (inl (b.spent is)))));
  }
    where
      sound_known : (first : Sight) → IfKnown first (λ only w. IsSeen only (length es) → IsNoDamage None fault × IsHere None fault) → IfKnown first (λ only w. IsNoDamage only fault × IsHere only fault)
      sound_known nothing is = tt
      sound_known (sees only w) is = sound_seen only (length es) options.partitions fault b.of is

      Keeps : ℕ → List Disk → Type 0
      Keeps p = KeepsOpened (partition_at p options.partitions) (files p)

      Stays : ℕ → List Disk → Type 0
      Stays p left = IsUntouched (partition_at p options.partitions) (files p) left

      Fell : ℕ → KitFaults → Type 0
      Fell p left = NoneFell (came p) left

      Spends : ℕ → List Disk → Type 0
      Spends p left = IfTold (files p) (λ disk. Passes (partition_at p options.partitions) disk AreSpent) ⊎ IfTold left HasLastGeneration

      same : length es ≡ length ks
      same = at_each-length (λ p e k. IsEnded eyes size disks faults e k) 0 es ks closed

      many : length (map disks (ks ++ k ∷ [])) ≡ suc (length es)
      many = length-map (ks ++ k ∷ []) disks ∙ omega (arith, length-append ks (k ∷ []), same)

      at_disks : length es ≡ 0 + length (map disks ks)
      at_disks = omega (arith, length-map ks disks, same)

      at_faults : length es ≡ 0 + length (map faults ks)
      at_faults = omega (arith, length-map ks faults, same)

      at_last : length es ≡ length (map faults ks)
      at_last = omega (arith, length-map ks faults, same)

      last_counted : slice_get (map faults (ks ++ k ∷ [])) (length es) ≡ Some (faults k)
      last_counted = subst (λ xs. slice_get xs (length es) ≡ Some (faults k)) (sym (map-append faults ks (k ∷ []))) (behind_front (map faults ks) (faults k) [] (length es) at_last)

  -- either of them
  pub given_back_all : (before now : ℕ) (es : List (WithJobs S D F W)) (ks : List K) (last : Option K) (fault : RunFault) → length es < options.partitions → AreOpened eyes options files came es → AtEach (λ p e k. IsEnded eyes size disks faults e k) 0 es ks
      → IfSome last (λ k. IsGivenBack eyes.content name (partition_at (length es) options.partitions) (files (length es)) (came (length es)) fault (disks k) (faults k)) → (last ≡ None → IsNotGiven (Rose before now) (length es) fault)
      → AreGivenBack eyes.content name options before now files came fault (map disks (ks ++ option_to_list last)) (map faults (ks ++ option_to_list last))
  given_back_all before now es ks None fault below opened closed back not_given =
      subst (λ xs. AreGivenBack eyes.content name options before now files came fault (map disks xs) (map faults xs)) (sym (append-nil ks)) (not_given_back before now es ks fault below opened closed (not_given refl))
  given_back_all before now es ks (Some k) fault below opened closed back not_given = kit_back before now es ks k fault below opened closed back

-- ---- what is judged of a partition that was not opened is so whatever else a run meets

judged_met : {F : Type 0} (met : Partition → Damage → Type 0) (content : F → Option (List ℕ)) (name : F → FileName) (here : Partition) (disk : Disk) (fault : RunFault) → IsJudged nothing_met content name here disk (Some fault) → IsJudged met content name here disk (Some fault)
judged_met met content name here disk Usage is = tt
judged_met met content name here disk Read is = is
judged_met met content name here disk (Write n) is = is
judged_met met content name here disk Spent is = is
judged_met met content name here disk (DiskFault p) is = tt
judged_met met content name here disk (Damaged p damage) (inl found) = inl found
judged_met met content name here disk (Damaged p damage) (inr run) = absurd run.0
judged_met met content name here disk Memory is = tt
judged_met met content name here disk (Layout p found found_of asked_of) is = is

pub all_judged_met : {F : Type 0} (met : Partition → Damage → Type 0) (content : F → Option (List ℕ)) (name : F → FileName) (count : ℕ) (files : ℕ → List Disk) (fault : RunFault) (kits : List (List Disk)) → AreJudged nothing_met content name count files (Some fault) kits
    → AreJudged met content name count files (Some fault) kits
all_judged_met met content name count files fault kits j = record {
  opened = j.opened;
  last = λ p is. told_map (λ disk. IsJudged nothing_met content name (partition_at p count) disk (Some fault)) (λ disk. IsJudged met content name (partition_at p count) disk (Some fault)) (files p)
      (λ disk. judged_met met content name (partition_at p count) disk fault) (j.last p is);
  untouched = j.untouched;
}

pub found_met : {F : Type 0} (met : Partition → Damage → Type 0) (W : Type 0) (size : F → ℕ) (content : F → Option (List ℕ)) (name : F → FileName) (count : ℕ) (fault : RunFault) → HasFilesCause nothing_met W size content name count fault → HasFilesCause met W size content name count fault
found_met met W size content name count Usage is = tt
found_met met W size content name count Read is = tt
found_met met W size content name count (Write n) is = tt
found_met met W size content name count Spent is = tt
found_met met W size content name count (DiskFault p) is = tt
found_met met W size content name count (Damaged p damage) (inl found) = inl found
found_met met W size content name count (Damaged p damage) (inr run) = absurd run
found_met met W size content name count Memory is = tt
found_met met W size content name count (Layout p found found_of asked_of) is = is

-- ---- how many kits there are, and what became of the shelf

pub last_many : {E X : Type 0} (R : ℕ → E → X → Type 0) (es : List E) (ks : List X) (last : Option X) (all : List X) → all ≡ ks ++ option_to_list last → AtEach R 0 es ks → length all ≡ length es + length (option_to_list last)
last_many R es ks last all same closed = ap length same ∙ omega (arith, length-append ks (option_to_list last), at_each-length R 0 es ks closed)

-- the number behind the kits was not asked for, or its kit was not given, since the faults of the shelf rose
pub next_back : {K : Type 0} (P : ℕ → Type 0) (rose : Type 0) (count p n : ℕ) (fault : RunFault) (last : Option K) → n ≡ p + length (option_to_list last) → p < count → ((other : ℕ) → p < other → P other)
    → (last ≡ None → fault ≡ Memory → P p) → (last ≡ None → IsNotGiven rose p fault) → P n ⊎ ((n < count) × rose)
next_back P rose count p n fault None many below others unasked not_given =
    let same : n ≡ p = omega (arith, many) in
    elim (not_given refl).is [
      | inl disk ↦ inr (omega (arith, same, below), (not_given refl).cause disk)
      | inr memory ↦ inl (subst P (sym same) (unasked refl memory))
    ]
next_back P rose count p n fault (Some k) many below others unasked not_given = inl (others n (omega (arith, many)))

pub others_back : {K : Type 0} (P : ℕ → Type 0) (p n : ℕ) (last : Option K) → n ≡ p + length (option_to_list last) → ((other : ℕ) → p < other → P other) → (other : ℕ) → n < other → P other
others_back P p n last many others other behind = others other (omega (arith, many, behind))

-- one kit came at most
pub one_at_most : {K : Type 0} (last : Option K) → length (option_to_list last) ≤ 1
one_at_most None = omega arith
one_at_most (Some k) = omega arith

-- no kit came
none_came : {K : Type 0} (last : Option K) → length (option_to_list last) ≡ 0 → last ≡ None
none_came None none = refl
none_came (Some k) none = absurd (cc)

pub unasked_back : {E K : Type 0} (same rose : Type 0) (es : List E) (kits : List K) (p : ℕ) (fault : RunFault) (last : Option K) → p ≡ length es → length kits ≡ length es + length (option_to_list last) → (last ≡ None → IsNotGiven rose p fault) → (last ≡ None → fault ≡ Memory → es ≡ [] → same)
    → kits ≡ [] → same ⊎ rose
unasked_back same rose es kits p fault last place many not_given unasked none =
    let nothing : length kits ≡ 0 = ap length none in
    let nobody = none_came last (omega (arith, nothing, many)) in
    let empty : es ≡ [] = nil_from_length es (omega (arith, nothing, many)) in
    elim (not_given nobody).is [
      | inl disk ↦ inr ((not_given nobody).cause disk)
      | inr memory ↦ inl (unasked nobody memory empty)
    ]

-- ---- where no kit was asked for

judged_nothing : {F : Type 0} (met : Partition → Damage → Type 0) (content : F → Option (List ℕ)) (name : F → FileName) (count : ℕ) (files : ℕ → List Disk) (fault : Option RunFault) → AreJudged met content name count files fault []
judged_nothing met content name count files fault = record {
  opened = λ p lower. absurd (omega (arith, lower));
  last = λ p is. absurd (cc);
  untouched = tt;
}

-- what holds of words that are no command line and of want of memory holds of a fault that is one of these
of_words : (P : RunFault → Type 0) (fault : RunFault) → (fault ≡ Usage) ⊎ (fault ≡ Memory) → P Usage → P Memory → P fault
of_words P fault (inl is) usage memory = subst P (sym is) usage
of_words P fault (inr is) usage memory = subst P (sym is) memory

pub nothing_back : {K P : Type 0} → P → (count before : ℕ) (files : ℕ → List Disk) (came : ℕ → KitFaults) (fault : RunFault) (counts : K → KitFaults) → (fault ≡ Usage) ⊎ (fault ≡ Memory)
    → GivesKitsBack P count before before files files came came (Some fault) [] counts
nothing_back same count before files came fault counts kind = record {
  few = omega arith;
  asked = of_words (λ f. AreAsked count (Some f) 0) fault kind refl tt;
  none_fell = (omega arith, tt);
  others = λ other above. (refl, refl);
  next = inl (refl, refl);
  unasked = λ none. inl same;
}

pub no_cause : {K D F : Type 0} (S W : Type 0) (moments : D → List DiskFile) (content : F → Option (List ℕ)) (name : F → FileName) (size : F → ℕ) (asked : Option Invocation) (left : Option (List ℕ)) (reads writes before : ℕ) (files : ℕ → List Disk) (came : ℕ → KitFaults) (fault : RunFault)
    (history : K → List Disk) (counts : K → KitFaults) → (fault ≡ Usage) ⊎ (fault ≡ Memory) → (fault ≡ Usage → asked ≡ None)
    → HasCauseOver S W moments content name size asked left left reads reads writes writes before before files came (Some fault) [] history counts
no_cause S W moments content name size asked left reads writes before files came fault history counts kind none = record {
  usage = λ same. none (cc);
  read = of_words (λ f. Some f ≡ Some Read → Rose reads reads) fault kind (λ same. absurd (cc)) (λ same. absurd (cc));
  write = of_words (λ f. IsWrite f → Rose writes writes) fault kind (λ is. absurd is) (λ is. absurd is);
  disk = of_words (λ f. IfDisk f (HasDiskCauseOver before before came [])) fault kind tt tt;
  judged = judged_nothing (IsMetIn S W moments content) content name (partitions_asked asked) files (Some fault);
  found = of_words (HasFilesCause (IsMetIn S W moments content) W size content name (partitions_asked asked)) fault kind tt tt;
  spent = of_words (λ f. Some f ≡ Some Spent → IsInputSpent asked left left ⊎ AreGenerationsSpent (partitions_asked asked) files []) fault kind (λ same. absurd (cc)) (λ same. absurd (cc));
}

-- ---- what a run over the lines ended by

pub if_read : (R : Type 0) (fault : Option RunFault) → IfSome fault (λ f. f ≡ Read → R) → fault ≡ Some Read → R
if_read R None rose is = absurd (cc)
if_read R (Some fault) rose is = rose (cc)
