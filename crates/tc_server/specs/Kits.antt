-- The kit of one partition among others: its engine once it is opened, what comes of a kit whose partition is not, and what an
-- engine leaves when it is closed.
use Rattle.std.specs.Prelude.{◌≡◌, ◌⊎◌, ℕ, suc, true, List, [], ◌∷◌, Option, Some, None, is_some, Result, Ok, Err, IfErr, IsErrOf, OnOk}
use Rattle.tc_keeper.specs.Standing.{partition_at}
use Rattle.tc_keeper.specs.WithJobs.{no_jobs, settings, told_of, works_of, WithJobs}
use Rattle.tc_lsm_model.specs.Contents.{Content, Partition}
use Rattle.tc_open.specs.Judged.{ArePassed, AreSpent, IsUntouched, Passes}
use Rattle.tc_open.specs.Openings.{IsOpenedAs}
use Rattle.tc_part.specs.OwnComponents.{AreOwnComponents}
use Rattle.tc_part_model.specs.Leaving.{KeepsStore}
use Rattle.tc_part_model.specs.Meaning.{IsPart}
use Rattle.tc_part_model.specs.PartView.{PartView, store_of}
use Rattle.tc_plain_model.specs.Writes.{Pairs, Write as PlainWrite}
use Rattle.tc_recover.specs.Lawful.{DiskOpens}
use Rattle.tc_open.specs.BeingOpened.{AreIn}
use Rattle.tc_store.specs.declared.file_name.FileName.{FileName}
use Rattle.tc_store.specs.Disk.{Disk}
use Rattle.tc_store.specs.KitFaults.{KitFaults}
use Rattle.tc_store.specs.Moments.{IfTold}
use Rattle.tc_work.specs.Damage.{HasMetDamage}
use Rattle.tc_work.specs.Ending.{EndsSmall}
use Rattle.tc_work.specs.Failing.{HasFailedKeeping}
use Rattle.tc_work.specs.Faults.{IfDamaged as IfEngineDamaged}
use Rattle.tc_work.specs.Moving.{Eyes}
use Rattle.tc_work.specs.Settling.{TellsFiles}
use Rattle.tc_work.specs.declared.fault.EngineFault.{EngineFault}
use Rattle.tc_work.specs.declared.fault.EngineFault.TheVariants as engine
use Rattle.tc_words.specs.declared.run.Options.{Options}
use Rattle.tc_keeper.specs.Calls.{faults_at, IsSpentAt, MayBeAsked}
use Rattle.tc_server.specs.Ending.{limits_of, policy_asked}
use Rattle.tc_keeper.specs.Faults.{fault_of_engine, IfDisk, IsNoDamage, NoneFell, OneRose}
use Rattle.tc_server.specs.KitCauses.{nothing_met, HasLastGeneration, IsJudged}
use Rattle.tc_server.specs.OverFiles.{IsHere, KeepsOpened}
use Rattle.tc_keeper.specs.Places.{EachFrom}
use Rattle.tc_keeper.specs.declared.fault.RunFault.{RunFault}
use Rattle.tc_keeper.specs.declared.fault.RunFault.TheVariants.{Usage, Read, Write, Spent, Disk as DiskFault, Damaged, Memory, Layout}

-- ---- a partition that was opened

-- It is set up by the options, and may be asked. Nothing is in its tables or staged, no job is out, and the reader's watch is at
-- home.
pub record IsBegun {S D F W : Type 0} (eyes : Eyes S D F W) (options : Options) (e : WithJobs S D F W) : Type 0 where
  pub ready : MayBeAsked (told_of eyes e) e.engine.part
  pub unstaged : (told_of eyes e).staged ≡ []
  pub limits : e.engine.part.limits ≡ limits_of options
  pub memory : e.engine.part.memory ≡ options.memory
  pub policy : e.engine.policy ≡ policy_asked options
  pub alone : e.jobs ≡ no_jobs
  pub unsealed : e.engine.part.sealed ≡ None
  pub empty : e.engine.part.active ≡ []
  pub reader : is_some e.engine.part.reader ≡ true

-- The engine of this partition, whose kit came with these files and counts.
pub record IsOpened {S D F W : Type 0} (eyes : Eyes S D F W) (options : Options) (here : Partition) (came : List Disk) (counted : KitFaults) (e : WithJobs S D F W) : Type 0 where
  pub begun : IsBegun eyes options e
  pub is_here : (settings e).here ≡ here
  pub opened : IfTold came (λ disk. (cs : List Content) (logs : List (List PlainWrite)) → DiskOpens here disk cs logs → IsOpenedAs here cs logs (told_of eyes e))
  pub passed : IfTold came (ArePassed here)
  pub none_fell : NoneFell counted (faults_at eyes.counts e)

-- Each is the engine of the partition of its number, of as many as the options say.
abbrev pub AreOpened : {S D F W : Type 0} → Eyes S D F W → Options → (ℕ → List Disk) → (ℕ → KitFaults) → List (WithJobs S D F W) → Type 0
AreOpened eyes options files came es = EachFrom (λ p e. IsOpened eyes options (partition_at p options.partitions) (files p) (came p) e) 0 es

-- ---- a partition that was not

-- its fault is one of the opening of this partition
abbrev pub IsOfOpening : Partition → RunFault → Type 0
IsOfOpening here Usage = ⊥
IsOfOpening here Read = ⊥
IsOfOpening here (Write n) = ⊥
IsOfOpening here (DiskFault p) = p ≡ here.number
IsOfOpening here (Damaged p damage) = p ≡ here.number
IsOfOpening here (Layout p found found_of asked_of) = (p ≡ here.number) × (asked_of ≡ here.count)
IsOfOpening _ _ = Unit {0}

-- where files are lawful, this holds
abbrev pub IfLawful : Partition → List Disk → Type 0 → Type 0
IfLawful here came P = IfTold came (λ disk. (cs : List Content) (logs : List (List PlainWrite)) → DiskOpens here disk cs logs → P)

-- A kit that came with these files and counts is given back with those, since its partition was not opened, by this fault. No file
-- is out.
pub record IsGivenBack {F : Type 0} (content : F → Option (List ℕ)) (name : F → FileName) (here : Partition) (came : List Disk) (counted : KitFaults) (fault : RunFault) (disks : List Disk) (counts : KitFaults) : Type 0 where
  pub of : IsOfOpening here fault
  pub home : IfTold disks AreIn
  pub keeps : KeepsOpened here came disks
  pub sound : IfLawful here came (IsNoDamage None fault × IsHere None fault)
  pub judged : IfTold came (λ disk. IsJudged nothing_met content name here disk (Some fault))
  pub untouched : IsUntouched here came disks
  pub spent : fault ≡ Spent → IfTold came (λ disk. Passes here disk AreSpent)
  pub none_fell : NoneFell counted counts
  pub disk : IfDisk fault (λ p. OneRose counted counts)

-- The kit of the partition of a number was not given: the faults of the shelf rose, or memory was wanting.
pub record IsNotGiven (rose : Type 0) (p : ℕ) (fault : RunFault) : Type 0 where
  pub is : (fault ≡ DiskFault p) ⊎ (fault ≡ Memory)
  pub cause : fault ≡ DiskFault p → rose

-- ---- a partition that is closed

-- What is left of the files of an engine that was closed, once its jobs had ended, and what its watches counted. No file is out. Of
-- one that may be told to be a part each picture keeps what it stored, or of one that failed what it kept. Of one that ended
-- well each picture opens as so few components that the policy picks none, and as its log. A fault with which it ended is one of a
-- job that it waited for: damage was met in its part, and none is where its files are told. What it listed was its own.
pub record IsClosed {S D F W : Type 0} (eyes : Eyes S D F W) (size : D → ℕ) (e : WithJobs S D F W) (outcome : Result (Unit {0}) EngineFault) (disks : List Disk) (counted : KitFaults) : Type 0 where
  pub home : IfTold disks AreIn
  pub keeps : (p : PartView) → IsPart (told_of eyes e) p → works_of eyes e p → IfTold disks (KeepsStore p.part (store_of p) None)
  pub failed : (here : Partition) (pairs : Pairs) (frame : Option (List PlainWrite)) → HasFailedKeeping (works_of eyes e) (told_of eyes e) here pairs frame → IfTold disks (KeepsStore here pairs frame)
  pub opens : (p : PartView) → IsPart (told_of eyes e) p → works_of eyes e p → OnOk outcome (EndsSmall p.part e.engine.policy (size e.engine.part.log.device) disks)
  pub last : IsSpentAt (told_of eyes e) e.engine.part → IfTold disks HasLastGeneration
  pub none_fell : NoneFell (faults_at eyes.counts e) counted
  pub disk : IsErrOf outcome engine.Disk → OneRose (faults_at eyes.counts e) counted
  pub own : AreOwnComponents eyes.content e.engine.part.number e.engine.part.count e.engine.part.list
  pub damaged : IfErr outcome (λ fault. IfEngineDamaged fault (HasMetDamage eyes.content eyes.history e.engine.part))
  pub undamaged : (p : PartView) → IsPart (told_of eyes e) p → TellsFiles (told_of eyes e) → works_of eyes e p → IfErr outcome (λ fault. IfEngineDamaged fault (λ damage. ⊥))
  pub unspent : IsErrOf outcome engine.Spent → ⊥

-- The fault with which engines ended, of which one ended so, and those of greater numbers by this fault, or by none: that of the
-- least.
abbrev pub fault_before : ℕ → Result (Unit {0}) EngineFault → Option RunFault → Option RunFault
fault_before p (Ok done) behind = behind
fault_before p (Err fault) behind = Some (fault_of_engine p fault)

-- that of all; the first of them has this number
abbrev pub least_fault : ℕ → List (Result (Unit {0}) EngineFault) → Option RunFault
least_fault p [] = None
least_fault p (outcome ∷ more) = fault_before p outcome (least_fault (suc p) more)

-- How a run was answered whose lines were answered so, and whose scan at the end had this fault, or none. A fault of the lines came
-- first.
abbrev pub answer_behind : Result (Unit {0}) RunFault → Option RunFault → Result (Unit {0}) RunFault
answer_behind (Err fault) ended = Err fault
answer_behind (Ok done) (Some fault) = Err fault
answer_behind (Ok done) None = Ok done

-- How a run ends whose lines were answered so, and whose engines ended by this fault, or by none. A fault of the lines came first.
abbrev pub fault_behind : Result (Unit {0}) RunFault → Option RunFault → Option RunFault
fault_behind (Err fault) ended = Some fault
fault_behind (Ok done) ended = ended
