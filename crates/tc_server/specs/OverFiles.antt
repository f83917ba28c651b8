-- A run over the files of a shelf: the world in which it begins, how it ends, and what is left of the files of each partition.
use Rattle.std.specs.Prelude.{◌≡◌, ◌≤◌, ◌<◌, ◌⊎◌, ◌+◌, ℕ, Bool, true, List, [], ◌∷◌, length, All, Option, Some, None, IfSome}
use Rattle.std.specs.Io.KnownBytes.{Keeps}
use Rattle.tc_keeper.specs.Standing.{partition_at, IsSeen}
use Rattle.tc_store.specs.Disk.{Disk, IsPictureOf, Picture}
use Rattle.tc_store.specs.Moments.{IfTold}
use Rattle.tc_store.specs.Pictures.{LeavesPictures}
use Rattle.tc_lsm_model.specs.Contents.{Content, Partition}
use Rattle.tc_lsm_model.specs.Lists.{last_of}
use Rattle.tc_machine.specs.Pictures.{Opens, Recovers, logs_size, recovered}
use Rattle.tc_machine.specs.Steps.{nothing_held}
use Rattle.tc_part_model.specs.Leaving.{KeepsStore}
use Rattle.tc_plain_model.specs.Room.{Limits}
use Rattle.tc_plain_model.specs.Store.{Store}
use Rattle.tc_plain_model.specs.Writes.{Pairs, Write as PlainWrite}
use Rattle.tc_recover.specs.Lawful.{DiskOpens}
use Rattle.tc_open.specs.BeingOpened.{AreIn}
use Rattle.tc_run_model.specs.World.{World, first_world, store_at}
use Rattle.tc_run_model.specs.Course.{Ending, finished, input_failed, input_spent, output_failed, stopped, unopened, behind, Ran, Shown, worlds_left}
use Rattle.tc_server.specs.Ending.{limits_of, RunsOver}
use Rattle.tc_keeper.specs.Faults.{IsNoDamage}
use Rattle.tc_keeper.specs.OwnKeys.{AreOwn}
use Rattle.tc_keeper.specs.Places.{EachFrom}
use Rattle.tc_keeper.specs.Sight.{whole_of, IfKnown, Sight}
use Rattle.tc_keeper.specs.declared.fault.RunFault.{RunFault}
use Rattle.tc_keeper.specs.declared.fault.RunFault.TheVariants.{Usage, Read, Write, Spent, Disk as DiskFault, Damaged, Memory, Layout}
use Rattle.tc_words.specs.Options.{options_asked}
use Rattle.tc_words.specs.declared.asked.Invocation.{Invocation}
use Rattle.tc_words.specs.declared.run.Options.{Options}

-- ---- the first world

-- The files of a partition open as these components and logs, in which this is stored, with the names that are taken.
pub record OpensWith (here : Partition) (disk : Disk) (stored : Store) : Type 0 where
  pub contents : List Content
  pub logs : List (List PlainWrite)
  pub opens : DiskOpens here disk contents logs
  pub is : stored ≡ recovered contents logs

-- where they are told
abbrev pub OpensAs : Partition → List Disk → Store → Type 0
OpensAs here [] stored = ⊥
OpensAs here (disk ∷ past) stored = OpensWith here disk stored

-- A world over the files of so many partitions: each stores what its files open as, or the one of this number does, whatever is in
-- the files of others. Where all are known they have keys of their own alone; what one keeps by itself asks nothing of its keys.
pub record OpenAs (limits : Limits) (count : ℕ) (files : ℕ → List Disk) (only : Option ℕ) (w : World) : Type 0 where
  pub stores : List Store
  pub counted : length stores ≡ count
  pub each : EachFrom (λ p stored. IsSeen only p → OpensAs (partition_at p count) (files p) stored) 0 stores
  pub own : only ≡ None → EachFrom (λ p stored. AreOwn count p stored.pairs) 0 stores
  pub world : w ≡ first_world limits stores

-- What is known where a run begins over these files. Nothing is known where they are not told, and nothing is said of a partition of
-- which no picture is lawful.
abbrev pub BeginsAs : Limits → ℕ → (ℕ → List Disk) → Sight → Type 0
BeginsAs limits count files first = IfKnown first (OpenAs limits count files)

abbrev pub BeginsFor : Option Invocation → (ℕ → List Disk) → Sight → Type 0
BeginsFor (Some asked) files first = BeginsAs (limits_of (options_asked asked)) (options_asked asked).partitions files first
BeginsFor None files first = Unit {0}

-- how many partitions are asked for, where the words are a command line
abbrev pub partitions_asked : Option Invocation → ℕ
partitions_asked (Some asked) = (options_asked asked).partitions
partitions_asked None = 0

-- ---- how a run ends

-- Before a line is read a partition may not be opened. Of a run that spent its numbers it is the bytes of the input, or a
-- generation.
abbrev pub EndsOver : Option RunFault → Ending → Type 0
EndsOver None ending = ending ≡ finished
EndsOver (Some Usage) ending = ⊥
EndsOver (Some Read) ending = ending ≡ input_failed
EndsOver (Some (Write n)) ending = ending ≡ output_failed n
EndsOver (Some Spent) ending = (ending ≡ input_spent) ⊎ ((ending ≡ stopped) ⊎ (ending ≡ unopened))
EndsOver (Some (DiskFault p)) ending = (ending ≡ stopped) ⊎ (ending ≡ unopened)
EndsOver (Some (Damaged p damage)) ending = (ending ≡ stopped) ⊎ (ending ≡ unopened)
EndsOver (Some Memory) ending = (ending ≡ stopped) ⊎ (ending ≡ unopened)
EndsOver (Some (Layout p found found_of asked_of)) ending = ending ≡ unopened

-- it is not that of a file of another partition, in one that is looked at
abbrev pub IsHere : Option ℕ → RunFault → Type 0
IsHere only (Layout p found found_of asked_of) = IsSeen only p → ⊥
IsHere _ _ = Unit {0}

-- ---- what is left of the files

-- what the partition of a number stores in one of these worlds
abbrev pub IsStoredInOne : ℕ → List World → Pairs → Type 0
IsStoredInOne p [] pairs = ⊥
IsStoredInOne p (w ∷ ws) pairs = (pairs ≡ (store_at p w).pairs) ⊎ IsStoredInOne p ws pairs

-- The exit clause for the partition of a number, of so many: no file is out, each picture that a stop leaves of its files is
-- lawful, and what is stored in it is what the partition stores in one of these worlds. The schema of its newest component is that
-- of the documents live in its components, since it is lawful.
abbrev pub LeavesOneOf : ℕ → List World → ℕ → List Disk → Type 0
LeavesOneOf count worlds p disks =
    IfTold disks (λ disk. AreIn disk × LeavesPictures nothing_held (λ picture. Recovers (partition_at p count) picture (IsStoredInOne p worlds)) disk)

-- of each kit that is given back, each by itself, or of that of the one partition that is known
abbrev pub LeaveOneOf : Option ℕ → ℕ → List World → List (List Disk) → Type 0
LeaveOneOf only count worlds kits = EachFrom (λ p left. IsSeen only p → LeavesOneOf count worlds p left) 0 kits

-- Where the files of a partition were lawful as they came, they keep what they held, whatever is in those of others.
abbrev pub KeepsOpened : Partition → List Disk → List Disk → Type 0
KeepsOpened here came disks =
    IfTold came (λ disk. (cs : List Content) (logs : List (List PlainWrite)) → DiskOpens here disk cs logs
    → IfTold disks (λ left. AreIn left × KeepsStore here (recovered cs logs).pairs None left))

-- A picture of files that were left small: it opens as at most eight components, which are fewer than make some be merged, and as
-- logs that have together fewer bytes than make a table be sealed. Where all writes were flushed none of the logs has a write, and
-- so no frame.
pub record OpensSmall (here : Partition) (memory merge : ℕ) (flushed : Bool) (picture : Picture) : Type 0 where
  pub contents : List Content
  pub logs : List (List PlainWrite)
  pub opens : Opens here picture contents logs
  pub few : length contents ≤ 8
  pub merged : length contents < merge
  pub short : logs_size picture (last_of contents + 1) logs < memory
  pub no_frame : flushed ≡ true → All (λ ws. ws ≡ []) logs

abbrev pub LeavesSmall : Options → Bool → ℕ → List Disk → Type 0
LeavesSmall options flushed p disks = IfTold disks (LeavesPictures nothing_held (OpensSmall (partition_at p options.partitions) options.memory options.merge flushed))

-- the same of each kit, or of that of the one partition that is known
abbrev pub LeaveSmall : Option ℕ → Options → Bool → List (List Disk) → Type 0
LeaveSmall only options flushed kits = EachFrom (λ p left. IsSeen only p → LeavesSmall options flushed p left) 0 kits

-- A run for these options over files, from what is known of them, of whose replies so much is shown, that ended by this fault or by
-- none, and gave these files back, in ascending number of the partition. Of a partition that is known nothing is damaged, of
-- another partition, or of another number of partitions. No line is read before all kits have come. A partition that is known is left
-- as the replies say, also where it alone is. Where no line was read each partition keeps what it held. Where the run ended by none
-- the files are left small: no log has a frame where a flush or the schema was asked for, and nothing was written since.
pub record RanOver (shown : Shown) (fault : Option RunFault) (first : Sight) (options : Options) (files : ℕ → List Disk) (left left' taken taken' : Option (List ℕ)) (kits : List (List Disk)) : Type 0 where
  pub ending : Ending
  pub by : EndsOver fault ending
  pub ran : Ran shown (whole_of first) options.window ending left left' taken taken'
  pub sound : IfKnown first (λ only w. IfSome fault (IsNoDamage only) × IfSome fault (IsHere only))
  pub needs : length kits < options.partitions → ending ≡ unopened
  pub exits : IfKnown first (λ only w. LeaveOneOf only options.partitions (worlds_left ending w ran.answered ran.last) kits)
  pub kept : ending ≡ unopened → EachFrom (λ p. KeepsOpened (partition_at p options.partitions) (files p)) 0 kits
  pub small : IfKnown first (λ only w. fault ≡ None → LeaveSmall only options (behind w ran.answered).flushed kits)

-- what was asked for, with its options
abbrev pub AskedOver : Invocation → Option RunFault → Sight → (ℕ → List Disk) → Option (List ℕ) → Option (List ℕ) → Option (List ℕ) → Option (List ℕ) → List (List Disk) → Type 0
AskedOver asked fault first files left left' taken taken' kits =
    RunsOver asked left left' (λ shown unread unread'. RanOver shown fault first (options_asked asked) files unread unread' taken taken' kits)

-- The same for words; where they are no command line nothing is read or written, and no kit is asked for.
abbrev pub ServedOver : Option Invocation → Option RunFault → Sight → (ℕ → List Disk) → Option (List ℕ) → Option (List ℕ) → Option (List ℕ) → Option (List ℕ) → List (List Disk) → Type 0
ServedOver (Some asked) fault first files left left' taken taken' kits = AskedOver asked fault first files left left' taken taken' kits
ServedOver None (Some Usage) first files left left' taken taken' kits = Keeps left left' × Keeps taken taken' × (kits ≡ [])
ServedOver None (Some Memory) first files left left' taken taken' kits = Keeps left left' × Keeps taken taken' × (kits ≡ [])
ServedOver None _ first files left left' taken taken' kits = ⊥

-- ---- one run behind another

-- A stop left this picture of files that were given back, and it is what comes now, where both are told.
abbrev pub IsFoundOf : List Disk → List Disk → Type 0
IsFoundOf [] came = ⊥
IsFoundOf (disk ∷ past) [] = ⊥
IsFoundOf (disk ∷ past) (next ∷ before) = (picture : Picture) × IsPictureOf nothing_held disk picture × IsPictureOf nothing_held next picture

-- of each partition, or of the one of this number
abbrev pub AreFoundOf : Option ℕ → List (List Disk) → (ℕ → List Disk) → Type 0
AreFoundOf only kits files = EachFrom (λ p left. IsSeen only p → IsFoundOf left (files p)) 0 kits

-- A run begins over these files in a world of which the partitions that are known store what they do in one of these worlds.
pub record MayFollow (limits : Limits) (count : ℕ) (files : ℕ → List Disk) (only : Option ℕ) (worlds : List World) : Type 0 where
  pub first : World
  pub begins : OpenAs limits count files only first
  pub stored : EachFrom (λ p part. IsSeen only p → IsStoredInOne p worlds part.now.pairs) 0 first.parts
