-- Which files a part has in its store, by their names alone, whatever is in them.
use Rattle.std.specs.Prelude.{◌≡◌, ◌≤◌, ◌+◌, ◌-◌, ◌⊎◌, ℕ, Bool, true, false, List, [], ◌∷◌, take, drop, Option, Some, None}
use Rattle.tc_store.specs.declared.file_name.FileName.{FileName}
use Rattle.tc_store.specs.declared.file_name.FileName.TheVariants.{Component, Log}
use Rattle.tc_store.specs.Disk.{Disk, IsThere}
use Rattle.tc_store.specs.Moments.{IfTold}
use Rattle.tc_lsm_model.specs.Merges.{Run}
use Rattle.tc_part_model.specs.PartState.{Told, ToldComponent}

-- ---- intervals

-- each interval begins behind the one before, the first behind this generation, and none ends before it begins
abbrev pub FollowInOrder : ℕ → List ToldComponent → Type 0
FollowInOrder generation [] = Unit {0}
FollowInOrder generation (c ∷ cs) = (c.index.head.from ≡ generation + 1) × (c.index.head.from ≤ c.index.head.to) × FollowInOrder c.index.head.to cs

-- the generations lie within the interval of one of these components
abbrev pub LieWithin : ℕ → ℕ → List ToldComponent → Type 0
LieWithin from to [] = ⊥
LieWithin from to (c ∷ cs) = ((c.index.head.from ≤ from) × (to ≤ c.index.head.to)) ⊎ LieWithin from to cs

-- one of these components begins no later than this generation
abbrev pub BeginBy : ℕ → List ToldComponent → Type 0
BeginBy from [] = ⊥
BeginBy from (c ∷ cs) = (c.index.head.from ≤ from) ⊎ BeginBy from cs

-- one of them ends no earlier than this generation
abbrev pub EndFrom : ℕ → List ToldComponent → Type 0
EndFrom to [] = ⊥
EndFrom to (c ∷ cs) = (to ≤ c.index.head.to) ⊎ EndFrom to cs

-- ---- names

-- the component of the flush that is out, where this is the generation of the active log
abbrev pub AreOfFlush : Bool → ℕ → ℕ → ℕ → Type 0
AreOfFlush false generation from to = ⊥
AreOfFlush true generation from to = (from ≡ generation - 1) × (to ≡ generation - 1)

-- the generations lie within those of the run that is being merged
abbrev pub AreOfMerge : Option Run → List ToldComponent → ℕ → ℕ → Type 0
AreOfMerge None cs from to = ⊥
AreOfMerge (Some run) cs from to = BeginBy from (take run.length (drop run.first cs)) × EndFrom to (take run.length (drop run.first cs))

-- A log is the active one or an older one. A component lies within a listed one, or a job makes it.
abbrev pub IsOwn : Told → FileName → Type 0
IsOwn t (Component from to) = LieWithin from to t.components ⊎ (AreOfFlush t.flushing t.generation from to ⊎ AreOfMerge t.merging t.components from to)
IsOwn t (Log generation) = generation ≤ t.generation

-- each file that is there has such a name
abbrev pub HasOnlyOwn : Told → Disk → Type 0
HasOnlyOwn t disk = (name : FileName) → IsThere (disk name) → IsOwn t name

-- Where the store tells its files, each has a name of the part's own, and the listed intervals follow each other.
abbrev pub HasOwnFiles : Told → Type 0
HasOwnFiles t = IfTold t.disks (λ disk. FollowInOrder 0 t.components × HasOnlyOwn t disk)

-- so it goes on
abbrev pub KeepsOwnFiles : Told → Told → Type 0
KeepsOwnFiles t u = HasOwnFiles t → HasOwnFiles u
