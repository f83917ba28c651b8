-- Why a merge failed, and how its calls are counted.
use Rattle.std.specs.Prelude.{◌≡◌, ◌≤◌, ℕ, List, length, slice_get, Option, Some, IfSome}
use Rattle.tc_bytes.specs.Counts.{Rose}
use Rattle.tc_store.specs.Counted.{Counts}
use Rattle.tc_store.specs.declared.file_name.FileName.{FileName}
use Rattle.tc_component.specs.declared.found.Place.{Place}
use Rattle.tc_component.specs.Fetching.{IsPlace, record_place, length_at, record_at, IsRecordWithin}
use Rattle.tc_component.specs.Loading.{ComponentState}
use Rattle.tc_component.specs.Spelling.{Row, name_of, written_version}
use Rattle.tc_merge.specs.Merging.{rows_told}
use Rattle.tc_merge.specs.declared.fault.MergeFault.{MergeFault}
use Rattle.tc_merge.specs.declared.fault.MergeFault.TheVariants.{Damaged}

-- of damage this holds, by the file, the place and the bytes there
abbrev pub IfHarmed : MergeFault → (FileName → ℕ → List ℕ → Type 0) → Type 0
IfHarmed (Damaged file place bytes) P = P file place bytes
IfHarmed _ _ = Unit {0}

-- nothing was found damaged
abbrev pub IsHarmless : MergeFault → Type 0
IsHarmless fault = IfHarmed fault (λ file place bytes. ⊥)

-- The bytes stand at the place of an entry of a component, and are not what has to stand there; and they are the file's, if
-- it tells.
pub record IsHarmOf {F : Type 0} (content : F → Option (List ℕ)) (c : ComponentState F) (file : FileName) (place : ℕ) (bytes : List ℕ) : Type 0 where
  pub entry : Place
  pub there : IsPlace c.index.slots entry
  pub file_is : file ≡ name_of c.index.head
  pub place_is : place ≡ record_place c.index.slots entry.at
  pub long : length bytes ≡ length_at c.index.slots entry.at
  pub broken : IsRecordWithin c.index.version (length c.index.names) bytes → ⊥
  pub told : IfSome (content c.file) (λ whole. bytes ≡ record_at c.index.slots entry.at whole)

-- so of a component of a run
pub record IsHarmIn {F : Type 0} (content : F → Option (List ℕ)) (run : List (ComponentState F)) (file : FileName) (place : ℕ) (bytes : List ℕ) : Type 0 where
  pub at : ℕ
  pub component : ComponentState F
  pub here : slice_get run at ≡ Some component
  pub harm : IsHarmOf content component file place bytes

-- the row is that of an entry of a component of the run, and its record, if it has one, is of the form that is written, and of
-- numbers that the component has
pub record IsJudged {F : Type 0} (content : F → Option (List ℕ)) (run : List (ComponentState F)) (row : Row) : Type 0 where
  pub at : ℕ
  pub component : ComponentState F
  pub here : slice_get run at ≡ Some component
  pub entry : ℕ
  pub own : slice_get (rows_told content component) entry ≡ Some row
  pub form : IfSome row.1 (λ bytes. IsRecordWithin written_version (length component.index.names) bytes)

-- Calls, some of which may be reads. Where one failed for a fault, one was counted.
pub record IsWatched (Failed : Type 0) (old new : Counts) : Type 0 where
  pub faults : old.faults ≤ new.faults
  pub cause : Failed → Rose old.faults new.faults
