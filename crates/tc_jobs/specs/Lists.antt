-- Lists of components of one partition, whose names go on from one another.
use Rattle.std.specs.Prelude.{◌≡◌, ℕ, List, [], ◌∷◌, All, map}
use Rattle.tc_model.specs.Document.{Name}
use Rattle.tc_model.specs.Dictionary.{Extends}
use Rattle.tc_store.specs.declared.file_name.FileName.{FileName}
use Rattle.tc_component.specs.Loading.{ComponentState}
use Rattle.tc_component.specs.Spelling.{name_of}
use Rattle.tc_merge.specs.Merging.{GrowNames, newest_names}

-- the names of the files, the oldest first
abbrev pub file_names : {F : Type 0} → List (ComponentState F) → List FileName
file_names list = map (λ c. name_of c.index.head) list

-- a component of the partition of this number among so many
abbrev pub IsOf : {F : Type 0} → ℕ → ℕ → ComponentState F → Type 0
IsOf number count c = (c.index.head.number ≡ number) × (c.index.head.count ≡ count)

-- components of that partition, and the names of each go on from those of the one before
pub record IsListOf {F : Type 0} (number count : ℕ) (list : List (ComponentState F)) : Type 0 where
  pub each : All (IsOf number count) list
  pub names : GrowNames [] list

-- the names of the first of these, if there is one, go on from these
abbrev pub FirstExtends : {F : Type 0} → List Name → List (ComponentState F) → Type 0
FirstExtends names [] = Unit {0}
FirstExtends names (c ∷ list) = Extends c.index.names names

-- its names go on from those of the older ones, and those of the newer ones from its
abbrev pub GoesBetween : {F : Type 0} → List (ComponentState F) → ComponentState F → List (ComponentState F) → Type 0
GoesBetween older c newer = Extends c.index.names (newest_names [] older) × FirstExtends c.index.names newer
