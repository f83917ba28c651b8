-- Where the document of a key is in a list of components.
use Rattle.std.specs.Prelude.{◌≡◌, ◌+◌, ◌⊎◌, ℕ, List, All, drop, slice_get, Some}
use Rattle.tc_component.specs.Columns.{IsFound}
use Rattle.tc_component.specs.Loading.{ComponentState}
use Rattle.tc_component.specs.declared.found.Found.{Found}
use Rattle.tc_component.specs.declared.found.Found.TheVariants.{Absent as NotFound, Gone, At as FoundAt}
use Rattle.tc_list.specs.declared.whereabouts.Whereabouts.{Whereabouts}
use Rattle.tc_list.specs.declared.whereabouts.Whereabouts.TheVariants.{Absent, At}

-- none of these components has an entry of a key
abbrev pub HaveNone : {F : Type 0} → List (ComponentState F) → ℕ → Type 0
HaveNone cs key = All (λ c. IsFound c.index.slots key NotFound) cs

-- the component at a position has this of a key, and all newer ones have no entry of it
pub record IsNewest {F : Type 0} (cs : List (ComponentState F)) (key at : ℕ) (found : Found) : Type 0 where
  pub component : ComponentState F
  pub here : slice_get cs at ≡ Some component
  pub has : IsFound component.index.slots key found
  pub newer : HaveNone (drop (at + 1) cs) key

-- It is nowhere where no component has an entry of the key, or the newest one that has says that it is gone; else it is
-- where the newest one has it.
abbrev pub IsWhere : {F : Type 0} → List (ComponentState F) → ℕ → Whereabouts → Type 0
IsWhere cs key Absent = HaveNone cs key ⊎ ((at : ℕ) × IsNewest cs key at Gone)
IsWhere cs key (At component place) = IsNewest cs key component (FoundAt place)
