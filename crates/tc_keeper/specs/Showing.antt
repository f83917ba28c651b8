-- What is shown of a partition, by its engine: when it was opened, and behind a call that moves documents.
use Rattle.std.specs.Prelude.{◌≡◌, ◌⊎◌, ℕ, List, [], ◌∷◌, false, None, Option}
use Rattle.tc_component.specs.Loading.{ComponentState}
use Rattle.tc_keeper.specs.WithJobs.{WithJobs}
use Rattle.tc_part.specs.OwnComponents.{AreOwnComponents}
use Rattle.tc_shown.specs.Shown.{IsPlaced, ShownState}
use Rattle.tc_view.specs.declared.happened.Happened.{Happened}
use Rattle.tc_view.specs.declared.happened.Happened.TheVariants.{Placed, Wrote}

module _ {S D F W : Type 0} where
  -- it begins with the components that are listed, and nothing over them
  abbrev pub IsShownFirst : WithJobs S D F W → ShownState F W → Type 0
  IsShownFirst e s = s.history ≡ Placed e.engine.part.list None ∷ []

  -- documents are shown where they lie, where the active table has none; else what is shown stays
  abbrev pub IsPlacedOver : WithJobs S D F W → ShownState F W → ShownState F W → Type 0
  IsPlacedOver e old new = (new ≡ old) ⊎ ((e.engine.part.active ≡ []) × IsPlaced e.engine.part.list e.engine.part.sealed old new)

-- where no call failed by now, none had, and the same lenses read it
abbrev pub IsReadAsBefore : {F W : Type 0} → ShownState F W → ShownState F W → Type 0
IsReadAsBefore old new = new.failed ≡ false → (old.failed ≡ false) × (new.book ≡ old.book)

-- ---- whose components are shown

-- this holds of the components of each change that says where documents lie
abbrev pub AllPlaced : {F W : Type 0} → (List (ComponentState F) → Type 0) → List (Happened F W) → Type 0
AllPlaced P [] = Unit {0}
AllPlaced P (Wrote writes ∷ more) = AllPlaced P more
AllPlaced P (Placed list sealed ∷ more) = P list × AllPlaced P more

-- Unless a call failed, all components that were ever shown are this partition's own.
abbrev pub ShowsOwn : {F W : Type 0} → (F → Option (List ℕ)) → ℕ → ℕ → ShownState F W → Type 0
ShowsOwn content number count s = s.failed ≡ false → AllPlaced (AreOwnComponents content number count) s.history

-- those of its engine's partition
abbrev pub ShowsOwnOf : {S D F W : Type 0} → (F → Option (List ℕ)) → ℕ → WithJobs S D F W → ShownState F W → Type 0
ShowsOwnOf content p e s = ShowsOwn content e.engine.part.number e.engine.part.count s

-- where they were before, they are now
abbrev pub StaysOwn : {F W : Type 0} → (F → Option (List ℕ)) → ℕ → ℕ → ShownState F W → ShownState F W → Type 0
StaysOwn content number count old new = ShowsOwn content number count old → ShowsOwn content number count new
