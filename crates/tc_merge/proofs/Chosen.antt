-- The input whose entry is pushed: it is passed before the others, and its record is read behind that.
use Rattle.std.proofs.Common.{◌≡◌, ◌∙◌, ℕ, List, map, set, ap}
use Rattle.std.specs.Prelude.{All, slice_index_or}
use Rattle.std.proofs.lemmas.List.{set-get_or}
use Rattle.std.proofs.lemmas.Option.{get_or_from_slice_get}
use Rattle.tc_component.specs.Loading.{ComponentState}
use Rattle.tc_component.specs.Spelling.{IsIndex}
use Rattle.tc_merge.specs.declared.input.Next.{Next}
use Rattle.tc_merge.specs.Inputs.{InputState, passed, IsNext}
use Rattle.tc_merge.proofs.InputSteps.{passed_again, slice_get-map}
use Rattle.tc_merge.proofs.SetBack.{all_at, map_again}
use Rattle.tc_merge.proofs.UpTo.{passed_component}

module _ {F : Type 0} (inputs : List (InputState F)) (next : Next) (is : IsNext inputs next) (lawful : All (λ c. IsIndex c.index) (map (λ i. i.component) inputs)) where
  pub chosen_is : (d : InputState F) → slice_index_or inputs next.input d ≡ is.input
  chosen_is d = get_or_from_slice_get inputs next.input is.input d is.here

  -- all are passed, though the chosen one was passed before
  pub all_behind : (behind : List (InputState F)) (d new : InputState F) → new ≡ passed next.key (slice_index_or inputs next.input d) → behind ≡ map (passed next.key) (set inputs next.input new) → behind ≡ map (passed next.key) inputs
  all_behind behind d new same passed_is =
      passed_is
      ∙ ap (λ i. map (passed next.key) (set inputs next.input i)) (same ∙ ap (passed next.key) (chosen_is d))
      ∙ map_again (passed next.key) inputs next.input is.input is.here (passed_again next.key is.input (all_at (λ (c : ComponentState F). IsIndex c.index) (λ i. i.component) inputs next.input is.input lawful is.here) is.ahead)

  -- and has the component that it had
  pub same_component : (behind : List (InputState F)) (d : InputState F) → behind ≡ map (passed next.key) inputs → (slice_index_or behind next.input d).component ≡ is.input.component
  same_component behind d passed_is =
      ap (λ (xs : List (InputState F)). (slice_index_or xs next.input d).component) passed_is
      ∙ ap (λ (i : InputState F). i.component) (get_or_from_slice_get (map (passed next.key) inputs) next.input (passed next.key is.input) d (slice_get-map (passed next.key) inputs next.input is.input is.here))
      ∙ passed_component next.key is.input

-- what is put back as it was changes nothing
pub put_back : {X : Type 0} (xs : List X) (n : ℕ) (d new : X) → new ≡ slice_index_or xs n d → set xs n new ≡ xs
put_back xs n d new same = ap (set xs n) same ∙ set-get_or xs n d
