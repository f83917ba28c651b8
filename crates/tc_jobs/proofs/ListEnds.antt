-- The last generation of a list with one component more.
use Rattle.std.proofs.Common.{◌≡◌, ℕ, List, [], ◌∷◌, ◌++◌, refl}
use Rattle.tc_component.specs.Loading.{ComponentState}
use Rattle.tc_list.specs.Intervals.{last_after}

pub last_pushed : {F : Type 0} (g : ℕ) (cs : List (ComponentState F)) (c : ComponentState F) → last_after g (cs ++ c ∷ []) ≡ c.index.head.to
last_pushed g [] c = refl
last_pushed g (d ∷ cs) c = last_pushed d.index.head.to cs c
