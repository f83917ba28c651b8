-- The first of the values that are reached.
use Rattle.std.proofs.Common.{◌≡◌, ◌∙◌, [], ◌∷◌, List, Option, Some, flat_map, option_to_list, ap, append-nil}
use Rattle.tc_model.specs.Document.{Document}
use Rattle.tc_request_model.specs.Request.{Hop}
use Rattle.tc_request_model.specs.Paths.{reached, hopped}
use Rattle.tc_path.specs.Reached.{first_in, first_reached}

-- what a hop and further hops reach
pub hop_then : (hop : Hop) (hops : List Hop) (d : Document) → first_reached (hop ∷ hops) (d ∷ []) ≡ first_reached hops (hopped hop d)
hop_then hop hops d = ap first_in (append-nil (flat_map (reached hops) (hopped hop d)))

-- the value that is first is the first one that is reached
pub first_of : (hops : List Hop) (o : Option Document) (d : Document) → o ≡ Some d → first_reached hops (option_to_list o) ≡ first_in (reached hops d)
first_of hops o d is = ap (λ v. first_reached hops (option_to_list v)) is ∙ ap first_in (append-nil (reached hops d))
