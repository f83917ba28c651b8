-- The rows that answer an ask: for each document, the values that its path reaches.
use Rattle.std.specs.Prelude.{ℕ, Bool, true, false, List, [], ◌∷◌, flat_map, Option, Some, None, if◌then◌else◌}
use Rattle.tc_model.specs.Document.{Document}
use Rattle.tc_request_model.specs.Request.{Ask}
use Rattle.tc_request_model.specs.Reply.{Row}
use Rattle.tc_plain_model.specs.Writes.{Pairs}
use Rattle.tc_request_model.specs.Paths.{reached}
use Rattle.tc_request_model.specs.Equal.{same_document}

-- one of the values is this document
abbrev pub is_among : Document → List Document → Bool
is_among d [] = false
is_among d (v ∷ vs) = if same_document v d then true else is_among d vs

-- the value that is asked for is among those that were reached, if one is asked for
abbrev pub meets : Option Document → List Document → Bool
meets None values = true
meets (Some d) values = is_among d values

-- the row of what was reached in the document of a key: none where nothing was, or not what is asked for
abbrev pub row_of : Option Document → ℕ → List Document → List Row
row_of equal_to n [] = []
row_of equal_to n (v ∷ vs) = if meets equal_to (v ∷ vs) then record { key = n; values = v ∷ vs } ∷ [] else []

-- the rows of stored documents, in ascending key
abbrev pub rows_over : Ask → Pairs → List Row
rows_over ask ps = flat_map (λ p. row_of ask.equal_to p.0 (reached ask.path p.1)) ps
