-- What a path reaches in a document.
use Rattle.std.specs.Prelude.{ℤ, pos, negsuc, List, [], ◌∷◌, flat_map, slice_get, option_to_list}
use Rattle.tc_model.specs.Tree.{array, object, listed_items}
use Rattle.tc_model.specs.Document.{Document, member_at}
use Rattle.tc_request_model.specs.Request.{Hop, to_name, to_place, to_each}

-- the item at a place, counted from 0: one, or none
abbrev pub at_place : ℤ → List Document → List Document
at_place (pos n) ds = option_to_list (slice_get ds n)
at_place (negsuc n) ds = []

-- the values that one hop reaches: a member, an item, or each item
abbrev pub hopped : Hop → Document → List Document
hopped (to_name name) (object ms) = option_to_list (member_at name ms)
hopped (to_place place) (array ds) = at_place place (listed_items ds)
hopped to_each (array ds) = listed_items ds
hopped hop d = []

-- the values that hops reach, one hop after the other; no hop reaches the document itself
abbrev pub reached : List Hop → Document → List Document
reached [] d = d ∷ []
reached (hop ∷ hops) d = flat_map (reached hops) (hopped hop d)
