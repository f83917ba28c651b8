-- The values of a record, and the first of those that hops reach.
use Rattle.std.specs.Prelude.{Bool, List, [], ◌∷◌, map, flat_map, Option, None, Some}
use Rattle.tc_model.specs.Document.{Name, Document, Scalar}
use Rattle.tc_request_model.specs.Request.{Hop}
use Rattle.tc_request_model.specs.Paths.{reached}
use Rattle.tc_request_model.specs.Rows.{is_among}
use Rattle.tc_record.specs.Preorder.{Token}
use Rattle.tc_record.specs.Walk.{Key}
use Rattle.tc_record.specs.Building.{document_read, HoldDocuments}
use Rattle.tc_compact.specs.Meant.{tokens_meant, levels_meant}

-- the value that the first token is or opens, where numbers mean names
abbrev pub value_at : List Name → List (Token Key Scalar) → Option Document
value_at names ts = document_read (tokens_meant names ts)

-- what is held from the first token on is lawful, where numbers mean names
abbrev pub IsLawful : List Name → List (Token Key Scalar) → Type 0
IsLawful names ts = HoldDocuments (levels_meant names ts)

abbrev pub first_in : {A : Type 0} → List A → Option A
first_in [] = None
first_in (x ∷ xs) = Some x

-- the first value that hops reach in documents, one document after the other
abbrev pub first_reached : List Hop → List Document → Option Document
first_reached hops ds = first_in (flat_map (reached hops) ds)

-- whether hops reach this document, from one of several
abbrev pub is_reached : Document → List Hop → List Document → Bool
is_reached d hops ds = is_among d (flat_map (reached hops) ds)

-- the values of several tokens, each the first of a value
abbrev pub values_at : List Name → List (List (Token Key Scalar)) → List (Option Document)
values_at names vs = map (value_at names) vs
