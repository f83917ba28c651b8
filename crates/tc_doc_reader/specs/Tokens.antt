-- Which document the tokens of a JSON text mean.
use Rattle.std.specs.Prelude.{ℕ, ◌+◌, List, [], ◌∷◌, Option, Some, option_map, option_and_then}
use Rattle.std.specs.Ordering.{match_ordering}
use Rattle.json.specs.Token.{Token}
use Rattle.json.specs.Json as json
use Rattle.serde_json.specs.Read.{of_json, converted}
use Rattle.tc_model.specs.Tree.{Items, no_items, item, Members, no_members, member}
use Rattle.tc_model.specs.Document.{Name, Document, Scalar, name_cmp}
use Rattle.tc_model.specs.Json.{document_of}

-- the document that a JSON value of a text means
abbrev pub document_in : json.Json → Option Document
document_in j = option_and_then document_of (of_json j)

abbrev pub items_in : json.Items → Option (Items Name Scalar)
items_in json.no_items = Some no_items
items_in (json.item j js) = option_and_then (λ t. option_map (item t) (items_in js)) (document_in j)

-- the members with this one, in the byte order of their names; a later value of a name replaces an earlier
abbrev pub with_member : Name → Document → Members Name Scalar → Members Name Scalar
with_member k t no_members = member k t no_members
with_member k t (member l u ms) = match_ordering (name_cmp k l) (member k t (member l u ms)) (member l t ms) (member l u (with_member k t ms))

-- the members found so far, with these put among them one after another
abbrev pub with_members : List (Name × Document) → Members Name Scalar → Members Name Scalar
with_members [] found = found
with_members (m ∷ ms) found = with_members ms (with_member m.0 m.1 found)

-- the same of the members of a JSON object
abbrev pub members_in : json.Members → Members Name Scalar → Option (Members Name Scalar)
members_in json.no_members found = Some found
members_in (json.member k j ms) found = option_and_then (λ t. members_in ms (with_member k t found)) (document_in j)

-- of the 127 levels that `serde_json` reads, those beyond the 33 of a line: its own, and the 32 of a document
abbrev pub spare_levels : ℕ
spare_levels = 94

-- the document at the front of tokens that nests within a room, and the tokens behind it
abbrev pub document_next : ℕ → List Token → Option (Document × List Token)
document_next room ts = converted document_in (json.value (room + spare_levels) ts)
