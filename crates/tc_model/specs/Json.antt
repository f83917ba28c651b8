-- Which document a JSON value means, and which JSON value a document is. Documents follow RFC 8259 as `serde_json`
-- reads it: of two members of one name the last value counts. A number that is not held as an `i64` means nothing.
use Rattle.std.specs.Prelude.{Bool, ℕ, List, Option, Some, None, option_map, option_and_then, is_some, if◌then◌else◌}
use Rattle.std.specs.Str.{is_utf8}
use Rattle.serde_json.specs.Data as json
use Rattle.serde_json.specs.Find.{as_i64, of_integer}
use Rattle.serde_json.specs.Read.{read}
use Rattle.tc_model.specs.Tree.{leaf, array, object, Items, no_items, item, Members, no_members, member}
use Rattle.tc_model.specs.Document.{Name, Document, Scalar, null, boolean, integer, text}

-- the JSON value that bytes spell
abbrev pub json_of : List ℕ → Option json.Data
json_of bytes = if is_utf8 bytes then read bytes else None

-- the document that a JSON value means, or none where a number is not held as an `i64`
abbrev mutual
  pub document_of : json.Data → Option Document
  document_of json.null = Some (leaf null)
  document_of (json.boolean b) = Some (leaf (boolean b))
  document_of (json.number n) = option_map (λ z. leaf (integer z)) (as_i64 n)
  document_of (json.string s) = Some (leaf (text s))
  document_of (json.array ds) = option_map array (items_meant ds)
  document_of (json.object ms) = option_map object (members_meant ms)

  pub items_meant : json.Items → Option (Items Name Scalar)
  items_meant json.no_items = Some no_items
  items_meant (json.item d ds) = option_and_then (λ t. option_map (item t) (items_meant ds)) (document_of d)

  pub members_meant : json.Members → Option (Members Name Scalar)
  members_meant json.no_members = Some no_members
  members_meant (json.member n d ms) = option_and_then (λ t. option_map (member n t) (members_meant ms)) (document_of d)

-- each number is held as an `i64`
abbrev pub is_whole : json.Data → Bool
is_whole d = is_some (document_of d)

-- the JSON value that a document is
abbrev pub scalar_data : Scalar → json.Data
scalar_data null = json.null
scalar_data (boolean b) = json.boolean b
scalar_data (integer z) = json.number (of_integer z)
scalar_data (text s) = json.string s

abbrev mutual
  pub data_of : Document → json.Data
  data_of (leaf s) = scalar_data s
  data_of (array xs) = json.array (items_data xs)
  data_of (object ms) = json.object (members_data ms)

  pub items_data : Items Name Scalar → json.Items
  items_data no_items = json.no_items
  items_data (item t ts) = json.item (data_of t) (items_data ts)

  pub members_data : Members Name Scalar → json.Members
  members_data no_members = json.no_members
  members_data (member n t ms) = json.member n (data_of t) (members_data ms)
