-- The fields of an object as members, in an order of their places.
use Rattle.std.specs.Prelude.{ℕ, List, [], ◌∷◌, slice_get, option_map, unwrap_or}
use Rattle.serde_json.specs.Data as json
use Rattle.tc_model.specs.Document.{Name}
use Rattle.tc_schema_model.specs.Counted.{Counted}
use Rattle.tc_schema_model.specs.SchemaTree.{node_of}
use Rattle.tc_schema_model.specs.SchemaText.{name_at, node_text}

-- the name of the field at a place, and its text
abbrev pub name_in : List Name → List (ℕ × Counted) → ℕ → Name
name_in names fs place = unwrap_or (option_map (λ f. name_at names f.0) (slice_get fs place)) []

abbrev pub text_in : List Name → List (ℕ × Counted) → ℕ → json.Data
text_in names fs place = unwrap_or (option_map (λ f. node_text names (node_of f.1)) (slice_get fs place)) json.null

-- elements as members, one behind the other
abbrev pub in_turn : {X : Type 0} → (X → Name) → (X → json.Data) → List X → json.Members
in_turn name text [] = json.no_members
in_turn name text (x ∷ xs) = json.member (name x) (text x) (in_turn name text xs)

abbrev pub members_in_order : List Name → List (ℕ × Counted) → List ℕ → json.Members
members_in_order names fs places = in_turn (name_in names fs) (text_in names fs) places
