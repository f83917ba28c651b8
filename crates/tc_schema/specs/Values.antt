-- The JSON value of a place, part by part, and its text.
use Rattle.std.specs.Prelude.{ℕ, ◌==◌, Bool, true, false, List, [], ◌∷◌, ◌++◌, codes, if◌then◌else◌}
use Rattle.serde_json.specs.Data as json
use Rattle.serde_json.specs.Written.{compact_text, comma_if}
use Rattle.tc_model.specs.Document.{Name}
use Rattle.tc_schema_model.specs.Counted.{Counters, total, Below, Fields}
use Rattle.tc_schema_model.specs.SchemaTree.{item_node_of, field_nodes_of}
use Rattle.tc_schema_model.specs.SchemaText.{count_member, kind_member, array_text, object_text, item_text, fields_text}
use Rattle.tc_schema.specs.Writing.{kinds_in}

-- a kind of this name, and where it is counted
abbrev pub named_text : List ℕ → ℕ → json.Data
named_text kind n = json.object (count_member n (kind_member kind json.no_members))

abbrev pub named_values : List ℕ → ℕ → List json.Data
named_values kind n = if n == 0 then [] else named_text kind n ∷ []

abbrev pub array_values : List Name → ℕ → Below → List json.Data
array_values names n b = if n == 0 then [] else array_text n (item_text names (item_node_of b)) ∷ []

abbrev pub object_values : List Name → ℕ → Fields → List json.Data
object_values names n fs = if n == 0 then [] else object_text n (fields_text names (field_nodes_of fs)) ∷ []

abbrev pub all_scalar_values : Counters → List json.Data
all_scalar_values c =
    named_values (codes "null") c.nulls ++ (named_values (codes "boolean") c.booleans ++ (named_values (codes "integer") c.integers ++ named_values (codes "text") c.texts))

-- kinds with a comma before each that something stands before, and whether something stands before what comes next
abbrev pub values_text : Bool → List json.Data → List ℕ
values_text later [] = []
values_text later (d ∷ ds) = comma_if later ++ (compact_text d ++ values_text true ds)

abbrev pub is_later : Bool → List json.Data → Bool
is_later later [] = later
is_later later (d ∷ ds) = true

-- the text of a number, and how that of each kind begins
abbrev pub number_text : ℕ → List ℕ
number_text n = compact_text (json.number (json.unsigned n))

abbrev pub count_front : Bool → ℕ → List ℕ
count_front later n = comma_if later ++ (codes "{\"count\":" ++ number_text n)

-- what stands around the kinds of a union
abbrev pub union_mark : List ℕ
union_mark = codes ",\"kind\":\"union\",\"kinds\":["

abbrev pub union_front : Counters → List ℕ
union_front c = if kinds_in c == 1 then [] else count_front false (total c) ++ union_mark

abbrev pub union_end : Counters → List ℕ
union_end c = if kinds_in c == 1 then [] else codes "]}"
