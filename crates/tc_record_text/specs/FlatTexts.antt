-- The text of items of an array that are objects of scalars, behind the first item.
use Rattle.std.specs.Prelude.{ℕ, List, [], ◌∷◌, ◌++◌, Some, map, option_map}
use Rattle.json.specs.Print.{quoted}
use Rattle.serde_json.specs.Written.{compact_text}
use Rattle.tc_model.specs.Document.{Name, Scalar}
use Rattle.tc_model.specs.Json.{scalar_data}
use Rattle.tc_record.specs.Building.{name_told}
use Rattle.tc_record.specs.Walk.{Key}
use Rattle.tc_compact.specs.Meant.{key_meant}
use Rattle.tc_record_text.specs.KeptLabels.{colon}
use Rattle.tc_record_text.specs.Listed.{comma}

abbrev pub brace : ℕ
brace = 123

abbrev pub end_brace : ℕ
end_brace = 125

-- the name that a label means, between quotes and with its escapes, and a colon
abbrev pub label_text : List Name → Key → List ℕ
label_text names k = quoted (name_told (option_map (key_meant names) (Some k))) ++ colon ∷ []

-- the labels of members behind the first one
abbrev pub later_labels : List Name → List Key → List (List ℕ)
later_labels names ks = map (λ k. comma ∷ label_text names k) ks

-- the labels of all members: before the first one stands the comma between items, and what opens the object
abbrev pub row_labels : List Name → List Key → List (List ℕ)
row_labels names [] = []
row_labels names (k ∷ ks) = (comma ∷ brace ∷ label_text names k) ∷ later_labels names ks

-- labels, each with its value behind it
abbrev pub labelled : List (List ℕ) → List Scalar → List ℕ
labelled [] vs = []
labelled (l ∷ ls) [] = []
labelled (l ∷ ls) (v ∷ vs) = l ++ (compact_text (scalar_data v) ++ labelled ls vs)

-- the text of such an object, by the labels of its members
abbrev pub row_text : List (List ℕ) → List Scalar → List ℕ
row_text ls vs = labelled ls vs ++ end_brace ∷ []
