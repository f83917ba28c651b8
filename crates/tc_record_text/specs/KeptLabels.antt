-- The labels that are kept while a record is put.
use Rattle.std.specs.Prelude.{◌≡◌, ℕ, List, [], ◌∷◌, ◌++◌, All}
use Rattle.json.specs.Print.{quoted}
use Rattle.tc_model.specs.Document.{Name}
use Rattle.tc_compact.specs.Meant.{name_at}
use Rattle.tc_record_text.specs.Listed.{comma}
use Rattle.tc_record_text.specs.declared.memo.Kept.{Kept}

abbrev pub colon : ℕ
colon = 58

-- the name that a number means, between quotes and with its escapes, and a colon
abbrev pub label_under : List Name → ℕ → List ℕ
label_under names k = quoted (name_at names k) ++ colon ∷ []

-- what is kept for a number is its label under a dictionary, behind a comma
abbrev pub IsKeptUnder : List Name → Kept → Type 0
IsKeptUnder names kept = kept.text.items ≡ comma ∷ label_under names kept.number

unfoldable pub AreLabels : List Name → List Kept → Type 0
AreLabels names kept = All (IsKeptUnder names) kept
