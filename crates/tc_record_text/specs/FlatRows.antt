-- Rows: where one stands, and the labels of its members.
use Rattle.std.specs.Prelude.{◌≡◌, ◌+◌, ◌≤◌, ℕ, Bool, true, false, List, [], ◌∷◌, take, length, map}
use Rattle.tc_model.specs.Document.{Name}
use Rattle.tc_record.specs.Record.{labels}
use Rattle.tc_record_text.specs.FlatTexts.{brace, row_labels}
use Rattle.tc_record_text.specs.Listed.{comma}
use Rattle.tc_record_text.specs.declared.flat_rows.FlatRow.{FlatRow}
use Rattle.tc_record_text.specs.declared.staged.ShortText.{ShortText}

abbrev pub label_in : ShortText → List ℕ
label_in short = take short.len short.bytes

-- what stands before a label
abbrev pub opening_of : Bool → List ℕ
opening_of true = comma ∷ brace ∷ []
opening_of false = comma ∷ []

-- it has some labels, as many as its tags tell, and they are those of the first members behind where it stands
pub record IsRowUnder (names : List Name) (row : FlatRow) : Type 0 where
  pub some : 1 ≤ length row.labels.items
  pub few : length row.labels.items ≤ 16
  pub told : length row.tags.now ≡ length row.labels.items + 2
  pub enough : length row.labels.items ≤ length (labels row.start)
  pub labels_are : map label_in row.labels.items ≡ row_labels names (take (length row.labels.items) (labels row.start))
