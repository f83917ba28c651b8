-- Texts one after the other. Each value of a row has a comma after it, and the last comma gives way to the end of the row.
use Rattle.std.specs.Prelude.{ℕ, List, [], ◌∷◌, ◌++◌, flat_map, codes}
use Rattle.serde_json.specs.Written.{compact_text}
use Rattle.tc_model.specs.Document.{Document}
use Rattle.tc_model.specs.Json.{data_of}
use Rattle.tc_request_model.specs.Reply.{Row, row_data, count}

abbrev pub comma : ℕ
comma = 44

-- values, each with a comma after it
abbrev pub listed : List Document → List ℕ
listed ds = flat_map (λ d. compact_text (data_of d) ++ comma ∷ []) ds

-- what stands before the values of a row, and after them
abbrev pub row_front : ℕ → List ℕ
row_front key = codes "{\"id\":" ++ (compact_text (count key) ++ codes ",\"values\":[")

abbrev pub row_end : List ℕ
row_end = codes "]}"

-- rows, with nothing between them
abbrev pub row_texts : List Row → List ℕ
row_texts rs = flat_map (λ r. compact_text (row_data r)) rs
