-- The rows of one key, and those of the keys below one.
use Rattle.std.specs.Prelude.{ℕ, nat_lt, List, filter, flat_map, map, Option, option_to_list}
use Rattle.tc_model.specs.Document.{Document}
use Rattle.tc_model.specs.Keyed.{Keyed, value_of}
use Rattle.tc_request_model.specs.Reply.{Row}
use Rattle.tc_request_model.specs.Request.{Ask}
use Rattle.tc_request_model.specs.Paths.{reached}
use Rattle.tc_request_model.specs.Rows.{row_of}
use Rattle.tc_request_model.specs.Rendered.{RowText, row_text}
use Rattle.tc_plain_model.specs.Writes.{Pairs}

-- the row of a key that has this document, if it has one: one, or none
abbrev pub rows_with : Ask → ℕ → Option Document → List Row
rows_with ask key document = flat_map (λ d. row_of ask.equal_to key (reached ask.path d)) (option_to_list document)

-- the row of a stored key
abbrev pub rows_at : Ask → ℕ → Pairs → List Row
rows_at ask key pairs = rows_with ask key (value_of key pairs)

-- their texts
abbrev pub texts_with : Ask → ℕ → Option Document → List RowText
texts_with ask key document = map row_text (rows_with ask key document)

abbrev pub texts_at : Ask → ℕ → Pairs → List RowText
texts_at ask key pairs = map row_text (rows_at ask key pairs)

-- the entries of lesser keys
abbrev pub below : {V : Type 0} → ℕ → Keyed V → Keyed V
below n es = filter (λ e. nat_lt e.0 n) es
