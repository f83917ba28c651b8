-- The generated input: upserts and deletes of documents of four forms, and a command for the schema behind them.
use Rattle.std.specs.Prelude.{ℕ, zero, suc, ◌+◌, ◌*◌, ◌%◌, ◌==◌, List, [], ◌∷◌, ◌++◌, codes, Option, Some, None, if◌then◌else◌, flat_map}
use Rattle.std.specs.Fmt.{decimal}
use Rattle.tc_model.specs.Lines.{feed}

-- ---- keys

-- what is drawn behind another draw
abbrev pub next_drawn : ℕ → ℕ
next_drawn x = (75 * x + 74) % 65537

-- what is drawn for the line of a number, counted from 1
abbrev pub drawn_for : ℕ → ℕ
drawn_for zero = 1
drawn_for (suc k) = next_drawn (drawn_for k)

-- the key of the line of a number
abbrev pub key_at : ℕ → ℕ
key_at k = drawn_for k % 5000

-- ---- texts

-- two members of a document
abbrev pub tags_member : ℕ → List ℕ
tags_member k = codes ",\"tags\":[\"t0\"," ++ (decimal k ++ codes "]")

abbrev pub user_member : ℕ → List ℕ
user_member j = codes ",\"user\":{\"name\":\"u" ++ (decimal j ++ codes "\"}")

-- the members behind `id` of the document of a line
abbrev pub members_at : ℕ → List ℕ
members_at k =
    if k % 4 == 0 then codes ",\"n\":" ++ decimal k
    else (if k % 4 == 1 then codes ",\"n\":\"" ++ (decimal k ++ codes "\"")
    else (if k % 4 == 2 then tags_member k ++ user_member (k % 10)
    else codes ",\"n\":null,\"user\":{\"age\":" ++ (decimal (k % 90) ++ codes "}")))

abbrev pub upsert_line : ℕ → List ℕ → List ℕ
upsert_line key members = codes "{\"op\":\"upsert\",\"doc\":{\"id\":" ++ (decimal key ++ (members ++ codes "}}"))

abbrev pub delete_line : ℕ → List ℕ
delete_line key = codes "{\"op\":\"delete\",\"id\":" ++ (decimal key ++ codes "}")

abbrev pub schema_line : List ℕ
schema_line = codes "{\"op\":\"schema\"}"

-- the line of a number with a key
abbrev pub line_of : ℕ → ℕ → List ℕ
line_of k key = if k % 5 == 0 then delete_line key else upsert_line key (members_at k)

-- ---- the input

-- so many lines from the one of a number on, and the line that closes the input
abbrev pub lines_from : ℕ → ℕ → List (List ℕ)
lines_from k zero = schema_line ∷ []
lines_from k (suc more) = line_of k (key_at k) ∷ lines_from (suc k) more

-- the generated input of so many lines
abbrev pub generated : ℕ → List (List ℕ)
generated n = lines_from 1 n

-- the same as the bytes of a file
abbrev pub input_of : ℕ → List ℕ
input_of n = flat_map (λ line. line ++ feed ∷ []) (generated n)

-- the lines behind those that were given, of which so many are left before the last one, or not that one either
abbrev pub lines_left : ℕ → Option ℕ → List (List ℕ)
lines_left given None = []
lines_left given (Some more) = lines_from (suc given) more
