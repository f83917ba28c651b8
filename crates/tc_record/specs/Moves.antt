-- What the reading of a token leaves of the levels and of the columns, without the token.
use Rattle.std.specs.Prelude.{ℕ, List, Option, option_map}
use Rattle.tc_model.specs.Document.{Scalar}
use Rattle.tc_record.specs.Preorder.{Token}
use Rattle.tc_record.specs.Walk.{Key, Level, Format, Columns, label_at, step, known_step}

abbrev pub behind_label : Option Key × Level × Columns → Level × Columns
behind_label l = (l.1, l.2)

-- the level and the columns behind the label of a value that stands in a level
abbrev pub label_moves : Format → Level → Columns → Option (Level × Columns)
label_moves f level c = option_map behind_label (label_at f level c)

abbrev pub behind_token : Token Key Scalar × List Level × Columns → List Level × Columns
behind_token s = (s.1, s.2)

-- the levels and the columns behind the next token
abbrev pub token_moves : Format → ℕ → List Level → Columns → Option (List Level × Columns)
token_moves f tag levels c = option_map behind_token (step f tag levels c)

-- the same in a walk over a record that was judged
abbrev pub known_moves : Format → ℕ → List Level → Columns → Option (List Level × Columns)
known_moves f tag levels c = option_map behind_token (known_step f tag levels c)
