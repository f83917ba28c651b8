-- What the reader of a record shows.
use Rattle.std.specs.Prelude.{ℕ, List, Option, None, Some}
use Rattle.tc_model.specs.Document.{Scalar, null, boolean, integer, text}
use Rattle.tc_record.specs.Preorder as model
use Rattle.tc_record.specs.Walk as walk
use Rattle.tc_record.specs.declared.token.Label.{Label}
use Rattle.tc_record.specs.declared.token.Label.TheVariants.{Bare, Name, Number}
use Rattle.tc_record.specs.declared.token.Piece.{Piece}
use Rattle.tc_record.specs.declared.token.Piece.TheVariants.{Null, Bool, Int, Text, Array, Object, Close}
use Rattle.tc_record.specs.declared.token.Token.{Token}
use Rattle.tc_record.specs.NumbersLeft.{elements_from}
use Rattle.tc_record.specs.declared.numbers.Numbers.{Numbers}
use Rattle.tc_record.specs.declared.reader.Columns.{Columns}
use Rattle.tc_record.specs.declared.reader.Level.{Level}
use Rattle.tc_record.specs.declared.reader.Level.TheVariants as level
use Rattle.tc_record.specs.declared.reader.Format.{Format}

abbrev pub key_of : Label → Option walk.Key
key_of Bare = None
key_of (Name n) = Some (walk.name n.now)
key_of (Number n) = Some (walk.number n)

abbrev pub piece_of : Piece → model.Piece Scalar
piece_of Null = model.scalar null
piece_of (Bool b) = model.scalar (boolean b)
piece_of (Int z) = model.scalar (integer z)
piece_of (Text t) = model.scalar (text t.now)
piece_of Array = model.array_opened
piece_of Object = model.object_opened
piece_of Close = model.closed

-- a token, by its label and its value
abbrev pub token_of : Token → model.Token walk.Key Scalar
token_of t = model.token (key_of t.label) (piece_of t.value)

abbrev pub numbers_of : Numbers → List ℕ
numbers_of n = elements_from n.width n.place n.left n.bytes.now

abbrev pub columns_of : Columns → walk.Columns
columns_of c = record { fixed = c.fixed.now; lengths = numbers_of c.lengths; texts = c.texts.now; slots = numbers_of c.slots; names = c.names.now }

abbrev pub level_of : Level → walk.Level
level_of level.Array = walk.in_array
level_of level.Object = walk.in_object None
level_of (level.Behind n) = walk.in_object (Some n.now)

abbrev pub format_of : Format → walk.Format
format_of f = record { form = f.form; named = f.named }
