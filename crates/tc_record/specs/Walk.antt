-- How the columns of a record are read: token by token, from the front.
use Rattle.std.specs.Prelude.{ℕ, ◌==◌, ◌&&◌, nat_lt, Bool, true, false, if◌then◌else◌, List, [], ◌∷◌, length, map, Option, None, Some, option_map}
use Rattle.std.specs.Int.{w64, cast_signed}
use Rattle.std.specs.Str.{is_utf8}
use Rattle.std.specs.Ordering.{is_lt}
use Rattle.tc_bytes.specs.Reading.{Reader, ◌>>=◌, byte_at, number_at, bytes_at}
use Rattle.tc_model.specs.Document.{Name, Scalar, null, boolean, integer, text, name_cmp, null_kind, boolean_kind, integer_kind, text_kind}
use Rattle.tc_model.specs.Kinds.{scalar_tag, tag as kind_tag, arrays, objects}
use Rattle.tc_model.specs.Limits.{max_depth}
use Rattle.tc_record.specs.Preorder.{Piece, scalar, array_opened, object_opened, closed, Token, token}
use Rattle.tc_record.specs.Record.{close_tag}

-- what a member is labelled by: its name in form 0, the number of its name in the others
pub data Key : Type 0 where
  name : Name → Key
  number : ℕ → Key

-- an array or an object that is open, with the name of the object's member before, if names are to ascend
pub data Level : Type 0 where
  in_array : Level
  in_object : Option Name → Level

-- the form, and whether members carry names
pub record Format : Type 0 where
  pub form : ℕ
  pub named : Bool

-- what is left of the columns beside the tags: bytes, and the numbers of the columns of text lengths and of slots
pub record Columns : Type 0 where
  pub fixed : List ℕ
  pub lengths : List ℕ
  pub texts : List ℕ
  pub slots : List ℕ
  pub names : List ℕ

-- one number of a column
abbrev pub number_next : List ℕ → Option (ℕ × List ℕ)
number_next [] = None
number_next (n ∷ ns) = Some (n, ns)

-- so many bytes that are UTF-8
abbrev pub utf8_at : ℕ → Reader (List ℕ)
utf8_at n bytes = bytes_at n bytes >>= λ t. if is_utf8 t.0 then Some t else None

-- a text by its length, from the columns of lengths and of texts
abbrev pub text_at : Columns → Option (List ℕ × Columns)
text_at c = number_next c.lengths >>= λ n. utf8_at n.0 c.texts >>= λ t. Some (t.0, record c { lengths = n.1; texts = t.1 })

abbrev pub bool_of : ℕ → Option Bool
bool_of b = if b == 0 then Some false else (if b == 1 then Some true else None)

abbrev pub bool_at : Columns → Option (Bool × Columns)
bool_at c = byte_at c.fixed >>= λ b. bool_of b.0 >>= λ v. Some (v, record c { fixed = b.1 })

abbrev pub integer_at : Columns → Option (Piece Scalar × Columns)
integer_at c = number_at w64 c.fixed >>= λ n. Some (scalar (integer (cast_signed w64 n.0)), record c { fixed = n.1 })

-- a value, or the opening of one, by its tag
abbrev pub piece_at : ℕ → Columns → Option (Piece Scalar × Columns)
piece_at tag c =
    if tag == scalar_tag null_kind then Some (scalar null, c)
    else (if tag == scalar_tag boolean_kind then (bool_at c >>= λ b. Some (scalar (boolean b.0), b.1))
    else (if tag == scalar_tag integer_kind then integer_at c
    else (if tag == scalar_tag text_kind then (text_at c >>= λ t. Some (scalar (text t.0), t.1))
    else (if tag == kind_tag arrays then Some (array_opened, c)
    else (if tag == kind_tag objects then Some (object_opened, c) else None)))))

-- the name stands above the one before, if there is one
abbrev pub is_above : Option Name → Name → Bool
is_above None n = true
is_above (Some m) n = is_lt (name_cmp m n)

abbrev pub name_at : Option Name → Columns → Option (Name × Columns)
name_at last c =
    number_next c.slots >>= λ n. utf8_at n.0 c.names >>= λ t. if is_above last t.0 then Some (t.0, record c { slots = n.1; names = t.1 }) else None

-- the label of a value that stands in a level, and the level behind it
abbrev pub label_at : Format → Level → Columns → Option (Option Key × Level × Columns)
label_at f in_array c = Some (None, in_array, c)
label_at f (in_object last) c =
    if f.named then (name_at last c >>= λ n. Some (Some (name n.0), in_object (Some n.0), n.1))
    else (number_next c.slots >>= λ n. Some (Some (number n.0), in_object None, record c { slots = n.1 }))

-- the levels behind a piece, of which there are no more than a document may nest
abbrev pub opened : Piece Scalar → List Level → Option (List Level)
opened (scalar s) levels = Some levels
opened array_opened levels = if nat_lt (length levels) max_depth then Some (in_array ∷ levels) else None
opened object_opened levels = if nat_lt (length levels) max_depth then Some (in_object None ∷ levels) else None
opened closed levels = None

-- a value that stands in a level, as a token, with the level and the columns behind it
abbrev pub value_at : Format → Level → ℕ → Columns → Option (Token Key Scalar × Level × Columns)
value_at f level tag c = label_at f level c >>= λ l. piece_at tag l.2 >>= λ p. Some (token l.0 p.0, l.1, p.1)

-- the next token, with the levels and the columns behind it
abbrev pub step : Format → ℕ → List Level → Columns → Option (Token Key Scalar × List Level × Columns)
step f tag [] c = None
step f tag (level ∷ levels) c =
    if tag == close_tag then Some (token None closed, levels, c)
    else (value_at f level tag c >>= λ v. opened v.0.piece (v.1 ∷ levels) >>= λ inner. Some (v.0, inner, v.2))

abbrev pub is_used_up : Columns → Bool
is_used_up c = (length c.fixed == 0) && ((length c.lengths == 0) && ((length c.texts == 0) && ((length c.slots == 0) && (length c.names == 0))))

-- all further tokens, where the levels end with the tags and the columns
abbrev pub walk : Format → List ℕ → List Level → Columns → Option (List (Token Key Scalar))
walk f [] [] c = if is_used_up c then Some [] else None
walk f [] (level ∷ levels) c = None
walk f (tag ∷ tags) levels c = step f tag levels c >>= λ s. walk f tags s.1 s.2 >>= λ ts. Some (s.0 ∷ ts)

-- all tokens of a record, whose first one opens an object
abbrev pub tokens_read : Format → List ℕ → Columns → Option (List (Token Key Scalar))
tokens_read f [] c = None
tokens_read f (tag ∷ tags) c = if tag == kind_tag objects then (walk f tags (in_object None ∷ []) c >>= λ ts. Some (token None object_opened ∷ ts)) else None

-- ---- the same of a record that was judged, whose names ascend, so that none is kept

abbrev pub nameless : Level → Level
nameless in_array = in_array
nameless (in_object last) = in_object None

abbrev pub without_last : Option Key × Level × Columns → Option Key × Level × Columns
without_last l = (l.0, nameless l.1, l.2)

abbrev pub without_names : Token Key Scalar × List Level × Columns → Token Key Scalar × List Level × Columns
without_names s = (s.0, map nameless s.1, s.2)

abbrev pub known_step : Format → ℕ → List Level → Columns → Option (Token Key Scalar × List Level × Columns)
known_step f tag levels c = option_map without_names (step f tag levels c)

abbrev pub known_walk : Format → List ℕ → List Level → Columns → Option (List (Token Key Scalar))
known_walk f [] [] c = if is_used_up c then Some [] else None
known_walk f [] (level ∷ levels) c = None
known_walk f (tag ∷ tags) levels c = known_step f tag levels c >>= λ s. known_walk f tags s.1 s.2 >>= λ ts. Some (s.0 ∷ ts)
