-- The laws of pieces: a value is read from its tag and from its columns alone.
use Rattle.std.proofs.Common.{◌≡◌, ◌∙◌, ◌<◌, ℕ, zero, suc, Bool, true, false, if◌then◌else◌, List, ◌∷◌, ◌++◌, Some, refl, ap, subst, arith}
use Rattle.std.specs.Int.{w64, to_be_bytes, cast_unsigned, cast_signed}
use Rattle.std.proofs.Math.Facts.{sfits_to_z, Fits-of_z}
use Rattle.std.proofs.lemmas.Int.{of_z-to_z, to_z-of_z}
use Rattle.std.proofs.lemmas.Bool.Decides.{nat_tests}
use Rattle.std.proofs.lemmas.Option.{same_Some}
use Rattle.tc_bytes.specs.Reading.{◌>>=◌, byte_at, number_at}
use Rattle.tc_bytes.specs.Codec.{IsBytes}
use Rattle.tc_bytes.proofs.Fields.{number_codec_64, byte_codec}
use Rattle.tc_bytes.proofs.Codecs.{then_parts}
use Rattle.tc_model.specs.Document.{Scalar, null, boolean, integer, text, IsScalar}
use Rattle.tc_record.specs.Preorder.{Piece, scalar, array_opened, object_opened, closed}
use Rattle.tc_record.specs.Record.{piece_tag}
use Rattle.tc_record.specs.Walk.{Columns, bool_of, bool_at, integer_at, text_at, piece_at}
use Rattle.tc_record.proofs.ColumnLaws.{same_columns}
use Rattle.tc_record.proofs.Texts.{AreColumns, with_text, text_again, text_found}

-- the columns before a piece was read
abbrev pub with_scalar : Scalar → Columns → Columns
with_scalar null c = c
with_scalar (boolean b) c = record c { fixed = (if b then 1 else 0) ∷ c.fixed }
with_scalar (integer z) c = record c { fixed = to_be_bytes w64 (cast_unsigned w64 z) ++ c.fixed }
with_scalar (text s) c = with_text s c

abbrev pub with_piece : Piece Scalar → Columns → Columns
with_piece (scalar s) c = with_scalar s c
with_piece array_opened c = c
with_piece object_opened c = c
with_piece closed c = c

-- a piece that may stand in a record, but a close
abbrev pub FitsPiece : Piece Scalar → Type 0
FitsPiece (scalar s) = IsScalar s
FitsPiece closed = ⊥
FitsPiece _ = Unit {0}

bool_again : (b : Bool) → bool_of (if b then 1 else 0) ≡ Some b
bool_again true = refl
bool_again false = refl

pub piece_again : (p : Piece Scalar) (c : Columns) → FitsPiece p → piece_at (piece_tag p) (with_piece p c) ≡ Some (p, c)
piece_again (scalar null) c fits = refl
piece_again (scalar (boolean b)) c fits = rw (bool_again b) refl
piece_again (scalar (integer z)) c fits = rw (number_codec_64.again (cast_unsigned w64 z) c.fixed (Fits-of_z fits).fits, to_z-of_z w64 z fits) refl
piece_again (scalar (text s)) c fits = rw (text_again s c fits) refl
piece_again array_opened c fits = refl
piece_again object_opened c fits = refl
piece_again closed c fits = absurd fits

-- a piece that was read
pub record PieceFound (tag : ℕ) (c : Columns) (q : Piece Scalar × Columns) : Type 0 where
  pub tagged : tag ≡ piece_tag q.0
  pub spelled : c ≡ with_piece q.0 q.1
  pub rest : AreColumns q.1
  pub fits : FitsPiece q.0

with_fixed : (c : Columns) (rest : List ℕ) → AreColumns c → IsBytes rest → AreColumns (record c { fixed = rest })
with_fixed c rest each here = record { fixed = here; texts = each.texts; slots = each.slots; names = each.names }

bool_found : (n : ℕ) (b : Bool) → bool_of n ≡ Some b → n ≡ (if b then 1 else 0)
bool_found n true gives = grind (arith, nat_tests)
bool_found n false gives = grind (arith, nat_tests)

abbrev as_piece : Bool × Columns → Piece Scalar × Columns
as_piece b = (scalar (boolean b.0), b.1)

boolean_found : (c : Columns) (q : Piece Scalar × Columns) → AreColumns c → (bool_at c >>= λ b. Some (scalar (boolean b.0), b.1)) ≡ Some q → PieceFound 2 c q
boolean_found c q each gives =
    let whole = then_parts (bool_at c) _ q gives in
    let one = then_parts (byte_at c.fixed) _ whole.0 whole.1 in
    let two = then_parts (bool_of one.0.0) _ whole.0 one.2 in
    let byte = byte_codec.found c.fixed one.0.0 one.0.1 each.fixed one.1 in
    let held = same_Some _ whole.0 two.2 in
    let spelled : c.fixed ≡ (if two.0 then 1 else 0) ∷ one.0.1 = byte.0 ∙ ap (λ n. n ∷ one.0.1) (bool_found one.0.0 two.0 two.1) in
    subst (PieceFound 2 c) (ap (λ (b : Bool × Columns). as_piece b) held ∙ same_Some _ q whole.2)
    (record { tagged = refl; spelled = same_columns c _ _ _ _ _ spelled refl refl refl refl; rest = with_fixed c one.0.1 each byte.1; fits = tt })

integer_found : (c : Columns) (q : Piece Scalar × Columns) → AreColumns c → integer_at c ≡ Some q → PieceFound 3 c q
integer_found c q each gives =
    let one = then_parts (number_at w64 c.fixed) _ q gives in
    let number = number_codec_64.found c.fixed one.0.0 one.0.1 each.fixed one.1 in
    let spelled : c.fixed ≡ to_be_bytes w64 (cast_unsigned w64 (cast_signed w64 one.0.0)) ++ one.0.1 = rw (of_z-to_z w64 one.0.0 number.2) number.0 in
    subst (PieceFound 3 c) (same_Some _ q one.2)
    (record { tagged = refl; spelled = same_columns c _ _ _ _ _ spelled refl refl refl refl; rest = with_fixed c one.0.1 each number.1; fits = sfits_to_z (record { fits = number.2 }) })

text_piece_found : (c : Columns) (q : Piece Scalar × Columns) → AreColumns c → (text_at c >>= λ t. Some (scalar (text t.0), t.1)) ≡ Some q → PieceFound 4 c q
text_piece_found c q each gives =
    let one = then_parts (text_at c) _ q gives in
    let held = text_found c one.0 each one.1 in
    subst (PieceFound 4 c) (same_Some _ q one.2) (record { tagged = refl; spelled = held.spelled; rest = held.rest; fits = held.utf8 })

plain_found : (tag : ℕ) (p : Piece Scalar) (c : Columns) (q : Piece Scalar × Columns) → AreColumns c → tag ≡ piece_tag p → c ≡ with_piece p c → FitsPiece p → Some (p, c) ≡ Some q → PieceFound tag c q
plain_found tag p c q each tagged spelled fits gives = subst (PieceFound tag c) (same_Some _ q gives) (record { tagged = tagged; spelled = spelled; rest = each; fits = fits })

no_piece : (n : ℕ) (c : Columns) (q : Piece Scalar × Columns) → 6 < n → piece_at n c ≡ Some q → ⊥
no_piece n c q great gives = grind (arith, nat_tests)

pub piece_found : (tag : ℕ) (c : Columns) (q : Piece Scalar × Columns) → AreColumns c → piece_at tag c ≡ Some q → PieceFound tag c q
piece_found zero c q each gives = cc
piece_found (suc zero) c q each gives = plain_found 1 (scalar null) c q each refl refl tt gives
piece_found (suc (suc zero)) c q each gives = boolean_found c q each gives
piece_found (suc (suc (suc zero))) c q each gives = integer_found c q each gives
piece_found (suc (suc (suc (suc zero)))) c q each gives = text_piece_found c q each gives
piece_found (suc (suc (suc (suc (suc zero))))) c q each gives = plain_found 5 array_opened c q each refl refl tt gives
piece_found (suc (suc (suc (suc (suc (suc zero)))))) c q each gives = plain_found 6 object_opened c q each refl refl tt gives
piece_found (suc (suc (suc (suc (suc (suc (suc n))))))) c q each gives = absurd (no_piece (suc (suc (suc (suc (suc (suc (suc n))))))) c q (omega arith) gives)
