-- The laws of labels and of values that stand in a level.
use Rattle.std.proofs.Common.{◌≡◌, ◌∙◌, ◌<◌, ◌^◌, ℕ, Bool, true, false, if◌then◌else◌, ◌∷◌, ◌++◌, Option, None, Some, length, refl, ap, subst}
use Rattle.std.specs.Str.{IsUtf8}
use Rattle.std.proofs.lemmas.Option.{same_Some}
use Rattle.tc_bits.proofs.Joined.{AreBelow}
use Rattle.tc_bytes.specs.Reading.{◌>>=◌}
use Rattle.tc_bytes.proofs.Codecs.{then_parts}
use Rattle.tc_model.specs.Document.{Name, Scalar}
use Rattle.tc_record.specs.Preorder.{Piece, Token, token}
use Rattle.tc_record.specs.Record.{piece_tag}
use Rattle.tc_record.specs.Walk.{Key, name, number, Level, in_array, in_object, Format, Columns, number_next, utf8_at, is_above, name_at, label_at, piece_at, value_at}
use Rattle.tc_record.proofs.ColumnLaws.{same_columns}
use Rattle.tc_record.proofs.Texts.{AreColumns, number_found, utf8_again, utf8_found}
use Rattle.tc_record.proofs.Scalars.{with_piece, FitsPiece, piece_again, piece_found}

-- the columns before a label was read
abbrev pub with_key : Key → Columns → Columns
with_key (name n) c = record c { slots = length n ∷ c.slots; names = n ++ c.names }
with_key (number k) c = record c { slots = k ∷ c.slots }

abbrev pub with_label : Option Key → Columns → Columns
with_label None c = c
with_label (Some k) c = with_key k c

-- a label that a value may have in a level, and the level behind it
abbrev pub IsLabelled : Format → Level → Option Key → Level → Type 0
IsLabelled f in_array None behind = behind ≡ in_array
IsLabelled f in_array (Some k) behind = ⊥
IsLabelled f (in_object last) None behind = ⊥
IsLabelled f (in_object last) (Some (name n)) behind =
    (f.named ≡ true) × IsUtf8 n × (is_above last n ≡ true) × (behind ≡ in_object (Some n))
IsLabelled f (in_object last) (Some (number k)) behind = (f.named ≡ false) × (k < 2 ^ 32) × (behind ≡ in_object None)

pub label_again : (f : Format) (level : Level) (label : Option Key) (behind : Level) (c : Columns) → IsLabelled f level label behind → label_at f level (with_label label c) ≡ Some (label, behind, c)
label_again f in_array None behind c is = rw is refl
label_again f in_array (Some k) behind c is = absurd is
label_again f (in_object last) None behind c is = absurd is
label_again f (in_object last) (Some (name n)) behind c is =
    rw (is.0, utf8_again (length n) n c.names refl is.1, is.2, is.3) refl
label_again f (in_object last) (Some (number k)) behind c is = rw (is.0, is.2) refl

-- a name that was read
pub record NameFound (last : Option Name) (c : Columns) (q : Name × Columns) : Type 0 where
  pub spelled : c ≡ with_key (name q.0) q.1
  pub rest : AreColumns q.1
  pub utf8 : IsUtf8 q.0
  pub above : is_above last q.0 ≡ true

pub if_parts : {A : Type 0} (b : Bool) (x q : A) → (if b then Some x else None) ≡ Some q → (x ≡ q) × (b ≡ true)
if_parts true x q gives = (same_Some x q gives, refl)
if_parts false x q gives = cc

name_found : (last : Option Name) (c : Columns) (q : Name × Columns) → AreColumns c → name_at last c ≡ Some q → NameFound last c q
name_found last c q each gives =
    let one = then_parts (number_next c.slots) _ q gives in
    let two = then_parts (utf8_at one.0.0 c.names) _ q one.2 in
    let passes = if_parts (is_above last two.0.0) _ q two.2 in
    let here = number_found c.slots one.0 one.1 in
    let slots : AreBelow 32 (one.0.0 ∷ one.0.1) = subst (AreBelow 32) here each.slots in
    let held = utf8_found one.0.0 c.names two.0 each.names two.1 in
    let told : c.slots ≡ length two.0.0 ∷ one.0.1 = rw held.len here in
    subst (NameFound last c) passes.0
    (record {
      spelled = same_columns c _ _ _ _ _ refl refl refl told held.spelled;
      rest = record { fixed = each.fixed; texts = each.texts; slots = slots.1; names = held.rest };
      utf8 = held.utf8;
      above = passes.1;
    })

-- a label that was read
pub record LabelFound (f : Format) (level : Level) (c : Columns) (q : Option Key × Level × Columns) : Type 0 where
  pub labelled : IsLabelled f level q.0 q.1
  pub spelled : c ≡ with_label q.0 q.2
  pub rest : AreColumns q.2

object_found : (f : Format) (last : Option Name) (c : Columns) (q : Option Key × Level × Columns) (b : Bool) → f.named ≡ b → AreColumns c
    → (if b then (name_at last c >>= λ n. Some (Some (name n.0), in_object (Some n.0), n.1)) else (number_next c.slots >>= λ n. Some (Some (number n.0), in_object None, record c { slots = n.1 }))) ≡ Some q
    → LabelFound f (in_object last) c q
object_found f last c q true is each gives =
    let one = then_parts (name_at last c) _ q gives in
    let held = name_found last c one.0 each one.1 in
    subst (LabelFound f (in_object last) c) (same_Some _ q one.2) (record { labelled = (is, held.utf8, held.above, refl); spelled = held.spelled; rest = held.rest })
object_found f last c q false is each gives =
    let one = then_parts (number_next c.slots) _ q gives in
    let here = number_found c.slots one.0 one.1 in
    let slots : AreBelow 32 (one.0.0 ∷ one.0.1) = subst (AreBelow 32) here each.slots in
    subst (LabelFound f (in_object last) c) (same_Some _ q one.2)
    (record {
      labelled = (is, slots.0, refl);
      spelled = same_columns c _ _ _ _ _ refl refl refl here refl;
      rest = record { fixed = each.fixed; texts = each.texts; slots = slots.1; names = each.names };
    })

label_found : (f : Format) (level : Level) (c : Columns) (q : Option Key × Level × Columns) → AreColumns c → label_at f level c ≡ Some q → LabelFound f level c q
label_found f in_array c q each gives = subst (LabelFound f in_array c) (same_Some _ q gives) (record { labelled = refl; spelled = refl; rest = each })
label_found f (in_object last) c q each gives = object_found f last c q f.named refl each gives

-- the columns before a token was read
abbrev pub with_token : Token Key Scalar → Columns → Columns
with_token t c = with_label t.label (with_piece t.piece c)

pub value_again : (f : Format) (level : Level) (label : Option Key) (behind : Level) (p : Piece Scalar) (c : Columns) → IsLabelled f level label behind → FitsPiece p
    → value_at f level (piece_tag p) (with_token (token label p) c) ≡ Some (token label p, behind, c)
value_again f level label behind p c labelled fits =
    rw (label_again f level label behind (with_piece p c) labelled, piece_again p c fits) refl

-- a value that was read
pub record ValueFound (f : Format) (level : Level) (tag : ℕ) (c : Columns) (q : Token Key Scalar × Level × Columns) : Type 0 where
  pub tagged : tag ≡ piece_tag q.0.piece
  pub labelled : IsLabelled f level q.0.label q.1
  pub spelled : c ≡ with_token q.0 q.2
  pub rest : AreColumns q.2
  pub fits : FitsPiece q.0.piece

pub value_found : (f : Format) (level : Level) (tag : ℕ) (c : Columns) (q : Token Key Scalar × Level × Columns) → AreColumns c → value_at f level tag c ≡ Some q → ValueFound f level tag c q
value_found f level tag c q each gives =
    let one = then_parts (label_at f level c) _ q gives in
    let label = label_found f level c one.0 each one.1 in
    let two = then_parts (piece_at tag one.0.2) _ q one.2 in
    let piece = piece_found tag one.0.2 two.0 label.rest two.1 in
    subst (ValueFound f level tag c) (same_Some _ q two.2)
    (record { tagged = piece.tagged; labelled = label.labelled; spelled = label.spelled ∙ ap (with_label one.0.0) piece.spelled; rest = piece.rest; fits = piece.fits })
