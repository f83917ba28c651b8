-- The labels of the tokens that are left are the numbers that are left, where members carry numbers.
use Rattle.std.proofs.Common.{◌≡◌, ◌∙◌, ◌==◌, ◌&&◌, ℕ, Bool, true, false, if◌then◌else◌, List, [], ◌∷◌, ◌++◌, length, map, Option, None, Some, option_map, option_to_list, is_some, unwrap_or, refl, sym, ap, arith}
use Rattle.std.specs.Int.{w64}
use Rattle.std.proofs.lemmas.Bool.{and_parts, eqb-true}
use Rattle.std.proofs.lemmas.Option.{same_Some}
use Rattle.tc_bytes.specs.Reading.{◌>>=◌, byte_at, number_at}
use Rattle.tc_bytes.proofs.Codecs.{then_parts}
use Rattle.tc_model.specs.Document.{Scalar, null, boolean, text}
use Rattle.tc_record.specs.Held.{tokens_left}
use Rattle.tc_record.specs.Preorder.{Piece, scalar, array_opened, object_opened, closed, Token, token}
use Rattle.tc_record.specs.Record.{labels}
use Rattle.tc_record.specs.Walk.{Key, name, number, Level, in_array, in_object, Format, Columns, number_next, name_at, bool_of, bool_at, integer_at, text_at, utf8_at, piece_at, label_at, value_at, opened, step, is_used_up, without_names, known_step, known_walk}
use Rattle.tc_record.specs.WalkView.{numbers_of, columns_of, format_of}
use Rattle.tc_record.specs.declared.walking.Walk.{Walk}
use Rattle.tc_record.proofs.Judged.{Labelled, Stepped, Valued}
use Rattle.tc_record.proofs.KnownWalks.{opening, with_first}
use Rattle.tc_record.proofs.Labels.{if_parts}
use Rattle.tc_record.proofs.Texts.{number_found}

abbrev Pieced : Type 0
Pieced = Piece Scalar × Columns

-- ---- a piece takes no number of the column of slots

bool_slots : (c : Columns) (q : Bool × Columns) → bool_at c ≡ Some q → q.1.slots ≡ c.slots
bool_slots c q gives =
    let byte = then_parts (byte_at c.fixed) _ q gives in
    let value = then_parts (bool_of byte.0.0) _ q byte.2 in
    ap (λ (x : Bool × Columns). x.1.slots) (sym (same_Some _ q value.2))

integer_slots : (c : Columns) (q : Pieced) → integer_at c ≡ Some q → q.1.slots ≡ c.slots
integer_slots c q gives =
    let bits = then_parts (number_at w64 c.fixed) _ q gives in
    ap (λ (x : Pieced). x.1.slots) (sym (same_Some _ q bits.2))

text_slots : (c : Columns) (q : List ℕ × Columns) → text_at c ≡ Some q → q.1.slots ≡ c.slots
text_slots c q gives =
    let len = then_parts (number_next c.lengths) _ q gives in
    let bytes = then_parts (utf8_at len.0.0 c.texts) _ q len.2 in
    ap (λ (x : List ℕ × Columns). x.1.slots) (sym (same_Some _ q bytes.2))

-- the tests of a tag, from each on
abbrev from_object : ℕ → Columns → Option Pieced
from_object tag c = if tag == 6 then Some (object_opened, c) else None

abbrev from_array : ℕ → Columns → Option Pieced
from_array tag c = if tag == 5 then Some (array_opened, c) else from_object tag c

abbrev from_text : ℕ → Columns → Option Pieced
from_text tag c = if tag == 4 then (text_at c >>= λ t. Some (scalar (text t.0), t.1)) else from_array tag c

abbrev from_integer : ℕ → Columns → Option Pieced
from_integer tag c = if tag == 3 then integer_at c else from_text tag c

abbrev from_boolean : ℕ → Columns → Option Pieced
from_boolean tag c = if tag == 2 then (bool_at c >>= λ v. Some (scalar (boolean v.0), v.1)) else from_integer tag c

piece_slots : (tag : ℕ) (c : Columns) (q : Pieced) → piece_at tag c ≡ Some q → q.1.slots ≡ c.slots
piece_slots tag c q gives = by_null (tag == 1) gives
  where
    as_it_is : (p : Piece Scalar) → Some (p, c) ≡ Some q → q.1.slots ≡ c.slots
    as_it_is p e = ap (λ (x : Pieced). x.1.slots) (sym (same_Some _ q e))

    by_object : (b : Bool) → (if b then Some (object_opened, c) else None) ≡ Some q → q.1.slots ≡ c.slots
    by_object true e = as_it_is object_opened e
    by_object false e = cc

    by_array : (b : Bool) → (if b then Some (array_opened, c) else from_object tag c) ≡ Some q → q.1.slots ≡ c.slots
    by_array true e = as_it_is array_opened e
    by_array false e = by_object (tag == 6) e

    by_text : (b : Bool) → (if b then (text_at c >>= λ t. Some (scalar (text t.0), t.1)) else from_array tag c) ≡ Some q → q.1.slots ≡ c.slots
    by_text true e =
        let t = then_parts (text_at c) _ q e in
        ap (λ (x : Pieced). x.1.slots) (sym (same_Some _ q t.2)) ∙ text_slots c t.0 t.1
    by_text false e = by_array (tag == 5) e

    by_integer : (b : Bool) → (if b then integer_at c else from_text tag c) ≡ Some q → q.1.slots ≡ c.slots
    by_integer true e = integer_slots c q e
    by_integer false e = by_text (tag == 4) e

    by_boolean : (b : Bool) → (if b then (bool_at c >>= λ v. Some (scalar (boolean v.0), v.1)) else from_integer tag c) ≡ Some q → q.1.slots ≡ c.slots
    by_boolean true e =
        let v = then_parts (bool_at c) _ q e in
        ap (λ (x : Pieced). x.1.slots) (sym (same_Some _ q v.2)) ∙ bool_slots c v.0 v.1
    by_boolean false e = by_integer (tag == 3) e

    by_null : (b : Bool) → (if b then Some (scalar null, c) else from_boolean tag c) ≡ Some q → q.1.slots ≡ c.slots
    by_null true e = as_it_is (scalar null) e
    by_null false e = by_boolean (tag == 2) e

-- ---- a label takes one, and a token has one where it has a label

-- the numbers as labels
abbrev pub keys_of : List ℕ → List Key
keys_of ns = map number ns

abbrev label_with : Option Key → List ℕ → List Key
label_with label ns = option_to_list label ++ keys_of ns

label_slots : (f : Format) (level : Level) (c : Columns) (q : Labelled) → f.named ≡ false → label_at f level c ≡ Some q → keys_of c.slots ≡ label_with q.0 q.2.slots
label_slots f in_array c q numbered e = ap (λ (x : Labelled). label_with x.0 x.2.slots) (same_Some _ q e)
label_slots f (in_object last) c q numbered e = by_form f.named numbered e
  where
    by_form : (named : Bool) → named ≡ false
        → (if named then (name_at last c >>= λ n. Some (Some (name n.0), in_object (Some n.0), n.1)) else (number_next c.slots >>= λ n. Some (Some (number n.0), in_object None, record c { slots = n.1 }))) ≡ Some q
        → keys_of c.slots ≡ label_with q.0 q.2.slots
    by_form true is e = cc
    by_form false is e =
        let n = then_parts (number_next c.slots) _ q e in
        ap keys_of (number_found c.slots n.0 n.1) ∙ ap (λ (x : Labelled). label_with x.0 x.2.slots) (same_Some _ q n.2)

value_slots : (f : Format) (level : Level) (tag : ℕ) (c : Columns) (q : Valued) → f.named ≡ false → value_at f level tag c ≡ Some q → keys_of c.slots ≡ label_with q.0.label q.2.slots
value_slots f level tag c q numbered e =
    let label = then_parts (label_at f level c) _ q e in
    let piece = then_parts (piece_at tag label.0.2) _ q label.2 in
    label_slots f level c label.0 numbered label.1 ∙ ap (label_with label.0.0) (sym (piece_slots tag label.0.2 piece.0 piece.1)) ∙ ap (λ (x : Valued). label_with x.0.label x.2.slots) (same_Some _ q piece.2)

step_slots : (f : Format) (tag : ℕ) (levels : List Level) (c : Columns) (q : Stepped) → f.named ≡ false → step f tag levels c ≡ Some q → keys_of c.slots ≡ label_with q.0.label q.2.slots
step_slots f tag [] c q numbered e = cc
step_slots f tag (level ∷ levels) c q numbered e = by_tag (tag == 7) e
  where
    by_tag : (close : Bool) → (if close then Some (token None closed, levels, c) else (value_at f level tag c >>= opening levels)) ≡ Some q → keys_of c.slots ≡ label_with q.0.label q.2.slots
    by_tag true e = ap (λ (x : Stepped). label_with x.0.label x.2.slots) (same_Some _ q e)
    by_tag false e =
        let v = then_parts (value_at f level tag c) _ q e in
        let o = then_parts (opened v.0.0.piece (v.0.1 ∷ levels)) _ q v.2 in
        value_slots f level tag c v.0 numbered v.1 ∙ ap (λ (x : Stepped). label_with x.0.label x.2.slots) (same_Some _ q o.2)

known_slots : (f : Format) (tag : ℕ) (levels : List Level) (c : Columns) (q : Stepped) → f.named ≡ false → known_step f tag levels c ≡ Some q → keys_of c.slots ≡ label_with q.0.label q.2.slots
known_slots f tag levels c q numbered gives = by_step (step f tag levels c) refl gives
  where
    by_step : (o : Option Stepped) → step f tag levels c ≡ o → option_map without_names o ≡ Some q → keys_of c.slots ≡ label_with q.0.label q.2.slots
    by_step None steps e = cc
    by_step (Some s) steps e = step_slots f tag levels c s numbered steps ∙ ap (λ (x : Stepped). label_with x.0.label x.2.slots) (same_Some (without_names s) q e)

-- ---- so all of them are taken

no_slots : (slots : List ℕ) (a b d e : Bool) → (a && (b && (d && ((length slots == 0) && e)))) ≡ true → [] ≡ keys_of slots
no_slots [] a b d e used = refl
no_slots (n ∷ ns) a b d e used =
    let behind = and_parts d _ (and_parts b _ (and_parts a _ used).1).1 in
    absurd (omega (arith, eqb-true (length (n ∷ ns)) 0 (and_parts _ e behind.1).0))

walk_slots : (f : Format) (tags : List ℕ) (levels : List Level) (c : Columns) (ts : List (Token Key Scalar)) → f.named ≡ false → known_walk f tags levels c ≡ Some ts → labels ts ≡ keys_of c.slots
walk_slots f [] [] c ts numbered gives =
    let used = if_parts (is_used_up c) [] ts gives in
    ap labels (sym used.0) ∙ no_slots c.slots (length c.fixed == 0) (length c.lengths == 0) (length c.texts == 0) (length c.names == 0) used.1
walk_slots f [] (level ∷ levels) c ts numbered gives = cc
walk_slots f (tag ∷ tags) levels c ts numbered gives =
    let s = then_parts (known_step f tag levels c) _ ts gives in
    let u = then_parts (known_walk f tags s.0.1 s.0.2) _ ts s.2 in
    ap labels (sym (same_Some _ ts u.2)) ∙ ap (λ ks. option_to_list s.0.0.label ++ ks) (walk_slots f tags s.0.1 s.0.2 u.0 numbered u.1) ∙ sym (known_slots f tag levels c s.0 numbered s.1)

pub labels_left : (started : Bool) (tags : List ℕ) (w : Walk) → w.format.named ≡ false → is_some (tokens_left started tags w) ≡ true → labels (unwrap_or (tokens_left started tags w) []) ≡ keys_of (numbers_of w.columns.slots)
labels_left true tags w numbered some = by_walk (known_walk (format_of w.format) tags _ (columns_of w.columns)) refl some
  where
    by_walk : (o : Option (List (Token Key Scalar))) → tokens_left true tags w ≡ o → is_some o ≡ true → labels (unwrap_or o []) ≡ keys_of (numbers_of w.columns.slots)
    by_walk None walks e = cc
    by_walk (Some ts) walks e = walk_slots (format_of w.format) tags _ (columns_of w.columns) ts numbered walks
labels_left false [] w numbered some = cc
labels_left false (tag ∷ tags) w numbered some = by_tag (tag == 6) (tokens_left true tags w) refl some
  where
    by_tag : (opens : Bool) (o : Option (List (Token Key Scalar))) → tokens_left true tags w ≡ o → is_some (if opens then (o >>= with_first) else None) ≡ true
        → labels (unwrap_or (if opens then (o >>= with_first) else None) []) ≡ keys_of (numbers_of w.columns.slots)
    by_tag true None walks e = cc
    by_tag true (Some ts) walks e = walk_slots (format_of w.format) tags _ (columns_of w.columns) ts numbered walks
    by_tag false o walks e = cc
