-- The texts of a record are UTF-8 together, and so are its names.
use Rattle.std.proofs.Common.{◌≡◌, ◌==◌, ℕ, Bool, true, false, if◌then◌else◌, List, [], ◌∷◌, Option, None, Some, is_some, refl, sym, subst}
use Rattle.std.specs.Str.{IsUtf8}
use Rattle.std.proofs.lemmas.Option.{same_Some}
use Rattle.std.proofs.lemmas.Str.{IsUtf8-nil, IsUtf8-append}
use Rattle.tc_bytes.specs.Reading.{◌>>=◌}
use Rattle.tc_bytes.specs.Codec.{IsBytes}
use Rattle.tc_bytes.proofs.Codecs.{then_parts}
use Rattle.tc_model.specs.Document.{Scalar, null, boolean, integer, text}
use Rattle.tc_record.specs.Preorder.{Piece, scalar, array_opened, object_opened, closed, Token, token}
use Rattle.tc_record.specs.declared.sections.Sections.{Sections}
use Rattle.tc_record.specs.Walk.{Key, name, number, Level, in_array, in_object, Format, Columns, value_at, opened, step, is_used_up, walk, tokens_read}
use Rattle.tc_record.specs.Sections.{sections_in}
use Rattle.tc_record.specs.SectionsView.{cut_columns_of, sections_of}
use Rattle.tc_record.specs.Held.{tokens_held}
use Rattle.tc_record.specs.WalkView.{format_of}
use Rattle.tc_record.proofs.Cutting.{sections_found}
use Rattle.tc_record.proofs.Found.{used_up}
use Rattle.tc_record.proofs.Labels.{IsLabelled, with_label, if_parts, value_found}
use Rattle.tc_record.proofs.Scalars.{with_piece, FitsPiece}
use Rattle.tc_record.proofs.Texts.{AreColumns}

pub record AreTexts (c : Columns) : Type 0 where
  pub texts : IsUtf8 c.texts
  pub names : IsUtf8 c.names

piece_texts : (p : Piece Scalar) (c : Columns) → FitsPiece p → AreTexts c → AreTexts (with_piece p c)
piece_texts (scalar null) c fits are = are
piece_texts (scalar (boolean b)) c fits are = record { texts = are.texts; names = are.names }
piece_texts (scalar (integer z)) c fits are = record { texts = are.texts; names = are.names }
piece_texts (scalar (text s)) c fits are = record { texts = IsUtf8-append s c.texts fits are.texts; names = are.names }
piece_texts array_opened c fits are = are
piece_texts object_opened c fits are = are
piece_texts closed c fits are = are

label_texts : (f : Format) (level : Level) (label : Option Key) (behind : Level) (c : Columns) → IsLabelled f level label behind → AreTexts c → AreTexts (with_label label c)
label_texts f level None behind c is are = are
label_texts f in_array (Some k) behind c is are = absurd is
label_texts f (in_object last) (Some (name n)) behind c is are = record { texts = are.texts; names = IsUtf8-append n c.names is.1 are.names }
label_texts f (in_object last) (Some (number k)) behind c is are = record { texts = are.texts; names = are.names }

-- columns, and what is left of them behind a token
record Moved (c rest : Columns) : Type 0 where
  pub each : AreColumns rest
  pub texts : AreTexts rest → AreTexts c

moved : (f : Format) (tag : ℕ) (level : Level) (levels : List Level) (c : Columns) (s : Token Key Scalar × List Level × Columns) (b : Bool) → AreColumns c
    → (if b then Some (token None closed, levels, c) else (value_at f level tag c >>= λ v. opened v.0.piece (v.1 ∷ levels) >>= λ inner. Some (v.0, inner, v.2))) ≡ Some s → Moved c s.2
moved f tag level levels c s true each gives =
    subst (λ (q : Token Key Scalar × List Level × Columns). Moved c q.2) (same_Some _ s gives) (record { each = each; texts = λ are. are })
moved f tag level levels c s false each gives =
    let one = then_parts (value_at f level tag c) _ s gives in
    let value = value_found f level tag c one.0 each one.1 in
    let two = then_parts (opened one.0.0.piece (one.0.1 ∷ levels)) _ s one.2 in
    let back : AreTexts one.0.2 → AreTexts c = λ are. subst AreTexts (sym value.spelled) (label_texts f level one.0.0.label one.0.1 _ value.labelled (piece_texts one.0.0.piece one.0.2 value.fits are)) in
    subst (λ (q : Token Key Scalar × List Level × Columns). Moved c q.2) (same_Some _ s two.2) (record { each = value.rest; texts = back })

walk_texts : (tags : List ℕ) (f : Format) (levels : List Level) (c : Columns) (ts : List (Token Key Scalar)) → AreColumns c → walk f tags levels c ≡ Some ts → AreTexts c
walk_texts [] f [] c ts each gives =
    let ended = if_parts (is_used_up c) [] ts gives in
    subst AreTexts (sym (used_up c ended.1)) (record { texts = IsUtf8-nil; names = IsUtf8-nil })
walk_texts [] f (level ∷ levels) c ts each gives = cc
walk_texts (tag ∷ tags) f [] c ts each gives = cc
walk_texts (tag ∷ tags) f (level ∷ levels) c ts each gives =
    let one = then_parts (step f tag (level ∷ levels) c) _ ts gives in
    let two = then_parts (walk f tags one.0.1 one.0.2) _ ts one.2 in
    let here = moved f tag level levels c one.0 (tag == 7) each one.1 in
    here.texts (walk_texts tags f one.0.1 one.0.2 two.0 here.each two.1)

root_texts : (f : Format) (tags : List ℕ) (c : Columns) (ts : List (Token Key Scalar)) (b : Bool) → AreColumns c
    → (if b then (walk f tags (in_object None ∷ []) c >>= λ us. Some (token None object_opened ∷ us)) else None) ≡ Some ts → AreTexts c
root_texts f tags c ts true each gives =
    let one = then_parts (walk f tags (in_object None ∷ []) c) _ ts gives in
    walk_texts tags f (in_object None ∷ []) c one.0 each one.1
root_texts f tags c ts false each gives = cc

read_texts : (tags : List ℕ) (f : Format) (c : Columns) (held : Option (List (Token Key Scalar))) → AreColumns c → tokens_read f tags c ≡ held → true ≡ is_some held → AreTexts c
read_texts tags f c None each is some = cc
read_texts [] f c (Some ts) each is some = cc
read_texts (tag ∷ tags) f c (Some ts) each is some = root_texts f tags c ts (tag == 6) each is

-- columns that spell tokens
held_texts : (s : Sections) → AreColumns (cut_columns_of s.columns) → true ≡ is_some (tokens_held s) → AreTexts (cut_columns_of s.columns)
held_texts s each some = read_texts s.tags.now (format_of s.format) (cut_columns_of s.columns) (tokens_held s) each refl some

-- the columns of a record
pub record_texts : (bytes : List ℕ) (s : Sections) → IsBytes bytes → sections_in bytes ≡ Some (sections_of s) → true ≡ is_some (tokens_held s) → AreTexts (cut_columns_of s.columns)
record_texts bytes s each cut_is some = held_texts s (sections_found bytes (sections_of s) each cut_is).columns.each some

-- a record whose columns are not UTF-8 has no tokens
pub not_texts : (bytes : List ℕ) (s : Sections) → IsBytes bytes → sections_in bytes ≡ Some (sections_of s) → (IsUtf8 s.columns.texts.now → IsUtf8 s.columns.names.now → ⊥) → false ≡ is_some (tokens_held s)
not_texts bytes s each cut_is spoiled = by_test (is_some (tokens_held s)) (record_texts bytes s each cut_is)
  where
    by_test : (some : Bool) → (true ≡ some → AreTexts (cut_columns_of s.columns)) → false ≡ some
    by_test false texts = refl
    by_test true texts = let are = texts refl in absurd (spoiled are.texts are.names)
