-- The columns before tokens were read are the columns that the tokens have.
use Rattle.std.proofs.Common.{◌≡◌, ◌∙◌, ℕ, List, [], ◌∷◌, ◌++◌, Option, None, Some, length, map, flat_map, option_to_list, refl, sym, ap, append-nil}
use Rattle.std.proofs.lemmas.List.{map-append}
use Rattle.std.proofs.lemmas.List.Concat.{flat_map-append}
use Rattle.tc_model.specs.Document.{Scalar, null, boolean, integer, text}
use Rattle.tc_record.specs.Preorder.{Piece, scalar, array_opened, object_opened, closed, Token}
use Rattle.tc_record.specs.Record.{piece_fixed, piece_text, fixed, texts, labels, joined}
use Rattle.tc_record.specs.Walk.{Key, name, number, Columns}
use Rattle.tc_record.proofs.Scalars.{with_piece}
use Rattle.tc_record.proofs.Labels.{with_label}
use Rattle.tc_record.proofs.ColumnLaws.{no_columns}
use Rattle.tc_record.proofs.Walks.{with_tokens}

-- what a label adds to the slots, and to the names
abbrev pub slot_of : Key → ℕ
slot_of (name n) = length n
slot_of (number k) = k

abbrev pub name_of : Key → List ℕ
name_of (name n) = n
name_of (number k) = []

abbrev pub slots : List (Token Key Scalar) → List ℕ
slots ts = map slot_of (labels ts)

abbrev pub names : List (Token Key Scalar) → List ℕ
names ts = flat_map name_of (labels ts)

-- ---- one token

label_fixed : (l : Option Key) (c : Columns) → (with_label l c).fixed ≡ c.fixed
label_fixed None c = refl
label_fixed (Some (name n)) c = refl
label_fixed (Some (number k)) c = refl

label_lengths : (l : Option Key) (c : Columns) → (with_label l c).lengths ≡ c.lengths
label_lengths None c = refl
label_lengths (Some (name n)) c = refl
label_lengths (Some (number k)) c = refl

label_texts : (l : Option Key) (c : Columns) → (with_label l c).texts ≡ c.texts
label_texts None c = refl
label_texts (Some (name n)) c = refl
label_texts (Some (number k)) c = refl

label_slots : (l : Option Key) (c : Columns) → (with_label l c).slots ≡ map slot_of (option_to_list l) ++ c.slots
label_slots None c = refl
label_slots (Some (name n)) c = refl
label_slots (Some (number k)) c = refl

label_names : (l : Option Key) (c : Columns) → (with_label l c).names ≡ flat_map name_of (option_to_list l) ++ c.names
label_names None c = refl
label_names (Some (name n)) c = ap (λ bytes. bytes ++ c.names) (sym (append-nil n))
label_names (Some (number k)) c = refl

piece_fixed_is : (p : Piece Scalar) (c : Columns) → (with_piece p c).fixed ≡ piece_fixed p ++ c.fixed
piece_fixed_is (scalar null) c = refl
piece_fixed_is (scalar (boolean b)) c = refl
piece_fixed_is (scalar (integer z)) c = refl
piece_fixed_is (scalar (text s)) c = refl
piece_fixed_is array_opened c = refl
piece_fixed_is object_opened c = refl
piece_fixed_is closed c = refl

piece_lengths : (p : Piece Scalar) (c : Columns) → (with_piece p c).lengths ≡ map length (piece_text p) ++ c.lengths
piece_lengths (scalar null) c = refl
piece_lengths (scalar (boolean b)) c = refl
piece_lengths (scalar (integer z)) c = refl
piece_lengths (scalar (text s)) c = refl
piece_lengths array_opened c = refl
piece_lengths object_opened c = refl
piece_lengths closed c = refl

piece_texts : (p : Piece Scalar) (c : Columns) → (with_piece p c).texts ≡ joined (piece_text p) ++ c.texts
piece_texts (scalar null) c = refl
piece_texts (scalar (boolean b)) c = refl
piece_texts (scalar (integer z)) c = refl
piece_texts (scalar (text s)) c = ap (λ bytes. bytes ++ c.texts) (sym (append-nil s))
piece_texts array_opened c = refl
piece_texts object_opened c = refl
piece_texts closed c = refl

piece_slots : (p : Piece Scalar) (c : Columns) → (with_piece p c).slots ≡ c.slots
piece_slots (scalar null) c = refl
piece_slots (scalar (boolean b)) c = refl
piece_slots (scalar (integer z)) c = refl
piece_slots (scalar (text s)) c = refl
piece_slots array_opened c = refl
piece_slots object_opened c = refl
piece_slots closed c = refl

piece_names : (p : Piece Scalar) (c : Columns) → (with_piece p c).names ≡ c.names
piece_names (scalar null) c = refl
piece_names (scalar (boolean b)) c = refl
piece_names (scalar (integer z)) c = refl
piece_names (scalar (text s)) c = refl
piece_names array_opened c = refl
piece_names object_opened c = refl
piece_names closed c = refl

-- ---- all tokens

pub spelled_fixed : (ts : List (Token Key Scalar)) → (with_tokens ts no_columns).fixed ≡ fixed ts
spelled_fixed [] = refl
spelled_fixed (t ∷ ts) =
    let c = with_tokens ts no_columns in
    label_fixed t.label (with_piece t.piece c) ∙ piece_fixed_is t.piece c ∙ ap (λ bytes. piece_fixed t.piece ++ bytes) (spelled_fixed ts)

pub spelled_lengths : (ts : List (Token Key Scalar)) → (with_tokens ts no_columns).lengths ≡ map length (texts ts)
spelled_lengths [] = refl
spelled_lengths (t ∷ ts) =
    let c = with_tokens ts no_columns in
    label_lengths t.label (with_piece t.piece c) ∙ piece_lengths t.piece c ∙ ap (λ ns. map length (piece_text t.piece) ++ ns) (spelled_lengths ts) ∙ sym (map-append length (piece_text t.piece) (texts ts))

pub spelled_texts : (ts : List (Token Key Scalar)) → (with_tokens ts no_columns).texts ≡ joined (texts ts)
spelled_texts [] = refl
spelled_texts (t ∷ ts) =
    let c = with_tokens ts no_columns in
    label_texts t.label (with_piece t.piece c) ∙ piece_texts t.piece c ∙ ap (λ bytes. joined (piece_text t.piece) ++ bytes) (spelled_texts ts) ∙ sym (flat_map-append (λ x. x) (piece_text t.piece) (texts ts))

pub spelled_slots : (ts : List (Token Key Scalar)) → (with_tokens ts no_columns).slots ≡ slots ts
spelled_slots [] = refl
spelled_slots (t ∷ ts) =
    let c = with_tokens ts no_columns in
    label_slots t.label (with_piece t.piece c) ∙ ap (λ ns. map slot_of (option_to_list t.label) ++ ns) (piece_slots t.piece c ∙ spelled_slots ts) ∙ sym (map-append slot_of (option_to_list t.label) (labels ts))

pub spelled_names : (ts : List (Token Key Scalar)) → (with_tokens ts no_columns).names ≡ names ts
spelled_names [] = refl
spelled_names (t ∷ ts) =
    let c = with_tokens ts no_columns in
    label_names t.label (with_piece t.piece c) ∙ ap (λ bytes. flat_map name_of (option_to_list t.label) ++ bytes) (piece_names t.piece c ∙ spelled_names ts) ∙ sym (flat_map-append name_of (option_to_list t.label) (labels ts))
