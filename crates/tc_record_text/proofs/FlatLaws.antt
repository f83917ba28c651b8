-- The text of an item that is a row, and what stands behind it.
use Rattle.std.proofs.Common.{◌≡◌, ◌∙◌, ◌≤◌, ℕ, List, [], ◌∷◌, ◌++◌, true, None, Some, length, map, take, refl, sym, ap, append_assoc, length-append, arith}
use Rattle.std.proofs.Math.Seq.{take-append_seam}
use Rattle.json.specs.Print.{quoted}
use Rattle.serde_json.specs.Written.{compact_text, items_text, members_text}
use Rattle.tc_model.specs.Tree.{leaf, object, items_of, members_of}
use Rattle.tc_model.specs.Document.{Name, Document, Scalar}
use Rattle.tc_model.specs.Json.{data_of, scalar_data, items_data, members_data}
use Rattle.tc_record.specs.Building.{Entry, Levels, innermost, outer, value_in, member_in, name_told}
use Rattle.tc_record.specs.FlatRows.{row_of}
use Rattle.tc_record.specs.FlatRows as flat
use Rattle.tc_record.specs.Record.{labels}
use Rattle.tc_record.specs.Preorder.{closed, Token, token}
use Rattle.tc_record.specs.Walk.{Key}
use Rattle.tc_compact.specs.Meant.{key_meant, levels_meant}
use Rattle.tc_record_text.specs.FlatTexts.{brace, later_labels, row_labels, labelled, row_text}
use Rattle.tc_record_text.specs.Listed.{comma}

abbrev Tokens : Type 0
Tokens = List (Token Key Scalar)

-- scalars as what an object holds, each with the name that its label means
abbrev entries : List Name → List Key → List Scalar → List Entry
entries names [] vs = []
entries names (k ∷ ks) [] = []
entries names (k ∷ ks) (v ∷ vs) = (Some (key_meant names k), leaf v) ∷ entries names ks vs

abbrev row_object : List Name → List Key → List Scalar → Document
row_object names ks vs = object (members_of (map member_in (entries names ks vs)))

-- ---- what is read of a row

members_read : (names : List Name) (ks : List Key) (vs : List Scalar) (behind : Tokens)
    → levels_meant names ((flat.members_of ks vs ++ token None closed ∷ []) ++ behind) ≡ entries names ks vs ∷ levels_meant names behind
members_read names [] vs behind = refl
members_read names (k ∷ ks) [] behind = refl
members_read names (k ∷ ks) (v ∷ vs) behind =
    ap (λ (ls : Levels). ((Some (key_meant names k), leaf v) ∷ innermost ls) ∷ outer ls) (members_read names ks vs behind)

row_read : (names : List Name) (ks : List Key) (vs : List Scalar) (behind : Tokens)
    → levels_meant names (row_of ks vs ++ behind) ≡ ((None, row_object names ks vs) ∷ innermost (levels_meant names behind)) ∷ outer (levels_meant names behind)
row_read names ks vs behind =
    ap (λ (ls : Levels). ((None, object (members_of (map member_in (innermost ls)))) ∷ innermost (outer ls)) ∷ outer (outer ls)) (members_read names ks vs behind)

-- ---- its text

-- a label, a value, what follows and the end of the object
moved : (q c r : List ℕ) → ((q ++ 58 ∷ []) ++ (c ++ r)) ++ 125 ∷ [] ≡ q ++ 58 ∷ (c ++ (r ++ 125 ∷ []))
moved q c r = append_assoc (q ++ 58 ∷ []) (c ++ r) (125 ∷ []) ∙ append_assoc q (58 ∷ []) ((c ++ r) ++ 125 ∷ []) ∙ ap (λ s. q ++ 58 ∷ s) (append_assoc c r (125 ∷ []))

abbrev name_text : List Name → Key → List ℕ
name_text names k = quoted (name_told (Some (key_meant names k)))

abbrev value_text : Scalar → List ℕ
value_text v = compact_text (scalar_data v)

later_text : (names : List Name) (ks : List Key) (vs : List Scalar) → members_text true (members_data (members_of (map member_in (entries names ks vs)))) ≡ row_text (later_labels names ks) vs
later_text names [] vs = refl
later_text names (k ∷ ks) [] = refl
later_text names (k ∷ ks) (v ∷ vs) =
    ap (λ s. comma ∷ (name_text names k ++ 58 ∷ (value_text v ++ s))) (later_text names ks vs)
    ∙ ap (λ s. comma ∷ s) (sym (moved (name_text names k) (value_text v) (labelled (later_labels names ks) vs)))

abbrev row_of_text : List Name → List Key → List Scalar → List ℕ
row_of_text names ks vs = comma ∷ compact_text (data_of (row_object names ks vs))

text_is : (names : List Name) (ks : List Key) (vs : List Scalar) → 1 ≤ length ks → length ks ≡ length vs → row_of_text names ks vs ≡ row_text (row_labels names ks) vs
text_is names [] vs some same = absurd (omega (arith, some))
text_is names (k ∷ ks) [] some same = absurd (omega (arith, same))
text_is names (k ∷ ks) (v ∷ vs) some same =
    ap (λ s. comma ∷ brace ∷ (name_text names k ++ 58 ∷ (value_text v ++ s))) (later_text names ks vs)
    ∙ ap (λ s. comma ∷ brace ∷ s) (sym (moved (name_text names k) (value_text v) (labelled (later_labels names ks) vs)))

-- the text of the items from a row on
pub items_from : (names : List Name) (ks : List Key) (vs : List Scalar) (behind tokens : Tokens) → 1 ≤ length ks → length ks ≡ length vs → tokens ≡ row_of ks vs ++ behind
    → items_text true (items_data (items_of (map value_in (innermost (levels_meant names tokens))))) ≡ row_text (row_labels names ks) vs ++ items_text true (items_data (items_of (map value_in (innermost (levels_meant names behind)))))
items_from names ks vs behind tokens some same are =
    ap (λ ts. items_text true (items_data (items_of (map value_in (innermost (levels_meant names ts)))))) are
    ∙ ap (λ (ls : Levels). items_text true (items_data (items_of (map value_in (innermost ls))))) (row_read names ks vs behind)
    ∙ ap (λ s. s ++ items_text true (items_data (items_of (map value_in (innermost (levels_meant names behind)))))) (text_is names ks vs some same)

pub outer_behind : (names : List Name) (ks : List Key) (vs : List Scalar) (behind tokens : Tokens) → tokens ≡ row_of ks vs ++ behind → outer (levels_meant names tokens) ≡ outer (levels_meant names behind)
outer_behind names ks vs behind tokens are = ap (λ ts. outer (levels_meant names ts)) are ∙ ap outer (row_read names ks vs behind)

-- ---- its labels

members_labels : (ks : List Key) (vs : List Scalar) (behind : Tokens) → length ks ≡ length vs → labels ((flat.members_of ks vs ++ token None closed ∷ []) ++ behind) ≡ ks ++ labels behind
members_labels [] vs behind same = refl
members_labels (k ∷ ks) [] behind same = absurd (omega (arith, same))
members_labels (k ∷ ks) (v ∷ vs) behind same = ap (λ ls. k ∷ ls) (members_labels ks vs behind (omega (arith, same)))

-- the first labels of tokens that begin with a row are its own
pub labels_first : (n : ℕ) (ks : List Key) (vs : List Scalar) (behind tokens : Tokens) → length ks ≡ length vs → length ks ≡ n → tokens ≡ row_of ks vs ++ behind → take n (labels tokens) ≡ ks
labels_first n ks vs behind tokens same many are =
    ap (λ ts. take n (labels ts)) are ∙ ap (take n) (members_labels ks vs behind same) ∙ ap (λ k. take k (ks ++ labels behind)) (sym many) ∙ take-append_seam ks (labels behind)

-- ---- one row put

pub one_row : (out staged out2 staged2 written rest : List ℕ) (t : List ℕ) → out2 ++ staged2 ≡ out ++ (staged ++ written) → t ≡ written ++ rest → (out2 ++ staged2) ++ rest ≡ (out ++ staged) ++ t
one_row out staged out2 staged2 written rest t put is =
    ap (λ s. s ++ rest) (put ∙ sym (append_assoc out staged written)) ∙ append_assoc (out ++ staged) written rest ∙ ap (λ s. (out ++ staged) ++ s) (sym is)

pub shorter_behind : (ks : List Key) (vs : List Scalar) (behind tokens : Tokens) → tokens ≡ row_of ks vs ++ behind → length behind ≤ length tokens
shorter_behind ks vs behind tokens are = omega (arith, ap length are, length-append (row_of ks vs) behind)
