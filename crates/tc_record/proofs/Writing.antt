-- What the columns hold once tokens are written into them.
use Rattle.std.proofs.Common.{◌≡◌, ◌∙◌, ℕ, refl, sym, ap, List, [], ◌∷◌, ◌++◌, length, map, Option, None, Some, option_to_list, append_assoc, append-nil}
use Rattle.std.specs.Int.{bytes_high_first}
use Rattle.std.proofs.lemmas.List.{map-append}
use Rattle.std.proofs.lemmas.List.Concat.{flat_map-append}
use Rattle.tc_model.specs.Tree.{leaf, array, object}
use Rattle.tc_model.specs.Document.{Name, Scalar}
use Rattle.tc_record.specs.Preorder.{Token}
use Rattle.tc_record.specs.Record.{piece_tag, piece_fixed, piece_text, tags, fixed, texts, labels, numbers, joined}
use Rattle.tc_record.specs.Written.{Written, begun, with_label, with_piece, with_tokens, in_a_row}
use Rattle.tc_record.proofs.Folds.{Appends, Labels}

pub written-append : Appends with_tokens
written-append [] us w = refl
written-append (t ∷ ts) us w = written-append ts us (with_piece (with_label w t.label) t.piece)

pub written-labelled : Labels with_tokens with_label
written-labelled w n (leaf s) = refl
written-labelled w n (array xs) = refl
written-labelled w n (object ms) = refl

-- ---- columns of values, which a label leaves as they are

record IsKept (w v : Written) : Type 0 where
  text_width : v.text_width ≡ w.text_width
  name_width : v.name_width ≡ w.name_width
  tags : v.tags ≡ w.tags
  fixed : v.fixed ≡ w.fixed
  text_lengths : v.text_lengths ≡ w.text_lengths
  texts : v.texts ≡ w.texts

label_keeps : (w : Written) (l : Option Name) → IsKept w (with_label w l)
label_keeps w None = record { text_width = refl; name_width = refl; tags = refl; fixed = refl; text_lengths = refl; texts = refl }
label_keeps w (Some n) = record { text_width = refl; name_width = refl; tags = refl; fixed = refl; text_lengths = refl; texts = refl }

-- what stood there, then a part, then the rest
onto_rest : (here before part rest all : List ℕ) → here ≡ before → all ≡ part ++ rest → (here ++ part) ++ rest ≡ before ++ all
onto_rest here before part rest all is parts = append_assoc here part rest ∙ rw (is, parts) refl

numbers_of-append : (w : ℕ) (xs ys : List (List ℕ)) → numbers w (map length (xs ++ ys)) ≡ numbers w (map length xs) ++ numbers w (map length ys)
numbers_of-append w xs ys = ap (numbers w) (map-append length xs ys) ∙ flat_map-append (bytes_high_first w) (map length xs) (map length ys)

joined-append : (xs ys : List (List ℕ)) → joined (xs ++ ys) ≡ joined xs ++ joined ys
joined-append xs ys = flat_map-append (λ x. x) xs ys

written_tags : (ts : List (Token Name Scalar)) (w : Written) → (with_tokens w ts).tags ≡ w.tags ++ tags ts
written_tags [] w = sym (append-nil w.tags)
written_tags (t ∷ ts) w = written_tags ts (with_piece (with_label w t.label) t.piece) ∙ onto_rest _ w.tags (piece_tag t.piece ∷ []) (tags ts) _ (label_keeps w t.label).tags refl

written_fixed : (ts : List (Token Name Scalar)) (w : Written) → (with_tokens w ts).fixed ≡ w.fixed ++ fixed ts
written_fixed [] w = sym (append-nil w.fixed)
written_fixed (t ∷ ts) w = written_fixed ts (with_piece (with_label w t.label) t.piece) ∙ onto_rest _ w.fixed (piece_fixed t.piece) (fixed ts) _ (label_keeps w t.label).fixed refl

written_texts : (ts : List (Token Name Scalar)) (w : Written) → (with_tokens w ts).texts ≡ w.texts ++ joined (texts ts)
written_texts [] w = sym (append-nil w.texts)
written_texts (t ∷ ts) w =
    written_texts ts (with_piece (with_label w t.label) t.piece) ∙ onto_rest _ w.texts (joined (piece_text t.piece)) (joined (texts ts)) _ (label_keeps w t.label).texts (joined-append (piece_text t.piece) (texts ts))

written_text_lengths : (ts : List (Token Name Scalar)) (w : Written) → (with_tokens w ts).text_lengths ≡ w.text_lengths ++ numbers w.text_width (map length (texts ts))
written_text_lengths [] w = sym (append-nil w.text_lengths)
written_text_lengths (t ∷ ts) w =
    let v = with_label w t.label in
    let kept = label_keeps w t.label in
    written_text_lengths ts (with_piece v t.piece) ∙ ap (λ n. (v.text_lengths ++ numbers n (map length (piece_text t.piece))) ++ numbers n (map length (texts ts))) kept.text_width
    ∙ onto_rest v.text_lengths w.text_lengths (numbers w.text_width (map length (piece_text t.piece))) (numbers w.text_width (map length (texts ts))) _ kept.text_lengths (numbers_of-append w.text_width (piece_text t.piece) (texts ts))

-- ---- columns of names

label_name_lengths : (w : Written) (l : Option Name) → (with_label w l).name_lengths ≡ w.name_lengths ++ numbers w.name_width (map length (option_to_list l))
label_name_lengths w None = sym (append-nil w.name_lengths)
label_name_lengths w (Some n) = ap (λ bytes. w.name_lengths ++ bytes) (sym (append-nil (bytes_high_first w.name_width (length n))))

label_names : (w : Written) (l : Option Name) → (with_label w l).names ≡ w.names ++ joined (option_to_list l)
label_names w None = sym (append-nil w.names)
label_names w (Some n) = ap (λ bytes. w.names ++ bytes) (sym (append-nil n))

written_name_lengths : (ts : List (Token Name Scalar)) (w : Written) → (with_tokens w ts).name_lengths ≡ w.name_lengths ++ numbers w.name_width (map length (labels ts))
written_name_lengths [] w = sym (append-nil w.name_lengths)
written_name_lengths (t ∷ ts) w =
    let v = with_label w t.label in
    let front = numbers w.name_width (map length (option_to_list t.label)) in
    let rest = numbers w.name_width (map length (labels ts)) in
    written_name_lengths ts (with_piece v t.piece) ∙ ap (λ n. v.name_lengths ++ numbers n (map length (labels ts))) (label_keeps w t.label).name_width ∙ ap (λ bytes. bytes ++ rest) (label_name_lengths w t.label)
    ∙ onto_rest w.name_lengths w.name_lengths front rest _ refl (numbers_of-append w.name_width (option_to_list t.label) (labels ts))

written_names : (ts : List (Token Name Scalar)) (w : Written) → (with_tokens w ts).names ≡ w.names ++ joined (labels ts)
written_names [] w = sym (append-nil w.names)
written_names (t ∷ ts) w =
    let v = with_label w t.label in
    written_names ts (with_piece v t.piece) ∙ ap (λ bytes. bytes ++ joined (labels ts)) (label_names w t.label)
    ∙ onto_rest w.names w.names (joined (option_to_list t.label)) (joined (labels ts)) _ refl (joined-append (option_to_list t.label) (labels ts))

-- ---- the whole

in_a_row_are : (v : Written) (h t a b c d e : List ℕ) → v.tags ≡ h ++ t → v.fixed ≡ a → v.text_lengths ≡ b → v.texts ≡ c → v.name_lengths ≡ d → v.names ≡ e → in_a_row v ≡ h ++ (t ++ (a ++ (b ++ (c ++ (d ++ e)))))
in_a_row_are v h t a b c d e p1 p2 p3 p4 p5 p6 = rw (p1, p2, p3, p4, p5, p6) (append_assoc h t _)

-- tokens behind a header
pub written_behind : (ts : List (Token Name Scalar)) (tw nw : ℕ) (header : List ℕ) → in_a_row (with_tokens (begun tw nw header) ts)
    ≡ header ++ (tags ts ++ (fixed ts ++ (numbers tw (map length (texts ts)) ++ (joined (texts ts) ++ (numbers nw (map length (labels ts)) ++ joined (labels ts))))))
written_behind ts tw nw header =
    let w = begun tw nw header in
    in_a_row_are (with_tokens w ts) header (tags ts) _ _ _ _ _ (written_tags ts w) (written_fixed ts w) (written_text_lengths ts w) (written_texts ts w) (written_name_lengths ts w) (written_names ts w)
