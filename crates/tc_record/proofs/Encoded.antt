-- What the encoder writes is the record.
use Rattle.std.proofs.Common.{◌≡◌, ◌∙◌, ◌+◌, ℕ, refl, ap, List, [], ◌∷◌, ◌++◌, length, map, append_assoc, arith}
use Rattle.std.specs.Int.{w32, to_be_bytes}
use Rattle.tc_model.specs.Document.{Document}
use Rattle.tc_record.specs.Preorder.{tokens_of}
use Rattle.tc_record.specs.declared.measure.Measure.{Measure}
use Rattle.tc_record.specs.Measured.{record_len, column_width}
use Rattle.tc_record.specs.Record.{tags, fixed, texts, labels, width, numbers, joined, body, record_of}
use Rattle.tc_record.specs.Written.{begun, with_tokens, in_a_row}
use Rattle.tc_record.proofs.Lengths.{IsExactMeasure}
use Rattle.tc_record.proofs.Writing.{written_behind}

-- eight parts, each behind those before it
pub eight_parts : (a b c d e f g h s t u v w x y z out : List ℕ) → t ≡ s ++ a → u ≡ t ++ b → v ≡ u ++ c → w ≡ v ++ d → x ≡ w ++ e → y ≡ x ++ f → z ≡ y ++ g → out ≡ z ++ h
    → out ≡ s ++ (a ++ (b ++ (c ++ (d ++ (e ++ (f ++ (g ++ h)))))))
eight_parts a b c d e f g h s t u v w x y z out p1 p2 p3 p4 p5 p6 p7 p8 = rw (p8, p7, p6, p5, p4, p3, p2, p1) (simp append_assoc)

-- a header of form 0, by its fields
abbrev pub header : ℕ → ℕ → ℕ → ℕ → ℕ → ℕ → ℕ → List ℕ
header len tag_count fixed_count text_count text_width name_count name_width =
    to_be_bytes w32 len ++ (0 ∷ (to_be_bytes w32 tag_count ++ (to_be_bytes w32 fixed_count ++ (to_be_bytes w32 text_count ++ (text_width ∷ (to_be_bytes w32 name_count ++ name_width ∷ []))))))

same_header : (a b c d e f g n o p q r s t : ℕ) → a ≡ n → b ≡ o → c ≡ p → d ≡ q → e ≡ r → f ≡ s → g ≡ t → header a b c d e f g ≡ header n o p q r s t
same_header a b c d e f g n o p q r s t p1 p2 p3 p4 p5 p6 p7 = cc

-- a header in an empty vector
pub headed : (out before : List ℕ) (a b c d e f g n : ℕ) → out ≡ before ++ header a b c d e f g → before ≡ [] → a ≡ n → out ≡ header n b c d e f g
headed out before a b c d e f g n written empty same = written ∙ ap (λ bytes. bytes ++ header a b c d e f g) empty ∙ ap (λ len. header len b c d e f g) same

same_behind : (h k : List ℕ) (a b x y : ℕ) (columns : ℕ → ℕ → List ℕ) → h ≡ k → a ≡ x → b ≡ y → h ++ columns a b ≡ k ++ columns x y
same_behind h k a b x y columns p q r = rw (p, q, r) refl

-- a header, and the columns behind it
pub encoded : (d : Document) (m : Measure) (header_bytes out : List ℕ) → IsExactMeasure d m → header_bytes ≡ header (record_len m) m.tags m.fixed m.texts.count (column_width m.texts) m.names.count (column_width m.names)
    → out ≡ in_a_row (with_tokens (begun (column_width m.texts) (column_width m.names) header_bytes) (tokens_of d)) → out ≡ record_of d
encoded d m header_bytes out exact headed is =
    let ts = tokens_of d in
    let lengths = map length (texts ts) in
    let slots = map length (labels ts) in
    let len : record_len m ≡ 23 + length (body ts slots (joined (labels ts))) = exact.len ∙ omega arith in
    let front = same_header _ _ _ _ _ _ _ _ _ _ _ _ _ _ len exact.tags exact.fixed exact.texts.count exact.texts.width exact.names.count exact.names.width in
    let columns : ℕ → ℕ → List ℕ = λ text_width name_width. tags ts ++ (fixed ts ++ (numbers text_width lengths ++ (joined (texts ts) ++ (numbers name_width slots ++ joined (labels ts))))) in
    let written = is ∙ written_behind ts (column_width m.texts) (column_width m.names) header_bytes in
    written ∙ same_behind header_bytes _ (column_width m.texts) (column_width m.names) (width lengths) (width slots) columns (headed ∙ front) exact.texts.width exact.names.width
