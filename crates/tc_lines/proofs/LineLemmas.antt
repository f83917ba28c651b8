-- What bytes without a line feed are as lines, alone or before others.
use Rattle.std.proofs.Common.{◌≡◌, ℕ, ◌<◌, List, [], ◌∷◌, ◌++◌, length, refl, arith, ap, ◌∙◌, append_assoc}
use Rattle.tc_model.specs.Lines.{feed, lines_of, whole_lines}
use Rattle.tc_lines.specs.Holding.{IsOneLine}
use Rattle.tc_lines.specs.Answer.{BeginsWithLine, IsLastLine}

pub IsOneLine-append : (xs ys : List ℕ) → IsOneLine xs → IsOneLine ys → IsOneLine (xs ++ ys)
IsOneLine-append [] ys p q = q
IsOneLine-append (x ∷ xs) ys p q = (p.0, IsOneLine-append xs ys p.1 q)

pub lines_of-line : (line rest : List ℕ) → IsOneLine line → lines_of (line ++ feed ∷ rest) ≡ line ∷ lines_of rest
lines_of-line [] rest p = refl
lines_of-line (b ∷ bs) rest p = rw (p.0, lines_of-line bs rest p.1) refl

pub whole_lines-line : (line rest : List ℕ) → IsOneLine line → whole_lines (line ++ feed ∷ rest) ≡ line ∷ whole_lines rest
whole_lines-line [] rest p = refl
whole_lines-line (b ∷ bs) rest p = rw (p.0, whole_lines-line bs rest p.1) refl

pub whole_lines-one_line : (line : List ℕ) → IsOneLine line → whole_lines line ≡ []
whole_lines-one_line [] p = refl
whole_lines-one_line (b ∷ bs) p = rw (p.0, whole_lines-one_line bs p.1) refl

lines_of-one_line : (b : ℕ) (bs : List ℕ) → IsOneLine (b ∷ bs) → lines_of (b ∷ bs) ≡ (b ∷ bs) ∷ []
lines_of-one_line b [] p = rw p.0 refl
lines_of-one_line b (c ∷ cs) p = rw (p.0, lines_of-one_line c cs p.1) refl

pub begins_with_line : (bytes line behind : List ℕ) → bytes ≡ line ++ feed ∷ behind → IsOneLine line → BeginsWithLine bytes line behind
begins_with_line bytes line behind e p =
    let moved : (rest : List ℕ) → bytes ++ rest ≡ line ++ feed ∷ (behind ++ rest) =
    λ rest. ap (λ bs. bs ++ rest) e ∙ append_assoc line (feed ∷ behind) rest in record {
      lines = λ rest. ap lines_of (moved rest) ∙ lines_of-line line (behind ++ rest) p;
      whole = λ rest. ap whole_lines (moved rest) ∙ whole_lines-line line (behind ++ rest) p;
    }

pub is_last_line : (line : List ℕ) → 0 < length line → IsOneLine line → IsLastLine line line
is_last_line [] some p = absurd (omega (arith, some))
is_last_line (b ∷ bs) some p = record { lines = lines_of-one_line b bs p; whole = whole_lines-one_line (b ∷ bs) p }
