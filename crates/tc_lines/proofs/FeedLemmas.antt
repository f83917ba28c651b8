-- The first line feed of bytes, and what stands behind it.
use Rattle.std.proofs.Common.{◌≡◌, ℕ, suc, ◌+◌, ◌-◌, ◌<◌, ◌==◌, Bool, true, List, [], ◌∷◌, Option, Some, None, MatchOption, length, take, drop, get_or, slice_index, sym, ap, ◌∙◌, subst, refl, arith, length-take, get_or-take}
use Rattle.std.proofs.lemmas.Bool.{false_from_ne_true, eqb-true}
use Rattle.std.proofs.lemmas.List.{drop_more, drop-take, drop-drop}
use Rattle.memchr.specs.Find.{IsFirstByte, is_byte}
use Rattle.tc_model.specs.Lines.{feed}
use Rattle.tc_lines.specs.Holding.{Holding, IsOneLine, HasFeedAt}

pub one_line : (bs : List ℕ) → ((k : ℕ) → k < length bs → is_byte feed (slice_index bs k) ≡ true → ⊥) → IsOneLine bs
one_line [] none = tt
one_line (b ∷ bs) none =
    (false_from_ne_true (b == feed) (none 0 (omega arith)), one_line bs (λ k below. none (suc k) (omega arith)))

pub first_feed : (bs : List ℕ) (r : Option ℕ) → IsFirstByte (is_byte feed) bs r → MatchOption r (IsOneLine bs) (HasFeedAt bs)
first_feed bs None h = one_line bs (λ k below. h k (omega arith) below)
first_feed bs (Some n) h =
    let len = length-take n bs in record {
      before = one_line (take n bs) (λ k below.
          let inside : k < n = omega (arith, below, len) in
          λ is. h.0.before k (omega arith) inside (ap (is_byte feed) (sym (get_or-take n bs k 0 inside)) ∙ is));
      at = drop_more bs n 0 h.0.high ∙ ap (λ b. b ∷ drop (n + 1) bs) (eqb-true (get_or bs n 0) feed h.1);
    }

-- what is left of a part when n more bytes are gone from its front
pub part_behind : (bs : List ℕ) (start end n : ℕ) → n < length (take (end - start) (drop start bs))
    → take (end - (start + (n + 1))) (drop (start + (n + 1)) bs) ≡ drop (n + 1) (take (end - start) (drop start bs))
part_behind bs start end n within =
    let len = length-take (end - start) (drop start bs) in
    let split : end - start ≡ (n + 1) + (end - (start + (n + 1))) = omega (arith, within, len) in
    sym (ap (λ m. drop (n + 1) (take m (drop start bs))) split ∙ drop-take (n + 1) (end - (start + (n + 1))) (drop start bs)
    ∙ ap (take (end - (start + (n + 1)))) (drop-drop (n + 1) start bs))

-- what is held when the line before a line feed is gone
pub line_gone : (emptied front bytes : List ℕ) (start end n taken : ℕ) (ended : Bool) (old : Holding) → emptied ≡ [] → n < length old.rest
    → (let inside : Holding = record { front = front; rest = take (end - start) (drop start bytes); taken = taken; ended = ended } in inside ≡ old)
    → (let inside : Holding = record { front = emptied; rest = take (end - (start + (n + 1))) (drop (start + (n + 1)) bytes); taken = taken; ended = ended } in inside ≡ record old { front = []; rest = drop (n + 1) old.rest })
line_gone emptied front bytes start end n taken ended old none within is =
    let rest_is : take (end - start) (drop start bytes) ≡ old.rest = ap (λ h. h.rest) is in
    let behind = part_behind bytes start end n (subst (λ r. n < length r) (sym rest_is) within) ∙ ap (drop (n + 1)) rest_is in
    let count : taken ≡ old.taken = ap (λ h. h.taken) is in
    let end_is : ended ≡ old.ended = ap (λ h. h.ended) is in
    rw (none, behind, count, end_is) refl
