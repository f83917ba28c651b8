-- What is left behind a further line.
use Rattle.std.proofs.Common.{◌≡◌, ◌≢◌, ℕ, zero, suc, ◌+◌, ◌-◌, ◌%◌, ◌∷◌, refl, add-one, arith}
use Rattle.tc_gen.specs.Generated.{line_of, next_drawn, drawn_for, lines_from}

pub with_next : (given left drawn : ℕ) → left ≢ 0 → drawn ≡ drawn_for given
    → lines_from (suc given) left ≡ line_of (given + 1) (next_drawn drawn % 5000) ∷ lines_from (suc (given + 1)) (left - 1)
with_next given zero drawn some is = absurd (some refl)
with_next given (suc more) drawn some is =
    let one_less : suc more - 1 ≡ more = omega arith in
    rw (add-one given, one_less, is) refl
