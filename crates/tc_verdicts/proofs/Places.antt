-- What holds at each place of a list, with one more behind it, and the lines of verdicts.
use Rattle.std.proofs.Common.{◌≡◌, ◌∙◌, ◌+◌, ℕ, zero, suc, List, [], ◌∷◌, ◌++◌, length, append_assoc, arith, ap, sym}
use Rattle.std.specs.Prelude.{IfSome, slice_get}
use Rattle.std.proofs.lemmas.List.{append-nil}
use Rattle.tc_check.specs.declared.verdict.Verdict.{Verdict}
use Rattle.tc_verdicts.specs.Kits.{AtPlaces}
use Rattle.tc_verdicts.specs.Lines.{lines_from, verdict_line}

-- each of the list, and one more at the place behind them
pub places-append : {X : Type 0} (P : ℕ → X → Type 0) (xs : List X) (x : X) → AtPlaces P xs → P (length xs) x → (p : ℕ) → IfSome (slice_get (xs ++ x ∷ []) p) (P p)
places-append P [] x each here zero = here
places-append P [] x each here (suc p) = tt
places-append P (y ∷ ys) x each here zero = each zero
places-append P (y ∷ ys) x each here (suc p) = places-append (λ q. P (suc q)) ys x (λ q. each (suc q)) here p

-- what stands at the place behind them
pub place_behind : {X : Type 0} (P : X → Type 0) (xs : List X) (x : X) → P x → IfSome (slice_get (xs ++ x ∷ []) (length xs)) P
place_behind P [] x here = here
place_behind P (y ∷ ys) x here = place_behind P ys x here

-- the lines of verdicts, and of one more
pub lines-append : (p : ℕ) (vs : List Verdict) (v : Verdict) → lines_from p (vs ++ v ∷ []) ≡ lines_from p vs ++ verdict_line (p + length vs) v
lines-append p [] v = let same : p ≡ p + 0 = omega arith in append-nil (verdict_line p v) ∙ ap (λ n. verdict_line n v) same
lines-append p (u ∷ us) v =
    let same : suc p + length us ≡ p + suc (length us) = omega arith in
    ap (λ bs. verdict_line p u ++ bs) (lines-append (suc p) us v) ∙ sym (append_assoc (verdict_line p u) (lines_from (suc p) us) (verdict_line (suc p + length us) v))
    ∙ ap (λ n. (verdict_line p u ++ lines_from (suc p) us) ++ verdict_line n v) same
