-- A query for all partitions: its rows are those of what they store together, and stand in front.
use Rattle.std.proofs.Common.{◌≡◌, ◌∙◌, ap, sym, refl, ℕ, suc, ◌<◌, Bool, true, false, List, [], ◌∷◌, ◌++◌, map, length, arith}
use Rattle.std.specs.Prelude.{◌%◌, ◌==◌, None, flat_map, fold, All}
use Rattle.std.proofs.lemmas.Bool.Decides.{nat_tests}
use Rattle.std.proofs.lemmas.List.Elements.{All-nil, All-cons, All-head, All-tail}
use Rattle.std.proofs.lemmas.List.Sums.{fold-append}
use Rattle.tc_model.specs.Keyed.{Keyed, Ascends, value_of, with_value}
use Rattle.tc_request_model.specs.Request.{Request, Ask, query}
use Rattle.tc_request_model.specs.Reply.{Reply, rows}
use Rattle.tc_model.proofs.KeyedOrder.{All-with_value}
use Rattle.tc_plain_model.specs.Writes.{Pairs}
use Rattle.tc_plain_model.specs.Store.{Store}
use Rattle.tc_request_model.specs.Rows.{rows_over}
use Rattle.tc_plain_model.specs.Room.{Limits}
use Rattle.tc_run_model.specs.World.{united}
use Rattle.tc_run_model.proofs.UnitedPairs.{AreBehind, with_all, Ascends-with_all, with_all-ascending}
use Rattle.tc_route.specs.Shares.{share}
use Rattle.tc_route.specs.Gathered.{with_reply, joined}
use Rattle.tc_route.specs.Answers.{answered, shares_answered, KeepOwn}
use Rattle.tc_route.proofs.Fronts.{fold-behind, with_reply-same}
use Rattle.tc_route.proofs.Homes.{all_of, AreBehind-answered, AreBehind-share}
use Rattle.tc_route.proofs.OrderedRows.{in_order-rows}

-- ---- keys of different partitions

-- keys of the partitions before the one of a number
abbrev AreBefore : ℕ → ℕ → Pairs → Type 0
AreBefore count p ps = All (λ e. (e.0 % count) < p) ps

before_own : (count p : ℕ) (ps : Pairs) → All (λ e. e.0 % count ≡ p) ps → AreBefore count (suc p) ps
before_own count p [] own = All-nil (λ e. (e.0 % count) < suc p)
before_own count p (e ∷ ps) own =
    All-cons (λ e. (e.0 % count) < suc p) e ps (omega (arith, All-head (λ e. e.0 % count ≡ p) e ps own)) (before_own count p ps (All-tail (λ e. e.0 % count ≡ p) e ps own))

before_more : (count p : ℕ) (ps : Pairs) → AreBefore count p ps → AreBefore count (suc p) ps
before_more count p [] before = All-nil (λ e. (e.0 % count) < suc p)
before_more count p (e ∷ ps) before =
    All-cons (λ e. (e.0 % count) < suc p) e ps (omega (arith, All-head (λ e. (e.0 % count) < p) e ps before)) (before_more count p ps (All-tail (λ e. (e.0 % count) < p) e ps before))

before_all : (count p : ℕ) (ps more : Pairs) → AreBefore count p ps → AreBefore count p more → AreBefore count p (with_all ps more)
before_all count p ps [] before more_before = before
before_all count p ps (e ∷ more) before more_before =
    before_all count p (with_value e.0 e.1 ps) more
    (All-with_value (λ e. (e.0 % count) < p) e.0 e.1 ps (All-head (λ e. (e.0 % count) < p) e more more_before) before) (All-tail (λ e. (e.0 % count) < p) e more more_before)

other_key : (count p n m : ℕ) → n % count ≡ p → (m % count) < p → (n == m) ≡ false
other_key count p n m own before = cases (n == m) refl
  where
    cases : (b : Bool) → (n == m) ≡ b → (n == m) ≡ false
    cases false is = is
    cases true is =
        let same : n ≡ m = grind (arith, nat_tests, is) in
        absurd (omega (arith, own, before, ap (λ k. k % count) same))

absent_one : (count p n : ℕ) (ps : Pairs) → n % count ≡ p → AreBefore count p ps → value_of n ps ≡ None
absent_one count p n [] own before = refl
absent_one count p n (e ∷ ps) own before =
    rw (other_key count p n e.0 own (All-head (λ e. (e.0 % count) < p) e ps before)) (absent_one count p n ps own (All-tail (λ e. (e.0 % count) < p) e ps before))

absent : (count p : ℕ) (ps own : Pairs) → AreBefore count p ps → All (λ e. e.0 % count ≡ p) own → All (λ e. value_of e.0 ps ≡ None) own
absent count p ps [] before is_own = All-nil (λ e. value_of e.0 ps ≡ None)
absent count p ps (e ∷ own) before is_own =
    All-cons (λ e. value_of e.0 ps ≡ None) e own (absent_one count p e.0 ps (All-head (λ e. e.0 % count ≡ p) e own is_own) before)
    (absent count p ps own before (All-tail (λ e. e.0 % count ≡ p) e own is_own))

-- ---- the partitions, one after the other

-- what stores hold, one store behind the other
abbrev pub pairs_of : List Store → Pairs
pairs_of ss = flat_map (λ ps. ps) (map (λ s. s.pairs) ss)

-- behind the rows of what the partitions before hold
asked_further : (limits : Limits) (count p at : ℕ) (ask : Ask) (rs : Keyed Request) (ss : List Store) (ps : Pairs) (all : Keyed Reply)
    → Ascends ps → AreBefore count p ps → KeepOwn count p ss → AreBehind at rs
    → fold with_reply ((at, rows (rows_over ask ps)) ∷ all) (all_of (shares_answered limits count p ((at, query ask) ∷ rs) ss))
    ≡ (at, rows (rows_over ask (with_all ps (pairs_of ss)))) ∷ fold with_reply all (all_of (shares_answered limits count p rs ss))
asked_further limits count p at ask rs [] ps all ascends before own behind = refl
asked_further limits count p at ask rs (s ∷ ss) ps all ascends before own behind =
    let mine = answered limits (share count p rs) s in
    let asked = all_of (shares_answered limits count (suc p) ((at, query ask) ∷ rs) ss) in
    let together = with_all ps s.pairs in
    let mine_behind : AreBehind at mine = AreBehind-answered limits at (share count p rs) s (AreBehind-share count p at rs behind) in
    ap (λ xs. fold with_reply xs (mine ++ asked)) (with_reply-same joined at (rows (rows_over ask ps)) (rows (rows_over ask s.pairs)) all)
    ∙ ap (λ r. fold with_reply ((at, rows r) ∷ all) (mine ++ asked)) (in_order-rows ask ps s.pairs ascends own.0 (absent count p ps s.pairs before own.1))
    ∙ fold-append with_reply ((at, rows (rows_over ask together)) ∷ all) mine asked
    ∙ ap (λ xs. fold with_reply xs asked) (fold-behind joined at (rows (rows_over ask together)) all mine mine_behind)
    ∙ asked_further limits count (suc p) at ask rs ss together (fold with_reply all mine) (Ascends-with_all ps s.pairs ascends)
    (before_all count (suc p) ps s.pairs (before_more count p ps before) (before_own count p s.pairs own.1)) own.2 behind
    ∙ ap (λ qs. (at, rows (rows_over ask qs)) ∷ fold with_reply (fold with_reply all mine) (all_of (shares_answered limits count (suc p) rs ss))) (sym (fold-append (λ xs e. with_value e.0 e.1 xs) ps s.pairs (pairs_of ss)))
    ∙ ap (λ xs. (at, rows (rows_over ask (with_all ps (pairs_of (s ∷ ss))))) ∷ xs) (sym (fold-append with_reply all mine (all_of (shares_answered limits count (suc p) rs ss))))

pub asked_all : (limits : Limits) (count at : ℕ) (ask : Ask) (rs : Keyed Request) (ss : List Store) → 0 < length ss → KeepOwn count 0 ss → AreBehind at rs
    → fold with_reply [] (all_of (shares_answered limits count 0 ((at, query ask) ∷ rs) ss))
    ≡ (at, rows (rows_over ask (united (map (λ s. s.pairs) ss)))) ∷ fold with_reply [] (all_of (shares_answered limits count 0 rs ss))
asked_all limits count at ask rs [] some own behind = absurd (omega (arith, some))
asked_all limits count at ask rs (s ∷ ss) some own behind =
    let mine = answered limits (share count 0 rs) s in
    let asked = all_of (shares_answered limits count 1 ((at, query ask) ∷ rs) ss) in
    let mine_behind : AreBehind at mine = AreBehind-answered limits at (share count 0 rs) s (AreBehind-share count 0 at rs behind) in
    fold-append with_reply ((at, rows (rows_over ask s.pairs)) ∷ []) mine asked
    ∙ ap (λ xs. fold with_reply xs asked) (fold-behind joined at (rows (rows_over ask s.pairs)) [] mine mine_behind)
    ∙ asked_further limits count 1 at ask rs ss s.pairs (fold with_reply [] mine) own.0 (before_own count 0 s.pairs own.1) own.2 behind
    ∙ ap (λ qs. (at, rows (rows_over ask (with_all qs (pairs_of ss)))) ∷ fold with_reply (fold with_reply [] mine) (all_of (shares_answered limits count 1 rs ss))) (sym (with_all-ascending s.pairs own.0))
    ∙ ap (λ qs. (at, rows (rows_over ask qs)) ∷ fold with_reply (fold with_reply [] mine) (all_of (shares_answered limits count 1 rs ss))) (sym (fold-append (λ xs e. with_value e.0 e.1 xs) [] s.pairs (pairs_of ss)))
    ∙ ap (λ xs. (at, rows (rows_over ask (united (map (λ s. s.pairs) (s ∷ ss))))) ∷ xs) (sym (fold-append with_reply [] mine (all_of (shares_answered limits count 1 rs ss))))
