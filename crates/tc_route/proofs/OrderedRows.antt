-- Rows of several partitions in ascending key are the rows of what they store together.
use Rattle.std.proofs.Common.{◌≡◌, ◌∙◌, ap, sym, refl, ℕ, ◌<◌, Bool, true, false, List, [], ◌∷◌, ◌++◌, map, arith}
use Rattle.std.specs.Prelude.{Option, Some, None, nat_lt, ◌==◌, fold, All, if◌then◌else◌}
use Rattle.std.proofs.lemmas.Bool.Decides.{nat_tests}
use Rattle.std.proofs.lemmas.List.Elements.{All-nil, All-cons, All-head, All-tail}
use Rattle.std.proofs.lemmas.List.Sums.{fold-append}
use Rattle.tc_model.specs.Document.{Document}
use Rattle.tc_model.specs.Keyed.{Keyed, Ascends, value_of, with_value, values_in}
use Rattle.tc_request_model.specs.Request.{Ask}
use Rattle.tc_request_model.specs.Reply.{Row}
use Rattle.tc_model.proofs.KeyedOrder.{sorted-with_value, sorted_nil}
use Rattle.tc_model.proofs.KeyedLookups.{value_of-with_value}
use Rattle.tc_plain_model.specs.Writes.{Pairs}
use Rattle.tc_request_model.specs.Paths.{reached}
use Rattle.tc_request_model.specs.Rows.{row_of, rows_over, meets}
use Rattle.tc_run_model.proofs.UnitedPairs.{AreBehind, with_value-front, with_value-behind, behind_first, rest_ascends, with_all, with_all-ascending}
use Rattle.tc_route.specs.Gathered.{with_row, in_order}

-- ---- the row of a document

abbrev keyed : List Row → Keyed Row
keyed rs = map (λ r. (r.key, r)) rs

keyed-append : (rs qs : List Row) → keyed (rs ++ qs) ≡ keyed rs ++ keyed qs
keyed-append [] qs = refl
keyed-append (r ∷ rs) qs = ap (λ more. (r.key, r) ∷ more) (keyed-append rs qs)

values_in-keyed : (rs : List Row) → values_in (keyed rs) ≡ rs
values_in-keyed [] = refl
values_in-keyed (r ∷ rs) = ap (λ more. r ∷ more) (values_in-keyed rs)

-- at most one row, of this key
abbrev IsOf : ℕ → List Row → Type 0
IsOf n [] = Unit {0}
IsOf n (r ∷ []) = r.key ≡ n
IsOf n (r ∷ q ∷ more) = ⊥

row_is_of : (ask : Ask) (e : ℕ × Document) → IsOf e.0 (row_of ask.equal_to e.0 (reached ask.path e.1))
row_is_of ask e = from (reached ask.path e.1)
  where
    by : (b : Bool) (values : List Document) → IsOf e.0 (if b then record { key = e.0; values = values } ∷ [] else [])
    by true values = refl
    by false values = tt

    from : (values : List Document) → IsOf e.0 (row_of ask.equal_to e.0 values)
    from [] = tt
    from (v ∷ vs) = by (meets ask.equal_to (v ∷ vs)) (v ∷ vs)

-- ---- rows of a document more

abbrev one : Ask → ℕ × Document → List Row
one ask e = row_of ask.equal_to e.0 (reached ask.path e.1)

rows_behind : (ask : Ask) (n : ℕ) (ps : Pairs) → AreBehind n ps → AreBehind n (keyed (rows_over ask ps))
rows_behind ask n [] behind = All-nil (λ e. n < e.0)
rows_behind ask n (e ∷ ps) behind =
    with_one (one ask e) (row_is_of ask e) (rows_behind ask n ps (All-tail (λ e. n < e.0) e ps behind))
  where
    with_one : (rs : List Row) → IsOf e.0 rs → AreBehind n (keyed (rows_over ask ps)) → AreBehind n (keyed (rs ++ rows_over ask ps))
    with_one [] of more = more
    with_one (r ∷ []) of more = All-cons (λ e. n < e.0) (r.key, r) (keyed (rows_over ask ps)) (omega (arith, of, All-head (λ e. n < e.0) e ps behind)) more
    with_one (r ∷ q ∷ rs) of more = absurd of

put_front : (n : ℕ) (rs : List Row) (all : List Row) → IsOf n rs → AreBehind n (keyed all) → fold with_row (keyed all) rs ≡ keyed (rs ++ all)
put_front n [] all of behind = refl
put_front n (r ∷ []) all of behind = with_value-front r.key r (keyed all) (rw of behind)
put_front n (r ∷ q ∷ rs) all of behind = absurd of

put_behind : (m n : ℕ) (first rs : List Row) (all all' : List Row) → m < n → IsOf m first → IsOf n rs → fold with_row (keyed all) rs ≡ keyed all'
    → fold with_row (keyed (first ++ all)) rs ≡ keyed (first ++ all')
put_behind m n [] rs all all' after of_first of same = same
put_behind m n (q ∷ []) [] all all' after of_first of same = ap (λ more. (q.key, q) ∷ more) same
put_behind m n (q ∷ []) (r ∷ []) all all' after of_first of same =
    with_value-behind q.key r.key q r (keyed all) (omega (arith, after, of_first, of)) ∙ ap (λ more. (q.key, q) ∷ more) same
put_behind m n (q ∷ []) (r ∷ p ∷ rs) all all' after of_first of same = absurd of
put_behind m n (q ∷ p ∷ first) rs all all' after of_first of same = absurd of_first

absent_tail : {V : Type 0} (b : Bool) (found rest : Option V) (v : V) → found ≡ (if b then Some v else rest) → found ≡ None → (b ≡ false) × (rest ≡ None)
absent_tail true found rest v is none = absurd (cc (is, none))
absent_tail false found rest v is none = (refl, sym is ∙ none)

rows_with : (ask : Ask) (n : ℕ) (d : Document) (ps : Pairs) → Ascends ps → value_of n ps ≡ None → fold with_row (keyed (rows_over ask ps)) (one ask (n, d)) ≡ keyed (rows_over ask (with_value n d ps))
rows_with ask n d [] ascends none = put_front n (one ask (n, d)) [] (row_is_of ask (n, d)) (All-nil (λ e. n < e.0))
rows_with ask n d (e ∷ ps) ascends none =
    let parts : ((n == e.0) ≡ false) × (value_of n ps ≡ None) = absent_tail (n == e.0) (value_of n (e ∷ ps)) (value_of n ps) e.1 refl none in
    step (nat_lt n e.0) refl parts.0 (rows_with ask n d ps (rest_ascends e ps ascends) parts.1)
  where
    step : (b : Bool) → nat_lt n e.0 ≡ b → (n == e.0) ≡ false → fold with_row (keyed (rows_over ask ps)) (one ask (n, d)) ≡ keyed (rows_over ask (with_value n d ps))
        → fold with_row (keyed (rows_over ask (e ∷ ps))) (one ask (n, d)) ≡ keyed (rows_over ask (if b then (n, d) ∷ e ∷ ps else (if n == e.0 then (e.0, d) ∷ ps else e ∷ with_value n d ps)))
    step true before other more =
        put_front n (one ask (n, d)) (rows_over ask (e ∷ ps)) (row_is_of ask (n, d)) (rows_behind ask n (e ∷ ps) (all_behind (grind (arith, nat_tests, before))))
      where
        all_behind : n < e.0 → AreBehind n (e ∷ ps)
        all_behind before = All-cons (λ e. n < e.0) e ps before (further ps (behind_first e ps ascends))
          where
            further : (qs : Pairs) → AreBehind e.0 qs → AreBehind n qs
            further [] behind = All-nil (λ e. n < e.0)
            further (q ∷ qs) behind = All-cons (λ e. n < e.0) q qs (omega (arith, before, All-head (λ q. e.0 < q.0) q qs behind)) (further qs (All-tail (λ q. e.0 < q.0) q qs behind))
    step false before other more =
        rw other (put_behind e.0 n (one ask e) (one ask (n, d)) (rows_over ask ps) (rows_over ask (with_value n d ps)) (grind (arith, nat_tests, before, other)) (row_is_of ask e) (row_is_of ask (n, d)) more)

-- ---- rows of all

none_still : (n : ℕ) (d : Document) (ps more : Pairs) → AreBehind n more → All (λ e. value_of e.0 ps ≡ None) more → All (λ e. value_of e.0 (with_value n d ps) ≡ None) more
none_still n d ps [] behind none = All-nil (λ e. value_of e.0 (with_value n d ps) ≡ None)
none_still n d ps (e ∷ more) behind none =
    let apart : (e.0 == n) ≡ false = grind (arith, nat_tests, All-head (λ e. n < e.0) e more behind) in
    All-cons (λ e. value_of e.0 (with_value n d ps) ≡ None) e more
    (value_of-with_value e.0 n d ps ∙ rw apart (All-head (λ e. value_of e.0 ps ≡ None) e more none))
    (none_still n d ps more (All-tail (λ e. n < e.0) e more behind) (All-tail (λ e. value_of e.0 ps ≡ None) e more none))

rows_with_all : (ask : Ask) (ps more : Pairs) → Ascends ps → Ascends more → All (λ e. value_of e.0 ps ≡ None) more
    → fold with_row (keyed (rows_over ask ps)) (rows_over ask more) ≡ keyed (rows_over ask (with_all ps more))
rows_with_all ask ps [] ascends more_ascend none = refl
rows_with_all ask ps (e ∷ more) ascends more_ascend none =
    fold-append with_row (keyed (rows_over ask ps)) (one ask e) (rows_over ask more)
    ∙ ap (λ all. fold with_row all (rows_over ask more)) (rows_with ask e.0 e.1 ps ascends (All-head (λ e. value_of e.0 ps ≡ None) e more none))
    ∙ rows_with_all ask (with_value e.0 e.1 ps) more (sorted-with_value e.0 e.1 ps ascends) (rest_ascends e more more_ascend)
    (none_still e.0 e.1 ps more (behind_first e more more_ascend) (All-tail (λ e. value_of e.0 ps ≡ None) e more none))

absent_from_nothing : (more : Pairs) → All (λ e. value_of {V = Document} e.0 [] ≡ None) more
absent_from_nothing [] = All-nil (λ e. value_of {V = Document} e.0 [] ≡ None)
absent_from_nothing (e ∷ more) = All-cons (λ e. value_of {V = Document} e.0 [] ≡ None) e more refl (absent_from_nothing more)

-- the rows of two partitions without a common key
pub in_order-rows : (ask : Ask) (ps more : Pairs) → Ascends ps → Ascends more → All (λ e. value_of e.0 ps ≡ None) more
    → in_order (rows_over ask ps ++ rows_over ask more) ≡ rows_over ask (with_all ps more)
in_order-rows ask ps more ascends more_ascend none =
    let first : fold with_row [] (rows_over ask ps) ≡ keyed (rows_over ask ps) =
    rows_with_all ask [] ps (sorted_nil) ascends (absent_from_nothing ps) ∙ ap (λ all. keyed (rows_over ask all)) (with_all-ascending ps ascends) in
    ap values_in (fold-append with_row [] (rows_over ask ps) (rows_over ask more)
    ∙ ap (λ all. fold with_row all (rows_over ask more)) first
    ∙ rows_with_all ask ps more ascends more_ascend none)
    ∙ values_in-keyed (rows_over ask (with_all ps more))
