-- A request for one partition: its reply stands in front of those to the requests behind it.
use Rattle.std.proofs.Common.{◌≡◌, ◌∙◌, ap, sym, refl, ℕ, zero, suc, ◌+◌, ◌<◌, Bool, true, false, List, [], ◌∷◌, ◌++◌, length, arith, add-zero}
use Rattle.std.specs.Prelude.{◌==◌, flat_map, fold, slice_get, unwrap_or, cond}
use Rattle.std.proofs.lemmas.Bool.Decides.{nat_tests}
use Rattle.std.proofs.lemmas.List.Elements.{All-nil, All-cons, All-head, All-tail}
use Rattle.std.proofs.lemmas.List.Sums.{fold-append}
use Rattle.tc_model.specs.Keyed.{Keyed}
use Rattle.tc_request_model.specs.Request.{Request}
use Rattle.tc_request_model.specs.Reply.{Reply}
use Rattle.tc_plain_model.specs.Store.{Store, empty}
use Rattle.tc_plain_model.specs.Room.{Limits}
use Rattle.tc_request_model.specs.Part.{part_reply, part_left}
use Rattle.tc_run_model.specs.World.{changed_at}
use Rattle.tc_run_model.proofs.UnitedPairs.{AreBehind}
use Rattle.tc_route.specs.Shares.{is_for, share}
use Rattle.tc_route.specs.Gathered.{joined, with_reply}
use Rattle.tc_route.specs.Answers.{answered, shares_answered}
use Rattle.tc_route.proofs.Fronts.{with_reply-front, fold-behind, AreBehind-fold}

-- ---- places of replies are those of requests

pub AreBehind-answered : (limits : Limits) (at : ℕ) (rs : Keyed Request) (s : Store) → AreBehind at rs → AreBehind at (answered limits rs s)
AreBehind-answered limits at [] s behind = All-nil (λ e. at < e.0)
AreBehind-answered limits at (r ∷ rs) s behind =
    All-cons (λ e. at < e.0) (r.0, part_reply limits r.1 s) (answered limits rs (part_left limits r.1 s)) (All-head (λ e. at < e.0) r rs behind)
    (AreBehind-answered limits at rs (part_left limits r.1 s) (All-tail (λ e. at < e.0) r rs behind))

kept_behind : (b : Bool) (at : ℕ) (r : ℕ × Request) (rs : Keyed Request) → at < r.0 → AreBehind at rs → AreBehind at (cond b (r ∷ rs) rs)
kept_behind true at r rs less behind = All-cons (λ e. at < e.0) r rs less behind
kept_behind false at r rs less behind = behind

pub AreBehind-share : (count p at : ℕ) (rs : Keyed Request) → AreBehind at rs → AreBehind at (share count p rs)
AreBehind-share count p at [] behind = behind
AreBehind-share count p at (r ∷ rs) behind =
    kept_behind (is_for count p r.1) at r (share count p rs) (All-head (λ e. at < e.0) r rs behind) (AreBehind-share count p at rs (All-tail (λ e. at < e.0) r rs behind))

-- ---- the replies of parts, one part after the other

abbrev pub all_of : List (Keyed Reply) → Keyed Reply
all_of parts = flat_map (λ replies. replies) parts

pub AreBehind-shares : (limits : Limits) (count p at : ℕ) (rs : Keyed Request) (ss : List Store) → AreBehind at rs → AreBehind at (all_of (shares_answered limits count p rs ss))
AreBehind-shares limits count p at rs [] behind = All-nil (λ e. at < e.0)
AreBehind-shares limits count p at rs (s ∷ ss) behind =
    both (answered limits (share count p rs) s) (all_of (shares_answered limits count (suc p) rs ss))
    (AreBehind-answered limits at (share count p rs) s (AreBehind-share count p at rs behind)) (AreBehind-shares limits count (suc p) at rs ss behind)
  where
    both : (xs ys : Keyed Reply) → AreBehind at xs → AreBehind at ys → AreBehind at (xs ++ ys)
    both [] ys of_xs of_ys = of_ys
    both (x ∷ xs) ys of_xs of_ys =
        All-cons (λ e. at < e.0) x (xs ++ ys) (All-head (λ e. at < e.0) x xs of_xs) (both xs ys (All-tail (λ e. at < e.0) x xs of_xs) of_ys)

-- ---- a request that one partition gets

-- that the partition of this number gets it, and no other
abbrev pub IsForOne : ℕ → ℕ → Request → Type 0
IsForOne count home r = (q : ℕ) → is_for count q r ≡ (home == q)

-- partitions behind its own do not get it
later : (limits : Limits) (count home p : ℕ) (r : ℕ × Request) (rs : Keyed Request) (ss : List Store) → IsForOne count home r.1 → home < p
    → shares_answered limits count p (r ∷ rs) ss ≡ shares_answered limits count p rs ss
later limits count home p r rs [] one less = refl
later limits count home p r rs (s ∷ ss) one less =
    let apart : (home == p) ≡ false = grind (arith, nat_tests, less) in
    ap (λ b. answered limits (cond b (r ∷ share count p rs) (share count p rs)) s ∷ shares_answered limits count (suc p) (r ∷ rs) ss) (one p ∙ apart)
    ∙ ap (λ more. answered limits (share count p rs) s ∷ more) (later limits count home (suc p) r rs ss one (omega (arith, less)))

pub homed : (limits : Limits) (count home p k : ℕ) (r : ℕ × Request) (rs : Keyed Request) (ss : List Store) (acc : Keyed Reply) → IsForOne count home r.1 → home ≡ p + k → k < length ss
    → AreBehind r.0 acc → AreBehind r.0 rs
    → fold with_reply acc (all_of (shares_answered limits count p (r ∷ rs) ss))
    ≡ (r.0, part_reply limits r.1 (unwrap_or (slice_get ss k) empty)) ∷ fold with_reply acc (all_of (shares_answered limits count p rs (changed_at k (part_left limits r.1) ss)))
homed limits count home p k r rs [] acc one at below behind rs_behind = absurd (omega (arith, below))
homed limits count home p zero r rs (s ∷ ss) acc one at below behind rs_behind =
    let here : home ≡ p = at ∙ add-zero p in
    let is_here : (home == p) ≡ true = grind (arith, nat_tests, here) in
    let reply = part_reply limits r.1 s in
    let mine = answered limits (share count p rs) (part_left limits r.1 s) in
    let others = all_of (shares_answered limits count (suc p) rs ss) in
    let more_behind : AreBehind r.0 (mine ++ others) = AreBehind-shares limits count p r.0 rs (part_left limits r.1 s ∷ ss) rs_behind in
    ap (λ b. fold with_reply acc (answered limits (cond b (r ∷ share count p rs) (share count p rs)) s ++ all_of (shares_answered limits count (suc p) (r ∷ rs) ss))) (one p ∙ is_here)
    ∙ ap (λ more. fold with_reply acc (((r.0, reply) ∷ mine) ++ all_of more)) (later limits count home (suc p) r rs ss one (omega (arith, here)))
    ∙ ap (λ all. fold with_reply all (mine ++ others)) (with_reply-front joined r.0 reply acc behind)
    ∙ fold-behind joined r.0 reply acc (mine ++ others) more_behind
homed limits count home p (suc k) r rs (s ∷ ss) acc one at below behind rs_behind =
    let mine = answered limits (share count p rs) s in
    let apart : (home == p) ≡ false = grind (arith, nat_tests, at) in
    ap (λ b. fold with_reply acc (answered limits (cond b (r ∷ share count p rs) (share count p rs)) s ++ all_of (shares_answered limits count (suc p) (r ∷ rs) ss))) (one p ∙ apart)
    ∙ fold-append with_reply acc mine (all_of (shares_answered limits count (suc p) (r ∷ rs) ss))
    ∙ homed limits count home (suc p) k r rs ss (fold with_reply acc mine) one (omega (arith, at)) (omega (arith, below))
    (AreBehind-fold joined r.0 acc mine behind (AreBehind-answered limits r.0 (share count p rs) s (AreBehind-share count p r.0 rs rs_behind))) rs_behind
    ∙ ap (λ all. (r.0, part_reply limits r.1 (unwrap_or (slice_get ss k) empty)) ∷ all)
    (sym (fold-append with_reply acc mine (all_of (shares_answered limits count (suc p) rs (changed_at k (part_left limits r.1) ss)))))
