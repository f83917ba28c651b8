-- Replies of a part merged with those of the parts before it, where both ascend.
use Rattle.std.proofs.Common.{◌≡◌, ◌∙◌, ap, sym, subst, ℕ, ◌+◌, ◌<◌, ◌≤◌, false, List, [], ◌∷◌, ◌++◌, length, map, arith, append_assoc}
use Rattle.std.specs.Prelude.{fold, All, Option, Some, None, option_map, IfSome, IfNone}
use Rattle.std.specs.Map.{keys_of}
use Rattle.std.proofs.lemmas.Bool.{lt-ltb}
use Rattle.std.proofs.lemmas.Bool.Decides.{nat_tests}
use Rattle.std.proofs.lemmas.List.{map-append, nil_from_length}
use Rattle.std.proofs.lemmas.List.Elements.{All-nil, All-cons, All-head, All-tail}
use Rattle.tc_model.specs.Keyed.{Keyed, Ascends, on_value}
use Rattle.tc_model.proofs.KeyedOrder.{AreAbove, less_by, sorted_nil, sorted_cons}
use Rattle.tc_request_model.specs.Rendered.{Rendered}
use Rattle.tc_run_model.proofs.UnitedPairs.{AreBehind, behind_first, rest_ascends}
use Rattle.tc_command.specs.declared.replies.Reply.{Reply as KeptReply}
use Rattle.tc_command.specs.Replies.{rendered_of}
use Rattle.tc_route.specs.declared.placed.Placed.{Placed}
use Rattle.tc_route.specs.Gathered.{beside_rendered, joined_rendered, with_rendered}
use Rattle.tc_route.specs.Meaning.{placed_of, rendered_in}
use Rattle.tc_route.specs.Merging.{merging, starts_below}
use Rattle.tc_route.proofs.Fronts.{fold-ascending, fold-behind, fold-front, fold-same}

-- ---- places

-- no reply is below a place
abbrev pub AreFrom : ℕ → Keyed Rendered → Type 0
AreFrom at xs = All (λ e. at ≤ e.0) xs

behind_lower : (n at : ℕ) (xs : Keyed Rendered) → n < at → AreFrom at xs → AreBehind n xs
behind_lower n at [] less from = All-nil (λ e. n < e.0)
behind_lower n at (x ∷ xs) less from =
    All-cons (λ e. n < e.0) x xs (omega (arith, All-head (λ e. at ≤ e.0) x xs from)) (behind_lower n at xs less (All-tail (λ e. at ≤ e.0) x xs from))

from_behind : (at n : ℕ) (xs : Keyed Rendered) → at ≤ n → AreBehind n xs → AreFrom at xs
from_behind at n [] less behind = All-nil (λ e. at ≤ e.0)
from_behind at n (x ∷ xs) less behind =
    All-cons (λ e. at ≤ e.0) x xs (omega (arith, All-head (λ e. n < e.0) x xs behind)) (from_behind at n xs less (All-tail (λ e. n < e.0) x xs behind))

pub from_first : (at : ℕ) (x : ℕ × Rendered) (xs : Keyed Rendered) → at ≡ x.0 → Ascends (x ∷ xs) → AreFrom at (x ∷ xs)
from_first at x xs is ascends =
    All-cons (λ e. at ≤ e.0) x xs (omega (arith, is)) (from_behind at x.0 xs (omega (arith, is)) (behind_first x xs ascends))

-- replies that ascend, of which the first is not below a place
pub none_below : (limit : ℕ) (left : List Placed) → Ascends (rendered_in left) → starts_below limit left ≡ false → AreFrom limit (rendered_in left)
none_below limit [] ascends not = All-nil (λ e. limit ≤ e.0)
none_below limit (x ∷ xs) ascends not =
    let from : limit ≤ x.at = grind (arith, nat_tests, not) in
    All-cons (λ e. limit ≤ e.0) (placed_of x) (rendered_in xs) from (from_behind limit x.at (rendered_in xs) from (behind_first (placed_of x) (rendered_in xs) ascends))

-- ---- steps of the walk

-- a reply that is left, below all that come of the part, is moved
pub moved : (merged : List Placed) (x : Placed) (left : List Placed) (more : Keyed Rendered) (limit : ℕ) → x.at < limit → AreFrom limit more
    → merging (merged ++ x ∷ []) left more ≡ merging merged (x ∷ left) more
moved merged x left more limit less from =
    ap (λ xs. xs ++ fold with_rendered (rendered_in left) more) (map-append placed_of merged (x ∷ []))
    ∙ append_assoc (rendered_in merged) (placed_of x ∷ []) (fold with_rendered (rendered_in left) more)
    ∙ ap (λ xs. rendered_in merged ++ xs) (sym (fold-behind joined_rendered x.at (rendered_of x.reply) (rendered_in left) more (behind_lower x.at limit more less from)))

-- the reply that comes of the part is put in front of those that are left
put_front : (merged left : List Placed) (put : Placed) (a : Rendered) (more : Keyed Rendered) → AreBehind put.at (rendered_in left) → AreBehind put.at more → rendered_of put.reply ≡ a
    → merging (merged ++ put ∷ []) left more ≡ merging merged left ((put.at, a) ∷ more)
put_front merged left put a more behind more_behind is =
    ap (λ xs. xs ++ fold with_rendered (rendered_in left) more) (map-append placed_of merged (put ∷ []))
    ∙ append_assoc (rendered_in merged) (placed_of put ∷ []) (fold with_rendered (rendered_in left) more)
    ∙ ap (λ b. rendered_in merged ++ (put.at, b) ∷ fold with_rendered (rendered_in left) more) is
    ∙ ap (λ xs. rendered_in merged ++ xs) (sym (fold-front joined_rendered put.at a (rendered_in left) more behind more_behind))

-- the reply that comes of the part is joined with the one at its place
put_same : (merged left : List Placed) (first put : Placed) (a : Rendered) (more : Keyed Rendered) → first.at ≡ put.at → AreBehind put.at more → rendered_of put.reply ≡ joined_rendered (rendered_of first.reply) a
    → merging (merged ++ put ∷ []) left more ≡ merging merged (first ∷ left) ((put.at, a) ∷ more)
put_same merged left first put a more same behind is =
    ap (λ xs. xs ++ fold with_rendered (rendered_in left) more) (map-append placed_of merged (put ∷ []))
    ∙ append_assoc (rendered_in merged) (placed_of put ∷ []) (fold with_rendered (rendered_in left) more)
    ∙ ap (λ b. rendered_in merged ++ (put.at, b) ∷ fold with_rendered (rendered_in left) more) is
    ∙ ap (λ xs. rendered_in merged ++ xs) (sym (fold-same joined_rendered put.at (rendered_of first.reply) a (rendered_in left) more behind))
    ∙ ap (λ n. rendered_in merged ++ fold with_rendered ((n, rendered_of first.reply) ∷ rendered_in left) ((put.at, a) ∷ more)) (sym same)

-- ---- whether places ascend

-- places that ascend, from one on
abbrev pub AscendFrom : ℕ → Keyed Rendered → Type 0
AscendFrom least [] = Unit {0}
AscendFrom least (a ∷ more) = (least ≤ a.0) × AscendFrom (a.0 + 1) more

ascend_behind : (n least : ℕ) (xs : Keyed Rendered) → n < least → AscendFrom least xs → AreBehind n xs
ascend_behind n least [] less from = All-nil (λ e. n < e.0)
ascend_behind n least (a ∷ more) less from = All-cons (λ e. n < e.0) a more (omega (arith, from.0)) (ascend_behind n (a.0 + 1) more (omega (arith, from.0)) from.1)

above_behind : (n : ℕ) (xs : Keyed Rendered) → AreBehind n xs → AreAbove n (keys_of xs)
above_behind n [] behind = tt
above_behind n (a ∷ more) behind =
    (less_by n a.0 (lt-ltb n a.0 (All-head (λ e. n < e.0) a more behind)), above_behind n more (All-tail (λ e. n < e.0) a more behind))

pub ascends_from : (least : ℕ) (xs : Keyed Rendered) → AscendFrom least xs → Ascends xs
ascends_from least [] from = sorted_nil
ascends_from least (a ∷ more) from =
    sorted_cons a.0 (keys_of more) (above_behind a.0 more (ascend_behind a.0 (a.0 + 1) more (omega arith) from.1)) (ascends_from (a.0 + 1) more from.1)

-- ---- what the walk takes out of those that are left

-- the first of those that are left, if it is below a place, and what is left then
abbrev IsPopped : ℕ → List Placed → Option Placed → List Placed → Type 0
IsPopped limit old popped left =
    IfSome popped (λ x. (x.at < limit) × (old ≡ x ∷ left)) × IfNone popped ((left ≡ old) × (starts_below limit old ≡ false))

pub still_ascends : (limit : ℕ) (popped : Option Placed) (old left : List Placed) → Ascends (rendered_in old) → IsPopped limit old popped left → Ascends (rendered_in left)
still_ascends limit None old left ascends pop = subst (λ xs. Ascends (rendered_in xs)) (sym pop.1.0) ascends
still_ascends limit (Some x) old left ascends pop =
    rest_ascends (placed_of x) (rendered_in left) (subst (λ xs. Ascends (rendered_in xs)) pop.0.1 ascends)

-- a reply is put after those that are merged, joined with the one that is taken out
pub put_beside : (at limit : ℕ) (popped : Option Placed) (old left merged : List Placed) (reply : KeptReply) (a : Rendered) → Ascends (rendered_in old) → AreFrom at (rendered_in old) → limit ≡ at + 1 → IsPopped limit old popped left
    → rendered_of reply ≡ beside_rendered (option_map (λ x. rendered_of x.reply) popped) a
    → (more : Keyed Rendered) → AreBehind at more → merging (merged ++ record { at = at; reply = reply } ∷ []) left more ≡ merging merged old ((at, a) ∷ more)
put_beside at limit None old left merged reply a ascends from next pop is more behind =
    let behind_all : AreBehind at (rendered_in old) = behind_lower at limit (rendered_in old) (omega (arith, next)) (none_below limit old ascends pop.1.1) in
    put_front merged left (record { at = at; reply = reply }) a more (subst (λ xs. AreBehind at (rendered_in xs)) (sym pop.1.0) behind_all) behind is
    ∙ ap (λ xs. merging merged xs ((at, a) ∷ more)) pop.1.0
put_beside at limit (Some x) old left merged reply a ascends from next pop is more behind =
    let from_first : AreFrom at (rendered_in (x ∷ left)) = subst (λ xs. AreFrom at (rendered_in xs)) pop.0.1 from in
    let same : x.at ≡ at = omega (arith, next, pop.0.0, All-head (λ e. at ≤ e.0) (placed_of x) (rendered_in left) from_first) in
    put_same merged left x (record { at = at; reply = reply }) a more same behind is
    ∙ ap (λ xs. merging merged xs ((at, a) ∷ more)) (sym pop.0.1)

-- ---- the whole

-- of one part nothing is merged
pub nothing_there : (all part : List Placed) → length all ≡ 0 → Ascends (rendered_in part) → rendered_in part ≡ fold with_rendered (rendered_in all) (rendered_in part)
nothing_there all part none ascends =
    sym (ap (λ xs. fold with_rendered (rendered_in xs) (rendered_in part)) (nil_from_length all none) ∙ fold-ascending joined_rendered (rendered_in part) ascends)

-- two parts taken into a map, of which the first ascends
pub both_taken : (es now : List (ℕ × KeptReply)) (first part : List Placed) → Ascends (rendered_in first) → map (on_value rendered_of) es ≡ fold with_rendered [] (rendered_in first)
    → map (on_value rendered_of) now ≡ fold with_rendered (map (on_value rendered_of) es) (rendered_in part) → map (on_value rendered_of) now ≡ fold with_rendered (rendered_in first) (rendered_in part)
both_taken es now first part ascends one both =
    both ∙ ap (λ xs. fold with_rendered xs (rendered_in part)) (one ∙ fold-ascending joined_rendered (rendered_in first) ascends)
