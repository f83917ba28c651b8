-- How many generated lines there are, and that they are far shorter than lines may be.
use Rattle.std.proofs.Common.{◌≡◌, ◌≤◌, ◌<◌, ◌+◌, ◌^◌, ◌%◌, ◌==◌, ℕ, zero, suc, Bool, true, false, cond, List, ◌++◌, length, length-append, refl, ap, arith, codes}
use Rattle.std.specs.List.{AllByRecursion}
use Rattle.std.specs.Fmt.{decimal}
use Rattle.std.proofs.lemmas.Fmt.{length-decimal-le}
use Rattle.tc_model.specs.Limits.{max_line}
use Rattle.tc_gen.specs.Generated.{delete_line, generated, key_at, line_of, lines_from, members_at, tags_member, upsert_line, user_member}

lines_count : (k n : ℕ) → length (lines_from k n) ≡ suc n
lines_count k zero = refl
lines_count k (suc n) = ap suc (lines_count (suc k) n)

-- a line for each command, and the one behind them
pub generated_count : (n : ℕ) → length (generated n) ≡ suc n
generated_count n = lines_count 1 n

-- ---- lengths

if_short : (b : Bool) (most : ℕ) (xs ys : List ℕ) → length xs ≤ most → length ys ≤ most → length (cond b xs ys) ≤ most
if_short true most xs ys p q = p
if_short false most xs ys p q = q

decimal_short : (n : ℕ) → n < 2 ^ 64 → length (decimal n) ≤ 20
decimal_short n small = length-decimal-le 20 n (omega arith) (omega arith) small

around_short : (before : List ℕ) (n : ℕ) (after : List ℕ) (m most : ℕ) → n < 2 ^ 64 → length before ≤ m → length after + (m + 20) ≤ most → length (before ++ (decimal n ++ after)) ≤ most
around_short before n after m most small few fits = omega (arith, few, fits, decimal_short n small, length-append before (decimal n ++ after), length-append (decimal n) after)

members_short : (k : ℕ) → k < 2 ^ 64 → length (members_at k) ≤ 100
members_short k small =
    let of_n : length (codes ",\"n\":" ++ decimal k) ≤ 100 = omega (arith, decimal_short k small, length-append (codes ",\"n\":") (decimal k)) in
    let of_text : length (codes ",\"n\":\"" ++ (decimal k ++ codes "\"")) ≤ 100 = around_short (codes ",\"n\":\"") k (codes "\"") 10 100 small (omega arith) (omega arith) in
    let of_tags : length (tags_member k) ≤ 50 = around_short (codes ",\"tags\":[\"t0\",") k (codes "]") 15 50 small (omega arith) (omega arith) in
    let of_user : length (user_member (k % 10)) ≤ 50 = around_short (codes ",\"user\":{\"name\":\"u") (k % 10) (codes "\"}") 20 50 (omega (arith, small)) (omega arith) (omega arith) in
    let of_age : length (codes ",\"n\":null,\"user\":{\"age\":" ++ (decimal (k % 90) ++ codes "}")) ≤ 100 = around_short (codes ",\"n\":null,\"user\":{\"age\":") (k % 90) (codes "}") 30 100 (omega (arith, small)) (omega arith) (omega arith) in
    if_short (k % 4 == 0) 100 _ _ of_n (if_short (k % 4 == 1) 100 _ _ of_text (if_short (k % 4 == 2) 100 _ _ (omega (arith, of_tags, of_user, length-append (tags_member k) (user_member (k % 10)))) of_age))

line_short : (k key : ℕ) → k < 2 ^ 64 → key < 2 ^ 64 → length (line_of k key) ≤ max_line
line_short k key small few =
    let members = members_short k small in
    let of_delete : length (delete_line key) ≤ 1000 = around_short (codes "{\"op\":\"delete\",\"id\":") key (codes "}") 30 1000 few (omega arith) (omega arith) in
    let of_upsert : length (upsert_line key (members_at k)) ≤ 1000 =
    around_short (codes "{\"op\":\"upsert\",\"doc\":{\"id\":") key (members_at k ++ codes "}}") 30 1000 few (omega arith) (omega (arith, members, length-append (members_at k) (codes "}}"))) in
    let short = if_short (k % 5 == 0) 1000 (delete_line key) (upsert_line key (members_at k)) of_delete of_upsert in
    omega (arith, short)

lines_short : (k more : ℕ) → k + more < 2 ^ 64 → AllByRecursion (λ line. length line ≤ max_line) (lines_from k more)
lines_short k zero small = (omega arith, tt)
lines_short k (suc more) small = (line_short k (key_at k) (omega (arith, small)) (omega arith), lines_short (suc k) more (omega (arith, small)))

pub generated_short : (n : ℕ) → n < 2 ^ 32 → AllByRecursion (λ line. length line ≤ max_line) (generated n)
generated_short n small = lines_short 1 n (omega (arith, small))
