-- The share of a window is a window, and asks for partitions alone.
use Rattle.std.proofs.Common.{◌≡◌, ◌∙◌, ◌≤◌, ◌<◌, ℕ, suc, ◌+◌, ◌^◌, Bool, true, false, List, [], ◌∷◌, length, map, arith, ap, sym, subst}
use Rattle.std.specs.Prelude.{All, cond}
use Rattle.std.proofs.lemmas.List.{length-map}
use Rattle.std.proofs.lemmas.List.Elements.{All-nil, All-cons, All-head, All-tail}
use Rattle.tc_model.specs.Keyed.{Keyed, values_in}
use Rattle.tc_request_model.specs.Request.{Request, upsert, delete, get, query, flush, schema, scan, collect, refused}
use Rattle.tc_command.specs.Commands.{request_of_command}
use Rattle.tc_route.specs.Answers.{IsForParts}
use Rattle.tc_route.specs.Meaning.{routed_of}
use Rattle.tc_route.specs.Shares.{is_for, share}
use Rattle.tc_route.specs.declared.placed.Routed.{Routed}
use Rattle.tc_work.specs.Asked.{bytes_for, most_bytes, IsForPart, IsWindow}

-- ---- requests of a list

keyed_all : (list : List Routed) → All (λ r. IsForPart (request_of_command r.command)) list → All (λ r. IsForPart r.1) (map routed_of list)
keyed_all [] each = All-nil (λ r. IsForPart r.1)
keyed_all (r ∷ list) each =
    All-cons (λ r. IsForPart r.1) (routed_of r) (map routed_of list) (All-head (λ r. IsForPart (request_of_command r.command)) r list each)
    (keyed_all list (All-tail (λ r. IsForPart (request_of_command r.command)) r list each))

all_keyed : (list : List Routed) → All (λ r. IsForPart r.1) (map routed_of list) → All (λ r. IsForPart (request_of_command r.command)) list
all_keyed [] each = All-nil (λ r. IsForPart (request_of_command r.command))
all_keyed (r ∷ list) each =
    All-cons (λ r. IsForPart (request_of_command r.command)) r list (All-head (λ r. IsForPart r.1) (routed_of r) (map routed_of list) each)
    (all_keyed list (All-tail (λ r. IsForPart r.1) (routed_of r) (map routed_of list) each))

-- ---- shares

shorter : (b : Bool) (r : ℕ × Request) (some rs : Keyed Request) → length some ≤ length rs → length (cond b (r ∷ some) some) ≤ suc (length rs)
shorter true r some rs less = omega (arith, less)
shorter false r some rs less = omega (arith, less)

share_shorter : (count p : ℕ) (rs : Keyed Request) → length (share count p rs) ≤ length rs
share_shorter count p [] = omega arith
share_shorter count p (r ∷ rs) = shorter (is_for count p r.1) r (share count p rs) rs (share_shorter count p rs)

lighter : (b : Bool) (r : ℕ × Request) (some rs : Keyed Request) → most_bytes (values_in some) ≤ most_bytes (values_in rs) → most_bytes (values_in (cond b (r ∷ some) some)) ≤ bytes_for r.1 + most_bytes (values_in rs)
lighter true r some rs less = omega (arith, less)
lighter false r some rs less = omega (arith, less)

share_lighter : (count p : ℕ) (rs : Keyed Request) → most_bytes (values_in (share count p rs)) ≤ most_bytes (values_in rs)
share_lighter count p [] = omega arith
share_lighter count p (r ∷ rs) = lighter (is_for count p r.1) r (share count p rs) rs (share_lighter count p rs)

kept : (b : Bool) (r : ℕ × Request) (some : Keyed Request) → IsForPart r.1 → All (λ r. IsForPart r.1) some → All (λ r. IsForPart r.1) (cond b (r ∷ some) some)
kept true r some first each = All-cons (λ r. IsForPart r.1) r some first each
kept false r some first each = each

share_keyed : (count p : ℕ) (rs : Keyed Request) → All (λ r. IsForPart r.1) rs → All (λ r. IsForPart r.1) (share count p rs)
share_keyed count p [] each = each
share_keyed count p (r ∷ rs) each = kept (is_for count p r.1) r (share count p rs) (All-head (λ r. IsForPart r.1) r rs each) (share_keyed count p rs (All-tail (λ r. IsForPart r.1) r rs each))

pub share_window : (count p : ℕ) (list part : List Routed) → IsWindow list → map routed_of part ≡ share count p (map routed_of list) → IsWindow part
share_window count p list part whole same = record {
  few =
      let many : length part ≡ length (share count p (map routed_of list)) = sym (length-map part routed_of) ∙ ap length same in
      let all : length (map routed_of list) ≡ length list = length-map list routed_of in
      let less : length (share count p (map routed_of list)) ≤ length (map routed_of list) = share_shorter count p (map routed_of list) in
      let few : length list ≤ 4096 = whole.few in
      omega (arith, many, all, less, few);
  each = all_keyed part (subst (All (λ r. IsForPart r.1)) (sym same) (share_keyed count p (map routed_of list) (keyed_all list whole.each)));
  short =
      let bytes : most_bytes (values_in (map routed_of part)) ≡ most_bytes (values_in (share count p (map routed_of list))) = ap (λ (rs : Keyed Request). most_bytes (values_in rs)) same in
      let less : most_bytes (values_in (share count p (map routed_of list))) ≤ most_bytes (values_in (map routed_of list)) = share_lighter count p (map routed_of list) in
      let short : most_bytes (values_in (map routed_of list)) < 2 ^ 32 = whole.short in
      omega (arith, bytes, less, short);
}

-- ---- for partitions

for_parts : (r : Request) → IsForPart r → IsForParts r
for_parts (upsert n d) is = tt
for_parts (delete n) is = tt
for_parts (get n) is = tt
for_parts (query ask) is = tt
for_parts flush is = absurd is
for_parts schema is = absurd is
for_parts (scan ask) is = absurd is
for_parts collect is = absurd is
for_parts (refused r) is = absurd is

all_for_parts : (rs : Keyed Request) → All (λ r. IsForPart r.1) rs → All (λ r. IsForParts r.1) rs
all_for_parts [] each = All-nil (λ r. IsForParts r.1)
all_for_parts (r ∷ rs) each = All-cons (λ r. IsForParts r.1) r rs (for_parts r.1 (All-head (λ r. IsForPart r.1) r rs each)) (all_for_parts rs (All-tail (λ r. IsForPart r.1) r rs each))

pub window_for_parts : (list : List Routed) → IsWindow list → All (λ r. IsForParts r.1) (map routed_of list)
window_for_parts list whole = all_for_parts (map routed_of list) (keyed_all list whole.each)
