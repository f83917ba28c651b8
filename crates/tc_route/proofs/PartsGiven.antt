-- What partitions have when a command is put behind those of one of them, or behind those of each.
use Rattle.std.proofs.Common.{◌≡◌, ◌∙◌, ap, sym, refl, ℕ, ◌<◌, ◌+◌, Bool, true, false, List, [], ◌∷◌, ◌++◌, map, length, arith, append-nil}
use Rattle.std.specs.Prelude.{◌==◌, nat_lt, slice_index_or, slice_set, if◌then◌else◌}
use Rattle.std.specs.declared.vec.Vec.{Vec}
use Rattle.std.specs.declared.alloc.Global.{Global}
use Rattle.std.proofs.lemmas.Bool.Decides.{nat_tests}
use Rattle.std.proofs.lemmas.List.{get_or-set_same, get_or-set_other, get_or-map, map-set, map-append, length-map}
use Rattle.std.proofs.lemmas.List.Elements.{filter-append}
use Rattle.tc_model.specs.Keyed.{Keyed}
use Rattle.tc_request_model.specs.Request.{Request}
use Rattle.tc_route.specs.declared.placed.Routed.{Routed}
use Rattle.tc_route.specs.Meaning.{routed_of, requests_of, requests_at}
use Rattle.tc_route.specs.Shares.{is_for, share}

abbrev Part : Type 0
Part = Vec Routed Global

set_one : (xs : List (Keyed Request)) (k q : ℕ) (x : Keyed Request) (r : ℕ × Request) → k < length xs → x ≡ slice_index_or xs k [] ++ r ∷ [] → (b : Bool) → (k == q) ≡ b
    → slice_index_or (slice_set xs k x) q [] ≡ slice_index_or xs q [] ++ (if b then r ∷ [] else [])
set_one xs k q x r below is true same =
    let at : k ≡ q = grind (arith, nat_tests, same) in
    rw (← at) (get_or-set_same xs k x [] below ∙ is)
set_one xs k q x r below is false other =
    get_or-set_other xs k q x [] (grind (arith, nat_tests, other)) ∙ sym (append-nil (slice_index_or xs q []))

pub given_to : (parts : List Part) (k : ℕ) (old new : Part) (r : Routed) → k < length parts → old ≡ slice_index_or parts k old → new.items ≡ old.items ++ r ∷ [] → (q : ℕ)
    → requests_at q (slice_set parts k new) ≡ requests_at q parts ++ (if k == q then routed_of r ∷ [] else [])
given_to parts k old new r below at is q =
    let there : requests_at k parts ≡ map routed_of old.items = get_or-map (λ part. map routed_of part.items) parts k old [] below ∙ ap (λ part. map routed_of part.items) (sym at) in
    let more : map routed_of new.items ≡ requests_at k parts ++ routed_of r ∷ [] =
    ap (map routed_of) is ∙ map-append routed_of old.items (r ∷ []) ∙ ap (λ rs. rs ++ routed_of r ∷ []) (sym there) in
    ap (λ xs. slice_index_or xs q []) (map-set (λ part. map routed_of part.items) parts k new)
    ∙ set_one (requests_of parts) k q (map routed_of new.items) (routed_of r) (rw (length-map parts (λ part. map routed_of part.items)) below) more (k == q) refl

-- partitions are given the same one after the other: what those before one have, and then it too
pub given_further : (b c : Bool) (p q : ℕ) (r : ℕ × Request) (before now old : Keyed Request) → nat_lt q p ≡ b → (p == q) ≡ c → before ≡ old ++ (if b then r ∷ [] else []) → now ≡ before ++ (if c then r ∷ [] else [])
    → now ≡ old ++ (if nat_lt q (p + 1) then r ∷ [] else [])
given_further true true p q r before now old less same was is = absurd (grind (arith, nat_tests, less, same))
given_further true false p q r before now old less same was is =
    let further : nat_lt q (p + 1) ≡ true = grind (arith, nat_tests, less) in
    rw further (is ∙ append-nil before ∙ was)
given_further false true p q r before now old less same was is =
    let further : nat_lt q (p + 1) ≡ true = grind (arith, nat_tests, same) in
    rw further (is ∙ ap (λ xs. xs ++ r ∷ []) (was ∙ append-nil old))
given_further false false p q r before now old less same was is =
    let further : nat_lt q (p + 1) ≡ false = grind (arith, nat_tests, less, same) in
    rw further (is ∙ append-nil before ∙ was)

pub given_each : (parts : List Part) (p : ℕ) (old new : Part) (r : Routed) (x : ℕ × Request) → routed_of r ≡ x → p < length parts → old ≡ slice_index_or parts p old → new.items ≡ old.items ++ r ∷ []
    → (q : ℕ) (before : Keyed Request) → requests_at q parts ≡ before ++ (if nat_lt q p then x ∷ [] else []) → requests_at q (slice_set parts p new) ≡ before ++ (if nat_lt q (p + 1) then x ∷ [] else [])
given_each parts p old new r x same below at is q before was =
    given_further (nat_lt q p) (p == q) p q x (requests_at q parts) (requests_at q (slice_set parts p new)) before refl refl was
    (given_to parts p old new r below at is q ∙ ap (λ y. requests_at q parts ++ (if p == q then y ∷ [] else [])) same)

pub share_more : (count p : ℕ) (rs : List Routed) (r : Routed) → share count p (map routed_of (rs ++ r ∷ [])) ≡ share count p (map routed_of rs) ++ share count p (routed_of r ∷ [])
share_more count p rs r =
    ap (share count p) (map-append routed_of rs (r ∷ [])) ∙ filter-append (λ x. is_for count p x.1) (map routed_of rs) (routed_of r ∷ [])
