-- Lemmas on the members of a document but its key.
use Rattle.std.proofs.Common.{◌≡◌, ◌≤◌, Bool, true, false, cond, not, bytes_eq, codes, List, [], ◌∷◌, map, filter, None, refl, ap, subst, sym, arith}
use Rattle.std.proofs.lemmas.List.Kept.{IsStrictlySortedBy-filter}
use Rattle.std.specs.List.Sorted.{IsStrictlySortedBy}
use Rattle.tc_model.specs.Tree.{Members, no_members, member, members_depth, members_of}
use Rattle.tc_model.specs.Document.{Name, Document, Scalar, name_cmp, IsAscending, member_at}
use Rattle.tc_request_model.specs.Request.{without}

-- the name is not the key's
abbrev pub is_kept : Name → Bool
is_kept name = not (bytes_eq name (codes "id"))

abbrev Labelled : Type 0
Labelled = Name × Document

-- a filter by what a map gives
pub map-filter : {A B : Type 0} (f : A → B) (keep : B → Bool) (xs : List A) → map f (filter (λ x. keep (f x)) xs) ≡ filter keep (map f xs)
map-filter f keep [] = refl
map-filter {A = A} f keep (x ∷ xs) = at_test (keep (f x)) (map-filter f keep xs)
  where
    at_test : (b : Bool) → map f (filter (λ y. keep (f y)) xs) ≡ filter keep (map f xs)
        → map f (cond b (x ∷ filter (λ y. keep (f y)) xs) (filter (λ y. keep (f y)) xs)) ≡ cond b (f x ∷ filter keep (map f xs)) (filter keep (map f xs))
    at_test true e = ap (λ ys. f x ∷ ys) e
    at_test false e = e

pub ascending-filter : (ms : List Labelled) → IsAscending ms → IsAscending (filter (λ m. is_kept m.0) ms)
ascending-filter ms h =
    subst (IsStrictlySortedBy name_cmp) (sym (map-filter (λ (m : Labelled). m.0) is_kept ms)) (IsStrictlySortedBy-filter name_cmp is_kept (map (λ m. m.0) ms) h)

-- the members that are kept, as a document has them
pub members_of-filter : (ms : List Labelled) → members_of (filter (λ m. is_kept m.0) ms) ≡ without (codes "id") (members_of ms)
members_of-filter [] = refl
members_of-filter (m ∷ ms) = at_test (bytes_eq m.0 (codes "id")) (members_of-filter ms)
  where
    at_test : (b : Bool) → members_of (filter (λ p. is_kept p.0) ms) ≡ without (codes "id") (members_of ms)
        → members_of (cond (not b) (m ∷ filter (λ p. is_kept p.0) ms) (filter (λ p. is_kept p.0) ms))
        ≡ cond b (without (codes "id") (members_of ms)) (member m.0 m.1 (without (codes "id") (members_of ms)))
    at_test true e = e
    at_test false e = ap (member m.0 m.1) e

-- what is left is no deeper
pub depth-without : (n : Name) (ms : Members Name Scalar) → members_depth (without n ms) ≤ members_depth ms
depth-without n no_members = omega arith
depth-without n (member m t ms) = at_test (bytes_eq m n) (depth-without n ms)
  where
    at_test : (b : Bool) → members_depth (without n ms) ≤ members_depth ms → members_depth (cond b (without n ms) (member m t (without n ms))) ≤ members_depth (member m t ms)
    at_test true h = omega arith
    at_test false h = omega arith

-- the name is not left
pub member_at-without : (n : Name) (ms : Members Name Scalar) → member_at n (without n ms) ≡ None
member_at-without n no_members = refl
member_at-without n (member m t ms) = at_test (bytes_eq m n) refl (member_at-without n ms)
  where
    at_test : (b : Bool) → bytes_eq m n ≡ b → member_at n (without n ms) ≡ None → member_at n (cond b (without n ms) (member m t (without n ms))) ≡ None
    at_test true e h = h
    at_test false e h = rw e h
