-- Parts that stand before a rest, as the items that were read before those that are left.
use Rattle.std.proofs.Common.{◌≡◌, List, [], ◌∷◌, ◌++◌, map, Option, Some, None, option_map, refl, ap, ◌∙◌}
use Rattle.std.proofs.lemmas.List.{map_push}
use Rattle.std.proofs.lemmas.List.Recursion.{same_from_clauses}
use Rattle.tc_model.specs.Tree.{Tree, no_items, item, Members, no_members, member, items_of, members_of}

-- the parts of a list, put before a rest one by one
abbrev pub before : {X R : Type 0} → (X → R → R) → List X → R → R
before put [] rest = rest
before put (x ∷ xs) rest = put x (before put xs rest)

abbrev pub with_member : {L S : Type 0} → L × Tree L S → Members L S → Members L S
with_member m ms = member m.0 m.1 ms

before_push : {X R : Type 0} (put : X → R → R) (xs : List X) (x : X) (rest : R) → before put xs (put x rest) ≡ before put (xs ++ x ∷ []) rest
before_push put [] x rest = refl
before_push put (y ∷ ys) x rest = ap (put y) (before_push put ys x rest)

before_next : {X R : Type 0} (put : X → R → R) (xs : List X) (x : X) (rest : Option R) → option_map (before put xs) (option_map (put x) rest) ≡ option_map (before put (xs ++ x ∷ [])) rest
before_next put xs x None = refl
before_next put xs x (Some rest) = ap Some (before_push put xs x rest)

-- the first part of a rest joins those that stand before it
pub next_before : {X Y R : Type 0} (put : X → R → R) (f : Y → X) (ys : List Y) (y : Y) (rest : Option R) → option_map (before put (map f ys)) (option_map (put (f y)) rest) ≡ option_map (before put (map f (ys ++ y ∷ []))) rest
next_before put f ys y rest = before_next put (map f ys) (f y) rest ∙ rw map_push

pub items_of_before : {L S : Type 0} (ts : List (Tree L S)) → before item ts no_items ≡ items_of ts
items_of_before ts = same_from_clauses (λ us. before item us no_items) items_of item refl (λ _ _. refl) (λ _ _. refl) ts

pub members_of_before : {L S : Type 0} (ms : List (L × Tree L S)) → before with_member ms no_members ≡ members_of ms
members_of_before ms = same_from_clauses (λ ns. before with_member ns no_members) members_of with_member refl (λ _ _. refl) (λ _ _. refl) ms
