-- A list of components is walked from its newest one.
use Rattle.std.proofs.Common.{◌≡◌, ◌∙◌, ◌+◌, ℕ, List, [], ◌∷◌, ◌++◌, Some, length, map, drop, slice_get, refl, sym, ap, subst, append_assoc}
use Rattle.std.proofs.lemmas.List.{drop_at, length_push, length-map, map-append}
use Rattle.std.proofs.lemmas.List.Elements.{All-cons}
use Rattle.tc_component.specs.Columns.{IsFound}
use Rattle.tc_component.specs.Loading.{ComponentState}
use Rattle.tc_component.specs.declared.found.Found.{Found}
use Rattle.tc_component.specs.declared.found.Found.TheVariants.{Absent}
use Rattle.tc_list.specs.Lookups.{HaveNone, IsNewest}

-- what is left of a walk, where none of what it passed has an entry of a key
pub record Walked {A F : Type 0} (f : A → ComponentState F) (all left : List A) (key : ℕ) : Type 0 where
  pub passed : List A
  pub is : all ≡ left ++ passed
  pub none : HaveNone (map f passed) key

slice_get_at : {X : Type 0} (older : List X) (x : X) (newer : List X) → slice_get (older ++ x ∷ newer) (length older) ≡ Some x
slice_get_at [] x newer = refl
slice_get_at (first ∷ older) x newer = slice_get_at older x newer

drop_behind : {X : Type 0} (older : List X) (x : X) (newer : List X) → drop (length older + 1) (older ++ x ∷ newer) ≡ newer
drop_behind older x newer = ap (drop (length older + 1)) (sym (append_assoc older (x ∷ []) newer)) ∙ drop_at (older ++ x ∷ []) newer (length older + 1) (length_push older x)

newest_between : {F : Type 0} (older newer : List (ComponentState F)) (c : ComponentState F) (key : ℕ) (found : Found) → IsFound c.index.slots key found → HaveNone newer key
    → IsNewest (older ++ c ∷ newer) key (length older) found
newest_between older newer c key found has none = record {
  component = c;
  here = slice_get_at older c newer;
  has = has;
  newer = subst (λ cs. HaveNone cs key) (sym (drop_behind older c newer)) none;
}

-- the last of what is left has an entry
pub walked_newest : {A F : Type 0} (f : A → ComponentState F) (all left older : List A) (newest : A) (key : ℕ) (found : Found) → Walked f all left key → left ≡ older ++ newest ∷ []
    → IsFound (f newest).index.slots key found → IsNewest (map f all) key (length older) found
walked_newest f all left older newest key found walked last has =
    let parts : all ≡ older ++ newest ∷ walked.passed = walked.is ∙ ap (λ xs. xs ++ walked.passed) last ∙ append_assoc older (newest ∷ []) walked.passed in
    let mapped : map f all ≡ map f older ++ f newest ∷ map f walked.passed = ap (map f) parts ∙ map-append f older (newest ∷ walked.passed) in
    subst (λ n. IsNewest (map f all) key n found) (length-map older f)
    (subst (λ cs. IsNewest cs key (length (map f older)) found) (sym mapped) (newest_between (map f older) (map f walked.passed) (f newest) key found has walked.none))

-- the last of what is left has no entry, and is passed
pub walked_older : {A F : Type 0} (f : A → ComponentState F) (all left older : List A) (newest : A) (key : ℕ) → Walked f all left key → left ≡ older ++ newest ∷ []
    → IsFound (f newest).index.slots key Absent → Walked f all older key
walked_older {F = F} f all left older newest key walked last has = record {
  passed = newest ∷ walked.passed;
  is = walked.is ∙ ap (λ xs. xs ++ walked.passed) last ∙ append_assoc older (newest ∷ []) walked.passed;
  none = All-cons (λ (c : ComponentState F). IsFound c.index.slots key Absent) (f newest) (map f walked.passed) has walked.none;
}

-- nothing is left
pub walked_all : {A F : Type 0} (f : A → ComponentState F) (all left : List A) (key : ℕ) → Walked f all left key → left ≡ [] → HaveNone (map f all) key
walked_all f all left key walked none = subst (λ xs. HaveNone (map f xs) key) (sym (walked.is ∙ ap (λ xs. xs ++ walked.passed) none)) walked.none
