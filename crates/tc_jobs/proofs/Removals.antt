-- Some of several files are removed, one after the other.
use Rattle.std.proofs.Common.{◌≡◌, ◌∙◌, ◌⊎◌, List, [], ◌∷◌, ◌++◌, map, refl, sym, ap, subst, inl, inr}
use Rattle.std.proofs.lemmas.List.{map-append}
use Rattle.std.proofs.lemmas.List.Elements.{All-head, All-push, All-tail}
use Rattle.std.specs.Prelude.{All}
use Rattle.tc_store.specs.Disk.{Disk}
use Rattle.tc_store.specs.StoreCalls.{removes, RemovesSome}
use Rattle.tc_store.specs.declared.file_name.FileName.{FileName}
use Rattle.tc_component.specs.Loading.{ComponentState}

-- the names of the files of shared components
abbrev pub names_of : {A F : Type 0} → (A → ComponentState F) → (F → FileName) → List A → List FileName
names_of seen name items = map (λ m. name m.file) (map seen items)

-- none of them
pub removes_none : (names : List FileName) (disks : List Disk) → RemovesSome names disks disks
removes_none [] disks = refl
removes_none (name ∷ names) disks = inl (removes_none names disks)

-- perhaps the first, and then some of the others
removes_next : (name : FileName) (names : List FileName) (old middle new : List Disk) → (middle ≡ old) ⊎ (middle ≡ removes name old) → RemovesSome names middle new → RemovesSome (name ∷ names) old new
removes_next name names old middle new (inl same) rest = inl (subst (λ disks. RemovesSome names disks new) same rest)
removes_next name names old middle new (inr removed) rest = inr (subst (λ disks. RemovesSome names disks new) removed rest)

-- the same of the components that are left
pub removes_left : {A F : Type 0} (seen : A → ComponentState F) (name : F → FileName) (left rest : List A) (x : A) (old middle new : List Disk) → left ≡ x ∷ rest
    → (middle ≡ old) ⊎ (middle ≡ removes (name (seen x).file) old) → RemovesSome (names_of seen name rest) middle new → RemovesSome (names_of seen name left) old new
removes_left seen name left rest x old middle new is step some =
    subst (λ items. RemovesSome (names_of seen name items) old new) (sym is) (removes_next (name (seen x).file) (names_of seen name rest) old middle new step some)

-- what is kept is of this kind still where the next one is
pub kept_still : {A X : Type 0} (seen : A → X) (P : X → Type 0) (left rest kept now : List A) (x : A) → left ≡ x ∷ rest → All P (map seen left) → (now ≡ kept) ⊎ (now ≡ kept ++ x ∷ []) → All P (map seen kept) → All P (map seen now)
kept_still seen P left rest kept now x is all (inl same) before = subst (λ ys. All P (map seen ys)) (sym same) before
kept_still seen P left rest kept now x is all (inr more) before =
    let this = All-head P (seen x) (map seen rest) (subst (λ ys. All P (map seen ys)) is all) in
    subst (All P) (sym (ap (map seen) more ∙ map-append seen kept (x ∷ []))) (All-push P (map seen kept) (seen x) before this)

-- so are those that are left
pub left_still : {A X : Type 0} (seen : A → X) (P : X → Type 0) (left rest : List A) (x : A) → left ≡ x ∷ rest → All P (map seen left) → All P (map seen rest)
left_still seen P left rest x is all = All-tail P (seen x) (map seen rest) (subst (λ ys. All P (map seen ys)) is all)
