-- Elements of a list that are turned one after the other, each by itself.
use Rattle.std.proofs.Common.{◌≡◌, ◌∙◌, ◌+◌, ◌<◌, ℕ, zero, suc, List, [], ◌∷◌, ◌++◌, length, map, set, take, slice_index_or, arith, refl, sym, ap, subst}
use Rattle.std.specs.Prelude.{All, HoldsAt, zip}
use Rattle.std.specs.List.{AllZip}
use Rattle.std.proofs.lemmas.List.Elements.{All-head, All-tail}
use Rattle.std.proofs.lemmas.List.{map-append}

-- ---- of two lists place by place

pub zip_same : {E : Type 0} (R : E → E → Type 0) → ((e : E) → R e e) → (xs : List E) → AllZip R xs xs
zip_same R same [] = tt
zip_same R same (x ∷ xs) = (same x, zip_same R same xs)

pub zip_length : {X Y : Type 0} (R : X → Y → Type 0) (xs : List X) (ys : List Y) → AllZip R xs ys → length ys ≡ length xs
zip_length R [] [] zip = refl
zip_length R [] (y ∷ ys) zip = absurd zip
zip_length R (x ∷ xs) [] zip = absurd zip
zip_length R (x ∷ xs) (y ∷ ys) zip = ap suc (zip_length R xs ys zip.1)

pub map_twice : {X Y V : Type 0} (f : X → Y) (h : Y → V) (xs : List X) → map (λ x. h (f x)) xs ≡ map h (map f xs)
map_twice f h [] = refl
map_twice f h (x ∷ xs) = ap (λ more. h (f x) ∷ more) (map_twice f h xs)

-- what stands in the other list at the place of an element
pub zip_at : {X Y : Type 0} (R : X → Y → Type 0) (xs : List X) (ys : List Y) (at : ℕ) (s : X) → AllZip R xs ys → at < length xs → s ≡ slice_index_or xs at s → (y : Y) × R s y × (take (suc at) ys ≡ take at ys ++ y ∷ [])
zip_at R [] ys at s zip below is = absurd (omega (arith, below))
zip_at R (x ∷ xs) [] at s zip below is = absurd zip
zip_at R (x ∷ xs) (y ∷ ys) zero s zip below is = (y, subst (λ e. R e y) (sym is) zip.0, refl)
zip_at R (x ∷ xs) (y ∷ ys) (suc at) s zip below is =
    let rest = zip_at R xs ys at s zip.1 (omega (arith, below)) is in
    (rest.0, rest.1, ap (λ more. y ∷ more) rest.2)

pub map_at : {X Y V : Type 0} (f : X → V) (g : Y → V) (xs : List X) (ys : List Y) (at : ℕ) (s : X) (t : Y) → map f xs ≡ map g ys → at < length xs → s ≡ slice_index_or xs at s → t ≡ slice_index_or ys at t → f s ≡ g t
map_at f g [] ys at s t same below s_is t_is = absurd (omega (arith, below))
map_at f g (x ∷ xs) [] at s t same below s_is t_is = absurd (cc (same))
map_at f g (x ∷ xs) (y ∷ ys) zero s t same below s_is t_is =
    let heads : f x ≡ g y = cc (same) in
    ap f s_is ∙ heads ∙ sym (ap g t_is)
map_at f g (x ∷ xs) (y ∷ ys) (suc at) s t same below s_is t_is = map_at f g xs ys at s t (cc (same)) (omega (arith, below)) s_is t_is

-- the next one is put behind those before it
pub take_next : {X Y V : Type 0} (R : X → Y → Type 0) (f : Y → V) (xs : List X) (ys : List Y) (at : ℕ) (s : X) (found : List V) (v : V) → AllZip R xs ys → at < length xs → s ≡ slice_index_or xs at s → found ≡ map f (take at ys) → ((y : Y) → R s y → v ≡ f y)
    → found ++ v ∷ [] ≡ map f (take (at + 1) ys)
take_next R f xs ys at s found v zip below is same last =
    let here = zip_at R xs ys at s zip below is in
    let next : suc at ≡ at + 1 = omega arith in
    ap (λ vs. vs ++ v ∷ []) same ∙ ap (λ w. map f (take at ys) ++ w ∷ []) (last here.0 here.1)
    ∙ sym (map-append f (take at ys) (here.0 ∷ [])) ∙ sym (ap (map f) here.2) ∙ ap (λ n. map f (take n ys)) next

-- ---- so many are turned

-- those before a place are turned, and the others are as they were
abbrev pub Turned : {E : Type 0} → (E → E → Type 0) → ℕ → List E → List E → Type 0
Turned R zero olds nows = nows ≡ olds
Turned R (suc at) [] nows = nows ≡ []
Turned R (suc at) (o ∷ olds) [] = ⊥
Turned R (suc at) (o ∷ olds) (n ∷ nows) = R o n × Turned R at olds nows

pub turned_many : {E : Type 0} (R : E → E → Type 0) (at : ℕ) (olds nows : List E) → Turned R at olds nows → length nows ≡ length olds
turned_many R zero olds nows turned = ap (λ xs. length xs) turned
turned_many R (suc at) [] nows turned = ap (λ xs. length xs) turned
turned_many R (suc at) (o ∷ olds) [] turned = absurd turned
turned_many R (suc at) (o ∷ olds) (n ∷ nows) turned = ap suc (turned_many R at olds nows turned.1)

-- the one at the place is as it was
pub turned_next : {E : Type 0} (R : E → E → Type 0) (at : ℕ) (olds nows : List E) (s : E) → Turned R at olds nows → at < length nows → s ≡ slice_index_or nows at s → s ≡ slice_index_or olds at s
turned_next R zero olds nows s turned below is = subst (λ xs. s ≡ slice_index_or xs 0 s) turned is
turned_next R (suc at) [] nows s turned below is = absurd (omega (arith, below, ap (λ xs. length xs) turned))
turned_next R (suc at) (o ∷ olds) [] s turned below is = absurd turned
turned_next R (suc at) (o ∷ olds) (n ∷ nows) s turned below is = turned_next R at olds nows s turned.1 (omega (arith, below)) is

turned_set : {E : Type 0} (R : E → E → Type 0) (at : ℕ) (olds nows : List E) (s t : E) → Turned R at olds nows → at < length nows → s ≡ slice_index_or nows at s → R s t → Turned R (suc at) olds (set nows at t)
turned_set R zero [] [] s t turned below is r = absurd (omega (arith, below))
turned_set R zero [] (n ∷ nows) s t turned below is r = absurd (cc (turned))
turned_set R zero (o ∷ olds) [] s t turned below is r = absurd (omega (arith, below))
turned_set R zero (o ∷ olds) (n ∷ nows) s t turned below is r =
    let first : n ≡ o = cc (turned) in
    (subst (λ e. R e t) (is ∙ first) r, cc (turned))
turned_set R (suc at) [] nows s t turned below is r = absurd (omega (arith, below, ap (λ xs. length xs) turned))
turned_set R (suc at) (o ∷ olds) [] s t turned below is r = absurd turned
turned_set R (suc at) (o ∷ olds) (n ∷ nows) s t turned below is r = (turned.0, turned_set R at olds nows s t turned.1 (omega (arith, below)) is r)

pub turned_more : {E : Type 0} (R : E → E → Type 0) (at : ℕ) (olds nows : List E) (s t : E) → Turned R at olds nows → at < length nows → s ≡ slice_index_or nows at s → R s t → Turned R (at + 1) olds (set nows at t)
turned_more R at olds nows s t turned below is r =
    let next : suc at ≡ at + 1 = omega arith in
    subst (λ n. Turned R n olds (set nows at t)) next (turned_set R at olds nows s t turned below is r)

-- where what is as it was counts as turned, all are
pub turned_all : {E : Type 0} (R : E → E → Type 0) → ((e : E) → R e e) → (at : ℕ) (olds nows : List E) → Turned R at olds nows → AllZip R olds nows
turned_all R same zero olds nows turned = subst (AllZip R olds) (sym turned) (zip_same R same olds)
turned_all R same (suc at) [] nows turned = subst (AllZip R []) (sym turned) tt
turned_all R same (suc at) (o ∷ olds) [] turned = absurd turned
turned_all R same (suc at) (o ∷ olds) (n ∷ nows) turned = (turned.0, turned_all R same at olds nows turned.1)

-- ---- what holds at a place

pub set_at : {E : Type 0} (P : E → Type 0) (xs : List E) (at : ℕ) (t : E) → at < length xs → P t → HoldsAt P (set xs at t) at
set_at P [] at t below p = absurd (omega (arith, below))
set_at P (x ∷ xs) zero t below p = λ d. p
set_at P (x ∷ xs) (suc at) t below p = set_at P xs at t (omega (arith, below)) p

pub zip_set_at : {E : Type 0} (P : E × E → Type 0) (olds nows : List E) (at : ℕ) (s t : E) → at < length olds → at < length nows → s ≡ slice_index_or olds at s → P (s, t) → HoldsAt P (zip olds (set nows at t)) at
zip_set_at P [] nows at s t below within is p = absurd (omega (arith, below))
zip_set_at P (o ∷ olds) [] at s t below within is p = absurd (omega (arith, within))
zip_set_at P (o ∷ olds) (n ∷ nows) zero s t below within is p = λ d. subst (λ e. P (e, t)) is p
zip_set_at P (o ∷ olds) (n ∷ nows) (suc at) s t below within is p = zip_set_at P olds nows at s t (omega (arith, below)) (omega (arith, within)) is p

-- ---- what holds of each

pub all_at : {E : Type 0} (P : E → Type 0) (xs : List E) (at : ℕ) (s : E) → All P xs → at < length xs → s ≡ slice_index_or xs at s → P s
all_at P [] at s all below is = absurd (omega (arith, below))
all_at P (x ∷ xs) zero s all below is = subst P (sym is) (All-head P x xs all)
all_at P (x ∷ xs) (suc at) s all below is = all_at P xs at s (All-tail P x xs all) (omega (arith, below)) is
