-- Names learned one after the other, and how many they become.
use Rattle.std.proofs.Common.{◌≡◌, ◌∙◌, ℕ, ◌+◌, ◌<◌, ◌≤◌, ◌^◌, Bool, true, false, List, [], ◌∷◌, ◌++◌, Option, Some, None, is_some, IsTrue, length, bytes_eq, if◌then◌else◌, refl, sym, ap, subst, arith, length-append, ◌||◌, ◌⊎◌, inl, inr}
use Rattle.std.specs.List.{AllByRecursion, IsDistinct, list_any}
use Rattle.std.specs.Cmp.Lexicographic.{nat_list_eq_equiv}
use Rattle.std.proofs.lemmas.Map.Keys.{IsDistinct-push}
use Rattle.std.proofs.lemmas.Map.Made.{length-le_from_is_member}
use Rattle.std.proofs.lemmas.Bool.{or_left, true≢false}
use Rattle.std.proofs.lemmas.List.Folds.{list_any-append}
use Rattle.std.proofs.lemmas.Slice.Eq.{bytes_eq-Decides}
use Rattle.tc_model.specs.Document.{Name}
use Rattle.tc_model.specs.Dictionary.{number_of, learned, Extends, all_learned}
use Rattle.tc_model.specs.KnownNames.{HasNumber, HasEach}
use Rattle.tc_model.proofs.DictionaryGrowth.{Extends-same, Extends-trans, Extends-learned, length-learned, number_of-Extends}
use Rattle.tc_model.proofs.NameNumbers.{list_any-number_of, number_of-push}

pub all_learned-append : (known xs ys : List Name) → all_learned known (xs ++ ys) ≡ all_learned (all_learned known xs) ys
all_learned-append known [] ys = refl
all_learned-append known (x ∷ xs) ys = all_learned-append (learned known x) xs ys

pub Extends-all_learned : (known xs : List Name) → Extends (all_learned known xs) known
Extends-all_learned known [] = Extends-same known
Extends-all_learned known (x ∷ xs) = Extends-trans (all_learned (learned known x) xs) (learned known x) known (Extends-all_learned (learned known x) xs) (Extends-learned known x)

-- some of the names need no more room than all
pub length-all_learned : (known xs : List Name) → length known ≤ length (all_learned known xs)
length-all_learned known xs =
    let more = Extends-all_learned known xs in
    omega (arith, ap length more.1, length-append known more.0)

-- no more names are learned than come
pub length-all_learned-most : (known names : List Name) → length (all_learned known names) ≤ length known + length names
length-all_learned-most known [] = omega arith
length-all_learned-most known (name ∷ names) = omega (arith, length-learned known name, length-all_learned-most (learned known name) names)

pub room_for_first : (known xs ys : List Name) → length (all_learned known (xs ++ ys)) < 2 ^ 32 → length (all_learned known xs) < 2 ^ 32
room_for_first known xs ys room = omega (arith, room, ap length (all_learned-append known xs ys), length-all_learned (all_learned known xs) ys)

pub all_of_first : (P : Name → Type 0) (xs ys : List Name) → AllByRecursion P (xs ++ ys) → AllByRecursion P xs
all_of_first P [] ys all = tt
all_of_first P (x ∷ xs) ys all = (all.0, all_of_first P xs ys all.1)

pub all_of_rest : (P : Name → Type 0) (xs ys : List Name) → AllByRecursion P (xs ++ ys) → AllByRecursion P ys
all_of_rest P [] ys all = all
all_of_rest P (x ∷ xs) ys all = all_of_rest P xs ys all.1

-- ---- distinct

distinct-learned : (known : List Name) (name : Name) → IsDistinct bytes_eq known → IsDistinct bytes_eq (learned known name)
distinct-learned known name distinct = cases (is_some (number_of known name)) (list_any-number_of known name)
  where
    cases : (there : Bool) → list_any (bytes_eq name) known ≡ there → IsDistinct bytes_eq (if there then known else known ++ name ∷ [])
    cases true is = distinct
    cases false is = IsDistinct-push nat_list_eq_equiv known name distinct is

pub distinct-all_learned : (known xs : List Name) → IsDistinct bytes_eq known → IsDistinct bytes_eq (all_learned known xs)
distinct-all_learned known [] distinct = distinct
distinct-all_learned known (x ∷ xs) distinct = distinct-all_learned (learned known x) xs (distinct-learned known x distinct)

-- ---- each has a number

pub number-learned : (known : List Name) (name : Name) → HasNumber (learned known name) name
number-learned known name = cases (number_of known name) refl
  where
    cases : (o : Option ℕ) → number_of known name ≡ o → HasNumber (if is_some o then known else known ++ name ∷ []) name
    cases None none = ap is_some (number_of-push known name none)
    cases (Some n) some = ap is_some some

pub number-stays : (known more : List Name) (name : Name) → HasNumber known name → HasNumber (all_learned known more) name
number-stays known more name has = cases (number_of known name) refl has
  where
    cases : (o : Option ℕ) → number_of known name ≡ o → IsTrue (is_some o) → HasNumber (all_learned known more) name
    cases None none has = absurd (cc)
    cases (Some n) some has = ap is_some (number_of-Extends (all_learned known more) known name n (Extends-all_learned known more) some)

pub all_numbered : (known xs : List Name) → HasEach (all_learned known xs) xs
all_numbered known [] = tt
all_numbered known (x ∷ xs) = (number-stays (learned known x) xs x (number-learned known x), all_numbered (learned known x) xs)

-- names that are known change nothing
pub all_learned-known : (known names : List Name) → HasEach known names → all_learned known names ≡ known
all_learned-known known [] has = refl
all_learned-known known (name ∷ names) has = ap (λ after. all_learned after names) (ap (λ there. if there then known else known ++ name ∷ []) has.0) ∙ all_learned-known known names has.1

-- ---- how many they become

-- each of these names is among those
abbrev AreAmong : List Name → List Name → Type 0
AreAmong names known = (q : Name) → list_any (bytes_eq q) known ≡ true → list_any (bytes_eq q) names ≡ true

either : (a b : Bool) → (a || b) ≡ true → (a ≡ true) ⊎ (b ≡ true)
either true b is = inl refl
either false b is = inr is

among-learned : (names known : List Name) (x : Name) → HasNumber names x → AreAmong names known → AreAmong names (learned known x)
among-learned names known x has among q there = cases (is_some (number_of known x)) there
  where
    is_x : (bytes_eq q x || false) ≡ true → list_any (bytes_eq q) names ≡ true
    is_x one = elim (either (bytes_eq q x) false one) [
      | inl same ↦ subst (λ y. list_any (bytes_eq y) names ≡ true) (sym ((bytes_eq-Decides q x).0 same)) (list_any-number_of names x ∙ has)
      | inr never ↦ absurd (true≢false (sym never))
    ]

    cases : (b : Bool) → list_any (bytes_eq q) (if b then known else known ++ x ∷ []) ≡ true → list_any (bytes_eq q) names ≡ true
    cases true there = among q there
    cases false there = elim (either (list_any (bytes_eq q) known) (list_any (bytes_eq q) (x ∷ [])) (sym (list_any-append (bytes_eq q) known (x ∷ [])) ∙ there)) [
      | inl old ↦ among q old
      | inr new ↦ is_x new
    ]

among-all_learned : (names known xs : List Name) → HasEach names xs → AreAmong names known → AreAmong names (all_learned known xs)
among-all_learned names known [] has among = among
among-all_learned names known (x ∷ xs) has among = among-all_learned names (learned known x) xs has.1 (among-learned names known x has.0 among)

-- they become no more than those of a dictionary that goes on and has them all
pub length-all_learned-among : (names known xs : List Name) → IsDistinct bytes_eq known → Extends names known → HasEach names xs → length (all_learned known xs) ≤ length names
length-all_learned-among names known xs distinct extends has =
    length-le_from_is_member nat_list_eq_equiv (all_learned known xs) names (distinct-all_learned known xs distinct)
    (among-all_learned names known xs has (λ q there. subst (λ ns. list_any (bytes_eq q) ns ≡ true) (sym extends.1)
    (list_any-append (bytes_eq q) known extends.0 ∙ or_left (list_any (bytes_eq q) known) (list_any (bytes_eq q) extends.0) there)))
