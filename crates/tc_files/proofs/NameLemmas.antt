-- What the text of a file's name tells of its numbers.
use Rattle.std.proofs.Common.{◌≡◌, ◌≢◌, ◌∙◌, ap, sym, ℕ, suc, ◌<◌, ◌≤◌, ◌^◌, List, [], ◌∷◌, ◌++◌, length, Option, Some, None, refl, arith, get_or}
use Rattle.std.specs.Fmt.{decimal}
use Rattle.std.specs.Option.{MatchOption}
use Rattle.std.proofs.Common.{Bor}
use Rattle.std.proofs.lemmas.Fmt.{decimal_injective, digits_decimal}
use Rattle.std.proofs.lemmas.Str.Parse.{not_in_digits, numerals_by_value, tells_digits}
use Rattle.std.proofs.lemmas.Str.Pattern.{IsSplitOnceResult, split_after}
use Rattle.tc_files.specs.Names.{name_text, IsInUse, IsCalled}
use Rattle.tc_number.specs.Number.{number_between}
use Rattle.tc_number.specs.Printed.{ArePrinted}
use Rattle.tc_store.specs.declared.file_name.FileName.{FileName}
use Rattle.tc_store.specs.declared.file_name.FileName.TheVariants.{Component, Log}

-- no dash stands in a number
no_dash : (n : ℕ) → n < 2 ^ 64 → (i : ℕ) → i < length (decimal n) → get_or (decimal n) i 0 ≢ 45
no_dash n small =
    not_in_digits (numerals_by_value _ tells_digits) (decimal n) 45 (digits_decimal (numerals_by_value _ tells_digits) n small) (λ h. omega (arith, h))

tail_is : (a b c d : ℕ) (xs ys : List ℕ) → a ∷ b ∷ xs ≡ c ∷ d ∷ ys → (a ≡ c) × (xs ≡ ys)
tail_is a b c d xs ys is = (cc, cc)

-- ---- names that are not there

no_number : ArePrinted → (least most n : ℕ) (text : List ℕ) → least ≤ n → n ≤ most → most < 2 ^ 64 → number_between least most text ≡ None → decimal n ≢ text
no_number law least most n text above below small none same =
    let bad : Some n ≡ None = sym ((law least most text n small).1 (sym same, above, below)) ∙ none in
    cc

pub no_log : ArePrinted → (text : List ℕ) → number_between 1 9223372036854775807 text ≡ None → (name : FileName) → IsInUse name → name_text name ≢ 108 ∷ 45 ∷ text
no_log law text none (Component from to) in_use same =
    let bad : 99 ≡ 108 = (tail_is 99 45 108 45 _ _ same).0 in omega (arith, bad)
no_log law text none (Log g) in_use same =
    no_number law 1 9223372036854775807 g text in_use.0 (omega (arith, in_use.1)) (omega arith) none (tail_is 108 45 108 45 _ _ same).1

-- the parts of a component's name, where the text was cut at its first dash
parts_are : (from to : ℕ) (text : List ℕ) (cut : Option (Bor (List ℕ) × Bor (List ℕ))) → IsSplitOnceResult 45 text cut
    → from < 2 ^ 64 → name_text (Component from to) ≡ 99 ∷ 45 ∷ text → MatchOption cut ⊥ (λ x. (x.0.now ≡ decimal from) × (x.1.now ≡ decimal to))
parts_are from to text cut is small same =
    split_after 45 text (decimal from) (decimal to) cut is (omega arith) (sym (tail_is 99 45 99 45 _ _ same).1) (no_dash from small)

pub no_component : ArePrinted → (text : List ℕ) (cut : Option (Bor (List ℕ) × Bor (List ℕ))) → IsSplitOnceResult 45 text cut
    → MatchOption cut (Unit {0}) (λ x. ((from : ℕ) → number_between 1 9223372036854775807 x.0.now ≡ Some from
    → number_between from 9223372036854775807 x.1.now ≡ None))
    → (name : FileName) → IsInUse name → name_text name ≢ 99 ∷ 45 ∷ text
no_component law text cut is none (Log g) in_use same =
    let bad : 108 ≡ 99 = (tail_is 108 45 99 45 _ _ same).0 in omega (arith, bad)
no_component law text None is none (Component from to) in_use same =
    parts_are from to text None is (omega (arith, in_use.1, in_use.2)) same
no_component law text (Some x) is none (Component from to) in_use same =
    let parts : (x.0.now ≡ decimal from) × (x.1.now ≡ decimal to) = parts_are from to text (Some x) is (omega (arith, in_use.1, in_use.2)) same in
    let first : number_between 1 9223372036854775807 x.0.now ≡ Some from =
    (law 1 9223372036854775807 x.0.now from (omega arith)).1 (parts.0, in_use.0, omega (arith, in_use.1, in_use.2)) in
    no_number law from 9223372036854775807 to x.1.now in_use.1 (omega (arith, in_use.2)) (omega arith) (none from first) (sym parts.1)

-- ---- names that are there

pub a_log : ArePrinted → (text : List ℕ) (g : ℕ) → number_between 1 9223372036854775807 text ≡ Some g → IsCalled (108 ∷ 45 ∷ text) (Some (Log g))
a_log law text g is =
    let p : (text ≡ decimal g) × (1 ≤ g) × (g ≤ 9223372036854775807) = (law 1 9223372036854775807 text g (omega arith)).0 is in
    ((p.1, omega (arith, p.2)), ap (λ ds. 108 ∷ 45 ∷ ds) (sym p.0))

pub a_component : ArePrinted → (text front back : List ℕ) (from to : ℕ) → text ≡ front ++ (45 ∷ back) → number_between 1 9223372036854775807 front ≡ Some from
    → number_between from 9223372036854775807 back ≡ Some to → IsCalled (99 ∷ 45 ∷ text) (Some (Component from to))
a_component law text front back from to cut first last =
    let p : (front ≡ decimal from) × (1 ≤ from) × (from ≤ 9223372036854775807) = (law 1 9223372036854775807 front from (omega arith)).0 first in
    let q : (back ≡ decimal to) × (from ≤ to) × (to ≤ 9223372036854775807) = (law from 9223372036854775807 back to (omega arith)).0 last in
    ((p.1, q.1, omega (arith, q.2)), ap (λ ds. 99 ∷ 45 ∷ ds) (rw (← p.0, ← q.0) (sym cut)))

-- ---- two names

-- what was put together at a first dash comes apart there
cut_once : (xs ys front back : List ℕ) → ((i : ℕ) → i < length xs → get_or xs i 0 ≢ 45) → ((i : ℕ) → i < length ys → get_or ys i 0 ≢ 45)
    → xs ++ (45 ∷ front) ≡ ys ++ (45 ∷ back) → (xs ≡ ys) × (front ≡ back)
cut_once [] [] front back no_x no_y same = (refl, cc)
cut_once [] (y ∷ ys) front back no_x no_y same = absurd (no_y 0 (omega arith) (cc))
cut_once (x ∷ xs) [] front back no_x no_y same = absurd (no_x 0 (omega arith) (cc))
cut_once (x ∷ xs) (y ∷ ys) front back no_x no_y same =
    let rest : (xs ≡ ys) × (front ≡ back) = cut_once xs ys front back (λ i less. no_x (suc i) (omega arith)) (λ i less. no_y (suc i) (omega arith)) (cc) in
    let first : x ≡ y = cc in
    (cc, rest.1)

pub apart : (one other : FileName) → IsInUse one → IsInUse other → name_text one ≡ name_text other → one ≡ other
apart (Component from to) (Component from' to') in_use in_use' same =
    let parts : (decimal from ≡ decimal from') × (decimal to ≡ decimal to') =
    cut_once (decimal from) (decimal from') (decimal to) (decimal to') (no_dash from (omega (arith, in_use.1, in_use.2)))
    (no_dash from' (omega (arith, in_use'.1, in_use'.2))) (tail_is 99 45 99 45 _ _ same).1 in
    let first : from ≡ from' = decimal_injective from from' (omega (arith, in_use.1, in_use.2)) (omega (arith, in_use'.1, in_use'.2)) parts.0 in
    let last : to ≡ to' = decimal_injective to to' (omega (arith, in_use.2)) (omega (arith, in_use'.2)) parts.1 in
    cc
apart (Component from to) (Log g) in_use in_use' same =
    let bad : 99 ≡ 108 = (tail_is 99 45 108 45 _ _ same).0 in absurd (omega (arith, bad))
apart (Log g) (Component from to) in_use in_use' same =
    let bad : 108 ≡ 99 = (tail_is 108 45 99 45 _ _ same).0 in absurd (omega (arith, bad))
apart (Log g) (Log h) in_use in_use' same =
    let is : g ≡ h = decimal_injective g h (omega (arith, in_use.1)) (omega (arith, in_use'.1)) (tail_is 108 45 108 45 _ _ same).1 in
    cc
