-- Two schemas fit together place by place exactly where each path has room for both.
use Rattle.std.proofs.Common.{◌≡◌, ℕ, ◌+◌, ◌<◌, ◌≤◌, ◌^◌, ◌==◌, ◌||◌, ◌&&◌, nat_lt, Bool, true, false, List, [], ◌∷◌, Option, Some, None, length, bytes_eq, if◌then◌else◌, refl, sym, ap, subst, arith}
use Rattle.std.specs.List.{IsDistinct}
use Rattle.std.proofs.lemmas.Bool.{and_parts, and_from, ltb-true, lt-ltb}
use Rattle.std.proofs.lemmas.Bool.Decides.{Decides-eqb, nat_tests}
use Rattle.tc_model.specs.Document.{Name}
use Rattle.tc_model.specs.Dictionary.{number_of}
use Rattle.tc_schema_model.specs.Occurrences.{field, each_item, Path}
use Rattle.tc_schema_model.specs.Counted.{Counters, Counted, counted, Below, no_item, an_item, Fields, no_fields, a_field, nothing, below_of, documents_of, fields_of, held, field_at, numbered_field, total, total_at, IsCanonical, IsBelowCanonical, AreFieldsCanonical, HasSmallCounters, BelowHasSmallCounters, FieldsHaveSmallCounters}
use Rattle.tc_schema_model.specs.SchemaText.{name_at}
use Rattle.tc_schema_model.proofs.AddedLaws.{field_canonical}
use Rattle.tc_schema_model.proofs.CountingLaws.{at_first, after_first, total_nothing}
use Rattle.tc_schema_model.proofs.FieldLaws.{held_canonical}
use Rattle.tc_schema_model.proofs.NumberLaws.{number_of_name_at}
use Rattle.tc_schema_model.proofs.RemovedLaws.{nothing_counted}
use Rattle.tc_schema_model.proofs.SmallCounters.{small_at_paths}
use Rattle.tc_infer.specs.Together.{do_fit, do_items_fit, do_all_fit}

-- that a path has room for what both places count there
abbrev pub FitAt : List Name → Counted → Counted → Path → Type 0
FitAt names e d path = total_at names e path + total_at names d path < 2 ^ 64

-- ---- from the test

beside_nothing : (names : List Name) (e d : Counted) (path : Path) → d ≡ nothing → total_at names e path < 2 ^ 64 → FitAt names e d path
beside_nothing names e d path none small = omega (arith, small, ap (λ x. total_at names x path) none, total_nothing names path)

nothing_beside : (names : List Name) (d : Counted) (path : Path) → total_at names d path < 2 ^ 64 → FitAt names nothing d path
nothing_beside names d path small = omega (arith, small, total_nothing names path)

-- one that counts nothing, or the rest of the test
by_either : {P : Type 0} (none rest : Bool) → (none || rest) ≡ true → (none ≡ true → P) → (rest ≡ true → P) → P
by_either true rest test first second = first refl
by_either false rest test first second = second test

by_number : (names : List Name) (n m : ℕ) (e later d : Counted) (path : Path) → (n ≡ m → FitAt names e d path) → FitAt names later d path → FitAt names nothing d path → FitAt names (if nat_lt n m then nothing else (if m == n then e else later)) d path
by_number names n m e later d path here behind none = by_tests (nat_lt n m) (m == n) (λ same. here (sym ((Decides-eqb m n).0 same)))
  where
    by_tests : (before is : Bool) → (is ≡ true → FitAt names e d path) → FitAt names (if before then nothing else (if is then e else later)) d path
    by_tests true is here = none
    by_tests false true here = here refl
    by_tests false false here = behind

-- at the number of a name, if it has one
by_name : (names : List Name) (o : Option ℕ) (fs fs' : Fields) (path : Path) → ((path : Path) → total_at names (numbered_field o fs') path < 2 ^ 64)
    → ((n : ℕ) → ((path : Path) → total_at names (field_at n fs') path < 2 ^ 64) → FitAt names (field_at n fs) (field_at n fs') path) → FitAt names (numbered_field o fs) (numbered_field o fs') path
by_name names None fs fs' path room each = nothing_beside names nothing path (room path)
by_name names (Some n) fs fs' path room each = each n room

module _ (names : List Name) where
  mutual
    pub fits_at : (e d : Counted) → HasSmallCounters e → IsCanonical (length names) d → ((path : Path) → total_at names d path < 2 ^ 64) → do_fit e d ≡ true → (path : Path) → FitAt names e d path
    fits_at (counted c b fs) (counted c' b' fs') small canonical room test [] =
        by_either (total c' == 0) _ test
        (λ none. beside_nothing names (counted c b fs) (counted c' b' fs') [] (nothing_counted (length names) (counted c' b' fs') canonical ((Decides-eqb (total c') 0).0 none)) small.0)
        (λ rest. ltb-true (total c + total c') (2 ^ 64) (and_parts _ _ (and_parts _ _ rest).0).0)
    fits_at (counted c b fs) (counted c' b' fs') small canonical room test (each_item ∷ path) =
        by_either (total c' == 0) _ test
        (λ none. beside_nothing names (counted c b fs) (counted c' b' fs') (each_item ∷ path) (nothing_counted (length names) (counted c' b' fs') canonical ((Decides-eqb (total c') 0).0 none))
        (small_at_paths names (counted c b fs) small (each_item ∷ path)))
        (λ rest. items_fit_at b b' small.1 canonical.2 (λ path. room (each_item ∷ path)) (and_parts _ _ (and_parts _ _ rest).0).1 path)
    fits_at (counted c b fs) (counted c' b' fs') small canonical room test (field name ∷ path) =
        by_either (total c' == 0) _ test
        (λ none. beside_nothing names (counted c b fs) (counted c' b' fs') (field name ∷ path) (nothing_counted (length names) (counted c' b' fs') canonical ((Decides-eqb (total c') 0).0 none))
        (small_at_paths names (counted c b fs) small (field name ∷ path)))
        (λ rest. by_name names (number_of names name) fs fs' path (λ path. room (field name ∷ path)) (λ n room. fields_fit_at n fs fs' small.2 canonical.3 room (and_parts _ _ rest).1 path))

    items_fit_at : (b b' : Below) → BelowHasSmallCounters b → IsBelowCanonical (length names) b' → ((path : Path) → total_at names (held b') path < 2 ^ 64) → do_items_fit b b' ≡ true → (path : Path) → FitAt names (held b) (held b') path
    items_fit_at no_item b' small canonical room test path = nothing_beside names (held b') path (room path)
    items_fit_at (an_item e) b' small canonical room test path = fits_at e (held b') small (held_canonical (length names) b' canonical) room test path

    fields_fit_at : (n : ℕ) (es fs : Fields) → FieldsHaveSmallCounters es → AreFieldsCanonical (length names) 0 fs → ((path : Path) → total_at names (field_at n fs) path < 2 ^ 64) → do_all_fit es fs ≡ true
        → (path : Path) → FitAt names (field_at n es) (field_at n fs) path
    fields_fit_at n no_fields fs small canonical room test path = nothing_beside names (field_at n fs) path (room path)
    fields_fit_at n (a_field m e es) fs small canonical room test path =
        by_number names n m e (field_at n es) (field_at n fs) path
        (λ same. subst (λ k. FitAt names e (field_at k fs) path) (sym same)
        (fits_at e (field_at m fs) small.0 (field_canonical (length names) 0 m fs canonical) (subst (λ k. (path : Path) → total_at names (field_at k fs) path < 2 ^ 64) same room) (and_parts _ _ test).0 path))
        (fields_fit_at n es fs small.1 canonical room (and_parts _ _ test).1 path)
        (nothing_beside names (field_at n fs) path (room path))

-- ---- to the test

or_second : (none rest : Bool) → rest ≡ true → (none || rest) ≡ true
or_second true rest is = refl
or_second false rest is = is

module _ (names : List Name) (distinct : IsDistinct bytes_eq names) where
  mutual
    pub fit_from_paths : (e d : Counted) → IsCanonical (length names) e → ((path : Path) → FitAt names e d path) → do_fit e d ≡ true
    fit_from_paths (counted c b fs) d canonical fits =
        or_second (documents_of d == 0) _
        (and_from _ _ (and_from _ _ (lt-ltb (total c + documents_of d) (2 ^ 64) (fits [])) (items_from_paths b (below_of d) canonical.2 (λ path. fits (each_item ∷ path))))
        (fields_from_paths 0 fs (fields_of d) canonical.3 (λ n least below path.
        subst (λ o. FitAt names (numbered_field o fs) (numbered_field o (fields_of d)) path) (number_of_name_at names n distinct below) (fits (field (name_at names n) ∷ path)))))

    items_from_paths : (b b' : Below) → IsBelowCanonical (length names) b → ((path : Path) → FitAt names (held b) (held b') path) → do_items_fit b b' ≡ true
    items_from_paths no_item b' canonical fits = refl
    items_from_paths (an_item e) b' canonical fits = fit_from_paths e (held b') canonical.1 fits

    fields_from_paths : (low : ℕ) (es fs : Fields) → AreFieldsCanonical (length names) low es → ((n : ℕ) → low ≤ n → n < length names → (path : Path) → FitAt names (field_at n es) (field_at n fs) path) → do_all_fit es fs ≡ true
    fields_from_paths low no_fields fs canonical fits = refl
    fields_from_paths low (a_field n e es) fs canonical fits =
        and_from _ _
        (fit_from_paths e (field_at n fs) canonical.3 (λ path. subst (λ x. FitAt names x (field_at n fs) path) (at_first n e es) (fits n canonical.0 canonical.1 path)))
        (fields_from_paths (n + 1) es fs canonical.4 (λ k least below path. subst (λ x. FitAt names x (field_at k fs) path) (after_first k n e es (omega arith)) (fits k (omega (arith, canonical.0)) below path)))

-- ---- one place

-- where both count something and there is room, what is below decides
pub below_decides : (c : Counters) (b : Below) (fs : Fields) (c' : Counters) (b' : Below) (fs' : Fields) → (total c' == 0) ≡ false → total c + total c' < 2 ^ 64 → do_items_fit b b' ≡ true → do_fit (counted c b fs) (counted c' b' fs') ≡ do_all_fit fs fs'
below_decides c b fs c' b' fs' some room items = by_tests (total c' == 0) (nat_lt (total c + total c') (2 ^ 64)) (do_items_fit b b') (do_all_fit fs fs') some (lt-ltb (total c + total c') (2 ^ 64) room) items
  where
    by_tests : (none room items fields : Bool) → none ≡ false → room ≡ true → items ≡ true → (none || ((room && items) && fields)) ≡ fields
    by_tests none room items fields some is all = rw (some, is, all) refl

pub some_counted : (n : ℕ) → 0 < n → (n == 0) ≡ false
some_counted n some = grind (arith, nat_tests)
