-- What a place shows: nothing shows nothing, and two places of the one form that show the same are one.
use Rattle.std.proofs.Common.{◌≡◌, ◌⊎◌, inl, inr, ℕ, ◌+◌, ◌<◌, ◌≤◌, List, [], ◌∷◌, Option, Some, None, length, refl, sym, ap, ◌∙◌, subst, arith, bytes_eq}
use Rattle.std.proofs.lemmas.Bool.{cases_lt}
use Rattle.std.proofs.lemmas.Bool.Decides.{nat_tests}
use Rattle.std.specs.List.{IsDistinct}
use Rattle.tc_model.specs.Document.{Name, Document, null_kind, boolean_kind, integer_kind, text_kind}
use Rattle.tc_model.specs.Dictionary.{number_of}
use Rattle.tc_schema_model.specs.Occurrences.{field, each_item, Path}
use Rattle.tc_model.specs.Kinds.{Kind, scalar, arrays, objects}
use Rattle.tc_schema_model.specs.Counted.{Counters, no_counters, counter, total, Counted, counted, Below, no_item, an_item, Fields, no_fields, a_field, nothing, held, field_at, numbered_field, counters_of, documents_of, shows, total_at, IsCanonical, IsBelowCanonical, AreFieldsCanonical}
use Rattle.tc_schema_model.specs.SchemaText.{name_at}
use Rattle.tc_schema_model.specs.Stands.{StandsFor}
use Rattle.tc_schema_model.proofs.CounterLaws.{each_kind}
use Rattle.tc_schema_model.proofs.NumberLaws.{number_of_name_at}

pub shows_nothing : (names : List Name) (path : Path) (t : Kind) → shows names nothing path t ≡ 0
shows_nothing names [] t = each_kind (λ t. counter no_counters t ≡ 0) refl refl refl refl refl refl t
shows_nothing names (each_item ∷ path) t = shows_nothing names path t
shows_nothing names (field name ∷ path) t = ap (λ d. shows names d path t) (at (number_of names name)) ∙ shows_nothing names path t
  where
    at : (o : Option ℕ) → numbered_field o no_fields ≡ nothing
    at None = refl
    at (Some n) = refl

-- and has no value at any path
pub total_nothing : (names : List Name) (path : Path) → total_at names nothing path ≡ 0
total_nothing names path =
    let one : (t : Kind) → shows names nothing path t ≡ 0 = λ t. shows_nothing names path t in
    omega (arith, one (scalar null_kind), one (scalar boolean_kind), one (scalar integer_kind), one (scalar text_kind), one arrays, one objects)

-- two places show the same at every path
abbrev ShowTheSame : List Name → Counted → Counted → Type 0
ShowTheSame names d e = (path : Path) (t : Kind) → shows names d path t ≡ shows names e path t

same_counters : (a b : Counters) → ((t : Kind) → counter a t ≡ counter b t) → a ≡ b
same_counters a b same = made (same (scalar null_kind)) (same (scalar boolean_kind)) (same (scalar integer_kind)) (same (scalar text_kind)) (same arrays) (same objects)
  where
    made : {m n o p q r m' n' o' p' q' r' : ℕ} → m ≡ m' → n ≡ n' → o ≡ o' → p ≡ p' → q ≡ q' → r ≡ r'
        → let a : Counters = record { nulls = m; booleans = n; integers = o; texts = p; arrays = q; objects = r } in
        let b : Counters = record { nulls = m'; booleans = n'; integers = o'; texts = p'; arrays = q'; objects = r' } in a ≡ b
    made e f g h i j = rw (e, f, g, h, i, j) refl

-- as many values are counted
same_total : (names : List Name) (d e : Counted) → ShowTheSame names d e → documents_of d ≡ documents_of e
same_total names d e same = ap total (same_counters (counters_of d) (counters_of e) (λ t. same [] t))

-- a place that counts something does not show the same as nothing
shows_something : (names : List Name) (d : Counted) → 0 < documents_of d → ShowTheSame names d nothing → ⊥
shows_something names d some same = omega (arith, same_total names d nothing same, some)

pub below_first : (n m : ℕ) (d : Counted) (fs : Fields) → n < m → field_at n (a_field m d fs) ≡ nothing
below_first n m d fs less = grind (arith, nat_tests)

pub at_first : (n : ℕ) (d : Counted) (fs : Fields) → field_at n (a_field n d fs) ≡ d
at_first n d fs = grind (arith, nat_tests)

pub after_first : (n m : ℕ) (d : Counted) (fs : Fields) → m < n → field_at n (a_field m d fs) ≡ field_at n fs
after_first n m d fs less = grind (arith, nat_tests)

-- ---- the one form is one

module _ (names : List Name) (distinct : IsDistinct bytes_eq names) where
  mutual
    pub same_counted : (d e : Counted) → IsCanonical (length names) d → IsCanonical (length names) e → ShowTheSame names d e → d ≡ e
    same_counted (counted c b fs) (counted c' b' fs') one other same =
        ap (λ x. counted x b fs) (same_counters c c' (λ t. same [] t))
        ∙ ap (λ x. counted c' x fs) (same_below b b' one.2 other.2 (λ path t. same (each_item ∷ path) t))
        ∙ ap (counted c' b') (same_fields 0 fs fs' one.3 other.3 (λ n least below path t.
        let name = name_at names n in
        let number = number_of_name_at names n distinct below in
        ap (λ o. shows names (numbered_field o fs) path t) (sym number) ∙ same (field name ∷ path) t ∙ ap (λ o. shows names (numbered_field o fs') path t) number))

    same_below : (b b' : Below) → IsBelowCanonical (length names) b → IsBelowCanonical (length names) b' → ShowTheSame names (held b) (held b') → b ≡ b'
    same_below no_item no_item one other same = refl
    same_below no_item (an_item e) one other same = absurd (shows_something names e other.0 (λ path t. sym (same path t)))
    same_below (an_item d) no_item one other same = absurd (shows_something names d one.0 same)
    same_below (an_item d) (an_item e) one other same = ap an_item (same_counted d e one.1 other.1 same)

    same_fields : (low : ℕ) (fs fs' : Fields) → AreFieldsCanonical (length names) low fs → AreFieldsCanonical (length names) low fs'
        → ((n : ℕ) → low ≤ n → n < length names → ShowTheSame names (field_at n fs) (field_at n fs')) → fs ≡ fs'
    same_fields low no_fields no_fields one other same = refl
    same_fields low no_fields (a_field m e fs') one other same =
        absurd (shows_something names e other.2 (subst (λ x. ShowTheSame names x nothing) (at_first m e fs') (λ path t. sym (same m other.0 other.1 path t))))
    same_fields low (a_field n d fs) no_fields one other same =
        absurd (shows_something names d one.2 (subst (λ x. ShowTheSame names x nothing) (at_first n d fs) (same n one.0 one.1)))
    same_fields low (a_field n d fs) (a_field m e fs') one other same =
        by_order (cases_lt n m) (cases_lt m n) (λ s. same_counted d e one.3 other.3 s) (λ c s. same_fields (n + 1) fs fs' one.4 c s)
      where
        first_differs : (n m : ℕ) (d e : Counted) (fs fs' : Fields) → n < m → 0 < documents_of d → ShowTheSame names (field_at n (a_field n d fs)) (field_at n (a_field m e fs')) → ⊥
        first_differs n m d e fs fs' less some same =
            shows_something names d some (λ path t. ap (λ x. shows names x path t) (sym (at_first n d fs)) ∙ same path t ∙ ap (λ x. shows names x path t) (below_first n m e fs' less))

        by_order : (n < m) ⊎ (m ≤ n) → (m < n) ⊎ (n ≤ m) → (ShowTheSame names d e → d ≡ e)
            → (AreFieldsCanonical (length names) (n + 1) fs' → ((k : ℕ) → n + 1 ≤ k → k < length names → ShowTheSame names (field_at k fs) (field_at k fs')) → fs ≡ fs') → a_field n d fs ≡ a_field m e fs'
        by_order (inl less) other_way same_place same_rest = absurd (first_differs n m d e fs fs' less one.2 (same n one.0 one.1))
        by_order (inr le) (inl less) same_place same_rest =
            absurd (first_differs m n e d fs' fs less other.2 (λ path t. sym (same m other.0 other.1 path t)))
        by_order (inr le) (inr ge) same_place same_rest =
            let number : m ≡ n = omega arith in
            let here : d ≡ e = same_place (λ path t.
            ap (λ x. shows names x path t) (sym (at_first n d fs)) ∙ same n one.0 one.1 path t
            ∙ subst (λ k. shows names (field_at k (a_field m e fs')) path t ≡ shows names e path t) number (ap (λ x. shows names x path t) (at_first m e fs'))) in
            let rest : fs ≡ fs' = same_rest (subst (λ k. AreFieldsCanonical (length names) (k + 1) fs') number other.4) (λ k least below path t.
            ap (λ x. shows names x path t) (sym (after_first k n d fs (omega arith))) ∙ same k (omega (arith, one.0)) below path t ∙ ap (λ x. shows names x path t) (after_first k m e fs' (omega arith))) in
            rw (number, here, rest) refl

-- Two that stand for the same documents under one dictionary are one.
pub one_schema : (names : List Name) (d e : Counted) (docs : List Document) → StandsFor names d docs → StandsFor names e docs → d ≡ e
one_schema names d e docs one other = same_counted names one.distinct d e one.canonical other.canonical (λ path t. one.counts path t ∙ sym (other.counts path t))
