-- What a place shows with so many times more what another shows, and that it stays in the one form.
use Rattle.std.proofs.Common.{◌≡◌, ◌⊎◌, inl, inr, ℕ, ◌+◌, ◌*◌, ◌<◌, ◌≤◌, List, [], ◌∷◌, Option, Some, None, length, refl, sym, ap, ◌∙◌, subst, arith}
use Rattle.std.proofs.lemmas.Bool.{cases_lt}
use Rattle.tc_model.specs.Document.{Name}
use Rattle.tc_model.specs.Dictionary.{number_of}
use Rattle.tc_model.specs.Kinds.{Kind}
use Rattle.tc_schema_model.specs.Occurrences.{field, each_item, Path}
use Rattle.tc_schema_model.specs.Counted.{counter, total, Counted, counted, Below, no_item, an_item, Fields, no_fields, a_field, nothing, held, field_at, numbered_field, counters_of, place_at, documents_of, shows, total_at, IsCanonical, IsBelowCanonical, AreFieldsCanonical, AreFieldsOrdered}
use Rattle.tc_schema_model.specs.Added.{put_field}
use Rattle.tc_schema_model.proofs.FieldLaws.{field_at-put_field_here, field_at-put_field_elsewhere, nothing_below, fields_ordered, held_canonical}
use Rattle.tc_schema_model.proofs.CountingLaws.{below_first, at_first, after_first}
use Rattle.tc_schema_model.proofs.AddedLaws.{field_canonical, canonical-put_field}
use Rattle.tc_schema_model.proofs.MoreNames.{numbered_canonical}
use Rattle.tc_audit.specs.Times.{counters_with, with_times, below_with, fields_with}
use Rattle.tc_audit.proofs.AddedCounters.{counter-with, total-with, counters-with_none, none_of_both, some_with}

with_nothing : (k : ℕ) (d : Counted) → with_times k nothing d ≡ d
with_nothing k (counted c below gs) = ap (λ x. counted x below gs) (counters-with_none k c)

-- ---- what is shown

held-with : (k : ℕ) (b below : Below) → held (below_with k b below) ≡ with_times k (held b) (held below)
held-with k no_item below = sym (with_nothing k (held below))
held-with k (an_item e) below = refl

pub field_at-with : (k low m : ℕ) (fs gs : Fields) → AreFieldsOrdered low fs → field_at m (fields_with k fs gs) ≡ with_times k (field_at m fs) (field_at m gs)
field_at-with k low m no_fields gs order = sym (with_nothing k (field_at m gs))
field_at-with k low m (a_field n e fs) gs order =
    field_at-with k (n + 1) m fs (put_field n (with_times k e (field_at n gs)) gs) order.2 ∙ by_order (cases_lt m n) (cases_lt n m)
  where
    d : Counted
    d = with_times k e (field_at n gs)

    there : (f g h : Counted) → field_at m fs ≡ f → field_at m (put_field n d gs) ≡ g → field_at m (a_field n e fs) ≡ h → with_times k f g ≡ with_times k h (field_at m gs)
        → with_times k (field_at m fs) (field_at m (put_field n d gs)) ≡ with_times k (field_at m (a_field n e fs)) (field_at m gs)
    there f g h one other whole is = ap (λ x. with_times k x (field_at m (put_field n d gs))) one ∙ ap (with_times k f) other ∙ is ∙ ap (λ x. with_times k x (field_at m gs)) (sym whole)

    by_order : (m < n) ⊎ (n ≤ m) → (n < m) ⊎ (m ≤ n) → with_times k (field_at m fs) (field_at m (put_field n d gs)) ≡ with_times k (field_at m (a_field n e fs)) (field_at m gs)
    by_order (inl less) other =
        there nothing (field_at m gs) nothing (nothing_below (n + 1) fs m order.2 (omega arith)) (field_at-put_field_elsewhere n d gs m (λ same. omega (arith, same))) (below_first m n e fs less) refl
    by_order (inr le) (inl less) =
        there (field_at m fs) (field_at m gs) (field_at m fs) refl (field_at-put_field_elsewhere n d gs m (λ same. omega (arith, same))) (after_first m n e fs less) refl
    by_order (inr le) (inr ge) =
        let same : n ≡ m = omega arith in
        there nothing d e (nothing_below (n + 1) fs m order.2 (omega arith)) (ap (λ i. field_at i (put_field n d gs)) (sym same) ∙ field_at-put_field_here n d gs) (ap (λ i. field_at i (a_field n e fs)) (sym same) ∙ at_first n e fs)
        (with_nothing k d ∙ ap (λ i. with_times k e (field_at i gs)) same)

numbered-with : (k limit : ℕ) (o : Option ℕ) (fs gs : Fields) → AreFieldsCanonical limit 0 fs → numbered_field o (fields_with k fs gs) ≡ with_times k (numbered_field o fs) (numbered_field o gs)
numbered-with k limit None fs gs canonical = sym (with_nothing k nothing)
numbered-with k limit (Some n) fs gs canonical = field_at-with k 0 n fs gs (fields_ordered limit 0 fs canonical)

-- at each path stands what stood there, with so many times more what stands there of the other
place_at-with : (names : List Name) (k limit : ℕ) (one d : Counted) → IsCanonical limit one → (path : Path) → place_at names (with_times k one d) path ≡ with_times k (place_at names one path) (place_at names d path)
place_at-with names k limit one d canonical [] = refl
place_at-with names k limit (counted e b fs) (counted c below gs) canonical (each_item ∷ path) =
    ap (λ x. place_at names x path) (held-with k b below) ∙ place_at-with names k limit (held b) (held below) (held_canonical limit b canonical.2) path
place_at-with names k limit (counted e b fs) (counted c below gs) canonical (field name ∷ path) =
    let o = number_of names name in
    ap (λ x. place_at names x path) (numbered-with k limit o fs gs canonical.3) ∙ place_at-with names k limit (numbered_field o fs) (numbered_field o gs) (numbered_canonical limit o fs canonical.3) path

counters_of-with : (k : ℕ) (one d : Counted) → counters_of (with_times k one d) ≡ counters_with k (counters_of one) (counters_of d)
counters_of-with k (counted e b fs) (counted c below gs) = refl

counters_at-with : (names : List Name) (k : ℕ) (one d : Counted) → IsCanonical (length names) one → (path : Path)
    → counters_of (place_at names (with_times k one d) path) ≡ counters_with k (counters_of (place_at names one path)) (counters_of (place_at names d path))
counters_at-with names k one d canonical path = ap counters_of (place_at-with names k (length names) one d canonical path) ∙ counters_of-with k (place_at names one path) (place_at names d path)

pub shows_with_times : (names : List Name) (k : ℕ) (one d : Counted) → IsCanonical (length names) one → (path : Path) (t : Kind) → shows names (with_times k one d) path t ≡ shows names d path t + k * shows names one path t
shows_with_times names k one d canonical path t =
    ap (λ c. counter c t) (counters_at-with names k one d canonical path) ∙ counter-with k (counters_of (place_at names one path)) (counters_of (place_at names d path)) t

pub total_with_times : (names : List Name) (k : ℕ) (one d : Counted) → IsCanonical (length names) one → (path : Path) → total_at names (with_times k one d) path ≡ total_at names d path + k * total_at names one path
total_with_times names k one d canonical path =
    ap total (counters_at-with names k one d canonical path) ∙ total-with k (counters_of (place_at names one path)) (counters_of (place_at names d path))

-- ---- the one form

documents-with : (k : ℕ) (one d : Counted) → documents_of (with_times k one d) ≡ documents_of d + k * documents_of one
documents-with k one d = ap total (counters_of-with k one d) ∙ total-with k (counters_of one) (counters_of d)

mutual
  pub canonical_with_times : (limit k : ℕ) (one d : Counted) → 0 < k → IsCanonical limit one → IsCanonical limit d → IsCanonical limit (with_times k one d)
  canonical_with_times limit k (counted e b fs) (counted c below gs) some one other = (
    λ none. let both = none_of_both k c.arrays e.arrays some none in rw (one.0 both.1, other.0 both.0) refl,
    λ none. let both = none_of_both k c.objects e.objects some none in rw (one.1 both.1, other.1 both.0) refl,
    canonical-below_with limit k b below some one.2 other.2,
    canonical-fields_with limit k 0 fs gs some one.3 other.3,
  )

  canonical-below_with : (limit k : ℕ) (b below : Below) → 0 < k → IsBelowCanonical limit b → IsBelowCanonical limit below → IsBelowCanonical limit (below_with k b below)
  canonical-below_with limit k no_item below some one other = other
  canonical-below_with limit k (an_item e) below some one other = (
    subst (λ n. 0 < n) (sym (documents-with k e (held below))) (some_with k (documents_of (held below)) (documents_of e) some one.0),
    canonical_with_times limit k e (held below) some one.1 (held_canonical limit below other),
  )

  pub canonical-fields_with : (limit k low : ℕ) (fs gs : Fields) → 0 < k → AreFieldsCanonical limit low fs → AreFieldsCanonical limit 0 gs → AreFieldsCanonical limit 0 (fields_with k fs gs)
  canonical-fields_with limit k low no_fields gs some one other = other
  canonical-fields_with limit k low (a_field n e fs) gs some one other =
      let here = field_at n gs in
      canonical-fields_with limit k (n + 1) fs (put_field n (with_times k e here) gs) some one.4
      (canonical-put_field limit 0 n (with_times k e here) gs (omega arith) one.1
      (subst (λ n. 0 < n) (sym (documents-with k e here)) (some_with k (documents_of here) (documents_of e) some one.2))
      (canonical_with_times limit k e here some one.3 (field_canonical limit 0 n gs other)) other)
