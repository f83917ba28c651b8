-- What a schema shows with one shape less, and that it stays in the one form.
use Rattle.std.proofs.Common.{◌≡◌, ◌≢◌, ℕ, ◌+◌, ◌<◌, ◌≤◌, ◌==◌, Bool, true, false, List, [], ◌∷◌, Option, Some, None, length, bytes_eq, if◌then◌else◌, refl, sym, ap, ◌∙◌, subst, arith}
use Rattle.std.proofs.lemmas.Bool.{false≢true}
use Rattle.std.proofs.lemmas.Bool.Decides.{Decides-eqb, nat_tests}
use Rattle.std.proofs.lemmas.Slice.Eq.{bytes_eq-Decides}
use Rattle.tc_model.specs.Tree.{leaf, array, object, Items, no_items, item, Members, no_members, member}
use Rattle.tc_model.specs.Document.{Name, ShapeTree, ScalarKind, null_kind, boolean_kind, integer_kind, text_kind}
use Rattle.tc_model.specs.Dictionary.{number_of, number}
use Rattle.tc_schema_model.specs.Occurrences.{field, each_item, Path, occurrences, items_occurrences, members_occurrences}
use Rattle.tc_model.specs.Kinds.{Kind, scalar, arrays, objects}
use Rattle.tc_schema_model.specs.Counted.{Counters, total, Counted, counted, Below, no_item, an_item, Fields, no_fields, a_field, nothing, held, field_at, numbered_field, counters_of, documents_of, shows, IsCanonical, IsBelowCanonical, AreFieldsCanonical}
use Rattle.tc_schema_model.specs.Added.{lowered, put_field, without_field, removed, items_removed, members_removed, kept_item, kept_field}
use Rattle.tc_schema_model.specs.Fits.{Fits, ItemsFit, MembersFit}
use Rattle.tc_schema_model.proofs.CounterLaws.{counter-lowered}
use Rattle.tc_schema_model.proofs.FieldLaws.{field_at-put_field_here, field_at-put_field_elsewhere, field_at-without_field, fields_ordered, held_canonical}
use Rattle.tc_model.proofs.NameNumbers.{numbered}
use Rattle.tc_schema_model.proofs.NumberLaws.{one_name, name_stands}
use Rattle.tc_schema_model.proofs.AddedLaws.{field_canonical, canonical-put_field}

-- ---- the one form

-- what counts nothing is nothing
pub nothing_counted : (limit : ℕ) (d : Counted) → IsCanonical limit d → documents_of d ≡ 0 → d ≡ nothing
nothing_counted limit (counted c b fs) canonical none = rw (canonical.0 (omega arith), canonical.1 (omega arith), no_counters_are c none) refl
  where
    made : {a b d e f g : ℕ} → a ≡ 0 → b ≡ 0 → d ≡ 0 → e ≡ 0 → f ≡ 0 → g ≡ 0 → let c : Counters = record { nulls = a; booleans = b; integers = d; texts = e; arrays = f; objects = g } in c ≡ counters_of nothing
    made a b d e f g = rw (a, b, d, e, f, g) refl

    no_counters_are : (c : Counters) → total c ≡ 0 → c ≡ counters_of nothing
    no_counters_are c none =
        let a : c.nulls ≡ 0 = omega arith in
        let b : c.booleans ≡ 0 = omega arith in
        let d : c.integers ≡ 0 = omega arith in
        let e : c.texts ≡ 0 = omega arith in
        let f : c.arrays ≡ 0 = omega arith in
        let g : c.objects ≡ 0 = omega arith in
        made a b d e f g

weakened : (limit low least : ℕ) (fs : Fields) → low ≤ least → AreFieldsCanonical limit least fs → AreFieldsCanonical limit low fs
weakened limit low least no_fields le canonical = tt
weakened limit low least (a_field n d fs) le canonical = (omega (arith, canonical.0), canonical.1, canonical.2, canonical.3, canonical.4)

canonical-without_field : (limit low n : ℕ) (fs : Fields) → AreFieldsCanonical limit low fs → AreFieldsCanonical limit low (without_field n fs)
canonical-without_field limit low n no_fields canonical = tt
canonical-without_field limit low n (a_field m d fs) canonical = by_test (m == n) (canonical-without_field limit (m + 1) n fs canonical.4)
  where
    by_test : (equal : Bool) → AreFieldsCanonical limit (m + 1) (without_field n fs) → AreFieldsCanonical limit low (if equal then fs else a_field m d (without_field n fs))
    by_test true later = weakened limit low (m + 1) fs (omega (arith, canonical.0)) canonical.4
    by_test false later = (canonical.0, canonical.1, canonical.2, canonical.3, later)

canonical-kept_item : (limit : ℕ) (d : Counted) → IsCanonical limit d → IsBelowCanonical limit (kept_item d)
canonical-kept_item limit d canonical = by_test (documents_of d == 0) (Decides-eqb (documents_of d) 0)
  where
    by_test : (none : Bool) → (none ≡ true → documents_of d ≡ 0) × (documents_of d ≡ 0 → none ≡ true) → IsBelowCanonical limit (if none then no_item else an_item d)
    by_test true decides = tt
    by_test false decides = (let some : documents_of d ≢ 0 = λ zero. false≢true (decides.1 zero) in omega arith, canonical)

canonical-kept_field : (limit n : ℕ) (d : Counted) (fs : Fields) → n < limit → IsCanonical limit d → AreFieldsCanonical limit 0 fs → AreFieldsCanonical limit 0 (kept_field n d fs)
canonical-kept_field limit n d fs below here canonical = by_test (documents_of d == 0) (Decides-eqb (documents_of d) 0)
  where
    by_test : (none : Bool) → (none ≡ true → documents_of d ≡ 0) × (documents_of d ≡ 0 → none ≡ true) → AreFieldsCanonical limit 0 (if none then without_field n fs else put_field n d fs)
    by_test true decides = canonical-without_field limit 0 n fs canonical
    by_test false decides = canonical-put_field limit 0 n d fs (omega arith) below (let some : documents_of d ≢ 0 = λ zero. false≢true (decides.1 zero) in omega arith) here canonical

arrays_kept : (k : ScalarKind) (c : Counters) → c.arrays ≡ (lowered (scalar k) 1 c).arrays
arrays_kept null_kind c = refl
arrays_kept boolean_kind c = refl
arrays_kept integer_kind c = refl
arrays_kept text_kind c = refl

objects_kept : (k : ScalarKind) (c : Counters) → c.objects ≡ (lowered (scalar k) 1 c).objects
objects_kept null_kind c = refl
objects_kept boolean_kind c = refl
objects_kept integer_kind c = refl
objects_kept text_kind c = refl

mutual
  pub canonical-removed : (names : List Name) (s : ShapeTree) (d : Counted) → Fits names s d → IsCanonical (length names) d → IsCanonical (length names) (removed names s d)
  canonical-removed names (leaf k) (counted c b fs) fits canonical =
      (λ none. canonical.0 (arrays_kept k c ∙ none), λ none. canonical.1 (objects_kept k c ∙ none), canonical.2, canonical.3)
  canonical-removed names (array xs) (counted c b fs) fits canonical =
      (λ none. fits.2 (omega (arith, fits.0)), canonical.1, canonical-items_removed names xs b fits.1 canonical.2, canonical.3)
  canonical-removed names (object ms) (counted c b fs) fits canonical =
      (canonical.0, λ none. fits.2 (omega (arith, fits.0)), canonical.2, canonical-members_removed names ms fs fits.1 canonical.3)

  pub canonical-items_removed : (names : List Name) (xs : Items Name ScalarKind) (b : Below) → ItemsFit names xs b → IsBelowCanonical (length names) b → IsBelowCanonical (length names) (items_removed names xs b)
  canonical-items_removed names no_items b fits canonical = canonical
  canonical-items_removed names (item s xs) b fits canonical =
      canonical-items_removed names xs (kept_item (removed names s (held b))) fits.1
      (canonical-kept_item (length names) (removed names s (held b)) (canonical-removed names s (held b) fits.0 (held_canonical (length names) b canonical)))

  pub canonical-members_removed : (names : List Name) (ms : Members Name ScalarKind) (fs : Fields) → MembersFit names ms fs → AreFieldsCanonical (length names) 0 fs → AreFieldsCanonical (length names) 0 (members_removed names ms fs)
  canonical-members_removed names no_members fs fits canonical = canonical
  canonical-members_removed names (member label s ms) fs fits canonical =
      let n = number names label in
      let d = removed names s (field_at n fs) in
      canonical-members_removed names ms (kept_field n d fs) fits.2
      (canonical-kept_field (length names) n d fs ((name_stands names label n (numbered names label fits.0)).0)
      (canonical-removed names s (field_at n fs) fits.1 (field_canonical (length names) 0 n fs canonical)) canonical)

-- ---- what is shown

-- a place that is kept only where it counts something shows what it is
held-kept_item : (limit : ℕ) (d : Counted) → IsCanonical limit d → held (kept_item d) ≡ d
held-kept_item limit d canonical = by_test (documents_of d == 0) (Decides-eqb (documents_of d) 0)
  where
    by_test : (none : Bool) → (none ≡ true → documents_of d ≡ 0) × (documents_of d ≡ 0 → none ≡ true) → held (if none then no_item else an_item d) ≡ d
    by_test true decides = sym (nothing_counted limit d canonical (decides.0 refl))
    by_test false decides = refl

field_at-kept_field_here : (limit n : ℕ) (d : Counted) (fs : Fields) → IsCanonical limit d → AreFieldsCanonical limit 0 fs → field_at n (kept_field n d fs) ≡ d
field_at-kept_field_here limit n d fs here canonical = by_test (documents_of d == 0) (Decides-eqb (documents_of d) 0)
  where
    same : (n : ℕ) (e : Counted) → (if n == n then nothing else e) ≡ nothing
    same n e = grind (arith, nat_tests)

    by_test : (none : Bool) → (none ≡ true → documents_of d ≡ 0) × (documents_of d ≡ 0 → none ≡ true) → field_at n (if none then without_field n fs else put_field n d fs) ≡ d
    by_test true decides =
        field_at-without_field n 0 fs n (fields_ordered limit 0 fs canonical) ∙ same n (field_at n fs) ∙ sym (nothing_counted limit d here (decides.0 refl))
    by_test false decides = field_at-put_field_here n d fs

field_at-kept_field_elsewhere : (limit n : ℕ) (d : Counted) (fs : Fields) (m : ℕ) → n ≢ m → AreFieldsCanonical limit 0 fs → field_at m (kept_field n d fs) ≡ field_at m fs
field_at-kept_field_elsewhere limit n d fs m other canonical = by_test (documents_of d == 0)
  where
    differs : (n m : ℕ) (e : Counted) → n ≢ m → (if n == m then nothing else e) ≡ e
    differs n m e other = grind (arith, nat_tests)

    by_test : (none : Bool) → field_at m (if none then without_field n fs else put_field n d fs) ≡ field_at m fs
    by_test true = field_at-without_field n 0 fs m (fields_ordered limit 0 fs canonical) ∙ differs n m (field_at m fs) other
    by_test false = field_at-put_field_elsewhere n d fs m other

shows-kept_field : (limit : ℕ) (names : List Name) (label : Name) (n : ℕ) (d : Counted) (fs : Fields) (name : Name) (path : Path) (t : Kind) (less : ℕ)
    → IsCanonical limit d → AreFieldsCanonical limit 0 fs → number_of names label ≡ Some n → shows names d path t + less ≡ shows names (field_at n fs) path t
    → shows names (numbered_field (number_of names name) (kept_field n d fs)) path t + (if bytes_eq label name then less else 0) ≡ shows names (numbered_field (number_of names name) fs) path t
shows-kept_field limit names label n d fs name path t less here canonical stands shrunk = by_number (number_of names name) refl (bytes_eq label name) (bytes_eq-Decides label name)
  where
    by_number : (o : Option ℕ) → number_of names name ≡ o → (test : Bool) → (test ≡ true → label ≡ name) × (label ≡ name → test ≡ true)
        → shows names (numbered_field o (kept_field n d fs)) path t + (if test then less else 0) ≡ shows names (numbered_field o fs) path t
    by_number None found true decides = let same : label ≡ name = decides.0 refl in absurd (cc)
    by_number None found false decides = omega arith
    by_number (Some m) found true decides =
        let same : label ≡ name = decides.0 refl in
        let number : n ≡ m = cc in
        subst (λ k. shows names (field_at k (kept_field n d fs)) path t + less ≡ shows names (field_at k fs) path t) number
        (ap (λ e. shows names e path t + less) (field_at-kept_field_here limit n d fs here canonical) ∙ shrunk)
    by_number (Some m) found false decides =
        let other : n ≢ m = λ same. false≢true (decides.1 (one_name names label name n stands (found ∙ ap Some (sym same)))) in
        ap (λ e. shows names e path t + 0) (field_at-kept_field_elsewhere limit n d fs m other canonical) ∙ omega arith

mutual
  pub shows-removed : (names : List Name) (s : ShapeTree) (d : Counted) → Fits names s d → IsCanonical (length names) d → (path : Path) (t : Kind) → shows names (removed names s d) path t + occurrences s path t ≡ shows names d path t
  shows-removed names (leaf k) (counted c b fs) fits canonical [] t = counter-lowered (scalar k) 1 c fits t
  shows-removed names (leaf k) (counted c b fs) fits canonical (each_item ∷ path) t = omega arith
  shows-removed names (leaf k) (counted c b fs) fits canonical (field name ∷ path) t = omega arith
  shows-removed names (array xs) (counted c b fs) fits canonical [] t = counter-lowered arrays 1 c fits.0 t
  shows-removed names (array xs) (counted c b fs) fits canonical (each_item ∷ path) t = shows-items_removed names xs b fits.1 canonical.2 path t
  shows-removed names (array xs) (counted c b fs) fits canonical (field name ∷ path) t = omega arith
  shows-removed names (object ms) (counted c b fs) fits canonical [] t = counter-lowered objects 1 c fits.0 t
  shows-removed names (object ms) (counted c b fs) fits canonical (each_item ∷ path) t = omega arith
  shows-removed names (object ms) (counted c b fs) fits canonical (field name ∷ path) t = shows-members_removed names ms fs fits.1 canonical.3 name path t

  pub shows-items_removed : (names : List Name) (xs : Items Name ScalarKind) (b : Below) → ItemsFit names xs b → IsBelowCanonical (length names) b → (path : Path) (t : Kind)
      → shows names (held (items_removed names xs b)) path t + items_occurrences xs path t ≡ shows names (held b) path t
  shows-items_removed names no_items b fits canonical path t = omega arith
  shows-items_removed names (item s xs) b fits canonical path t =
      let here = held_canonical (length names) b canonical in
      let d = removed names s (held b) in
      let left = canonical-removed names s (held b) fits.0 here in
      let kept = ap (λ e. shows names e path t) (held-kept_item (length names) d left) in
      omega (arith, shows-items_removed names xs (kept_item d) fits.1 (canonical-kept_item (length names) d left) path t, shows-removed names s (held b) fits.0 here path t, kept)

  pub shows-members_removed : (names : List Name) (ms : Members Name ScalarKind) (fs : Fields) → MembersFit names ms fs → AreFieldsCanonical (length names) 0 fs → (name : Name) (path : Path) (t : Kind)
      → shows names (numbered_field (number_of names name) (members_removed names ms fs)) path t + members_occurrences ms name path t ≡ shows names (numbered_field (number_of names name) fs) path t
  shows-members_removed names no_members fs fits canonical name path t = omega arith
  shows-members_removed names (member label s ms) fs fits canonical name path t =
      let n = number names label in
      let stands = numbered names label fits.0 in
      let here = field_canonical (length names) 0 n fs canonical in
      let d = removed names s (field_at n fs) in
      let left = canonical-removed names s (field_at n fs) fits.1 here in
      omega (
        arith,
        shows-members_removed names ms (kept_field n d fs) fits.2 (canonical-kept_field (length names) n d fs ((name_stands names label n stands).0) left canonical) name path t,
        shows-kept_field (length names) names label n d fs name path t (occurrences s path t) left canonical stands (shows-removed names s (field_at n fs) fits.1 here path t),
      )
