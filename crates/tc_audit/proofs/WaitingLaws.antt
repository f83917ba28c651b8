-- What is counted with documents that wait.
use Rattle.std.proofs.Common.{◌≡◌, ◌∙◌, ◌≤◌, ◌+◌, ◌*◌, ◌==◌, ℕ, zero, suc, Bool, true, false, if◌then◌else◌, List, [], ◌∷◌, ◌++◌, Option, None, Some, length, set, slice_get, option_map, option_to_list, drop, refl, sym, ap, subst, arith}
use Rattle.std.proofs.lemmas.Bool.{eqb-true}
use Rattle.std.proofs.lemmas.Bool.Decides.{nat_tests}
use Rattle.std.proofs.lemmas.Option.{same_Some}
use Rattle.tc_model.specs.Document.{Name, Document, document_shape, null_kind, boolean_kind, integer_kind, text_kind}
use Rattle.tc_model.specs.Kinds.{Kind, scalar, arrays, objects}
use Rattle.tc_model.specs.Dictionary.{IsDictionary}
use Rattle.tc_model.specs.ShapeNames.{names_within}
use Rattle.tc_model.proofs.LearnedNames.{all_learned-known}
use Rattle.tc_schema_model.specs.Added.{IsNamed}
use Rattle.tc_schema_model.specs.Counted.{Counted, nothing, shows, total_at, IsCanonical}
use Rattle.tc_schema_model.proofs.AddedLaws.{canonical-added, shows-added}
use Rattle.tc_schema_model.proofs.CountingLaws.{shows_nothing}
use Rattle.tc_schema_model.proofs.NamedShapes.{named-all_learned}
use Rattle.tc_schema_model.specs.Occurrences.{Path, count, occurrences}
use Rattle.tc_audit.specs.Told.{document_in}
use Rattle.tc_audit.specs.Stored.{IsStoredIn}
use Rattle.tc_audit.specs.Times.{with_times}
use Rattle.tc_audit.specs.Waiting.{all_counted, once, once_in, with_one, with_waiting, AreKnown, IsKnown, IsSound, NoneWaits}
use Rattle.tc_audit.specs.Walking.{IsMoreBy}
use Rattle.tc_audit.specs.declared.counting.Recount.{Recount}
use Rattle.tc_audit.specs.declared.shapes.KnownShape.{KnownShape}
use Rattle.tc_audit.proofs.ContentLaws.{stored_document, ReadsMeant}
use Rattle.tc_audit.proofs.TimesLaws.{canonical_with_times, shows_with_times, total_with_times}

-- documents of one shape have the same values
pub same_values : (a b : Option Document) (path : Path) (t : Kind) → option_map document_shape a ≡ option_map document_shape b → count (option_to_list a) path t ≡ count (option_to_list b) path t
same_values None None path t same = refl
same_values None (Some e) path t same = absurd (cc)
same_values (Some d) None path t same = absurd (cc)
same_values (Some d) (Some e) path t same = ap (λ s. occurrences s path t + 0) (same_Some (document_shape d) (document_shape e) same)

-- a shape is known by a stored record
pub known_once : ReadsMeant → (form : ℕ) (names : List Name) (s : KnownShape) → IsDictionary names → IsStoredIn form names s.bytes → IsKnown form names s
known_once reads form names s dictionary stored =
    let shape = document_shape stored.document in
    let named : IsNamed names shape = subst (λ ns. IsNamed ns shape) (all_learned-known names (names_within shape) stored.named) (named-all_learned names shape) in
    let is : document_in names s.bytes ≡ Some stored.document = stored_document reads form names s.bytes dictionary stored in
    record {
      stored = stored;
      canonical = subst (λ o. IsCanonical (length names) (once names o)) (sym is) (canonical-added names shape nothing named ((λ none. refl), (λ none. refl), tt, tt));
      counts = λ path t. subst (λ o. shows names (once names o) path t ≡ count (option_to_list o) path t) (sym is) (omega (arith, shows-added names shape nothing named path t, shows_nothing names path t));
    }

-- ---- the documents of one shape

pub canonical_one : (limit : ℕ) (names : List Name) (s : KnownShape) (d : Counted) → IsCanonical limit (once_in names s.bytes) → IsCanonical limit d → IsCanonical limit (with_one names s d)
canonical_one limit names s d one canonical = by_test (s.waiting == 0) refl
  where
    by_test : (b : Bool) → (s.waiting == 0) ≡ b → IsCanonical limit (if b then d else with_times s.waiting (once_in names s.bytes) d)
    by_test true none = canonical
    by_test false some = canonical_with_times limit s.waiting (once_in names s.bytes) d (grind (arith, nat_tests)) one canonical

module _ (names : List Name) where
  pub shows_one : (s : KnownShape) (d : Counted) → IsCanonical (length names) (once_in names s.bytes) → (path : Path) (t : Kind) → shows names (with_one names s d) path t ≡ shows names d path t + s.waiting * shows names (once_in names s.bytes) path t
  shows_one s d one path t = by_test (s.waiting == 0) refl
    where
      by_test : (b : Bool) → (s.waiting == 0) ≡ b → shows names (if b then d else with_times s.waiting (once_in names s.bytes) d) path t ≡ shows names d path t + s.waiting * shows names (once_in names s.bytes) path t
      by_test true none = subst (λ k. shows names d path t ≡ shows names d path t + k * shows names (once_in names s.bytes) path t) (sym (eqb-true s.waiting 0 none)) (omega arith)
      by_test false some = shows_with_times names s.waiting (once_in names s.bytes) d one path t

  pub total_one : (s : KnownShape) (d : Counted) → IsCanonical (length names) (once_in names s.bytes) → (path : Path) → total_at names (with_one names s d) path ≡ total_at names d path + s.waiting * total_at names (once_in names s.bytes) path
  total_one s d one path = by_test (s.waiting == 0) refl
    where
      by_test : (b : Bool) → (s.waiting == 0) ≡ b → total_at names (if b then d else with_times s.waiting (once_in names s.bytes) d) path ≡ total_at names d path + s.waiting * total_at names (once_in names s.bytes) path
      by_test true none = subst (λ k. total_at names d path ≡ total_at names d path + k * total_at names (once_in names s.bytes) path) (sym (eqb-true s.waiting 0 none)) (omega arith)
      by_test false some = total_with_times names s.waiting (once_in names s.bytes) d one path

  -- ---- those of all shapes

  -- how many values of a kind the waiting documents have at a path
  abbrev pub waiting_at : List KnownShape → Path → Kind → ℕ
  waiting_at [] path t = 0
  waiting_at (s ∷ ss) path t = s.waiting * shows names (once_in names s.bytes) path t + waiting_at ss path t

  pub canonical_waiting : (form : ℕ) (ss : List KnownShape) (d : Counted) → AreKnown form names ss → IsCanonical (length names) d → IsCanonical (length names) (with_waiting names ss d)
  canonical_waiting form [] d known canonical = canonical
  canonical_waiting form (s ∷ ss) d known canonical = canonical_waiting form ss (with_one names s d) known.1 (canonical_one (length names) names s d known.0.canonical canonical)

  pub shows_waiting : (form : ℕ) (ss : List KnownShape) (d : Counted) → AreKnown form names ss → (path : Path) (t : Kind) → shows names (with_waiting names ss d) path t ≡ shows names d path t + waiting_at ss path t
  shows_waiting form [] d known path t = omega arith
  shows_waiting form (s ∷ ss) d known path t = omega (arith, shows_waiting form ss (with_one names s d) known.1 path t, shows_one s d known.0.canonical path t)

  -- no place has more values without those that wait
  pub total_waiting : (form : ℕ) (ss : List KnownShape) (d : Counted) → AreKnown form names ss → (path : Path) → total_at names d path ≤ total_at names (with_waiting names ss d) path
  total_waiting form ss d known path =
      let all = shows_waiting form ss d known path in
      omega (arith, all (scalar null_kind), all (scalar boolean_kind), all (scalar integer_kind), all (scalar text_kind), all arrays, all objects)

  -- nor with those of one shape, before those of the shapes behind it
  pub total_left : (form : ℕ) (ss : List KnownShape) (at : ℕ) (s : KnownShape) (d : Counted) → AreKnown form names ss → slice_get ss at ≡ Some s → (path : Path) → total_at names (with_one names s d) path ≤ total_at names (with_waiting names (drop at ss) d) path
  total_left form [] at s d known here path = absurd (cc)
  total_left form (x ∷ ss) zero s d known here path =
      subst (λ (y : KnownShape). total_at names (with_one names y d) path ≤ total_at names (with_waiting names ss (with_one names x d)) path) (same_Some x s here) (total_waiting form ss (with_one names x d) known.1 path)
  total_left form (x ∷ ss) (suc at) s d known here path = total_left form ss at s d known.1 here path

  -- ---- shapes that are known

  pub known_set : (form : ℕ) (ss : List KnownShape) (at : ℕ) (s : KnownShape) (k : ℕ) → slice_get ss at ≡ Some s → AreKnown form names ss → AreKnown form names (set ss at (record s { waiting = k }))
  known_set form [] at s k here known = absurd (cc)
  known_set form (x ∷ ss) zero s k here known =
      let one = subst (IsKnown form names) (same_Some x s here) known.0 in
      (record { stored = one.stored; canonical = one.canonical; counts = one.counts }, known.1)
  known_set form (x ∷ ss) (suc at) s k here known = (known.0, known_set form ss at s k here known.1)

  pub known_pushed : (form : ℕ) (ss : List KnownShape) (s : KnownShape) → AreKnown form names ss → IsKnown form names s → AreKnown form names (ss ++ s ∷ [])
  known_pushed form [] s known one = (one, tt)
  known_pushed form (x ∷ ss) s known one = (known.0, known_pushed form ss s known.1 one)

  pub known_at : (form : ℕ) (ss : List KnownShape) (at : ℕ) (s : KnownShape) → slice_get ss at ≡ Some s → AreKnown form names ss → IsKnown form names s
  known_at form [] at s here known = absurd (cc)
  known_at form (x ∷ ss) zero s here known = subst (IsKnown form names) (same_Some x s here) known.0
  known_at form (x ∷ ss) (suc at) s here known = known_at form ss at s here known.1

  -- ---- one document more that waits

  again : (ss : List KnownShape) (at : ℕ) (s : KnownShape) (path : Path) (t : Kind) → slice_get ss at ≡ Some s
      → waiting_at (set ss at (record s { waiting = s.waiting + 1 })) path t ≡ waiting_at ss path t + shows names (once_in names s.bytes) path t
  again [] at s path t here = absurd (cc)
  again (x ∷ ss) zero s path t here =
      let one = shows names (once_in names s.bytes) path t in
      subst (λ (y : KnownShape). (s.waiting + 1) * one + waiting_at ss path t ≡ (y.waiting * shows names (once_in names y.bytes) path t + waiting_at ss path t) + one) (sym (same_Some x s here)) (omega arith)
  again (x ∷ ss) (suc at) s path t here = omega (arith, again ss at s path t here)

  pushed : (ss : List KnownShape) (s : KnownShape) (path : Path) (t : Kind) → waiting_at (ss ++ s ∷ []) path t ≡ waiting_at ss path t + s.waiting * shows names (once_in names s.bytes) path t
  pushed [] s path t = omega arith
  pushed (x ∷ ss) s path t = omega (arith, pushed ss s path t)

  pub one_again : (form : ℕ) (ss : List KnownShape) (d : Counted) (at : ℕ) (s : KnownShape) (v : Option Document) → AreKnown form names ss → slice_get ss at ≡ Some s → option_map document_shape v ≡ option_map document_shape (document_in names s.bytes)
      → IsMoreBy v names (with_waiting names ss d) (with_waiting names (set ss at (record s { waiting = s.waiting + 1 })) d)
  one_again form ss d at s v known here same path t =
      let before = shows_waiting form ss d known path t in
      let after = shows_waiting form (set ss at (record s { waiting = s.waiting + 1 })) d (known_set form ss at s (s.waiting + 1) here known) path t in
      omega (arith, before, after, again ss at s path t here, (known_at form ss at s here known).counts path t, same_values v (document_in names s.bytes) path t same)

  pub one_first : (form : ℕ) (ss : List KnownShape) (d : Counted) (s : KnownShape) → AreKnown form names ss → IsKnown form names s → s.waiting ≡ 1 → IsMoreBy (document_in names s.bytes) names (with_waiting names ss d) (with_waiting names (ss ++ s ∷ []) d)
  one_first form ss d s known one waits path t =
      let before = shows_waiting form ss d known path t in
      let after = shows_waiting form (ss ++ s ∷ []) d (known_pushed form ss s known one) path t in
      let times : s.waiting * shows names (once_in names s.bytes) path t ≡ shows names (once_in names s.bytes) path t = ap (λ k. k * shows names (once_in names s.bytes) path t) waits ∙ omega arith in
      omega (arith, before, after, pushed ss s path t, times, one.counts path t)

-- ---- where none waits

pub none_waiting : (names : List Name) (ss : List KnownShape) (d : Counted) → NoneWaits ss → with_waiting names ss d ≡ d
none_waiting names [] d none = refl
none_waiting names (s ∷ ss) d none =
    let one : with_one names s d ≡ d = ap (λ k. if k == 0 then d else with_times k (once_in names s.bytes) d) none.0 in
    ap (with_waiting names ss) one ∙ none_waiting names ss d none.1

-- one shape after the other is settled
pub left_settled : (names : List Name) (ss : List KnownShape) (at : ℕ) (s x : KnownShape) (d : Counted) → slice_get ss at ≡ Some s → with_waiting names (drop (suc at) (set ss at x)) (with_one names s d) ≡ with_waiting names (drop at ss) d
left_settled names [] at s x d here = absurd (cc)
left_settled names (y ∷ ss) zero s x d here = ap (λ z. with_waiting names ss (with_one names z d)) (sym (same_Some y s here))
left_settled names (y ∷ ss) (suc at) s x d here = left_settled names ss at s x d here

-- ---- all that is counted

pub all_canonical : (r : Recount) → IsSound r → IsCanonical (length r.names) (all_counted r)
all_canonical r sound = canonical_waiting r.names r.shapes.form r.shapes.known.items r.schema sound.known sound.canonical

pub all_settled : (r : Recount) → NoneWaits r.shapes.known.items → all_counted r ≡ r.schema
all_settled r none = none_waiting r.names r.shapes.known.items r.schema none
