-- What a schema shows with one shape more, and that it stays in the one form.
use Rattle.std.proofs.Common.{◌≡◌, ◌≢◌, ℕ, ◌+◌, ◌<◌, ◌≤◌, ◌==◌, Bool, true, false, nat_lt, List, [], ◌∷◌, Option, Some, None, length, bytes_eq, if◌then◌else◌, refl, sym, ap, ◌∙◌, subst, arith}
use Rattle.std.proofs.lemmas.Bool.Decides.{Decides-ltb, Decides-eqb}
use Rattle.std.proofs.lemmas.Bool.{false≢true}
use Rattle.std.proofs.lemmas.Slice.Eq.{bytes_eq-Decides}
use Rattle.tc_model.specs.Tree.{leaf, array, object, Items, no_items, item, Members, no_members, member}
use Rattle.tc_model.specs.Document.{Name, ShapeTree, ScalarKind, null_kind, boolean_kind, integer_kind, text_kind}
use Rattle.tc_model.specs.Dictionary.{number_of, number}
use Rattle.tc_schema_model.specs.Occurrences.{field, each_item, Path, occurrences, items_occurrences, members_occurrences}
use Rattle.tc_model.specs.Kinds.{Kind, scalar, arrays, objects}
use Rattle.tc_schema_model.specs.Counted.{Counters, Counted, counted, Below, an_item, Fields, no_fields, a_field, nothing, held, field_at, numbered_field, documents_of, shows, IsCanonical, IsBelowCanonical, AreFieldsCanonical}
use Rattle.tc_schema_model.specs.Added.{raised, put_field, added, items_added, members_added, IsNamed, AreItemsNamed, AreMembersNamed}
use Rattle.tc_schema_model.proofs.CounterLaws.{counter-raised, total-raised}
use Rattle.tc_schema_model.proofs.FieldLaws.{field_at-put_field_here, field_at-put_field_elsewhere, held_canonical}
use Rattle.tc_model.proofs.NameNumbers.{numbered}
use Rattle.tc_schema_model.proofs.NumberLaws.{one_name, name_stands}

-- ---- what is shown

-- where the field of a name is put, it shows what it is, and every other field what it was
pub shows-put_field : (names : List Name) (label : Name) (n : ℕ) (d : Counted) (fs : Fields) (name : Name) (path : Path) (t : Kind) (more : ℕ)
    → number_of names label ≡ Some n → shows names d path t ≡ shows names (field_at n fs) path t + more
    → shows names (numbered_field (number_of names name) (put_field n d fs)) path t ≡ shows names (numbered_field (number_of names name) fs) path t + (if bytes_eq label name then more else 0)
shows-put_field names label n d fs name path t more stands grown = by_number (number_of names name) refl (bytes_eq label name) (bytes_eq-Decides label name)
  where
    by_number : (o : Option ℕ) → number_of names name ≡ o → (test : Bool) → (test ≡ true → label ≡ name) × (label ≡ name → test ≡ true)
        → shows names (numbered_field o (put_field n d fs)) path t ≡ shows names (numbered_field o fs) path t + (if test then more else 0)
    by_number None found true decides = let same : label ≡ name = decides.0 refl in absurd (cc)
    by_number None found false decides = omega arith
    by_number (Some m) found true decides =
        let same : label ≡ name = decides.0 refl in
        let number : n ≡ m = cc in
        subst (λ k. shows names (field_at k (put_field n d fs)) path t ≡ shows names (field_at k fs) path t + more) number
        (ap (λ e. shows names e path t) (field_at-put_field_here n d fs) ∙ grown)
    by_number (Some m) found false decides =
        let other : n ≢ m = λ same. false≢true (decides.1 (one_name names label name n stands (found ∙ ap Some (sym same)))) in
        ap (λ e. shows names e path t) (field_at-put_field_elsewhere n d fs m other) ∙ omega arith

mutual
  pub shows-added : (names : List Name) (s : ShapeTree) (d : Counted) → IsNamed names s → (path : Path) (t : Kind) → shows names (added names s d) path t ≡ shows names d path t + occurrences s path t
  shows-added names (leaf k) (counted c b fs) named [] t = counter-raised (scalar k) 1 c t
  shows-added names (leaf k) (counted c b fs) named (each_item ∷ path) t = omega arith
  shows-added names (leaf k) (counted c b fs) named (field name ∷ path) t = omega arith
  shows-added names (array xs) (counted c b fs) named [] t = counter-raised arrays 1 c t
  shows-added names (array xs) (counted c b fs) named (each_item ∷ path) t = shows-items_added names xs b named path t
  shows-added names (array xs) (counted c b fs) named (field name ∷ path) t = omega arith
  shows-added names (object ms) (counted c b fs) named [] t = counter-raised objects 1 c t
  shows-added names (object ms) (counted c b fs) named (each_item ∷ path) t = omega arith
  shows-added names (object ms) (counted c b fs) named (field name ∷ path) t = shows-members_added names ms fs named name path t

  pub shows-items_added : (names : List Name) (xs : Items Name ScalarKind) (b : Below) → AreItemsNamed names xs → (path : Path) (t : Kind)
      → shows names (held (items_added names xs b)) path t ≡ shows names (held b) path t + items_occurrences xs path t
  shows-items_added names no_items b named path t = omega arith
  shows-items_added names (item s xs) b named path t =
      omega (arith, shows-items_added names xs (an_item (added names s (held b))) named.1 path t, shows-added names s (held b) named.0 path t)

  pub shows-members_added : (names : List Name) (ms : Members Name ScalarKind) (fs : Fields) → AreMembersNamed names ms → (name : Name) (path : Path) (t : Kind)
      → shows names (numbered_field (number_of names name) (members_added names ms fs)) path t ≡ shows names (numbered_field (number_of names name) fs) path t + members_occurrences ms name path t
  shows-members_added names no_members fs named name path t = omega arith
  shows-members_added names (member label s ms) fs named name path t =
      let n = number names label in
      let d = added names s (field_at n fs) in
      omega (
        arith,
        shows-members_added names ms (put_field n d fs) named.2 name path t,
        shows-put_field names label n d fs name path t (occurrences s path t) (numbered names label named.0) (shows-added names s (field_at n fs) named.1 path t),
      )

-- ---- the one form

pub documents-added : (names : List Name) (s : ShapeTree) (d : Counted) → documents_of (added names s d) ≡ documents_of d + 1
documents-added names (leaf k) (counted c b fs) = total-raised (scalar k) 1 c
documents-added names (array xs) (counted c b fs) = total-raised arrays 1 c
documents-added names (object ms) (counted c b fs) = total-raised objects 1 c

pub field_canonical : (limit low n : ℕ) (fs : Fields) → AreFieldsCanonical limit low fs → IsCanonical limit (field_at n fs)
field_canonical limit low n no_fields canonical = (λ _. refl, λ _. refl, tt, tt)
field_canonical limit low n (a_field k e fs) canonical = choose limit n k e fs canonical.3 (field_canonical limit (k + 1) n fs canonical.4)
  where
    by_test : (limit : ℕ) (e other : Counted) (less equal : Bool) → IsCanonical limit e → IsCanonical limit other → IsCanonical limit (if less then nothing else (if equal then e else other))
    by_test limit e other true equal here later = (λ _. refl, λ _. refl, tt, tt)
    by_test limit e other false true here later = here
    by_test limit e other false false here later = later

    choose : (limit n k : ℕ) (e : Counted) (fs : Fields) → IsCanonical limit e → IsCanonical limit (field_at n fs) → IsCanonical limit (field_at n (a_field k e fs))
    choose limit n k e fs here later = by_test limit e (field_at n fs) (nat_lt n k) (k == n) here later

pub canonical-put_field : (limit low n : ℕ) (d : Counted) (fs : Fields) → low ≤ n → n < limit → 0 < documents_of d → IsCanonical limit d → AreFieldsCanonical limit low fs → AreFieldsCanonical limit low (put_field n d fs)
canonical-put_field limit low n d no_fields least below some here canonical = (least, below, some, here, tt)
canonical-put_field limit low n d (a_field k e fs) least below some here canonical =
    by_test (nat_lt n k) (k == n) (Decides-ltb n k) (Decides-eqb k n) (λ after. canonical-put_field limit (k + 1) n d fs after below some here canonical.4)
  where
    after : (n < k → ⊥) → (k ≡ n → ⊥) → k + 1 ≤ n
    after before same = omega arith

    by_test : (less equal : Bool) → (less ≡ true → n < k) × (n < k → less ≡ true) → (equal ≡ true → k ≡ n) × (k ≡ n → equal ≡ true) → (k + 1 ≤ n → AreFieldsCanonical limit (k + 1) (put_field n d fs))
        → AreFieldsCanonical limit low (if less then a_field n d (a_field k e fs) else (if equal then a_field n d fs else a_field k e (put_field n d fs)))
    by_test true equal before same later = let under : n < k = before.0 refl in (least, below, some, here, (omega arith, canonical.1, canonical.2, canonical.3, canonical.4))
    by_test false true before same later = let at : k ≡ n = same.0 refl in (least, below, some, here, subst (λ m. AreFieldsCanonical limit (m + 1) fs) at canonical.4)
    by_test false false before same later =
        (canonical.0, canonical.1, canonical.2, canonical.3, later (after (λ under. false≢true (before.1 under)) (λ at. false≢true (same.1 at))))

arrays_kept : (k : ScalarKind) (c : Counters) → c.arrays ≡ (raised (scalar k) 1 c).arrays
arrays_kept null_kind c = refl
arrays_kept boolean_kind c = refl
arrays_kept integer_kind c = refl
arrays_kept text_kind c = refl

objects_kept : (k : ScalarKind) (c : Counters) → c.objects ≡ (raised (scalar k) 1 c).objects
objects_kept null_kind c = refl
objects_kept boolean_kind c = refl
objects_kept integer_kind c = refl
objects_kept text_kind c = refl

mutual
  pub canonical-added : (names : List Name) (s : ShapeTree) (d : Counted) → IsNamed names s → IsCanonical (length names) d → IsCanonical (length names) (added names s d)
  canonical-added names (leaf k) (counted c b fs) named canonical =
      (λ none. canonical.0 (arrays_kept k c ∙ none), λ none. canonical.1 (objects_kept k c ∙ none), canonical.2, canonical.3)
  canonical-added names (array xs) (counted c b fs) named canonical = (λ none. absurd (omega arith), canonical.1, canonical-items_added names xs b named canonical.2, canonical.3)
  canonical-added names (object ms) (counted c b fs) named canonical = (canonical.0, λ none. absurd (omega arith), canonical.2, canonical-members_added names ms fs named canonical.3)

  pub canonical-items_added : (names : List Name) (xs : Items Name ScalarKind) (b : Below) → AreItemsNamed names xs → IsBelowCanonical (length names) b → IsBelowCanonical (length names) (items_added names xs b)
  canonical-items_added names no_items b named canonical = canonical
  canonical-items_added names (item s xs) b named canonical =
      canonical-items_added names xs (an_item (added names s (held b))) named.1
      (omega (arith, documents-added names s (held b)), canonical-added names s (held b) named.0 (held_canonical (length names) b canonical))

  pub canonical-members_added : (names : List Name) (ms : Members Name ScalarKind) (fs : Fields) → AreMembersNamed names ms → AreFieldsCanonical (length names) 0 fs → AreFieldsCanonical (length names) 0 (members_added names ms fs)
  canonical-members_added names no_members fs named canonical = canonical
  canonical-members_added names (member label s ms) fs named canonical =
      let n = number names label in
      let d = added names s (field_at n fs) in
      canonical-members_added names ms (put_field n d fs) named.2
      (canonical-put_field (length names) 0 n d fs (omega arith) ((name_stands names label n (numbered names label named.0)).0) (omega (arith, documents-added names s (field_at n fs)))
      (canonical-added names s (field_at n fs) named.1 (field_canonical (length names) 0 n fs canonical)) canonical)
