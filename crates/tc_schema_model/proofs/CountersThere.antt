-- A schema that has a counter for each value of a shape, by paths and place by place. It keeps the counters when more is
-- counted.
use Rattle.std.proofs.Common.{◌≡◌, ℕ, zero, suc, ◌+◌, ◌<◌, Bool, true, false, List, [], ◌∷◌, is_some, IsTrue, bytes_eq, if◌then◌else◌, refl, sym, ap, ◌∙◌, subst, arith}
use Rattle.std.proofs.lemmas.Bool.{and_parts, and_from, ltb-true, lt-ltb}
use Rattle.std.proofs.lemmas.Bool.Decides.{Decides-eqb}
use Rattle.std.proofs.lemmas.Slice.Eq.{bytes_eq-Decides}
use Rattle.tc_model.specs.Tree.{leaf, array, object, Items, no_items, item, Members, no_members, member}
use Rattle.tc_model.specs.Document.{Name, ShapeTree, ScalarKind, null_kind, boolean_kind, integer_kind, text_kind}
use Rattle.tc_model.specs.Dictionary.{number_of, number}
use Rattle.tc_model.specs.Kinds.{Kind, scalar, arrays, objects, tag, is_kind}
use Rattle.tc_schema_model.specs.Occurrences.{field, each_item, Path, occurrences, items_occurrences, members_occurrences}
use Rattle.tc_schema_model.specs.Counted.{Counters, Counted, counted, counter, Below, an_item, Fields, held, field_at, numbered_field, shows}
use Rattle.tc_schema_model.specs.Added.{added, members_added, put_field, IsNamed}
use Rattle.tc_schema_model.specs.HasCounters.{HasCounters, has_counters, items_have_counters, members_have_counters}
use Rattle.tc_schema_model.proofs.AddedLaws.{shows-added, shows-members_added}
use Rattle.tc_schema_model.proofs.CounterLaws.{each_kind}
use Rattle.tc_schema_model.proofs.FitLaws.{kind_here, at_label}

-- ---- from places to paths

-- the kind of a number
abbrev kind_numbered : ℕ → Kind
kind_numbered zero = objects
kind_numbered (suc zero) = scalar null_kind
kind_numbered (suc (suc zero)) = scalar boolean_kind
kind_numbered (suc (suc (suc zero))) = scalar integer_kind
kind_numbered (suc (suc (suc (suc zero)))) = scalar text_kind
kind_numbered (suc (suc (suc (suc (suc zero))))) = arrays
kind_numbered (suc (suc (suc (suc (suc (suc n)))))) = objects

kind_again : (t : Kind) → kind_numbered (tag t) ≡ t
kind_again t = each_kind (λ t. kind_numbered (tag t) ≡ t) refl refl refl refl refl refl t

-- where a value of a kind is asked for, it is of that kind
same_kind : (k t : Kind) → 0 < (if is_kind k t then 1 else 0) → k ≡ t
same_kind k t some = by_test (is_kind k t) (Decides-eqb (tag k) (tag t)).0 some
  where
    by_test : (test : Bool) → (test ≡ true → tag k ≡ tag t) → 0 < (if test then 1 else 0) → k ≡ t
    by_test true same some = sym (kind_again k) ∙ ap kind_numbered (same refl) ∙ kind_again t
    by_test false same some = absurd (omega (arith, some))

counted_here : (k t : Kind) (c : Counters) → 0 < counter c k → 0 < (if is_kind k t then 1 else 0) → 0 < counter c t
counted_here k t c there some = subst (λ t. 0 < counter c t) (same_kind k t some) there

-- one of two numbers is not 0
of_two : {P : Type 0} (a b : ℕ) → 0 < a + b → (0 < a → P) → (0 < b → P) → P
of_two zero b some first second = second (omega (arith, some))
of_two (suc a) b some first second = first (omega arith)

at_name : (names : List Name) (fs : Fields) (label name : Name) (path : Path) (t : Kind) (here later : ℕ) → 0 < (if bytes_eq label name then here else 0) + later
    → (0 < here → 0 < shows names (numbered_field (number_of names label) fs) path t) → (0 < later → 0 < shows names (numbered_field (number_of names name) fs) path t) → 0 < shows names (numbered_field (number_of names name) fs) path t
at_name names fs label name path t here later some first second = by_test (bytes_eq label name) (bytes_eq-Decides label name).0 some
  where
    by_test : (test : Bool) → (test ≡ true → label ≡ name) → 0 < (if test then here else 0) + later → 0 < shows names (numbered_field (number_of names name) fs) path t
    by_test true same some = of_two here later some (λ h. subst (λ n. 0 < shows names (numbered_field (number_of names n) fs) path t) (same refl) (first h)) second
    by_test false same some = second (omega (arith, some))

mutual
  pub by_path : (names : List Name) (s : ShapeTree) (d : Counted) → has_counters names s d ≡ true → (path : Path) (t : Kind) → 0 < occurrences s path t → 0 < shows names d path t
  by_path names (leaf k) (counted c b fs) there [] t some = counted_here (scalar k) t c (ltb-true 0 (counter c (scalar k)) there) some
  by_path names (leaf k) (counted c b fs) there (step ∷ path) t some = absurd (omega (arith, some))
  by_path names (array xs) (counted c b fs) there [] t some = counted_here arrays t c (ltb-true 0 c.arrays (and_parts _ _ there).0) some
  by_path names (array xs) (counted c b fs) there (each_item ∷ path) t some = items_by_path names xs b (and_parts _ _ there).1 path t some
  by_path names (array xs) (counted c b fs) there (field name ∷ path) t some = absurd (omega (arith, some))
  by_path names (object ms) (counted c b fs) there [] t some = counted_here objects t c (ltb-true 0 c.objects (and_parts _ _ there).0) some
  by_path names (object ms) (counted c b fs) there (each_item ∷ path) t some = absurd (omega (arith, some))
  by_path names (object ms) (counted c b fs) there (field name ∷ path) t some = members_by_path names ms fs (and_parts _ _ there).1 name path t some

  pub items_by_path : (names : List Name) (xs : Items Name ScalarKind) (b : Below) → items_have_counters names xs b ≡ true → (path : Path) (t : Kind) → 0 < items_occurrences xs path t → 0 < shows names (held b) path t
  items_by_path names no_items b there path t some = absurd (omega (arith, some))
  items_by_path names (item s xs) b there path t some =
      let parts = and_parts _ _ there in
      of_two (occurrences s path t) (items_occurrences xs path t) some (λ h. by_path names s (held b) parts.0 path t h) (λ h. items_by_path names xs b parts.1 path t h)

  pub members_by_path : (names : List Name) (ms : Members Name ScalarKind) (fs : Fields) → members_have_counters names ms fs ≡ true → (name : Name) (path : Path) (t : Kind)
      → 0 < members_occurrences ms name path t → 0 < shows names (numbered_field (number_of names name) fs) path t
  members_by_path names no_members fs there name path t some = absurd (omega (arith, some))
  members_by_path names (member label s ms) fs there name path t some =
      let parts = and_parts _ _ there in
      at_name names fs label name path t (occurrences s path t) (members_occurrences ms name path t) some (λ h. by_path names s (numbered_field (number_of names label) fs) parts.0 path t h) (λ h. members_by_path names ms fs parts.1 name path t h)

-- ---- from paths to places

mutual
  pub by_place : (names : List Name) (s : ShapeTree) (d : Counted) → HasCounters names d s → has_counters names s d ≡ true
  by_place names (leaf k) (counted c b fs) each = lt-ltb 0 (counter c (scalar k)) (each [] (scalar k) (omega (arith, kind_here (leaf k))))
  by_place names (array xs) (counted c b fs) each = and_from _ _ (lt-ltb 0 c.arrays (each [] arrays (omega arith))) (items_by_place names xs b (λ path t some. each (each_item ∷ path) t some))
  by_place names (object ms) (counted c b fs) each = and_from _ _ (lt-ltb 0 c.objects (each [] objects (omega arith))) (members_by_place names ms fs (λ name path t some. each (field name ∷ path) t some))

  pub items_by_place : (names : List Name) (xs : Items Name ScalarKind) (b : Below) → ((path : Path) (t : Kind) → 0 < items_occurrences xs path t → 0 < shows names (held b) path t) → items_have_counters names xs b ≡ true
  items_by_place names no_items b each = refl
  items_by_place names (item s xs) b each =
      and_from _ _ (by_place names s (held b) (λ path t some. each path t (omega (arith, some)))) (items_by_place names xs b (λ path t some. each path t (omega (arith, some))))

  pub members_by_place : (names : List Name) (ms : Members Name ScalarKind) (fs : Fields)
      → ((name : Name) (path : Path) (t : Kind) → 0 < members_occurrences ms name path t → 0 < shows names (numbered_field (number_of names name) fs) path t) → members_have_counters names ms fs ≡ true
  members_by_place names no_members fs each = refl
  members_by_place names (member label s ms) fs each =
      and_from _ _ (by_place names s (numbered_field (number_of names label) fs) (λ path t some. each label path t (omega (arith, some, at_label label s ms path t))))
      (members_by_place names ms fs (λ name path t some. each name path t (omega (arith, some))))

-- ---- counters stay when more is counted

-- those of the items that are left, with one item counted
pub items_still_there : (names : List Name) (s : ShapeTree) (xs : Items Name ScalarKind) (b : Below) → IsNamed names s → items_have_counters names xs b ≡ true → items_have_counters names xs (an_item (added names s (held b))) ≡ true
items_still_there names s xs b named there =
    items_by_place names xs (an_item (added names s (held b))) (λ path t some. omega (arith, shows-added names s (held b) named path t, items_by_path names xs b there path t some))

-- and those of the members that are left, with one member counted
pub members_still_there : (names : List Name) (label : Name) (s : ShapeTree) (ms : Members Name ScalarKind) (fs : Fields) → IsTrue (is_some (number_of names label)) → IsNamed names s → members_have_counters names ms fs ≡ true
    → members_have_counters names ms (put_field (number names label) (added names s (field_at (number names label) fs)) fs) ≡ true
members_still_there names label s ms fs known named there =
    members_by_place names ms (members_added names (member label s no_members) fs)
    (λ name path t some. omega (arith, shows-members_added names (member label s no_members) fs (known, named, tt) name path t, members_by_path names ms fs there name path t some))
