-- A place shows the values that its counters, its items and its fields were grouped from, and is in the one form.
use Rattle.std.proofs.Common.{◌≡◌, ◌⊎◌, inl, inr, ℕ, ◌+◌, ◌<◌, ◌≤◌, List, [], ◌∷◌, ◌++◌, Option, None, Some, length, bytes_eq, refl, sym, ap, ◌∙◌, subst, arith}
use Rattle.std.specs.List.{IsDistinct}
use Rattle.std.specs.Prelude.{slice_get}
use Rattle.std.proofs.lemmas.Bool.{cases_lt}
use Rattle.std.proofs.lemmas.Option.{same_Some}
use Rattle.tc_model.specs.Tree.{array, Items, items_of, members_of}
use Rattle.tc_model.specs.Document.{Name, ShapeTree, ScalarKind}
use Rattle.tc_model.specs.Dictionary.{number_of, all_learned}
use Rattle.tc_model.specs.ShapeNames.{names_of_items}
use Rattle.tc_model.specs.Kinds.{Kind, arrays, objects}
use Rattle.tc_schema_model.specs.Occurrences.{field, each_item, Path, items_occurrences, members_occurrences}
use Rattle.tc_schema_model.specs.Counted.{Counters, Counted, counted, Below, no_item, Fields, no_fields, a_field, held, below_of, fields_of, field_at, numbered_field, shows, IsCanonical, IsBelowCanonical, AreFieldsCanonical}
use Rattle.tc_schema_model.specs.Added.{items_added, AreItemsNamed}
use Rattle.tc_schema_model.proofs.AddedLaws.{shows-items_added}
use Rattle.tc_schema_model.proofs.CountingLaws.{shows_nothing, at_first, after_first}
use Rattle.tc_schema_model.proofs.FieldLaws.{nothing_below, fields_ordered}
use Rattle.tc_schema_model.proofs.FitLaws.{no_item_left, no_fields_left}
use Rattle.tc_schema_model.proofs.NamedShapes.{named-all_learned}
use Rattle.tc_schema_model.proofs.NumberLaws.{name_stands}
use Rattle.tc_schema_model.proofs.Vanishing.{items_vanish}
use Rattle.tc_count.specs.Gathered.{items_among, members_among}
use Rattle.tc_count.specs.Counting.{CountKinds, Shows, FieldsShow, IsZeroUnnumbered}
use Rattle.tc_count.proofs.GatheredValues.{items_among_occur, members_among_occur}

-- ---- members whose name has no number

shows_unnumbered : (names : List Name) (d : Counted) (path more : Path) (name : Name) (t : Kind) → number_of names name ≡ None → shows names d (path ++ field name ∷ more) t ≡ 0
shows_unnumbered names d [] more name t none = ap (λ o. shows names (numbered_field o (fields_of d)) more t) none ∙ shows_nothing names more t
shows_unnumbered names d (each_item ∷ path) more name t none = shows_unnumbered names (held (below_of d)) path more name t none
shows_unnumbered names d (field label ∷ path) more name t none = shows_unnumbered names (numbered_field (number_of names label) (fields_of d)) path more name t none

-- there are none where all names were learned
pub zero-all_learned : (known : List Name) (xs : Items Name ScalarKind) → IsZeroUnnumbered (all_learned known (names_of_items xs)) (items_occurrences xs)
zero-all_learned known xs path more name t none =
    let names = all_learned known (names_of_items xs) in
    let named : AreItemsNamed names xs = named-all_learned known (array xs) in
    omega (
      arith,
      shows-items_added names xs no_item named (path ++ field name ∷ more) t,
      shows_nothing names (path ++ field name ∷ more) t,
      shows_unnumbered names (held (items_added names xs no_item)) path more name t none,
    )

pub zero_items : (names : List Name) (ss : List ShapeTree) → IsZeroUnnumbered names (items_occurrences (items_of ss)) → IsZeroUnnumbered names (items_occurrences (items_of (items_among ss)))
zero_items names ss zero path more name t none = items_among_occur ss (path ++ field name ∷ more) t ∙ zero (each_item ∷ path) more name t none

pub zero_members : (names : List Name) (ss : List ShapeTree) → IsZeroUnnumbered names (items_occurrences (items_of ss)) → (label : Name) → IsZeroUnnumbered names (members_occurrences (members_of (members_among ss)) label)
zero_members names ss zero label path more name t none = members_among_occur ss label (path ++ field name ∷ more) t ∙ zero (field label ∷ path) more name t none

-- ---- a place

module _ (names : List Name) (distinct : IsDistinct bytes_eq names) (ss : List ShapeTree) (zero : IsZeroUnnumbered names (items_occurrences (items_of ss))) (c : Counters) (b : Below) (fs : Fields)
    (counters : CountKinds c ss)
    (below : Shows names (held b) (items_occurrences (items_of (items_among ss))))
    (fields : FieldsShow names 0 fs (members_occurrences (members_of (members_among ss)))) where
  of_items : (path : Path) (t : Kind) → shows names (held b) path t ≡ items_occurrences (items_of ss) (each_item ∷ path) t
  of_items path t = below path t ∙ items_among_occur ss path t

  of_members : (name : Name) (path : Path) (t : Kind) → shows names (numbered_field (number_of names name) fs) path t ≡ items_occurrences (items_of ss) (field name ∷ path) t
  of_members name path t = cases (number_of names name) refl
    where
      cases : (o : Option ℕ) → number_of names name ≡ o → shows names (numbered_field o fs) path t ≡ items_occurrences (items_of ss) (field name ∷ path) t
      cases None is = shows_nothing names path t ∙ sym (zero [] path name t is)
      cases (Some n) is = fields name n is (omega arith) path t ∙ members_among_occur ss name path t

  pub grouped_shows : Shows names (counted c b fs) (items_occurrences (items_of ss))
  grouped_shows [] t = counters t
  grouped_shows (each_item ∷ path) t = of_items path t
  grouped_shows (field name ∷ path) t = of_members name path t

  pub grouped_canonical : IsBelowCanonical (length names) b → AreFieldsCanonical (length names) 0 fs → IsCanonical (length names) (counted c b fs)
  grouped_canonical items members = (
    λ none. no_item_left names b items (λ path t. of_items path t ∙ (items_vanish (items_of ss)).items [] path t (sym (counters arrays) ∙ none)),
    λ none. no_fields_left names fs distinct members (λ name path t. of_members name path t ∙ (items_vanish (items_of ss)).members [] path name t (sym (counters objects) ∙ none)),
    items,
    members,
  )

-- ---- the fields from a number on

-- where there is none of the number
pub further_canonical : (limit low : ℕ) (fs : Fields) → AreFieldsCanonical limit (low + 1) fs → AreFieldsCanonical limit low fs
further_canonical limit low no_fields canonical = tt
further_canonical limit low (a_field n d fs) canonical = (omega (arith, canonical.0), canonical.1, canonical.2, canonical.3, canonical.4)

module _ (names : List Name) (numbers : Name → Path → Kind → ℕ) where
  one_named : (n : ℕ) (first name : Name) → slice_get names n ≡ Some first → number_of names name ≡ Some n → first ≡ name
  one_named n first name stands is = same_Some first name (sym stands ∙ (name_stands names name n is).1)

  -- by the number, and by those behind it
  step : (low : ℕ) (first : Name) (fs more : Fields) → slice_get names low ≡ Some first → FieldsShow names (low + 1) fs numbers → Shows names (field_at low more) (numbers first)
      → ((n : ℕ) → low < n → field_at n more ≡ field_at n fs) → FieldsShow names low more numbers
  step low first fs more stands shown here behind name n is least path t = by_order (cases_lt low n)
    where
      by_order : (low < n) ⊎ (n ≤ low) → shows names (field_at n more) path t ≡ numbers name path t
      by_order (inl less) = ap (λ e. shows names e path t) (behind n less) ∙ shown name n is (omega (arith, less)) path t
      by_order (inr le) =
          let same : low ≡ n = omega (arith, le, least) in
          let one : first ≡ name = one_named low first name stands (subst (λ k. number_of names name ≡ Some k) (sym same) is) in
          subst (λ k. shows names (field_at k more) path t ≡ numbers name path t) same (here path t ∙ ap (λ m. numbers m path t) one)

  pub first_shows : (low : ℕ) (first : Name) (d : Counted) (fs : Fields) → slice_get names low ≡ Some first → FieldsShow names (low + 1) fs numbers → Shows names d (numbers first)
      → FieldsShow names low (a_field low d fs) numbers
  first_shows low first d fs stands shown here =
      step low first fs (a_field low d fs) stands shown (λ path t. ap (λ e. shows names e path t) (at_first low d fs) ∙ here path t) (λ n less. after_first n low d fs less)

  pub none_shows : (limit low : ℕ) (first : Name) (fs : Fields) → slice_get names low ≡ Some first → AreFieldsCanonical limit (low + 1) fs → FieldsShow names (low + 1) fs numbers
      → ((path : Path) (t : Kind) → numbers first path t ≡ 0) → FieldsShow names low fs numbers
  none_shows limit low first fs stands canonical shown none =
      step low first fs fs stands shown
      (λ path t. ap (λ e. shows names e path t) (nothing_below (low + 1) fs low (fields_ordered limit (low + 1) fs canonical) (omega arith)) ∙ shows_nothing names path t ∙ sym (none path t))
      (λ n less. refl)

-- at first there is no field, and no name has such a number
pub no_fields_show : (names : List Name) (low : ℕ) (numbers : Name → Path → Kind → ℕ) → length names ≤ low → FieldsShow names low no_fields numbers
no_fields_show names low numbers le name n is least path t = absurd (omega (arith, (name_stands names name n is).0))
