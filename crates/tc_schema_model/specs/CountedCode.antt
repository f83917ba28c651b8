-- The code of what a schema counts, by which proofs tell two apart: a place is coded as a tree of its parts.
use Rattle.std.specs.Prelude.{◌≡◌, ℕ, refl}
use Rattle.std.specs.Coded.{Coded, code_by, coded_ℕ, coded×}
use Rattle.std.proofs.Common.{ap, ◌∙◌}
use Rattle.tc_model.specs.Tree.{Tree, leaf, array, object, no_items, item, Members, no_members, member}
use Rattle.tc_model.specs.TreeCode.{coded_tree}
use Rattle.tc_schema_model.specs.Counted.{Counters, Counted, counted, Below, no_item, an_item, Fields, no_fields, a_field, nothing}

abbrev pub coded_counters : Coded Counters
coded_counters =
    code_by (ℕ × (ℕ × (ℕ × (ℕ × (ℕ × ℕ))))) (coded× coded_ℕ (coded× coded_ℕ (coded× coded_ℕ (coded× coded_ℕ (coded× coded_ℕ coded_ℕ)))))
    (λ c. (c.nulls, (c.booleans, (c.integers, (c.texts, (c.arrays, c.objects))))))
    (λ p. record { nulls = p.0; booleans = p.1.0; integers = p.1.1.0; texts = p.1.1.1.0; arrays = p.1.1.1.1.0; objects = p.1.1.1.1.1 })
    (λ _. refl)

-- a place is an array of its counters, its items and an object of its fields
abbrev mutual
  pub parts_of : Counted → Tree ℕ Counters
  parts_of (counted c b fs) = array (item (leaf c) (item (below_parts b) (item (object (fields_parts fs)) no_items)))

  pub below_parts : Below → Tree ℕ Counters
  below_parts no_item = array no_items
  below_parts (an_item d) = array (item (parts_of d) no_items)

  pub fields_parts : Fields → Members ℕ Counters
  fields_parts no_fields = no_members
  fields_parts (a_field n d fs) = member n (parts_of d) (fields_parts fs)

abbrev mutual
  pub from_parts : Tree ℕ Counters → Counted
  from_parts (array (item (leaf c) (item b (item (object fs) no_items)))) = counted c (below_from b) (fields_from fs)
  from_parts _ = nothing

  pub below_from : Tree ℕ Counters → Below
  below_from (array (item d no_items)) = an_item (from_parts d)
  below_from _ = no_item

  pub fields_from : Members ℕ Counters → Fields
  fields_from no_members = no_fields
  fields_from (member n d fs) = a_field n (from_parts d) (fields_from fs)

mutual
  pub from_parts-parts_of : (d : Counted) → from_parts (parts_of d) ≡ d
  from_parts-parts_of (counted c b fs) = ap (λ x. counted c x (fields_from (fields_parts fs))) (below_from-below_parts b) ∙ ap (counted c b) (fields_from-fields_parts fs)

  pub below_from-below_parts : (b : Below) → below_from (below_parts b) ≡ b
  below_from-below_parts no_item = refl
  below_from-below_parts (an_item d) = ap an_item (from_parts-parts_of d)

  pub fields_from-fields_parts : (fs : Fields) → fields_from (fields_parts fs) ≡ fs
  fields_from-fields_parts no_fields = refl
  fields_from-fields_parts (a_field n d fs) = ap (λ x. a_field n x (fields_from (fields_parts fs))) (from_parts-parts_of d) ∙ ap (a_field n d) (fields_from-fields_parts fs)

abbrev pub coded_counted : Coded Counted
coded_counted = code_by (Tree ℕ Counters) (coded_tree coded_ℕ coded_counters) parts_of from_parts from_parts-parts_of
