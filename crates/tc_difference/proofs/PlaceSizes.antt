-- How many places there are below a place.
use Rattle.std.proofs.Common.{◌≡◌, ◌⊎◌, inl, inr, ℕ, ◌+◌, ◌≤◌, Option, Some, None, is_some, true, ap, arith}
use Rattle.std.specs.declared.alloc.Global.{Global}
use Rattle.std.specs.declared.boxed.Box.{Box}
use Rattle.tc_schema_model.specs.Counted.{Counted, counted, Below, no_item, an_item, Fields, no_fields, a_field, held}
use Rattle.tc_schema.specs.Places.{below_counted}
use Rattle.tc_schema.specs.declared.place.Node.{Node}

abbrev mutual
  pub places_below : Counted → ℕ
  places_below (counted c b fs) = item_places b + field_places fs

  -- that of the items, with those below it
  pub item_places : Below → ℕ
  item_places no_item = 0
  item_places (an_item d) = 1 + places_below d

  -- those of the fields, with those below them
  pub field_places : Fields → ℕ
  field_places no_fields = 0
  field_places (a_field n d fs) = 1 + places_below d + field_places fs

-- below the items of two places there are fewer, where one has items
pub fewer_below_items : (o p : Option (Box Node Global)) (d e : Counted) → d ≡ held (below_counted o) → e ≡ held (below_counted p) → (is_some o ≡ true) ⊎ (is_some p ≡ true)
    → places_below d + places_below e + 1 ≤ item_places (below_counted o) + item_places (below_counted p)
fewer_below_items None None d e one other (inl some) = cc some
fewer_below_items None None d e one other (inr some) = cc some
fewer_below_items None (Some b) d e one other some = omega (arith, ap places_below one, ap places_below other)
fewer_below_items (Some a) None d e one other some = omega (arith, ap places_below one, ap places_below other)
fewer_below_items (Some a) (Some b) d e one other some = omega (arith, ap places_below one, ap places_below other)
