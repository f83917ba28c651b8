-- What is counted, with so many times more what is counted elsewhere.
use Rattle.std.specs.Prelude.{ℕ, ◌+◌, ◌*◌}
use Rattle.tc_schema_model.specs.Counted.{Counters, Counted, counted, Below, no_item, an_item, Fields, no_fields, a_field, held, field_at}
use Rattle.tc_schema_model.specs.Added.{put_field}

-- so many times more of each kind: first what is added, then what it is added to
abbrev pub counters_with : ℕ → Counters → Counters → Counters
counters_with k e c = record {
  nulls = c.nulls + k * e.nulls;
  booleans = c.booleans + k * e.booleans;
  integers = c.integers + k * e.integers;
  texts = c.texts + k * e.texts;
  arrays = c.arrays + k * e.arrays;
  objects = c.objects + k * e.objects;
}

-- and at each place
abbrev mutual
  pub with_times : ℕ → Counted → Counted → Counted
  with_times k (counted e b fs) (counted c below gs) = counted (counters_with k e c) (below_with k b below) (fields_with k fs gs)

  pub below_with : ℕ → Below → Below → Below
  below_with k no_item below = below
  below_with k (an_item e) below = an_item (with_times k e (held below))

  pub fields_with : ℕ → Fields → Fields → Fields
  fields_with k no_fields gs = gs
  fields_with k (a_field n e fs) gs = fields_with k fs (put_field n (with_times k e (field_at n gs)) gs)

-- one field of those that are added
abbrev pub field_with : ℕ → ℕ × Counted → Fields → Fields
field_with k f gs = put_field f.0 (with_times k f.1 (field_at f.0 gs)) gs
