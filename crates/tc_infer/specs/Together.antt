-- Whether what two schemas count can be counted together, place by place. A place that counts nothing takes no room.
use Rattle.std.specs.Prelude.{◌+◌, ◌^◌, ◌==◌, ◌&&◌, ◌||◌, Bool, true, nat_lt}
use Rattle.tc_schema_model.specs.Counted.{Counted, counted, Below, no_item, an_item, Fields, no_fields, a_field, below_of, documents_of, field_at, fields_of, held, total}

abbrev mutual
  pub do_fit : Counted → Counted → Bool
  do_fit (counted c b fs) d = (documents_of d == 0) || ((nat_lt (total c + documents_of d) (2 ^ 64) && do_items_fit b (below_of d)) && do_all_fit fs (fields_of d))

  pub do_items_fit : Below → Below → Bool
  do_items_fit no_item b = true
  do_items_fit (an_item e) b = do_fit e (held b)

  pub do_all_fit : Fields → Fields → Bool
  do_all_fit no_fields fs = true
  do_all_fit (a_field n e es) fs = do_fit e (field_at n fs) && do_all_fit es fs
