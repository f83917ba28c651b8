-- The newest entries of several lists in ascending key, of which the oldest comes first.
use Rattle.std.specs.Prelude.{List, [], flat_map, fold}
use Rattle.tc_model.specs.Keyed.{Keyed, with_value}

-- all entries put in one after the other, so that of each key the last one stays
abbrev pub newest : {V : Type 0} → List (Keyed V) → Keyed V
newest ls = fold (λ entries e. with_value e.0 e.1 entries) [] (flat_map (λ l. l) ls)
