use Rattle.std.proofs.Common.{◌≡◌, drop}
use Rattle.tc_schema_model.specs.Counted.{IsOrdered, place_at}
use Rattle.tc_schema.specs.Paths.{path_meant}
use Rattle.tc_schema.specs.Places.{place_counted}
use Rattle.tc_schema.proofs.paths.count_from.Given as goal

-- the rest of the path from here leads where the path leads
abbrev pub invariant-loop-step : goal.invariant-loop-step
invariant-loop-step l = record {
  leads : place_at l.names (place_counted l.here) (path_meant (drop l.step-index l.path)) ≡ place_at l.names (place_counted l.place) (path_meant l.path);
  ordered : IsOrdered (place_counted l.here);
}
