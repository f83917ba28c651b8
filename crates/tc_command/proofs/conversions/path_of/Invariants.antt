use Rattle.std.proofs.Common.{◌≡◌, map, drop, IsTrue, ◌++◌}
use Rattle.serde_json.specs.Data.{array}
use Rattle.serde_json.specs.View.{items_view}
use Rattle.tc_model.specs.Json.{is_whole, document_of}
use Rattle.tc_request_model.specs.Request.{path_of}
use Rattle.tc_command.specs.Asks.{hop_of}
use Rattle.tc_command.proofs.conversions.path_of.Given as goal

abbrev pub invariant-loop-value : goal.invariant-loop-value
invariant-loop-value l = record {
  whole : IsTrue (is_whole (array (items_view (drop l.value-index l.value-items))));
  so_far : map hop_of l.hops.items ++ path_of (document_of (array (items_view (drop l.value-index l.value-items)))) ≡ path_of (document_of (array (items_view l.value-items)));
}
