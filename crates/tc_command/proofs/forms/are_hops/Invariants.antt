use Rattle.std.proofs.Common.{◌≡◌, drop}
use Rattle.serde_json.specs.View.{items_view}
use Rattle.tc_request_model.specs.Request.{are_hops}
use Rattle.tc_command.proofs.forms.are_hops.Given as goal

abbrev pub invariant-loop-item : goal.invariant-loop-item
invariant-loop-item l = are_hops (items_view (drop l.item-index l.items.items)) ≡ are_hops (items_view l.items.items)
