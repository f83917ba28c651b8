use Rattle.std.proofs.Common.{◌≡◌, drop, map}
use Rattle.serde_json.specs.View.{members_view}
use Rattle.tc_request_model.specs.Request.{names_are}
use Rattle.tc_command.proofs.forms.names_are.Given as goal

abbrev pub invariant-loop-name : goal.invariant-loop-name
invariant-loop-name l =
    names_are (map (λ n. n.now) (drop l.name-index l.names)) (members_view l.left)
    ≡ names_are (map (λ n. n.now) l.names) (members_view l.members.entries)
