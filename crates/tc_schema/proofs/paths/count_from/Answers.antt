use Rattle.tc_schema.specs.Paths.{path_meant}
use Rattle.tc_value.specs.Kinds.{kind_meant}
use Rattle.tc_schema.specs.Places.{place_counted}
use Rattle.tc_schema.proofs.FieldViews.{ended_at_nothing, path_left, arrived}
use Rattle.tc_schema.proofs.paths.count_from.Goals as goal

pub returns-in-None : goal.returns-in-None
returns-in-None c =
    ended_at_nothing c.args.names.now (place_counted c.args.place.now) (place_counted c.loop-step.here.now) (path_meant c.args.path.now) _ _ _ (kind_meant c.args.kind)
    c.loop-step.invariant.leads (path_left c.args.path.now c.loop-step.step-index c.step-item.result c.loop-step-test.true c.step-item.is) c.in-None.ensures.none

pub returns : goal.returns
returns c =
    arrived c.args.names.now (place_counted c.args.place.now) c.loop-step.here.now c.args.path.now c.loop-step.step-index (kind_meant c.args.kind) c.of_kind.result
    c.loop-step.invariant.leads c.loop-step-test.false c.of_kind.ensures.counter
