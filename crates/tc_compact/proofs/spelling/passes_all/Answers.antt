use Rattle.std.proofs.Common.{[]}
use Rattle.tc_compact.proofs.OutlineSteps.{IsBehindTag, tree_first, tree_some}
use Rattle.tc_compact.proofs.spelling.passes_all.Goals as goal

pub returns-in-None : goal.returns-in-None
returns-in-None c = λ n is. tree_some n c.args.outline is c.in-None.ensures.end

pub returns-in-Some : goal.returns-in-Some
returns-in-Some c = λ n is.
    let step : IsBehindTag c.args.outline c.in-Some.tag c.tag.new.self = record { taken = c.in-Some.ensures.taken; slots = c.tag.ensures.slots } in
    let first = tree_first n c.args.outline c.in-Some.tag c.tag.new.self is step in
    c.passes_value.ensures.passes n [] first.0 first.1
