use Rattle.std.proofs.Common.{◌≡◌, ◌≤◌, ◌+◌, take, arith}
use Rattle.tc_component.specs.Spelling.{lengths_of}
use Rattle.tc_component.proofs.Lookups.{within_all}
use Rattle.tc_component.proofs.component.Component.record_range.Goals as goal

pub returns-clause-within : goal.returns-clause-within
returns-clause-within g c =
    let slots = c.self.inside.loaded.parts.directory in
    let inside : lengths_of (take c.args.place.at slots) + c.slot.result.length ≤ lengths_of slots = within_all slots c.args.place.at c.slot.result c.slot.ensures in
    let start : c.start-at.result ≡ lengths_of (take c.args.place.at slots) = c.start-at.ensures in
    rw (← c.self.view_is) (omega (arith, inside, start))
