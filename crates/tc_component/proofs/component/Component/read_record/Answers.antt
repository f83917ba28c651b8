use Rattle.std.proofs.Common.{◌≡◌, ◌≤◌, ◌+◌, Ok, take, refl, ap, subst, sym, arith}
use Rattle.std.specs.Result.{IsOk}
use Rattle.tc_component.specs.declared.head.Sizes.{Sizes}
use Rattle.tc_component.specs.Spelling.{lengths_of}
use Rattle.tc_component.proofs.Lookups.{within_all}
use Rattle.tc_component.proofs.Fetched.{read_once}
use Rattle.tc_component.proofs.component.Component.read_record.Goals as goal

pub bytes_of-requires-after_bounds : goal.bytes_of-requires-after_bounds
bytes_of-requires-after_bounds g c κs within =
    let slots = c.self.inside.loaded.parts.directory in
    let inside : lengths_of (take c.args.place.at slots) + c.slot-count.result.length ≤ lengths_of slots = within_all slots c.args.place.at c.slot-count.result c.slot-count.ensures in
    let start : c.start-at.result ≡ lengths_of (take c.args.place.at slots) = c.start-at.ensures in
    let records : c.self.inside.loaded.sizes.records ≡ lengths_of slots = ap (λ (sizes : Sizes). sizes.records) c.self.invariant.1 in
    let all = c.self.invariant.2 in
    omega (arith, inside, start, records, all)

pub returns-clause-counted : goal.returns-clause-counted
returns-clause-counted g c =
    read_once (Ok c.of.result) _ (IsOk c.bytes_of.result) _ _ tt (subst IsOk (sym c.in_ok-bytes.was) refl) c.bytes_of.ensures.counted
