use Rattle.std.proofs.Common.{◌≡◌, rules, sym, subst}
use Rattle.std.specs.Prelude.{All, ◌≤◌}
use Rattle.tc_recover.specs.Sorting.{intervals_of as components_of, logs_above, Follow}
use Rattle.tc_recover.specs.Tilings.{Ascend, IsTiling, end_of}
use Rattle.tc_recover.proofs.SortedNames.{intervals_order, intervals_ascend, one_end}
use Rattle.tc_recover.proofs.sorting.components_that_count.Goals as goal

pub tiling_of-requires-clause-order : goal.tiling_of-requires-clause-order
tiling_of-requires-clause-order c =
    let is : c.deref.result.now ≡ components_of c.args.names.now = search rules in
    subst (λ intervals. All (λ i. i.from ≤ i.to) intervals) (sym is) (intervals_order c.args.names.now c.requires.lawful)

pub tiling_of-requires-clause-ascend : goal.tiling_of-requires-clause-ascend
tiling_of-requires-clause-ascend c =
    let is : c.deref.result.now ≡ components_of c.args.names.now = search rules in
    subst Ascend (sym is) (intervals_ascend c.args.names.now c.requires.ascend)

pub returns-clause-none : goal.returns-clause-none
returns-clause-none c = λ is tiles together.
    let tiling : IsTiling (components_of c.args.names.now) c.in-Some.tiles.items = search rules in
    let last : c.last_of.result ≡ end_of 0 c.in-Some.tiles.items = search rules in
    let end = one_end (components_of c.args.names.now) tiles c.in-Some.tiles.items together.tiling tiling in
    let follow = subst (λ n. Follow n (logs_above n c.args.names.now)) end together.logs in
    let test = c.if-logs_follow.ensures.exact.1 (subst (λ n. Follow n (logs_above n c.args.names.now)) (sym last) follow) in
    absurd (cc)
