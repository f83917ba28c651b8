use Rattle.std.proofs.Common.{◌≤◌, arith}
use Rattle.tc_record.proofs.Alike.{together, aligned_on, numbers_passed}
use Rattle.tc_record.proofs.numbers.Numbers.pass.Goals as goal

pub invariant_of-self-clause-room : goal.invariant_of-self-clause-room
invariant_of-self-clause-room c =
    let n = c.args.self.now in
    let few : c.min-passed.result ≤ n.left = omega (arith, c.min-passed.ensures) in
    rw (c.from.ensures, c.from-2.ensures) (omega (arith, n.room, together n.width n.left c.min-passed.result few))

pub invariant_of-self-clause-aligned : goal.invariant_of-self-clause-aligned
invariant_of-self-clause-aligned c =
    let n = c.args.self.now in
    rw (c.from.ensures, c.from-2.ensures) (aligned_on n.width n.place c.min-passed.result n.aligned)

pub returns-clause-numbers : goal.returns-clause-numbers
returns-clause-numbers c =
    let n = c.args.self.now in
    rw (c.from.ensures, c.from-2.ensures, c.min-passed.ensures) (numbers_passed n.width n.place n.left c.args.count n.bytes.now)
