use Rattle.std.proofs.Common.{arith}
use Rattle.tc_record.proofs.Stacks.{bit-le, bits_few, kinds_of-pushed}
use Rattle.tc_record.proofs.kinds.Kinds.push.Goals as goal

pub overflow_mul-self : goal.overflow_mul-self
overflow_mul-self c = omega (arith, bits_few c.args.self.now.arrays c.args.self.now.depth c.args.self.now.few (omega arith))

pub overflow_add-self : goal.overflow_add-self
overflow_add-self c =
    let few = bits_few c.args.self.now.arrays c.args.self.now.depth c.args.self.now.few (omega arith) in
    omega (arith, few, bit-le c.args.array, c.from-2.ensures)

pub returns : goal.returns
returns c = kinds_of-pushed c.args.self.now.arrays c.args.self.now.depth c.from-2.result c.args.array c.from-2.ensures (omega arith)
