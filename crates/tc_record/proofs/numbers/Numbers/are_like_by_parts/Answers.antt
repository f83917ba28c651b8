use Rattle.std.proofs.Common.{◌∙◌, sym, arith}
use Rattle.tc_record.specs.WalkView.{numbers_of}
use Rattle.tc_record.proofs.Alike.{same_on}
use Rattle.tc_record.proofs.numbers.Numbers.are_like_by_parts.Goals as goal

pub loop-todo-preserved : goal.loop-todo-preserved
loop-todo-preserved c =
    let i = c.loop-todo.invariant in
    let one = c.pass.ensures in
    let two = c.pass-in-loop-todo.ensures in
    record {
      width = one.width ∙ i.width ∙ sym two.width;
      own = one.width ∙ i.own;
      mine = omega (arith, one.left, i.mine);
      theirs = omega (arith, two.left, i.theirs);
      same = λ rest. i.same (same_on c.min-part.result c.loop-todo.todo (numbers_of c.loop-todo.mine) (numbers_of c.loop-todo.theirs) (omega (arith, c.min-part.ensures)) (c.are_like.ensures c.if-not-are_like.false) (rw (← one.numbers, ← two.numbers) rest));
    }
