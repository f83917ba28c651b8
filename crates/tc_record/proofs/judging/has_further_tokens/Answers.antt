use Rattle.tc_record.specs.WalkView.{columns_of, format_of}
use Rattle.tc_record.specs.Stack.{stack_of}
use Rattle.tc_record.proofs.Judged.{walk_goes_on, walk_stops, walk_left_open}
use Rattle.tc_record.proofs.Stacks.{length-stack_of}
use Rattle.tc_record.proofs.judging.has_further_tokens.Goals as goal

pub loop-tag-preserved : goal.loop-tag-preserved
loop-tag-preserved c =
    let l = c.loop-tag in
    walk_goes_on (format_of c.args.format) c.args.tags.now l.tag-index (stack_of l.nesting.levels l.nesting.depth) _ (columns_of l.left) _ _ c.loop-tag-test.true l.invariant c.if-not-passes.ensures

pub returns-then-not-passes : goal.returns-then-not-passes
returns-then-not-passes c =
    let l = c.loop-tag in
    walk_stops (format_of c.args.format) c.args.tags.now l.tag-index (stack_of l.nesting.levels l.nesting.depth) (columns_of l.left) _ c.loop-tag-test.true l.invariant c.if-not-passes.ensures

pub returns-else-nesting-eq0 : goal.returns-else-nesting-eq0
returns-else-nesting-eq0 c =
    let l = c.loop-tag in
    walk_left_open (format_of c.args.format) c.args.tags.now l.tag-index l.nesting.depth (stack_of l.nesting.levels l.nesting.depth) (columns_of l.left) _ c.loop-tag-test.false l.invariant (length-stack_of l.nesting.levels l.nesting.depth) c.if-nesting-eq0.false
