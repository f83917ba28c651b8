use Rattle.tc_record.specs.WalkView.{columns_of, format_of}
use Rattle.tc_record.specs.Stack.{kinds_of}
use Rattle.tc_record.proofs.Judged.{walk_goes_on, walk_stops, walk_left_open}
use Rattle.tc_record.proofs.Stacks.{length-kinds_of}
use Rattle.tc_record.proofs.judging_numbers.has_further_tokens.Goals as goal

pub loop-tag-preserved : goal.loop-tag-preserved
loop-tag-preserved c =
    let l = c.loop-tag in
    walk_goes_on (format_of c.args.format) c.args.tags.now l.tag-index (kinds_of l.kinds.arrays l.kinds.depth) _ (columns_of l.left) _ _ c.loop-tag-test.true l.invariant c.if-not-passes.ensures

pub returns-then-not-passes : goal.returns-then-not-passes
returns-then-not-passes c =
    let l = c.loop-tag in
    walk_stops (format_of c.args.format) c.args.tags.now l.tag-index (kinds_of l.kinds.arrays l.kinds.depth) (columns_of l.left) _ c.loop-tag-test.true l.invariant c.if-not-passes.ensures

pub returns-else-kinds-eq0 : goal.returns-else-kinds-eq0
returns-else-kinds-eq0 c =
    let l = c.loop-tag in
    walk_left_open (format_of c.args.format) c.args.tags.now l.tag-index l.kinds.depth (kinds_of l.kinds.arrays l.kinds.depth) (columns_of l.left) _ c.loop-tag-test.false l.invariant (length-kinds_of l.kinds.arrays l.kinds.depth) c.if-kinds-eq0.false
