use Rattle.std.proofs.Common.{length, ap, arith}
use Rattle.tc_path.proofs.TrailSteps.{IsBehindTag, IsBehindNumber, text_counted, integer_counted, boolean_counted, nothing_counted, scalar_passed, array_passed, object_passed, items_done, items_next, members_done, members_next, passed_behind, members_passed, passed_all}
use Rattle.tc_path.proofs.trail.+passing.Goals as goal

pub pass_value-returns-then-tag-eq-TEXT_TAG-clause-passes : goal.pass_value-returns-then-tag-eq-TEXT_TAG-clause-passes
pass_value-returns-then-tag-eq-TEXT_TAG-clause-passes t c = λ n more is.
    let counted = text_counted _ c.args.trail.now c.trail.view_is c.args.tag c.if-tag-eq-TEXT_TAG.true in
    scalar_passed more c.args.trail.now _ n c.args.tag is counted

pub pass_value-returns-then-tag-eq-INTEGER_TAG-clause-passes : goal.pass_value-returns-then-tag-eq-INTEGER_TAG-clause-passes
pass_value-returns-then-tag-eq-INTEGER_TAG-clause-passes t c = λ n more is.
    let counted = integer_counted _ c.args.trail.now c.trail-then-tag-eq-INTEGER_TAG.view_is c.args.tag c.if-tag-eq-INTEGER_TAG.true in
    scalar_passed more c.args.trail.now _ n c.args.tag is counted

pub pass_value-returns-then-tag-eq-BOOLEAN_TAG-clause-passes : goal.pass_value-returns-then-tag-eq-BOOLEAN_TAG-clause-passes
pass_value-returns-then-tag-eq-BOOLEAN_TAG-clause-passes t c = λ n more is.
    let counted = boolean_counted _ c.args.trail.now c.trail-then-tag-eq-BOOLEAN_TAG.view_is c.args.tag c.if-tag-eq-BOOLEAN_TAG.true in
    scalar_passed more c.args.trail.now _ n c.args.tag is counted

pub pass_value-returns-then-tag-eq-ARRAY_TAG-clause-passes : goal.pass_value-returns-then-tag-eq-ARRAY_TAG-clause-passes
pass_value-returns-then-tag-eq-ARRAY_TAG-clause-passes t c = λ n more is.
    array_passed more c.args.trail.now c.pass_items.new.trail n c.args.tag is c.if-tag-eq-ARRAY_TAG.true c.pass_items.ensures.passes

pub pass_value-returns-then-tag-eq-OBJECT_TAG-clause-passes : goal.pass_value-returns-then-tag-eq-OBJECT_TAG-clause-passes
pass_value-returns-then-tag-eq-OBJECT_TAG-clause-passes t c = λ n more is.
    object_passed more c.args.trail.now c.pass_members.new.trail n c.args.tag is c.if-tag-eq-OBJECT_TAG.true c.pass_members.ensures.passes

pub pass_value-returns-else-tag-eq-OBJECT_TAG-clause-passes : goal.pass_value-returns-else-tag-eq-OBJECT_TAG-clause-passes
pass_value-returns-else-tag-eq-OBJECT_TAG-clause-passes t c = λ n more is.
    let counted = nothing_counted c.args.trail.now c.args.tag c.if-tag-eq-TEXT_TAG.false c.if-tag-eq-INTEGER_TAG.false c.if-tag-eq-BOOLEAN_TAG.false c.if-tag-eq-ARRAY_TAG.false c.if-tag-eq-OBJECT_TAG.false in
    scalar_passed more c.args.trail.now c.args.trail.now n c.args.tag is counted

pub pass_items-returns-then-tag-eq-CLOSE_TAG-clause-passes : goal.pass_items-returns-then-tag-eq-CLOSE_TAG-clause-passes
pass_items-returns-then-tag-eq-CLOSE_TAG-clause-passes t c = λ xs more is.
    let left = c.loop-tag.invariant.left xs more is in
    let step : IsBehindTag c.loop-tag.trail c.in-Some.tag c.tag.new.self = record { taken = c.in-Some.ensures.taken; slots = c.tag.ensures.slots; texts = c.tag.ensures.texts; fixed = c.tag.ensures.fixed } in
    items_done xs more c.args.trail.now c.loop-tag.trail c.in-Some.tag c.tag.new.self step left.0 left.1 c.if-tag-eq-CLOSE_TAG.true

pub pass_items-loop-tag-preserved : goal.pass_items-loop-tag-preserved
pass_items-loop-tag-preserved t c =
    let step : IsBehindTag c.loop-tag.trail c.in-Some.tag c.tag.new.self = record { taken = c.in-Some.ensures.taken; slots = c.tag.ensures.slots; texts = c.tag.ensures.texts; fixed = c.tag.ensures.fixed } in
    record {
      left = λ xs more is.
          let left = c.loop-tag.invariant.left xs more is in
          items_next xs more c.args.trail.now c.loop-tag.trail c.in-Some.tag c.tag.new.self step c.pass_value.new.trail c.pass_value.ensures.passes c.if-tag-eq-CLOSE_TAG.false left.0 left.1;
      shorter = let taken = ap length c.in-Some.ensures.taken in let before = c.loop-tag.invariant.shorter in let further = c.pass_value.ensures.shorter in omega (arith, taken, before, further);
    }

pub pass_members-returns-then-tag-eq-CLOSE_TAG-clause-passes : goal.pass_members-returns-then-tag-eq-CLOSE_TAG-clause-passes
pass_members-returns-then-tag-eq-CLOSE_TAG-clause-passes t c = λ ms more is.
    let left = c.loop-tag.invariant.left ms more is in
    let step : IsBehindTag c.loop-tag.trail c.in-Some.tag c.tag.new.self = record { taken = c.in-Some.ensures.taken; slots = c.tag.ensures.slots; texts = c.tag.ensures.texts; fixed = c.tag.ensures.fixed } in
    let done = members_done members_passed ms more c.args.trail.now c.loop-tag.trail c.in-Some.tag c.tag.new.self step left.0 left.1 c.if-tag-eq-CLOSE_TAG.true in
    passed_all ms more c.args.trail.now c.tag.new.self done.0 done.1

pub pass_members-loop-tag-preserved : goal.pass_members-loop-tag-preserved
pass_members-loop-tag-preserved t c =
    let step : IsBehindTag c.loop-tag.trail c.in-Some.tag c.tag.new.self = record { taken = c.in-Some.ensures.taken; slots = c.tag.ensures.slots; texts = c.tag.ensures.texts; fixed = c.tag.ensures.fixed } in
    let next : IsBehindNumber c.tag.new.self c.number-number.result c.number-number.new.self = record { taken = c.number-number.ensures.taken; tags = c.number-number.ensures.tags; texts = c.number-number.ensures.texts; fixed = c.number-number.ensures.fixed } in
    record {
      left = λ ms more is.
          let left = c.loop-tag.invariant.left ms more is in
          members_next members_passed ms more c.args.trail.now c.loop-tag.trail c.in-Some.tag c.tag.new.self step c.number-number.result c.number-number.new.self next c.if-tag-eq-CLOSE_TAG.false c.pass_value.new.trail c.pass_value.ensures.passes
          (passed_behind c.number-number.result) left.0 left.1;
      shorter = let taken = ap length c.in-Some.ensures.taken in let before = c.loop-tag.invariant.shorter in let later = c.pass_value.ensures.shorter in let same = ap length c.number-number.ensures.tags in omega (arith, taken, before, later, same);
    }
