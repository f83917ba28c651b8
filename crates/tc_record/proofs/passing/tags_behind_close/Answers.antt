use Rattle.std.proofs.Common.{◌≡◌, ◌∙◌, ◌-◌, refl, sym, ap, Some, option_map, arith}
use Rattle.tc_bytes.specs.Reading.{byte_at}
use Rattle.tc_record.specs.Behind.{behind_closes}
use Rattle.tc_record.specs.WalkView.{columns_of, format_of}
use Rattle.tc_record.specs.Stack.{kinds_of}
use Rattle.tc_record.proofs.TokensPassed.{passed_on, closed_past, passed_none, passed_nothing, behind_none, left_behind}
use Rattle.tc_record.proofs.passing.tags_behind_close.Goals as goal

pub returns-then-walk-eq0 : goal.returns-then-walk-eq0
returns-then-walk-eq0 c =
    let w = c.args.walk.now in
    passed_nothing (format_of w.format) c.args.tags.now w.kinds.arrays w.kinds.depth (columns_of w.columns) c.if-walk-eq0.true

pub loop-tag-preserved-else-here-outer : goal.loop-tag-preserved-else-here-outer
loop-tag-preserved-else-here-outer c =
    let f = format_of c.loop-tag.here.format in
    let cs = columns_of c.loop-tag.here.columns in
    let old = c.loop-tag.here.kinds in
    let new = c.close.new.self in
    let next : byte_at c.loop-tag.left.now ≡ Some (c.in-Some.tag, c.in-Some.rest.now) = sym c.u8_at.ensures ∙ rw c.in-Some.is refl in
    let past = closed_past f c.loop-tag.left.now c.in-Some.tag c.in-Some.rest.now old.arrays old.depth new.arrays new.depth cs (c.args.walk.now.kinds.depth - 1) next c.loop-tag.invariant.deep c.if-tag-eq-CLOSE_TAG.true c.close.ensures in
    record {
      deep = omega (arith, past.0, c.if-here-outer.false);
      left = past.1 ∙ c.loop-tag.invariant.left;
    }

pub loop-tag-preserved : goal.loop-tag-preserved
loop-tag-preserved c =
    let f = format_of c.loop-tag.here.format in
    let old = c.loop-tag.here in
    let new = c.passes_value_in.new.walk in
    let next : byte_at c.loop-tag.left.now ≡ Some (c.in-Some.tag, c.in-Some.rest.now) = sym c.u8_at.ensures ∙ rw c.in-Some.is refl in
    let on = passed_on f c.loop-tag.left.now c.in-Some.tag c.in-Some.rest.now old.kinds.arrays old.kinds.depth new.kinds.arrays new.kinds.depth
    (columns_of old.columns) (columns_of new.columns) (c.args.walk.now.kinds.depth - 1) next c.loop-tag.invariant.deep c.if-not-passes_value_in.ensures.moves in
    record {
      deep = on.1 (omega (arith, c.if-tag-eq-CLOSE_TAG.false));
      left = rw c.passes_value_in.ensures.format (on.2 ∙ c.loop-tag.invariant.left);
    }

pub returns-then-here-outer : goal.returns-then-here-outer
returns-then-here-outer c =
    let f = format_of c.loop-tag.here.format in
    let cs = columns_of c.loop-tag.here.columns in
    let old = c.loop-tag.here.kinds in
    let new = c.close.new.self in
    let outer = c.args.walk.now.kinds.depth - 1 in
    let next : byte_at c.loop-tag.left.now ≡ Some (c.in-Some.tag, c.in-Some.rest.now) = sym c.u8_at.ensures ∙ rw c.in-Some.is refl in
    let past = closed_past f c.loop-tag.left.now c.in-Some.tag c.in-Some.rest.now old.arrays old.depth new.arrays new.depth cs outer next c.loop-tag.invariant.deep c.if-tag-eq-CLOSE_TAG.true c.close.ensures in
    sym (behind_none (new.depth - outer) _ (omega (arith, c.if-here-outer.true))) ∙ past.1 ∙ c.loop-tag.invariant.left

pub returns-then-not-passes_value_in : goal.returns-then-not-passes_value_in
returns-then-not-passes_value_in c =
    let old = c.loop-tag.here in
    let outer = c.args.walk.now.kinds.depth - 1 in
    let next : byte_at c.loop-tag.left.now ≡ Some (c.in-Some.tag, c.in-Some.rest.now) = sym c.u8_at.ensures ∙ rw c.in-Some.is refl in
    let none = passed_none (format_of old.format) c.loop-tag.left.now c.in-Some.tag c.in-Some.rest.now (kinds_of old.kinds.arrays old.kinds.depth) (columns_of old.columns) next c.if-not-passes_value_in.ensures.moves in
    absurd (left_behind _ c.requires (sym c.loop-tag.invariant.left ∙ ap (option_map (behind_closes (old.kinds.depth - outer))) none))
