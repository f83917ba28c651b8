use Rattle.std.proofs.Common.{◌≡◌, ◌∙◌, ◌<◌, [], length, refl, ap, arith}
use Rattle.tc_record.specs.AsciiTexts.{uncut_of}
use Rattle.tc_record.specs.WalkView.{format_of}
use Rattle.tc_record.specs.Stack.{kinds_of}
use Rattle.tc_record.proofs.AsciiTexts.{closed_kinds, closed_last, closed_early, still_open}
use Rattle.tc_record.proofs.Judged.{walk_goes_on, walk_stops}
use Rattle.tc_record.proofs.Stacks.{length-kinds_of}
use Rattle.tc_record.proofs.judging_ascii.has_further_ascii_tokens.Goals as goal
use Rattle.tc_record.proofs.judging_ascii.has_further_ascii_tokens.Goals.{then-tag-eq-CLOSE_TAG+else-kinds-eq0, else-tag-eq-CLOSE_TAG+else-not-passes}

pub loop-place-preserved : goal.loop-place-preserved
loop-place-preserved c =
    let l = c.loop-place in
    let f = format_of c.args.format in
    let tags = c.args.tags.now in
    let cs = uncut_of l.left in
    elim c.if-tag-eq-CLOSE_TAG.branch [
      | then-tag-eq-CLOSE_TAG+else-kinds-eq0 w ↦
          let k = w.close.new.self in
          let moves = closed_kinds f _ l.kinds.arrays l.kinds.depth k.arrays k.depth cs w.if-tag-eq-CLOSE_TAG.true l.invariant.inside w.close.ensures in
          rw (w.kinds-is, w.left-is) record {
            told = walk_goes_on f tags l.place (kinds_of l.kinds.arrays l.kinds.depth) (kinds_of k.arrays k.depth) cs cs _ c.loop-place-test.true l.invariant.told moves;
            inside = omega (arith, w.if-kinds-eq0.false);
            texts = l.invariant.texts;
            within = l.invariant.within;
          }
      | else-tag-eq-CLOSE_TAG+else-not-passes w ↦
          let k = w.passes.new.kinds in
          rw (w.kinds-is, w.left-is) record {
            told = walk_goes_on f tags l.place (kinds_of l.kinds.arrays l.kinds.depth) (kinds_of k.arrays k.depth) cs (uncut_of w.passes.new.columns) _ c.loop-place-test.true l.invariant.told w.if-not-passes.ensures.moves;
            inside = w.if-not-passes.ensures.inside refl;
            texts = w.if-not-passes.ensures.texts refl ∙ l.invariant.texts;
            within = w.if-not-passes.ensures.within refl;
          }
    ]

pub returns-then-place-tags : goal.returns-then-place-tags
returns-then-place-tags c =
    let l = c.loop-place in
    let f = format_of c.args.format in
    let tags = c.args.tags.now in
    let cs = uncut_of l.left in
    let k = c.close.new.self in
    let none : kinds_of k.arrays k.depth ≡ [] = ap (kinds_of k.arrays) c.if-kinds-eq0.true in
    let moves = closed_kinds f _ l.kinds.arrays l.kinds.depth k.arrays k.depth cs c.if-tag-eq-CLOSE_TAG.true l.invariant.inside c.close.ensures in
    c.is_used_up.ensures
    ∙ closed_last f tags l.place (kinds_of k.arrays k.depth) cs _ c.if-place-tags.true none (walk_goes_on f tags l.place (kinds_of l.kinds.arrays l.kinds.depth) (kinds_of k.arrays k.depth) cs cs _ c.loop-place-test.true l.invariant.told moves)

pub returns-else-place-tags : goal.returns-else-place-tags
returns-else-place-tags c =
    let l = c.loop-place in
    let f = format_of c.args.format in
    let tags = c.args.tags.now in
    let cs = uncut_of l.left in
    let k = c.close.new.self in
    let none : kinds_of k.arrays k.depth ≡ [] = ap (kinds_of k.arrays) c.if-kinds-eq0.true in
    let moves = closed_kinds f _ l.kinds.arrays l.kinds.depth k.arrays k.depth cs c.if-tag-eq-CLOSE_TAG.true l.invariant.inside c.close.ensures in
    closed_early f tags l.place (kinds_of k.arrays k.depth) cs _ c.loop-place-test.true c.if-place-tags.false none (walk_goes_on f tags l.place (kinds_of l.kinds.arrays l.kinds.depth) (kinds_of k.arrays k.depth) cs cs _ c.loop-place-test.true l.invariant.told moves)

pub returns-then-not-passes : goal.returns-then-not-passes
returns-then-not-passes c =
    let l = c.loop-place in
    walk_stops (format_of c.args.format) c.args.tags.now l.place (kinds_of l.kinds.arrays l.kinds.depth) (uncut_of l.left) _ c.loop-place-test.true l.invariant.told c.if-not-passes.ensures.moves

pub returns : goal.returns
returns c =
    let l = c.loop-place in
    let some : 0 < length (kinds_of l.kinds.arrays l.kinds.depth) = omega (arith, length-kinds_of l.kinds.arrays l.kinds.depth, l.invariant.inside) in
    still_open (format_of c.args.format) c.args.tags.now l.place (kinds_of l.kinds.arrays l.kinds.depth) (uncut_of l.left) _ c.loop-place-test.false l.invariant.told some
