use Rattle.std.proofs.Common.{◌≡◌, ◌∙◌, ◌<◌, ◌≤◌, ◌+◌, ◌-◌, ◌/◌, length, map, sym, ap, subst, arith}
use Rattle.std.proofs.lemmas.List.{length-map}
use Rattle.std.proofs.lemmas.Map.Keys.{non_decreasing_from_sorted}
use Rattle.tc_component.specs.declared.slot.Slot.{Slot}
use Rattle.tc_component.specs.Spelling.{Ascend}
use Rattle.tc_component.proofs.Lookups.{key_there, none_there}
use Rattle.tc_component.proofs.Marks.{slots_length}
use Rattle.tc_component.proofs.directory.Directory.find.Goals as goal

pub loop-low-init : goal.loop-low-init
loop-low-init c =
    let count : c.self.inside.count ≡ length c.args.self.now = sym (slots_length c.self.inside.count c.self.inside.bytes.items) ∙ ap length c.self.view_is in
    record {
      order = omega arith;
      within = omega (arith, count);
      less = λ k before. absurd (omega (arith, before));
      greater = λ k behind within. absurd (omega (arith, behind, within, count));
    }

pub loop-low-preserved-then-here-key : goal.loop-low-preserved-then-here-key
loop-low-preserved-then-here-key c =
    let l = c.loop-low in
    let slots = c.args.self.now in
    let keys = map (λ (s : Slot). s.key) slots in
    let middle = l.low + (l.high - l.low) / 2 in
    let here = key_there slots middle c.slot-here.result c.slot-here.ensures in
    let more : l.low < l.high = let test = c.loop-low-test.true in omega arith in
    let less : c.slot-here.result.key < c.args.key = let test = c.if-here-key.true in omega arith in
    let sorted = subst Ascend c.self.view_is c.self.invariant.ascend in
    record {
      order = omega (arith, more);
      within = l.invariant.within;
      less = λ k before. omega (arith, less, here.1, non_decreasing_from_sorted keys sorted k middle 0 (omega (arith, before)) (omega (arith, here.0, length-map slots (λ (s : Slot). s.key))));
      greater = l.invariant.greater;
    }

pub loop-low-preserved : goal.loop-low-preserved
loop-low-preserved c =
    let l = c.loop-low in
    let slots = c.args.self.now in
    let keys = map (λ (s : Slot). s.key) slots in
    let middle = l.low + (l.high - l.low) / 2 in
    let here = key_there slots middle c.slot-here.result c.slot-here.ensures in
    let more : l.low < l.high = let test = c.loop-low-test.true in omega arith in
    let greater : c.args.key < c.slot-here.result.key = let not_less = c.if-here-key.false in let other = c.if-here-key-2.false in omega arith in
    let sorted = subst Ascend c.self.view_is c.self.invariant.ascend in
    record {
      order = omega (arith, more);
      within = omega (arith, here.0);
      less = l.invariant.less;
      greater = λ k behind within. omega (arith, greater, here.1, non_decreasing_from_sorted keys sorted middle k 0 behind (omega (arith, within, length-map slots (λ (s : Slot). s.key))));
    }

pub returns : goal.returns
returns c =
    let l = c.loop-low in
    let done : l.high ≤ l.low = let test = c.loop-low-test.false in omega arith in
    none_there c.args.self.now c.args.key l.low l.invariant.less (λ k behind within. l.invariant.greater k (omega (arith, done, behind)) within)
