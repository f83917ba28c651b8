use Rattle.std.proofs.Common.{◌≡◌, ◌∙◌, ◌<◌, ◌+◌, ◌-◌, suc, length, min, take, sym, ap, subst, arith}
use Rattle.std.specs.List.{AllByRecursion}
use Rattle.std.proofs.Math.Nat.{min-le_left, min-le_right}
use Rattle.tc_component.specs.Layout.{number_end}
use Rattle.tc_component.specs.Spelling.{lengths_of, IsSlot}
use Rattle.tc_component.proofs.Marks.{slots_length}
use Rattle.tc_component.proofs.SpanLaws.{told, one_more_span}
use Rattle.tc_component.proofs.directory.Directory.spans.Goals as goal

pub overflow_sub-self-inside : goal.overflow_sub-self-inside
overflow_sub-self-inside c = omega (arith, c.requires, ap length c.self.view_is, slots_length c.self.inside.count c.self.inside.bytes.items)

pub slot-slot-requires : goal.slot-slot-requires
slot-slot-requires c =
    let more : c.loop-step.step < min (length c.args.room.now) (c.self.inside.count - c.args.at) = rw (← c.min-count.ensures) c.loop-step-test.true in
    omega (arith, more, min-le_right (length c.args.room.now) (c.self.inside.count - c.args.at), ap length c.self.view_is, slots_length c.self.inside.count c.self.inside.bytes.items)

pub loop-step-preserved : goal.loop-step-preserved
loop-step-preserved c =
    let slots = c.args.self.now in
    let i = c.args.at + c.loop-step.step in
    let each = subst (AllByRecursion IsSlot) c.self.view_is c.self.invariant.each in
    let short = subst (λ l. lengths_of l < number_end) c.self.view_is c.self.invariant.short in
    let next = told slots i c.loop-step.start c.slot-slot.result each short c.slot-slot.ensures c.loop-step.invariant.start in
    let more : c.loop-step.step < min (length c.args.room.now) (c.self.inside.count - c.args.at) = rw (← c.min-count.ensures) c.loop-step-test.true in
    let room : c.loop-step.step < length c.loop-step.room = omega (arith, more, min-le_left (length c.args.room.now) (c.self.inside.count - c.args.at), c.loop-step.auto.room) in
    let behind : suc i ≡ c.args.at + (c.loop-step.step + 1) = omega arith in
    record {
      start = ap (λ n. c.loop-step.start + n) c.from-start.ensures ∙ next.next ∙ ap (λ n. lengths_of (take n slots)) behind;
      spans = one_more_span slots c.args.at c.loop-step.step c.loop-step.room _ room c.loop-step.invariant.spans next.is;
    }

pub returns-clause-count : goal.returns-clause-count
returns-clause-count c = c.min-count.ensures ∙ ap (λ n. min (length c.args.room.now) (n - c.args.at)) (sym (slots_length c.self.inside.count c.self.inside.bytes.items) ∙ ap length c.self.view_is)
