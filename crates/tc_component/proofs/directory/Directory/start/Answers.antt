use Rattle.std.proofs.Common.{◌≡◌, ◌∙◌, ◌<◌, ◌+◌, suc, take, ap, subst, arith}
use Rattle.std.specs.List.{AllByRecursion}
use Rattle.tc_component.specs.Layout.{number_end}
use Rattle.tc_component.specs.Spelling.{lengths_of, IsSlot}
use Rattle.tc_component.proofs.SpanLaws.{told}
use Rattle.tc_component.proofs.directory.Directory.start.Goals as goal

pub loop-passed-preserved : goal.loop-passed-preserved
loop-passed-preserved c =
    let slots = c.args.self.now in
    let each = subst (AllByRecursion IsSlot) c.self.view_is c.self.invariant.each in
    let short = subst (λ l. lengths_of l < number_end) c.self.view_is c.self.invariant.short in
    let next = told slots c.loop-passed.passed c.loop-passed.start c.slot.result each short c.slot.ensures c.loop-passed.invariant in
    let behind : suc c.loop-passed.passed ≡ c.loop-passed.passed + 1 = omega arith in
    ap (λ n. c.loop-passed.start + n) c.from-start.ensures ∙ next.next ∙ ap (λ n. lengths_of (take n slots)) behind
