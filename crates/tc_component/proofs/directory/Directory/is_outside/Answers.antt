use Rattle.std.proofs.Common.{◌≡◌, ◌∙◌, ◌<◌, ◌-◌, Some, length, slice_get, sym, ap, subst, arith}
use Rattle.std.proofs.lemmas.Bool.Decides.{nat_tests}
use Rattle.tc_component.specs.Spelling.{Ascend}
use Rattle.tc_component.proofs.Lookups.{above_first, below_last}
use Rattle.tc_component.proofs.Marks.{slots_length}
use Rattle.tc_component.proofs.directory.Directory.is_outside.Goals as goal

pub slot-requires-else-key-slot : goal.slot-requires-else-key-slot
slot-requires-else-key-slot c = let some = c.if-count-eq0.false in omega (arith, some, ap length c.self.view_is, slots_length c.self.inside.count c.self.inside.bytes.items)

pub returns-then-key-slot : goal.returns-then-key-slot
returns-then-key-slot c = λ test at s here.
    let less : c.args.key < c.slot.result.key = let is = c.if-key-slot.true in omega arith in
    above_first c.args.self.now c.args.key at c.slot.result s (subst Ascend c.self.view_is c.self.invariant.ascend) c.slot.ensures less here

pub returns-else-key-slot : goal.returns-else-key-slot
returns-else-key-slot c = λ test at s here.
    let greater : c.slot-else-key-slot.result.key < c.args.key = grind (arith, nat_tests) in
    let count : c.self.inside.count ≡ length c.args.self.now = sym (slots_length c.self.inside.count c.self.inside.bytes.items) ∙ ap length c.self.view_is in
    let last : slice_get c.args.self.now (length c.args.self.now - 1) ≡ Some c.slot-else-key-slot.result = subst (λ n. slice_get c.args.self.now (n - 1) ≡ Some c.slot-else-key-slot.result) count c.slot-else-key-slot.ensures in
    below_last c.args.self.now c.args.key at c.slot-else-key-slot.result s (subst Ascend c.self.view_is c.self.invariant.ascend) last greater here
