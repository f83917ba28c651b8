use Rattle.std.proofs.Common.{◌≡◌, ◌∙◌, ◌≤◌, ◌+◌, length, sym, ap, subst, arith}
use Rattle.std.specs.Arc.{arc_value}
use Rattle.tc_merge.proofs.Near.{passed_one, some_left}
use Rattle.tc_merge.proofs.input.Input.pass.Goals as goal

pub overflow_add-next : goal.overflow_add-next
overflow_add-next g c =
    let i = c.self.inside in
    let near = c.self.invariant.0 in
    let less = near.some (some_left (arc_value i.component).index i.base i.near i.held i.step i.key near c.args.key c.if-self-key.false c.requires) in
    omega (arith, less, near.room)

pub invariant_of-self : goal.invariant_of-self
invariant_of-self g c =
    let i = c.self.inside in
    let component = arc_value i.component in
    let near = c.self.invariant.0 in
    let more = some_left component.index i.base i.near i.held i.step i.key near c.args.key c.if-self-key.false c.requires in
    (passed_one component.index i.base i.near i.held i.step i.key near _ more c.if-next-self.true, c.self.invariant.1)

pub overflow_add-self : goal.overflow_add-self
overflow_add-self g c =
    let i = c.self.inside in
    let component = arc_value i.component in
    let more = some_left component.index i.base i.near i.held i.step i.key c.self.invariant.0 c.args.key c.if-self-key.false c.requires in
    let len : c.len-fits.result ≡ length component.index.slots = c.len-fits.ensures ∙ ap (λ m. length m.index.slots) c.deref.ensures in
    omega (arith, more, len, c.len-fits.type_inv)

pub look_up-requires-after_bounds : goal.look_up-requires-after_bounds
look_up-requires-after_bounds g c κs within =
    let i = c.self.inside in
    let component = arc_value i.component in
    let more = some_left component.index i.base i.near i.held i.step i.key c.self.invariant.0 c.args.key c.if-self-key.false c.requires in
    subst (λ m. i.base + (i.step + 1) ≤ length m.index.slots) (sym c.deref-else-next-self.ensures) (omega (arith, more))
