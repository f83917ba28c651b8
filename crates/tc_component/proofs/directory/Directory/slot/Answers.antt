use Rattle.std.proofs.Common.{◌≡◌, ◌∙◌, ◌<◌, ◌*◌, Some, length, drop, sym, ap, subst, arith}
use Rattle.tc_component.specs.Columns.{front_slot, slots_in}
use Rattle.tc_component.proofs.Marks.{slots_length, slot_here}
use Rattle.tc_component.proofs.directory.Directory.slot.Goals as goal

pub overflow_mul-at : goal.overflow_mul-at
overflow_mul-at c =
    let within : c.args.at < length (slots_in c.self.inside.count c.self.inside.bytes.items) = subst (λ l. c.args.at < length l) (sym c.self.view_is) c.requires in
    omega (arith, within, slots_length c.self.inside.count c.self.inside.bytes.items, c.self.invariant.sized, c.self.inside.bytes.small, c.self.inside.bytes.ok)

pub split_at-requires : goal.split_at-requires
split_at-requires c =
    let within : c.args.at < length (slots_in c.self.inside.count c.self.inside.bytes.items) = subst (λ l. c.args.at < length l) (sym c.self.view_is) c.requires in
    omega (arith, within, slots_length c.self.inside.count c.self.inside.bytes.items, c.self.invariant.sized, ap length c.as_slice.ensures.value)

pub front_of_slots-requires : goal.front_of_slots-requires
front_of_slots-requires c =
    let within : c.args.at < length (slots_in c.self.inside.count c.self.inside.bytes.items) = subst (λ l. c.args.at < length l) (sym c.self.view_is) c.requires in
    omega (arith, within, slots_length c.self.inside.count c.self.inside.bytes.items, c.self.invariant.sized, ap length c.as_slice.ensures.value, c.split_at.ensures.back_len)

pub returns : goal.returns
returns c =
    let within : c.args.at < length (slots_in c.self.inside.count c.self.inside.bytes.items) = subst (λ l. c.args.at < length l) (sym c.self.view_is) c.requires in
    let here = slot_here c.self.inside.count c.args.at c.self.inside.bytes.items (omega (arith, within, slots_length c.self.inside.count c.self.inside.bytes.items)) in
    let rest : c.split_at.result.1.now ≡ drop (c.args.at * 12) c.self.inside.bytes.items = c.split_at.ensures.back ∙ ap (drop (c.args.at * 12)) c.as_slice.ensures.value in
    rw (← c.self.view_is) (here ∙ ap (λ bytes. Some (front_slot bytes)) (sym rest) ∙ ap Some (sym c.front_of_slots.ensures))
