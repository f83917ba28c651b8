use Rattle.std.proofs.Common.{◌∙◌, ◌++◌, length, option_map, ap, subst, arith}
use Rattle.tc_component.specs.Building.{Spools, unheaded}
use Rattle.tc_component.specs.Spelling.{records, slot_bytes}
use Rattle.tc_component.proofs.Written.{pushed_slots, pushed_records, written_short}
use Rattle.tc_component.proofs.builder.Builder.push.Goals as goal

pub overflow_cast-length : goal.overflow_cast-length
overflow_cast-length g c = omega (arith, ap length c.bytes_held-bytes.ensures, written_short (λ bytes. bytes.now) c.args.record_bytes c.requires.written)

pub returns-clause-pushed : goal.returns-clause-pushed
returns-clause-pushed g c =
    let held = option_map (λ bytes. bytes.now) c.args.record_bytes in
    rw (← c.self.view_is) (λ rows has. record {
      slots = c.in_ok-put_slot.ensures ∙ ap (λ bytes. bytes ++ slot_bytes (record { key = c.args.key; length = length c.bytes_held-bytes.result.now })) has.slots ∙ rw c.bytes_held-bytes.ensures (pushed_slots rows c.args.key held);
      bytes = subst (Spools (g.D.Device.history c.put.new.self.gated) c.put.new.self.waiting.items) (ap (λ bytes. unheaded (records rows) ++ bytes) c.bytes_held-bytes.ensures ∙ pushed_records rows c.args.key held)
          (c.in_ok-put.ensures.more (unheaded (records rows)) has.bytes);
    })
