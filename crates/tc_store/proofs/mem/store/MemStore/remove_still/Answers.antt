use Rattle.std.proofs.Common.{refl}
use Rattle.tc_store.proofs.Memory.StepLemmas.{removed_step}
use Rattle.tc_store.proofs.mem.store.MemStore.remove_still.Goals as goal

pub returns-then-remove_slot : goal.returns-then-remove_slot
returns-then-remove_slot c =
    removed_step c.args.self.now.files.items c.args.self.now.slots.items _ c.args.self.now.past.items _ c.args.name
    (c.if-remove_slot.ensures.puts refl c.args.self.now.files.items) (c.if-remove_slot.ensures.exact c.args.self.now.files.items) c.push_in_room.ensures.items
