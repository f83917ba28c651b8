use Rattle.std.proofs.Common.{refl}
use Rattle.tc_store.specs.Memory.Disk.{entry_of}
use Rattle.tc_store.proofs.Memory.StepLemmas.{returned_step}
use Rattle.tc_store.proofs.mem.store.MemStore.return_as.Goals as goal

pub returns-then-return_slot : goal.returns-then-return_slot
returns-then-return_slot c =
    returned_step c.args.self.now.files.items c.args.self.now.slots.items _ c.args.self.now.past.items _ c.args.name (entry_of c.args.held)
    (c.if-return_slot.ensures.puts refl) (c.if-return_slot.ensures.exact c.args.self.now.files.items) c.push_in_room.ensures.items
