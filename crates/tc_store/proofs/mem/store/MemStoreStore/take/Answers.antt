use Rattle.tc_store.specs.Memory.Disk.{disk_of}
use Rattle.tc_store.proofs.Memory.StepLemmas.{same_disk, taken_step}
use Rattle.tc_store.proofs.mem.store.MemStoreStore.take.Goals as goal

pub returns-clause-taken : goal.returns-clause-taken
returns-clause-taken c =
    let parts = c.make_room.ensures.parts in
    taken_step (disk_of c.args.self.now.files.items c.args.self.now.slots.items) (disk_of c.make_room.new.self.files.items c.make_room.new.self.slots.items) _
    c.args.self.now.past.items c.make_room.new.self.past.items _ c.args.name c.in_ok-bytes.bytes.value.items
    (same_disk c.args.self.now.files.items _ c.args.self.now.slots.items _ parts.files parts.slots)
    c.in_ok-bytes.ensures.puts c.in_ok-bytes.ensures.was parts.past c.push_in_room.ensures.items
