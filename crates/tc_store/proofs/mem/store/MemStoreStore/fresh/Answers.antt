use Rattle.std.proofs.Common.{sym, subst}
use Rattle.tc_store.specs.Disk.{Disk, IsThere}
use Rattle.tc_store.specs.Memory.Disk.{disk_of}
use Rattle.tc_store.proofs.Memory.FileLemmas.{absent_slot}
use Rattle.tc_store.proofs.Memory.StepLemmas.{same_disk, made_step}
use Rattle.tc_store.proofs.mem.store.MemStoreStore.fresh.Goals as goal

pub make_slot-requires : goal.make_slot-requires
make_slot-requires c =
    let parts = c.make_room.ensures.parts in
    let same = same_disk c.args.self.now.files.items c.make_room.new.self.files.items c.args.self.now.slots.items c.make_room.new.self.slots.items parts.files parts.slots in
    absent_slot c.make_room.new.self.files.items c.make_room.new.self.slots.items c.args.name
    (subst (λ (disk : Disk). IsThere (disk c.args.name) → ⊥) (sym same) c.requires)

pub returns-clause-made : goal.returns-clause-made
returns-clause-made c =
    let parts = c.make_room.ensures.parts in
    let same = same_disk c.args.self.now.files.items c.make_room.new.self.files.items c.args.self.now.slots.items c.make_room.new.self.slots.items parts.files parts.slots in
    made_step (disk_of c.args.self.now.files.items c.args.self.now.slots.items) (disk_of c.make_room.new.self.files.items c.make_room.new.self.slots.items) _
    c.args.self.now.past.items c.make_room.new.self.past.items _ c.args.name c.in_ok-one.one same
    (c.in_ok-one.ensures.puts.puts c.make_room.new.self.files.items)
    (c.in_ok-one.ensures.was c.make_room.new.self.files.items (subst (λ (disk : Disk). IsThere (disk c.args.name) → ⊥) (sym same) c.requires))
    parts.past c.push_in_room.ensures.items
