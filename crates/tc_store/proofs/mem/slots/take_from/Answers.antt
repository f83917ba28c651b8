use Rattle.std.proofs.Common.{◌∙◌, subst}
use Rattle.tc_store.specs.Disk.{IsSettledHome}
use Rattle.tc_store.proofs.Memory.FileLemmas.{settled_slot, no_slot, at_slot, map_ok}
use Rattle.tc_store.proofs.mem.slots.take_from.Goals as goal

pub take_slot-requires-clause-settled : goal.take_slot-requires-clause-settled
take_slot-requires-clause-settled c =
    settled_slot c.args.files.now.items c.args.slots.now.items c.args.name c.in-Some.at (rw c.deref.ensures.value at c.in-Some.ensures.first) c.requires

pub take_file-requires-clause-settled : goal.take_file-requires-clause-settled
take_file-requires-clause-settled c =
    subst IsSettledHome (no_slot c.args.files.now.items c.args.slots.now.items c.args.name (rw c.deref.ensures.value at c.in-None.ensures.none)) c.requires

pub returns-in-Some-clause-puts : goal.returns-in-Some-clause-puts
returns-in-Some-clause-puts c = map_ok _ _ c.take_slot.result (λ bytes puts. puts.puts c.args.files.now.items) c.take_slot.ensures.puts

pub returns-in-Some-clause-was : goal.returns-in-Some-clause-was
returns-in-Some-clause-was c = map_ok _ _ c.take_slot.result
    (λ bytes was. at_slot c.args.files.now.items c.args.slots.now.items c.args.name c.in-Some.at bytes.value.items (rw c.deref.ensures.value at c.in-Some.ensures.first) was)
    c.take_slot.ensures.was

pub returns-in-None-clause-was : goal.returns-in-None-clause-was
returns-in-None-clause-was c = map_ok _ _ c.take_file.result
    (λ bytes was. no_slot c.args.files.now.items c.args.slots.now.items c.args.name (rw c.deref.ensures.value at c.in-None.ensures.none) ∙ was)
    c.take_file.ensures.was
