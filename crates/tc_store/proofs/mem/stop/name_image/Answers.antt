use Rattle.std.proofs.Common.{◌∙◌, ap}
use Rattle.tc_store.specs.declared.mem.entry.Slot.{Slot}
use Rattle.tc_store.specs.Memory.Disk.{entry_of}
use Rattle.tc_store.proofs.Memory.SlotLemmas.{entry_at, read_held}
use Rattle.tc_store.proofs.Memory.FileLemmas.{map_ok, no_slot, file_entry-none, file_entry-first}
use Rattle.tc_store.proofs.Memory.RemainsLemmas.{file_left}
use Rattle.tc_store.proofs.mem.stop.name_image.Goals as goal

pub returns-in-Some : goal.returns-in-Some
returns-in-Some c =
    let first = c.in-Some.ensures.first in
    let slot = c.index-slots-at.result in
    let is = entry_at c.args.files.now c.args.slots.now c.args.name.now c.in-Some.at slot.held first (read_held c.args.slots.now c.in-Some.at slot first.within c.index-slots-at.is)
    ∙ ap (λ (read : Slot). entry_of read.held) c.index-slots-at.is in
    rw is c.held_image.ensures

pub returns-in-Some-file_of : goal.returns-in-Some-file_of
returns-in-Some-file_of c =
    let is = no_slot c.args.files.now c.args.slots.now c.args.name.now c.in-None.ensures.none
    ∙ file_entry-first c.args.files.now c.args.name.now c.in-Some-file_of.at c.index-files-at.result c.in-Some-file_of.ensures.first in
    map_ok _ _ c.copied.result (λ left copied. file_left _ _ _ _ is c.as_slice.ensures.same copied) c.copied.ensures

pub returns-in-None-file_of : goal.returns-in-None-file_of
returns-in-None-file_of c =
    let is = no_slot c.args.files.now c.args.slots.now c.args.name.now c.in-None.ensures.none ∙ file_entry-none c.args.files.now c.args.name.now c.in-None-file_of.ensures.none in
    rw is tt
