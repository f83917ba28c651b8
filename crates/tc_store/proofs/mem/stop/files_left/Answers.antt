use Rattle.std.proofs.Common.{arith}
use Rattle.tc_store.specs.declared.mem.entry.MemFile.{MemFile}
use Rattle.tc_store.specs.declared.mem.entry.Slot.{Slot}
use Rattle.tc_store.specs.Memory.Remains.{picture_of}
use Rattle.tc_store.proofs.Memory.PictureLemmas.{whole_picture, decided_more}
use Rattle.tc_store.proofs.mem.stop.files_left.Goals as goal

pub returns : goal.returns
returns c =
    whole_picture c.loop-file.decided.items c.args.files.now c.args.slots.now (picture_of c.loop-file.left.items) c.loop-file.invariant.some
    c.loop-file.invariant.slots (λ k d within. c.loop-file.invariant.files k d (omega arith))

pub loop-slot-preserved : goal.loop-slot-preserved
loop-slot-preserved c = record {
  some = c.in_ok-leave_name.ensures.some;
  slots = decided_more (λ (slot : Slot). slot.name) c.leave_name.new.decided.items c.args.slots.now c.loop-slot.slot-index c.slot-item.result c.loop-slot-test.true c.slot-item.is
      (λ k d before. c.in_ok-leave_name.ensures.kept _ (c.loop-slot.invariant.slots k d before)) c.in_ok-leave_name.ensures.listed;
}

pub loop-file-preserved : goal.loop-file-preserved
loop-file-preserved c = record {
  some = c.in_ok-leave_name-2.ensures.some;
  slots = λ k d within. c.in_ok-leave_name-2.ensures.kept _ (c.loop-file.invariant.slots k d within);
  files = decided_more (λ (file : MemFile). file.name) c.leave_name-in-loop-file.new.decided.items c.args.files.now c.loop-file.file-index c.file-item.result c.loop-file-test.true c.file-item.is
      (λ k d before. c.in_ok-leave_name-2.ensures.kept _ (c.loop-file.invariant.files k d before)) c.in_ok-leave_name-2.ensures.listed;
}
