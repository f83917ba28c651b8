use Rattle.std.proofs.Common.{[], ◌∷◌, ap, ◌∙◌}
use Rattle.std.proofs.Math.Path.{fun_ext}
use Rattle.tc_store.specs.Disk.{Disk}
use Rattle.tc_store.specs.Memory.Remains.{picture_of}
use Rattle.tc_store.proofs.Memory.PictureLemmas.{files_left_disk}
use Rattle.tc_store.proofs.mem.store.MemStore.stop.Goals as goal

pub returns-clause-left : goal.returns-clause-left
returns-clause-left c = record {
  picture = picture_of c.in_ok-left.left.items;
  lawful = rw (← c.deref.ensures.value, ← c.deref-2.ensures.value) c.in_ok-left.ensures;
  rests = c.with.ensures.files ∙ ap (λ (disk : Disk). disk ∷ []) (fun_ext λ name. files_left_disk c.in_ok-left.left.items name);
}
