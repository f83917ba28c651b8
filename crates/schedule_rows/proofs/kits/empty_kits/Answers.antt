use Rattle.std.proofs.Common.{All, subst, sym}
use Rattle.std.proofs.lemmas.List.Elements.{All-push}
use Rattle.tc_store.specs.Disk.{IsAtRest}
use Rattle.tc_store.specs.Memory.Shelf.{MemKit}
use Rattle.tc_store.specs.Memory.Store.{store_disks}
use Rattle.tc_store.specs.Moments.{IfTold}
use Rattle.schedule_rows.proofs.kits.empty_kits.Goals as goal

abbrev rests : MemKit → Type 0
rests kit = IfTold (store_disks kit.store) IsAtRest

pub loop-preserved : goal.loop-preserved
loop-preserved c = subst (All rests) (sym c.in_ok-push.ensures.items) (All-push rests c.loop.kits.items c.empty_kit.result c.loop.invariant c.empty_kit.ensures)
