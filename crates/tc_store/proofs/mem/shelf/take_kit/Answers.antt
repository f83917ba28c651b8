use Rattle.std.proofs.lemmas.List.Elements.{All-set}
use Rattle.tc_store.specs.Disk.{IsAtRest}
use Rattle.tc_store.specs.Memory.Shelf.{MemKit}
use Rattle.tc_store.specs.Memory.Store.{store_disks}
use Rattle.tc_store.specs.Moments.{IfTold}
use Rattle.tc_store.proofs.mem.shelf.take_kit.Goals as goal

pub returns-clause-rest : goal.returns-clause-rest
returns-clause-rest c = All-set (λ (kit : MemKit). IfTold (store_disks kit.store) IsAtRest) c.args.kits.now.items c.args.place _ (rw c.replace.ensures.after c.empty_kit-empty.ensures) c.requires.rest
