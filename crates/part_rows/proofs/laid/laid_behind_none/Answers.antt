use Rattle.std.proofs.Common.{List, [], subst, sym}
use Rattle.tc_component.specs.Loading.{ComponentState}
use Rattle.tc_part.specs.Openings.{told_opening}
use Rattle.tc_part_model.specs.Starting.{IsOpened}
use Rattle.tc_store.specs.declared.mem.frozen.MemFrozen.{MemFrozen}
use Rattle.tc_store.specs.Memory.Device.{device_files}
use Rattle.tc_store.specs.Memory.Frozen.{frozen_content}
use Rattle.tc_store.specs.Memory.Store.{store_disks}
use Rattle.part_rows.proofs.LaidLists.{behind_none}
use Rattle.part_rows.proofs.laid.laid_behind_none.Goals as goal

pub returns-clause-laid : goal.returns-clause-laid
returns-clause-laid c = behind_none c.args.log c.new-list.result c.new-list.ensures c.requires.sound c.requires.empty c.requires.name

pub returns-clause-opened : goal.returns-clause-opened
returns-clause-opened c = subst (λ (l : List (ComponentState MemFrozen)). IsOpened (told_opening store_disks device_files frozen_content 0 1 c.args.store c.args.log.device l) []) (sym c.new-list.ensures) c.requires.opened
