use Rattle.tc_store.proofs.Memory.RemainsLemmas.{map_on_ok}
use Rattle.tc_store.specs.Memory.Disk.{disk_of}
use Rattle.tc_store.proofs.mem.stop.leave_name.Goals as goal

pub returns-clause-some : goal.returns-clause-some
returns-clause-some c = map_on_ok c.decide.result (λ grows. grows (disk_of c.args.files.now c.args.slots.now) c.in_ok-image.ensures c.requires) c.decide.ensures.some
