use Rattle.tc_store.proofs.Memory.FileLemmas.{map_ok}
use Rattle.tc_store.proofs.Memory.RemainsLemmas.{home_left}
use Rattle.tc_store.proofs.mem.remains.held_image.Goals as goal

pub returns-in-Home : goal.returns-in-Home
returns-in-Home c = rw c.in-Home.is (map_ok _ _ c.device_image.result (λ left. home_left c.in-Home.device _ _ c.deref-in-Home.ensures.value) c.device_image.ensures)
