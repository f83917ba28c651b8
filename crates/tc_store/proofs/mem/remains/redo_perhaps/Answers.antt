use Rattle.tc_store.proofs.Memory.RemainsLemmas.{map_on_ok, lays_nothing, written_image, tried_image}
use Rattle.tc_store.proofs.mem.remains.redo_perhaps.Goals as goal

pub returns-then-choose-eq0 : goal.returns-then-choose-eq0
returns-then-choose-eq0 c = rw c.in-Tried.is (tried_image c.in-Tried.at c.in-Tried.count _ _ (lays_nothing c.in-Tried.at c.in-Tried.count _))

pub returns-in-Written : goal.returns-in-Written
returns-in-Written c = rw c.in-Written.is (map_on_ok c.write_perhaps.result (written_image c.in-Written.at _ _ _ _ c.deref.ensures.value) c.write_perhaps.ensures)

pub returns-else-choose-eq0 : goal.returns-else-choose-eq0
returns-else-choose-eq0 c = rw c.in-Tried.is (map_on_ok c.spoil.result (tried_image c.in-Tried.at c.in-Tried.count _ _) c.spoil.ensures)
