use Rattle.tc_store.proofs.Memory.PictureLemmas.{files_at_rest}
use Rattle.tc_store.proofs.mem.store.MemStore.with.Goals as goal

pub returns-clause-at_rest : goal.returns-clause-at_rest
returns-clause-at_rest c = rw c.new.ensures.items (files_at_rest c.args.files.items)
