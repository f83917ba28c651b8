use Rattle.std.proofs.Common.{◌∙◌}
use Rattle.tc_memory.specs.Meaning.{kept_of}
use Rattle.tc_model.proofs.KeyedMaps.{is_some-lookup}
use Rattle.tc_memory.proofs.memtable.Memtable.has.Goals as goal

pub returns : goal.returns
returns c = record { found = rw (← c.self.view_is) (c.contains_key.ensures ∙ is_some-lookup kept_of c.args.key c.self.inside.slots.entries) }
