use Rattle.tc_memory.specs.Meaning.{kept_of}
use Rattle.tc_model.proofs.KeyedMaps.{map-remove_entry}
use Rattle.tc_memory.proofs.TableLemmas.{IsTable-without_key}
use Rattle.tc_memory.proofs.memtable.Memtable.delete.Goals as goal

pub invariant_of-self : goal.invariant_of-self
invariant_of-self c =
    rw (c.remove.ensures.entries, map-remove_entry kept_of c.args.key c.self.inside.slots.entries) (IsTable-without_key c.args.key _ c.self.invariant)

pub returns-clause-ok : goal.returns-clause-ok
returns-clause-ok c =
    rw (← c.if-is_below.ensures, ← c.self.view_is, c.remove.ensures.entries) (map-remove_entry kept_of c.args.key c.self.inside.slots.entries)
