use Rattle.std.proofs.Common.{◌≡◌, ap, refl}
use Rattle.std.specs.Prelude.{Some, None}
use Rattle.tc_model.specs.Keyed.{value_of}
use Rattle.tc_memory.specs.Meaning.{kept_of, table_of}
use Rattle.tc_memory.proofs.TableLemmas.{kept_of-lookup, lawful_found, lawful_lent}
use Rattle.tc_memory.proofs.memtable.Memtable.get.Goals as goal

pub returns-in-Some : goal.returns-in-Some
returns-in-Some c =
    let es = c.self.inside.slots.entries in
    let kept = kept_of c.in-Some.slot.now in
    let found : value_of c.args.key (table_of es) ≡ Some kept = kept_of-lookup c.args.key (Some c.in-Some.slot.now) es c.in-Some.ensures.value in
    record {
      held = rw (← c.self.view_is, found) (ap Some c.lend.ensures);
      lawful = lawful_lent c.lend.result kept c.lend.ensures (lawful_found c.args.key (table_of es) kept c.self.invariant found);
    }

pub returns-in-None : goal.returns-in-None
returns-in-None c = rw (← c.self.view_is, kept_of-lookup c.args.key None c.self.inside.slots.entries c.in-None.ensures.value) (record { held = refl; lawful = tt })
