use Rattle.std.proofs.Common.{sym, subst}
use Rattle.tc_record.specs.Borrowed.{Spells}
use Rattle.tc_record.proofs.Holding.{held_spells, spelled_record}
use Rattle.tc_record.proofs.record_ref.RecordRef.bytes.Goals as goal

pub returns-clause-spells : goal.returns-clause-spells
returns-clause-spells c =
    let r = c.self.inside in
    subst Spells c.self.view_is (held_spells r.bytes.now r.sections c.self.invariant.0 c.self.invariant.1 (sym c.self.invariant.2))

pub returns-clause-is_record : goal.returns-clause-is_record
returns-clause-is_record c =
    let r = c.self.inside in
    spelled_record _ (held_spells r.bytes.now r.sections c.self.invariant.0 c.self.invariant.1 (sym c.self.invariant.2))
