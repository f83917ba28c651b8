use Rattle.std.proofs.Common.{◌∙◌, sym, ap, subst}
use Rattle.tc_record.specs.Borrowed.{Record, Spells}
use Rattle.tc_record.specs.Sections.{are_below}
use Rattle.tc_record.specs.Record.{greatest}
use Rattle.tc_record.proofs.Spelled.{slots}
use Rattle.tc_record.proofs.Holding.{held_spells}
use Rattle.tc_record.proofs.Told.{greatest_held, names_below, numbers_told}
use Rattle.tc_record.proofs.record_ref.RecordRef.numbers_below.Goals as goal

pub returns-then-named : goal.returns-then-named
returns-then-named c =
    let r = c.self.inside in
    let spells = subst Spells c.self.view_is (held_spells r.bytes.now r.sections c.self.invariant.0 c.self.invariant.1 (sym c.self.invariant.2)) in
    (λ _. names_below c.args.limit c.args.self.now spells (sym c.named.ensures ∙ c.if-named.true), λ _. c.if-named.true)

pub returns-else-named : goal.returns-else-named
returns-else-named c =
    let r = c.self.inside in
    let spells = subst Spells c.self.view_is (held_spells r.bytes.now r.sections c.self.invariant.0 c.self.invariant.1 (sym c.self.invariant.2)) in
    let greatest_is = greatest_held r.bytes.now r.sections c.self.invariant.0 c.self.invariant.1 (sym c.self.invariant.2) c.self.invariant.3 in
    numbers_told c.args.limit c.member_count.result c.args.self.now c.slots_below.result spells (sym c.named.ensures ∙ c.if-named.false) c.member_count.ensures
    (c.slots_below.ensures ∙ ap (are_below c.args.limit c.member_count.result) greatest_is ∙ ap (λ (v : Record). are_below c.args.limit c.member_count.result (greatest (slots v.tokens))) c.self.view_is)
