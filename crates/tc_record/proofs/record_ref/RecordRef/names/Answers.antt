use Rattle.std.proofs.Common.{◌≡◌, ◌∙◌, [], true, is_some, unwrap_or, IsTrue, sym, ap, subst, map}
use Rattle.tc_record.specs.Borrowed.{Record}
use Rattle.tc_record.specs.NameColumn.{names_cut}
use Rattle.tc_record.specs.Record.{labels}
use Rattle.tc_record.specs.Walk.{Columns, name}
use Rattle.tc_record.proofs.CutNames.{names_there}
use Rattle.tc_record.proofs.WholeTexts.{record_texts}
use Rattle.tc_record.proofs.record_ref.RecordRef.names.Goals as goal

pub known-columns-requires-clause-texts : goal.known-columns-requires-clause-texts
known-columns-requires-clause-texts c =
    let r = c.self.inside in
    (record_texts r.bytes.now r.sections c.self.invariant.0 c.self.invariant.1 (sym c.self.invariant.2)).texts

pub known-columns-requires-clause-names : goal.known-columns-requires-clause-names
known-columns-requires-clause-names c =
    let r = c.self.inside in
    (record_texts r.bytes.now r.sections c.self.invariant.0 c.self.invariant.1 (sym c.self.invariant.2)).names

pub of-requires : goal.of-requires
of-requires c =
    let r = c.self.inside in
    let named : r.sections.format.named ≡ true = ap (λ (v : Record). v.named) c.self.view_is ∙ c.requires in
    let there = names_there r.bytes.now r.sections c.self.invariant.0 c.self.invariant.1 (sym c.self.invariant.2) named in
    subst (λ (x : Columns). IsTrue (is_some (names_cut x.slots x.names))) (sym c.known-columns.ensures) (ap is_some there.cut)

pub returns : goal.returns
returns c =
    let r = c.self.inside in
    let named : r.sections.format.named ≡ true = ap (λ (v : Record). v.named) c.self.view_is ∙ c.requires in
    let there = names_there r.bytes.now r.sections c.self.invariant.0 c.self.invariant.1 (sym c.self.invariant.2) named in
    let lent : c.of.result ≡ there.names = c.of.ensures ∙ ap (λ (x : Columns). unwrap_or (names_cut x.slots x.names) []) c.known-columns.ensures ∙ ap (λ o. unwrap_or o []) there.cut in
    ap (λ (v : Record). labels v.tokens) (sym c.self.view_is) ∙ there.carried ∙ ap (map name) (sym lent)
