use Rattle.std.proofs.Common.{◌∙◌, [], is_some, unwrap_or, IsTrue, sym, ap, subst}
use Rattle.tc_record.specs.Borrowed.{Record}
use Rattle.tc_record.proofs.KnownWalks.{tokens_again}
use Rattle.tc_record.proofs.WholeTexts.{record_texts}
use Rattle.tc_record.proofs.record_ref.RecordRef.cursor.Goals as goal

pub known-requires-clause-texts : goal.known-requires-clause-texts
known-requires-clause-texts c =
    let r = c.self.inside in
    (record_texts r.bytes.now r.sections c.self.invariant.0 c.self.invariant.1 (sym c.self.invariant.2)).texts

pub known-requires-clause-names : goal.known-requires-clause-names
known-requires-clause-names c =
    let r = c.self.inside in
    (record_texts r.bytes.now r.sections c.self.invariant.0 c.self.invariant.1 (sym c.self.invariant.2)).names

pub start-requires : goal.start-requires
start-requires c =
    let r = c.self.inside in
    subst (λ o. IsTrue (is_some o)) (sym (tokens_again r.sections c.in_object.result c.in_object.ensures.format (c.in_object.ensures.columns ∙ c.known.ensures) c.in_object.ensures.levels c.self.invariant.2)) c.self.invariant.2

pub returns : goal.returns
returns c =
    let r = c.self.inside in
    c.start.ensures ∙ ap (λ o. unwrap_or o []) (tokens_again r.sections c.in_object.result c.in_object.ensures.format (c.in_object.ensures.columns ∙ c.known.ensures) c.in_object.ensures.levels c.self.invariant.2)
    ∙ ap (λ (v : Record). v.tokens) c.self.view_is
