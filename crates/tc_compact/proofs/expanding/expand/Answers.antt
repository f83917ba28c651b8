use Rattle.std.proofs.Common.{◌≡◌, ◌∙◌, sym, ap, subst, inr}
use Rattle.std.proofs.lemmas.Bool.{both_ways}
use Rattle.tc_record.specs.Record.{IsRecordOf}
use Rattle.tc_record.specs.Borrowed.{Record}
use Rattle.tc_compact.specs.Compacted.{compacted, IsNumberedUnder}
use Rattle.tc_compact.specs.Meant.{IsRecordUnder}
use Rattle.tc_compact.proofs.Meanings.{has_room, expanded_is, expanded_found}
use Rattle.tc_compact.proofs.expanding.expand.Goals as goal

pub returns-in_default-clause-refused : goal.returns-in_default-clause-refused
returns-in_default-clause-refused c = λ refused d whole is under.
    c.in_default.ensures.none (inr (compacted c.args.names.now d, (under.0, (under.1.0, under.1.1.numbered))))

pub returns-then-named-clause-refused : goal.returns-then-named-clause-refused
returns-then-named-clause-refused c = λ refused d whole is under.
    let told = c.in-Some.ensures.numbered under.0 (compacted c.args.names.now d) under.1.0 under.1.1.numbered in
    both_ways c.in-Some.record.named told.1 (sym c.named.ensures ∙ c.if-named.true)

pub returns-then-not-spells_document-clause-refused : goal.returns-then-not-spells_document-clause-refused
returns-then-not-spells_document-clause-refused c = λ refused d whole is under.
    let names = c.args.names.now in
    let same : c.again.result.bytes ≡ c.args.bytes.now = ap (λ (r : Record). r.bytes) c.again.ensures ∙ c.in-Some.ensures.bytes in
    c.spells_document.ensures.none c.if-not-spells_document.true d (inr (whole, is, subst (IsNumberedUnder names d) (sym same) under))

pub with_names-requires-clause-room : goal.with_names-requires-clause-room
with_names-requires-clause-room c =
    let names = c.args.names.now in
    let r = c.in-Some.record in
    let one = c.spells_document.ensures.found c.if-not-spells_document.false in
    has_room names r one.0 c.in-Some.ensures.spells (sym c.named.ensures ∙ c.if-named.false) (subst (λ (q : Record). IsRecordUnder names one.0 q.bytes) c.again.ensures one.1)

pub returns-clause-found : goal.returns-clause-found
returns-clause-found c =
    let names = c.args.names.now in
    let r = c.in-Some.record in
    let one = c.spells_document.ensures.found c.if-not-spells_document.false in
    let made = expanded_found names r one.0 _ c.in-Some.ensures.spells (sym c.named.ensures ∙ c.if-named.false) (subst (λ (q : Record). IsRecordUnder names one.0 q.bytes) c.again.ensures one.1) c.in_ok-expanded.ensures in
    (made.0, subst (IsRecordOf made.0) (sym c.of-2.ensures.same) made.1, subst (IsNumberedUnder names made.0) c.in-Some.ensures.bytes made.2)

pub returns-clause-again : goal.returns-clause-again
returns-clause-again c = λ d whole is under.
    let names = c.args.names.now in
    c.of-2.ensures.same
    ∙ expanded_is names c.in-Some.record d whole _ c.in-Some.ensures.spells (sym c.named.ensures ∙ c.if-named.false) is (subst (IsNumberedUnder names d) (sym c.in-Some.ensures.bytes) under) c.in_ok-expanded.ensures
