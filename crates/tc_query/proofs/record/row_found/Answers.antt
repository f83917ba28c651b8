use Rattle.std.proofs.Common.{◌∙◌, map, sym, ap, subst}
use Rattle.tc_command.specs.Commands.{ask_of}
use Rattle.tc_compact.specs.Meant.{IsRecordUnder}
use Rattle.tc_compact.proofs.Compacts.{document_tokens}
use Rattle.tc_alike.proofs.Forms.{tree_unnamed}
use Rattle.tc_request_model.specs.Paths.{reached}
use Rattle.tc_request_model.specs.Rows.{row_of}
use Rattle.tc_request_model.specs.Rendered.{row_text}
use Rattle.tc_query.specs.Readers.{hops_in, AreHopsIf, KnowsUnder}
use Rattle.tc_query.proofs.KnownRecords.{lead_under}
use Rattle.tc_query.proofs.Spelled.{means_one, of_damage_then}
use Rattle.tc_query.proofs.record.row_found.Goals as goal

pub lead-requires-clause-numbered : goal.lead-requires-clause-numbered
lead-requires-clause-numbered g c = let w = c.requires.found in tree_unnamed c.args.found.now c.args.component.now.index.version w.tree c.bytes-bytes.ensures.spells w.told w.is_record

pub lead-requires-clause-knows : goal.lead-requires-clause-knows
lead-requires-clause-knows g c = subst (λ names. KnowsUnder names (hops_in c.args.hops.now) c.args.known.now) (sym c.names-names.ensures) c.requires.knows

pub row_led-requires-clause-numbered : goal.row_led-requires-clause-numbered
row_led-requires-clause-numbered g c = let w = c.requires.found in tree_unnamed c.args.found.now c.args.component.now.index.version w.tree c.bytes-bytes.ensures.spells w.told w.is_record

pub row_led-requires-clause-leads : goal.row_led-requires-clause-leads
row_led-requires-clause-leads g c =
    let w = c.requires.found in
    let r = c.args.found.now in
    let path = (ask_of c.args.ask.now).path in
    let hops = hops_in c.args.hops.now in
    let spells = c.bytes-bytes.ensures.spells in
    lead_under c.names-names.result.now path hops r c.in-Some.lead spells (tree_unnamed r c.args.component.now.index.version w.tree spells w.told w.is_record)
    (subst (λ names. AreHopsIf names path hops) (sym c.names-names.ensures) c.requires.hops) c.in-Some.ensures.lead

pub returns-in-None-clause-harmed : goal.returns-in-None-clause-harmed
returns-in-None-clause-harmed g c =
    let index = c.args.component.now.index in
    let bytes = c.args.found.now.bytes in
    of_damage_then c.damage_at.result _ _
    (λ file at kept is.
    let same = is.2 ∙ c.bytes-bytes.ensures.same in
    (is.0, is.1, same, λ d under. c.in-None.ensures.none d (subst (λ names. IsRecordUnder names d bytes) (sym c.names-names.ensures) (subst (IsRecordUnder index.names d) same under))))
    c.damage_at.ensures.harmed

pub returns-in_ok-row_led-in-Some-clause-row : goal.returns-in_ok-row_led-in-Some-clause-row
returns-in_ok-row_led-in-Some-clause-row g c = λ d one.
    let index = c.args.component.now.index in
    let ask = ask_of c.args.ask.now in
    let r = c.args.found.now in
    let spells = c.bytes-bytes.ensures.spells in
    let (e, is) = c.in-Some.ensures.found in
    let under = subst (λ names. IsRecordUnder names e r.bytes) c.names-names.ensures is in
    let w = c.requires.found in
    c.in_ok-row_led-in-Some.ensures e is
    ∙ ap (λ x. map row_text (row_of ask.equal_to c.args.key (reached ask.path x)))
    (means_one index.version index.names r.bytes r.named d e (λ x has. (document_tokens r x spells has).0) (λ n has. tree_unnamed r index.version n spells w.told has) under one)

pub returns-in_ok-row_led-in-Some-clause-document : goal.returns-in_ok-row_led-in-Some-clause-document
returns-in_ok-row_led-in-Some-clause-document g c =
    let r = c.args.found.now in
    let (e, is) = c.in-Some.ensures.found in
    (e, subst (λ names. IsRecordUnder names e r.bytes) c.names-names.ensures is, c.in_ok-row_led-in-Some.ensures e is)

pub returns-in_ok-row_led-in-Some-clause-knows : goal.returns-in_ok-row_led-in-Some-clause-knows
returns-in_ok-row_led-in-Some-clause-knows g c = subst (λ names. KnowsUnder names (hops_in c.args.hops.now) c.lead.new.self) c.names-names.ensures c.lead.ensures.knows
