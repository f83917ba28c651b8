use Rattle.std.proofs.Common.{subst}
use Rattle.tc_compact.specs.Meant.{IsRecordUnder}
use Rattle.tc_model.specs.Document.{Document}
use Rattle.tc_record.specs.Borrowed.{Record}
use Rattle.tc_query.specs.Readers.{hops_in}
use Rattle.tc_query.proofs.known.Known.lead.Goals as goal

pub returns-clause-found : goal.returns-clause-found
returns-clause-found c = subst (λ (r : Record). (d : Document) × IsRecordUnder c.args.names.now d r.bytes) c.again.ensures (c.spells_document.ensures.found c.if-not-spells_document.false)

pub returns-clause-knows : goal.returns-clause-knows
returns-clause-knows c =
    let hops = hops_in c.args.hops.now in
    c.keep.ensures c.args.names.now hops (returns-clause-found c) c.lead_in-lead.ensures (c.lead_like.ensures.knows hops c.requires.knows)
