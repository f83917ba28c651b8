use Rattle.std.proofs.Common.{subst}
use Rattle.std.proofs.lemmas.Option.{IfSome_then}
use Rattle.tc_value.specs.Meaning.{tree_of}
use Rattle.tc_path.specs.Leads.{IsLead}
use Rattle.tc_path.proofs.Spots.{none_reached, one_reached}
use Rattle.tc_path.proofs.standing.reaches_at.Goals as goal

pub returns-in-Nowhere : goal.returns-in-Nowhere
returns-in-Nowhere c = λ names path hops d dictionary are lead under.
    let r = c.args.of.now in
    none_reached names path hops r d dictionary are c.bytes-bytes.ensures.spells c.requires under (tree_of c.args.doc.now) (subst (IsLead hops r.tokens) c.in-Nowhere.is lead)

pub returns-in-To : goal.returns-in-To
returns-in-To c = IfSome_then c.is_at.result c.is_at.ensures (λ same told names path hops d dictionary are lead under.
    let r = c.args.of.now in
    one_reached names path hops r d dictionary are c.bytes-bytes.ensures.spells c.requires under (tree_of c.args.doc.now) c.in-To.spot same (subst (IsLead hops r.tokens) c.in-To.is lead) (told names))
