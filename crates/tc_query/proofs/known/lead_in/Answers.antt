use Rattle.std.proofs.Common.{◌∙◌, sym, ap, subst}
use Rattle.tc_path.specs.Leads.{kinds_in, lead_from}
use Rattle.tc_query.specs.Readers.{hops_in, LeadsTo}
use Rattle.tc_query.proofs.known.lead_in.Goals as goal

pub returns-in-Some : goal.returns-in-Some
returns-in-Some c = λ n tokens.
    subst (λ hops. LeadsTo (hops_in hops) n c.lead_of.result) (sym c.in-Some.is) (c.lead_of.ensures n tokens ∙ ap (λ hops. lead_from hops (kinds_in n) 0 0) c.as_slice.ensures.value)
