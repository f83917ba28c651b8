use Rattle.std.proofs.Common.{◌∙◌, [], ap}
use Rattle.tc_path.specs.Leads.{kinds_in, lead_from as led_from}
use Rattle.tc_path.proofs.TrailSteps.{IsBehindTag}
use Rattle.tc_path.proofs.LeadSteps.{tree_some, tree_taken}
use Rattle.tc_path.proofs.leading.lead_of.Goals as goal

pub returns-in-None : goal.returns-in-None
returns-in-None c = λ n same. tree_some n c.of-trail.result (c.of-trail.ensures.trail n same) c.in-None.ensures.end

pub returns-in-Some : goal.returns-in-Some
returns-in-Some c = λ n same.
    let step : IsBehindTag c.of-trail.result c.in-Some.tag c.tag.new.self = record { taken = c.in-Some.ensures.taken; slots = c.tag.ensures.slots; texts = c.tag.ensures.texts; fixed = c.tag.ensures.fixed } in
    let led = c.lead_from.ensures n [] (tree_taken n c.of-trail.result c.in-Some.tag c.tag.new.self (c.of-trail.ensures.trail n same) step) in
    led ∙ ap (λ x. led_from c.args.hops.now (kinds_in n) x c.tag.new.self.fixed) (c.tag.ensures.texts ∙ c.of-trail.ensures.texts) ∙ ap (led_from c.args.hops.now (kinds_in n) 0) (c.tag.ensures.fixed ∙ c.of-trail.ensures.fixed)
