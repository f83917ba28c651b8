use Rattle.std.proofs.Common.{◌≡◌, ◌≤◌, ◌∙◌, ◌-◌, ℕ, List, [], ◌∷◌, length, get_or, take, drop, drop-cons, sym, ap, arith}
use Rattle.std.proofs.lemmas.List.{nil_from_length, take_rest}
use Rattle.tc_record.specs.Preorder.{members_preorder}
use Rattle.tc_path.specs.Leads.{kinds_in, lead_from}
use Rattle.tc_path.specs.declared.leading.Lead.TheVariants.{To}
use Rattle.tc_path.proofs.TrailSteps.{IsBehindTag, IsBehindNumber, members_done, members_next}
use Rattle.tc_path.proofs.LeadSteps.{members_lead, members_some, lead_here, lead_within, lead_nowhere, lead_behind, lead_found}
use Rattle.tc_path.proofs.leading.+leading.Goals as goal

pub lead_from-returns-in-empty : goal.lead_from-returns-in-empty
lead_from-returns-in-empty t c = λ n more is.
    let none : c.args.hops.now ≡ [] = nil_from_length c.args.hops.now (let below = c.in-empty.len_below in omega (arith, below)) in
    rw none (ap To c.spot.ensures ∙ lead_here n more c.args.tag c.args.trail.now is)

-- hops that are not empty, as they are cut
cut : (hops : List ℕ) → 1 ≤ length hops → get_or hops 0 0 ∷ take (length hops - 1) (drop 1 hops) ≡ hops
cut hops some = ap (λ rest. get_or hops 0 0 ∷ rest) (take_rest hops 1) ∙ sym (drop-cons hops 0 0 some)

pub lead_from-returns-then-tag-eq-OBJECT_TAG : goal.lead_from-returns-then-tag-eq-OBJECT_TAG
lead_from-returns-then-tag-eq-OBJECT_TAG t c = λ n more is.
    let led = lead_within _ _ more c.args.tag c.args.trail.now c.lead_among.result c.if-tag-eq-OBJECT_TAG.true c.lead_among.ensures n is in
    led ∙ ap (λ hops. lead_from hops (kinds_in n) c.args.trail.now.texts c.args.trail.now.fixed) (cut c.args.hops.now c.in-len1-up.len_at_least)

pub lead_from-returns-else-tag-eq-OBJECT_TAG : goal.lead_from-returns-else-tag-eq-OBJECT_TAG
lead_from-returns-else-tag-eq-OBJECT_TAG t c = λ n more is.
    let hops = c.args.hops.now in
    let led = lead_nowhere (get_or hops 0 0) (take (length hops - 1) (drop 1 hops)) more c.args.tag c.args.trail.now c.if-tag-eq-OBJECT_TAG.false n is in
    led ∙ ap (λ hops. lead_from hops (kinds_in n) c.args.trail.now.texts c.args.trail.now.fixed) (cut hops c.in-len1-up.len_at_least)

pub lead_among-returns-then-tag-eq-CLOSE_TAG : goal.lead_among-returns-then-tag-eq-CLOSE_TAG
lead_among-returns-then-tag-eq-CLOSE_TAG t c = λ ms more is.
    let left = c.loop-tag.invariant ms more is in
    let step : IsBehindTag c.loop-tag.trail c.in-Some.tag c.tag.new.self = record { taken = c.in-Some.ensures.taken; slots = c.tag.ensures.slots; texts = c.tag.ensures.texts; fixed = c.tag.ensures.fixed } in
    (members_done (members_lead c.args.hop c.args.rest.now) ms more c.args.trail.now c.loop-tag.trail c.in-Some.tag c.tag.new.self step left.0 left.1 c.if-tag-eq-CLOSE_TAG.true).1

pub lead_among-returns-then-number-hop : goal.lead_among-returns-then-number-hop
lead_among-returns-then-number-hop t c = λ ms more is.
    let left = c.loop-tag.invariant ms more is in
    let step : IsBehindTag c.loop-tag.trail c.in-Some.tag c.tag.new.self = record { taken = c.in-Some.ensures.taken; slots = c.tag.ensures.slots; texts = c.tag.ensures.texts; fixed = c.tag.ensures.fixed } in
    let next : IsBehindNumber c.tag.new.self c.number.result c.number.new.self = record { taken = c.number.ensures.taken; tags = c.number.ensures.tags; texts = c.number.ensures.texts; fixed = c.number.ensures.fixed } in
    lead_found c.args.hop c.args.rest.now ms more c.args.trail.now c.loop-tag.trail c.in-Some.tag c.tag.new.self step c.number.result c.number.new.self next c.if-tag-eq-CLOSE_TAG.false c.if-number-hop.true c.lead_from.result c.lead_from.ensures left.0 left.1

pub lead_among-loop-tag-preserved : goal.lead_among-loop-tag-preserved
lead_among-loop-tag-preserved t c = λ ms more is.
    let left = c.loop-tag.invariant ms more is in
    let step : IsBehindTag c.loop-tag.trail c.in-Some.tag c.tag.new.self = record { taken = c.in-Some.ensures.taken; slots = c.tag.ensures.slots; texts = c.tag.ensures.texts; fixed = c.tag.ensures.fixed } in
    let next : IsBehindNumber c.tag.new.self c.number.result c.number.new.self = record { taken = c.number.ensures.taken; tags = c.number.ensures.tags; texts = c.number.ensures.texts; fixed = c.number.ensures.fixed } in
    members_next (members_lead c.args.hop c.args.rest.now) ms more c.args.trail.now c.loop-tag.trail c.in-Some.tag c.tag.new.self step c.number.result c.number.new.self next c.if-tag-eq-CLOSE_TAG.false c.pass_value.new.trail c.pass_value.ensures.passes
    (lead_behind c.args.hop c.args.rest.now c.number.result c.if-number-hop.false) left.0 left.1

pub lead_among-returns : goal.lead_among-returns
lead_among-returns t c = λ ms more is.
    let left = c.loop-tag.invariant ms more is in
    members_some (members_preorder left.0) more c.loop-tag.trail left.1.left c.in_default.ensures.end
