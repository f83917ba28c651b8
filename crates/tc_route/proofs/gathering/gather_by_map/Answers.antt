use Rattle.std.proofs.Common.{◌≡◌, ◌∙◌, ◌++◌, ap, sym, subst, map, append-nil}
use Rattle.std.specs.Prelude.{fold}
use Rattle.tc_model.specs.Keyed.{Keyed, Ascends, on_value}
use Rattle.tc_model.proofs.KeyedOrder.{sorted_nil}
use Rattle.tc_request_model.specs.Rendered.{Rendered}
use Rattle.tc_command.specs.Replies.{rendered_of}
use Rattle.tc_route.specs.Gathered.{with_rendered}
use Rattle.tc_route.specs.Meaning.{rendered_in}
use Rattle.tc_route.proofs.OrderedMerge.{both_taken}
use Rattle.tc_route.proofs.RepliesPut.{Ascends-replies}
use Rattle.tc_route.proofs.gathering.gather_by_map.Goals as goal

pub take_in-requires-2 : goal.take_in-requires-2
take_in-requires-2 c =
    let none = subst (λ es. Ascends (map (on_value rendered_of) es)) (sym c.new-all.ensures.empty) sorted_nil in
    subst (λ (es : Keyed Rendered). Ascends es) (sym c.in_ok-take_in.ensures) (Ascends-replies (map (on_value rendered_of) c.new-all.result.entries) (rendered_in c.args.first.items) none)

pub returns : goal.returns
returns c =
    let l = c.loop-at in
    let entries = c.take_in-2.new.all.entries in
    let all_yielded : l.yielded ≡ entries =
    sym (append-nil l.yielded) ∙ ap (λ left. l.yielded ++ left) (sym c.in-None.ensures.steps.0) ∙ sym l.invariant.0 ∙ c.into_iter-at-iterator.ensures.into_iter_gives.0 in
    let one = c.in_ok-take_in.ensures ∙ ap (λ es. fold with_rendered (map (on_value rendered_of) es) (rendered_in c.args.first.items)) c.new-all.ensures.empty in
    l.invariant.1 ∙ ap (map (on_value rendered_of)) all_yielded
    ∙ both_taken c.take_in.new.all.entries entries c.args.first.items c.args.part.items c.requires one c.in_ok-take_in-2.ensures
