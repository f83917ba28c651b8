use Rattle.std.proofs.Common.{◌≡◌, ◌∙◌, ◌∷◌, ap, sym, subst}
use Rattle.tc_model.specs.Keyed.{Ascends}
use Rattle.tc_run_model.proofs.UnitedPairs.{rest_ascends}
use Rattle.tc_route.specs.Meaning.{placed_of, rendered_in}
use Rattle.tc_route.specs.Merging.{merging}
use Rattle.tc_route.proofs.OrderedMerge.{AreFrom, moved, none_below}
use Rattle.tc_route.proofs.gathering.move_below.Goals as goal

pub loop-placed-preserved : goal.loop-placed-preserved
loop-placed-preserved c =
    let l = c.loop-placed in
    let x = c.in-Some.placed in
    let left = c.pop_below.new.left.items in
    let steps : l.left.items ≡ x ∷ left = c.in-Some.ensures.some.1 in (
      rest_ascends (placed_of x) (rendered_in left) (subst (λ xs. Ascends (rendered_in xs)) steps l.invariant.0),
      λ more from. ap (λ xs. merging xs left more) c.in_ok-push.ensures.items
          ∙ moved l.merged.items x left more c.args.limit c.in-Some.ensures.some.0 from
          ∙ ap (λ xs. merging l.merged.items xs more) (sym steps)
          ∙ l.invariant.1 more from,
    )

pub returns-clause-below : goal.returns-clause-below
returns-clause-below c =
    let l = c.loop-placed in
    subst (λ xs. AreFrom c.args.limit (rendered_in xs)) (sym c.in_default.ensures.none.0) (none_below c.args.limit l.left.items l.invariant.0 c.in_default.ensures.none.1)
