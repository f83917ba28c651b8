use Rattle.std.proofs.Common.{◌≡◌, ◌∙◌, ◌∷◌, ap, sym, subst, length, arith, rules}
use Rattle.std.specs.Vec.Iter.{into_iter_items}
use Rattle.tc_model.specs.Keyed.{Ascends}
use Rattle.tc_run_model.proofs.UnitedPairs.{behind_first, rest_ascends}
use Rattle.tc_route.specs.Meaning.{placed_of, rendered_in}
use Rattle.tc_route.specs.Merging.{merging}
use Rattle.tc_route.proofs.OrderedMerge.{from_first}
use Rattle.tc_route.proofs.gathering.merge.Goals as goal

pub loop-placed-preserved : goal.loop-placed-preserved
loop-placed-preserved c =
    let l = c.loop-placed in
    let x = c.in-Some.placed in
    let more = into_iter_items c.next.new.self in
    let steps : into_iter_items l.placed-iterator ≡ x ∷ more = c.in-Some.ensures.steps.0 in
    let ascends : Ascends (rendered_in (x ∷ more)) = subst (λ xs. Ascends (rendered_in xs)) steps l.invariant.more in
    record {
      counted = omega (arith, l.invariant.counted, c.in-Some.ensures.steps.1, ap length steps);
      left = c.in_ok-put_beside.ensures.ascends;
      more = rest_ascends (placed_of x) (rendered_in more) ascends;
      whole = c.in_ok-put_beside.ensures.put (rendered_in more) (behind_first (placed_of x) (rendered_in more) ascends)
          ∙ c.in_ok-move_below.ensures.moved (rendered_in (x ∷ more)) (from_first _ (placed_of x) (rendered_in more) (search rules) ascends)
          ∙ ap (λ xs. merging l.merged.items l.left.items (rendered_in xs)) (sym steps)
          ∙ l.invariant.whole;
    }
