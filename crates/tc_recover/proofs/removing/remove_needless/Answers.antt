use Rattle.std.proofs.Common.{rules, ◌≡◌, ◌∷◌, false, ap, length, subst, arith}
use Rattle.std.specs.Vec.Iter.{into_iter_items}
use Rattle.tc_recover.proofs.Removals.{all_needless, one_removed, some_removed, partly_result}
use Rattle.tc_recover.proofs.removing.remove_needless.Goals as goal

pub loop-taken-init : goal.loop-taken-init
loop-taken-init g c = record {
  many = search rules;
  needless = all_needless _ _ c.args.files.items _ _ _ _ c.into_iter-taken-iterator.ensures.into_iter_gives.0 c.new-logs.ensures.items;
}

pub loop-taken-preserved : goal.loop-taken-preserved
loop-taken-preserved g c =
    let at = c.loop-taken in
    let x = c.in-Some.taken in
    let steps : into_iter_items at.taken-iterator ≡ x ∷ into_iter_items c.next.new.self = c.in-Some.ensures.steps.0 in
    let short = ap length steps in
    record {
      many = omega (arith, at.invariant.many, c.in-Some.ensures.steps.1, short);
      needless = one_removed _ _ c.args.files.items _ _ _ x _ _ _ _ _ _ at.invariant.needless steps (subst (λ is. is ≡ false) c.is_log.ensures c.if-is_log.false) c.in_ok-remove.ensures.removed c.in_ok-remove.ensures.counted.faults c.in_ok-remove.ensures.counted.reads;
    }

pub returns-in_err-remove-clause-partly : goal.returns-in_err-remove-clause-partly
returns-in_err-remove-clause-partly g c =
    let at = c.loop-taken in
    let x = c.in-Some.taken in
    let steps : into_iter_items at.taken-iterator ≡ x ∷ into_iter_items c.next.new.self = c.in-Some.ensures.steps.0 in
    partly_result c.from_residual-in_err-remove.result _ _ _
    (some_removed _ _ c.args.files.items _ _ _ _ _ _
    (one_removed _ _ c.args.files.items _ _ _ x _ _ _ _ _ _ at.invariant.needless steps (subst (λ is. is ≡ false) c.is_log.ensures c.if-is_log.false) c.in_err-remove.ensures.removed c.in_err-remove.ensures.counted.faults c.in_err-remove.ensures.counted.reads))
