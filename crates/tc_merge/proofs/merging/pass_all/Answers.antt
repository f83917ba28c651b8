use Rattle.std.proofs.Common.{◌≡◌, ◌∙◌, ◌<◌, ◌+◌, ◌++◌, Some, length, map, take, drop, set, slice_get, sym, ap, subst, arith}
use Rattle.std.proofs.lemmas.Option.{slice_get-get_or}
use Rattle.std.proofs.lemmas.List.{length-take-le, take_more_set}
use Rattle.tc_merge.specs.Inputs.{passed, IsNextOf, next_in}
use Rattle.tc_merge.proofs.SetBack.{length_step, map_step}
use Rattle.tc_merge.proofs.merging.pass_all.Goals as goal

pub loop-input-preserved : goal.loop-input-preserved
loop-input-preserved g c =
    let l = c.loop-input in
    let at = l.input-index in
    let item = c.input-item.result in
    let all = c.args.inputs.now in
    let inside : at < length l.inputs = subst (λ n. at < n) (sym (ap length l.invariant.passed ∙ length_step (passed c.args.key) all at)) c.loop-input-test.true in
    let here : slice_get l.inputs at ≡ Some item = slice_get-get_or l.inputs at item inside ∙ ap Some (sym c.input-item.is) in
    record {
      passed = ap (set l.inputs at) c.pass.ensures
          ∙ ap (λ i. set l.inputs at (passed c.args.key i)) (sym c.input-item.is)
          ∙ subst (λ xs. set xs at (passed c.args.key item) ≡ map (passed c.args.key) (take (at + 1) all) ++ drop (at + 1) all) (sym l.invariant.passed)
          (map_step (passed c.args.key) all at item (subst (λ xs. slice_get xs at ≡ Some item) l.invariant.passed here));
      next = subst (λ xs. IsNextOf xs (next_in c.newer_of-least.result)) (sym (take_more_set l.inputs at c.pass.new.self inside))
          (c.newer_of-least.ensures (take at l.inputs) (length-take-le at l.inputs (omega (arith, inside)) ∙ sym l.invariant.place) l.invariant.next);
      place = ap (λ n. n + 1) l.invariant.place;
    }
