use Rattle.std.proofs.Common.{◌≡◌, ◌∙◌, ◌<◌, ◌≤◌, ◌+◌, ◌∷◌, [], length, arith, ap, sym, subst, length-append}
use Rattle.std.specs.Prelude.{Some, slice_get, slice_index_or}
use Rattle.tc_shown.specs.Shown.{ShownState}
use Rattle.tc_keeper.proofs.KeeperCalls.{Lent}
use Rattle.tc_keeper.proofs.Turns.{beside_all, beside_more, set_same, there_is, Beside}
use Rattle.tc_keeper.proofs.lending.lend_lenses.Goals as goal

pub loop-at-preserved : goal.loop-at-preserved
loop-at-preserved g c =
    let l = c.loop-at in
    let one = c.index_mut.result.now in
    let below : l.at < length l.shown.items = let test = c.loop-at-test.true in let end = c.len-at-end.ensures in omega (arith, test, end, ap length l.invariant.same, c.args.shown.now.ok.0) in
    let here : slice_get c.args.shown.now.items l.at ≡ Some one = subst (λ xs. slice_get xs l.at ≡ Some one) l.invariant.same (there_is l.shown.items l.at one below c.index_mut.ensures.value) in
    record {
      same = set_same l.shown.items l.at c.lend.new.self (subst (λ (x : ShownState _ _). x ≡ slice_index_or l.shown.items l.at x) (sym c.lend.ensures.same) c.index_mut.ensures.value) ∙ l.invariant.same;
      lent = subst (Beside Lent c.args.shown.now.items) (sym c.in_ok-push.ensures.items)
          (beside_more Lent c.args.shown.now.items l.lenses.items c.in_ok-lens.lens
          (λ s is. let is_at : slice_get c.args.shown.now.items l.at ≡ Some s = subst (λ n. slice_get c.args.shown.now.items n ≡ Some s) l.invariant.many is in
          let same : one ≡ s = (cc) in subst (λ (s : ShownState _ _). Lent (length l.lenses.items) s c.in_ok-lens.lens) same
          (c.in_ok-lens.ensures.lens, c.in_ok-lens.ensures.all))
          l.invariant.lent);
      many = ap length c.in_ok-push.ensures.items ∙ length-append l.lenses.items (c.in_ok-lens.lens ∷ []) ∙ ap (λ n. n + 1) l.invariant.many;
      within = omega (arith, below, ap length l.invariant.same);
    }

pub returns-clause-lent : goal.returns-clause-lent
returns-clause-lent g c =
    let l = c.loop-at in
    let ends : length c.args.shown.now.items ≤ l.at = let test = c.loop-at-test.false in let end = c.len-at-end.ensures in omega (arith, test, end, c.args.shown.now.ok.0) in
    beside_all Lent c.args.shown.now.items l.lenses.items (omega (arith, ends, l.invariant.within, l.invariant.many)) l.invariant.lent
