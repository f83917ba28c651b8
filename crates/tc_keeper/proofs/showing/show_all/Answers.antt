use Rattle.std.proofs.Common.{◌≡◌, ◌∙◌, ◌<◌, ◌≤◌, ◌+◌, ◌∷◌, [], length, arith, ap, sym, subst, length-append}
use Rattle.std.specs.Prelude.{None, Some, slice_get}
use Rattle.tc_keeper.specs.WithJobs.{WithJobs}
use Rattle.tc_view.specs.declared.happened.Happened.TheVariants.{Placed}
use Rattle.tc_part.specs.OwnComponents.{AreOwnComponents}
use Rattle.tc_keeper.specs.Showing.{IsShownFirst, ShowsOwnOf}
use Rattle.tc_keeper.proofs.OwnShown.{first_own}
use Rattle.tc_keeper.proofs.ShowLoops.{extended}
use Rattle.tc_keeper.proofs.Turns.{beside_all, beside_more, is_at-there, Beside}
use Rattle.tc_keeper.proofs.showing.show_all.Goals as goal

pub open-requires-clause-names : goal.open-requires-clause-names
open-requires-clause-names g c κs within = extended [] c.list.result.now c.list.ensures.names

pub loop-at-preserved : goal.loop-at-preserved
loop-at-preserved g c =
    let l = c.loop-at in
    let below : l.at < length c.args.engines.now = let test = c.loop-at-test.true in let end = c.len-at-end.ensures in omega (arith, test, end) in
    let more = sym c.push_reserved.ensures.items in
    let content = g.S.Frozen.Frozen.content in
    let here = λ (e : WithJobs _ _ _ _) (is : slice_get c.args.engines.now (length l.shown.items) ≡ Some e). subst (λ n. slice_get c.args.engines.now n ≡ Some e) l.invariant.many is in
    let first = λ (e : WithJobs _ _ _ _) (is : slice_get c.args.engines.now (length l.shown.items) ≡ Some e). c.in_ok-first.ensures.0 ∙ ap (λ list. Placed list None ∷ [])
    (is_at-there (λ (e : WithJobs _ _ _ _). c.list.result.now ≡ e.engine.part.list) l.at c.args.engines.now e c.list.ensures.all (here e is)) in
    record {
      shown = subst (Beside (λ p e s. IsShownFirst e s) c.args.engines.now) more (beside_more (λ p e s. IsShownFirst e s) c.args.engines.now l.shown.items c.in_ok-first.first (λ e is. first e is) l.invariant.shown);
      own = subst (Beside (ShowsOwnOf content) c.args.engines.now) more (beside_more (ShowsOwnOf content) c.args.engines.now l.shown.items c.in_ok-first.first
          (λ e is. first_own content e.engine.part.number e.engine.part.count c.in_ok-first.first e.engine.part.list (first e is)
          (is_at-there (λ (e : WithJobs _ _ _ _). AreOwnComponents content e.engine.part.number e.engine.part.count e.engine.part.list) l.at c.args.engines.now e c.components_are_own.ensures (here e is)))
          l.invariant.own);
      many = ap length c.push_reserved.ensures.items ∙ length-append l.shown.items (c.in_ok-first.first ∷ []) ∙ ap (λ n. n + 1) l.invariant.many;
      counted = c.push_reserved.ensures.len ∙ ap (λ n. n + 1) l.invariant.counted;
      within = omega (arith, below);
      room = omega (arith, c.push_reserved.ensures.capacity, l.invariant.room);
    }

pub returns-clause-shown : goal.returns-clause-shown
returns-clause-shown g c =
    let l = c.loop-at in
    let ends : length c.args.engines.now ≤ l.at = let test = c.loop-at-test.false in let end = c.len-at-end.ensures in omega (arith, test, end) in
    beside_all (λ p e s. IsShownFirst e s) c.args.engines.now l.shown.items (omega (arith, ends, l.invariant.within, l.invariant.many)) l.invariant.shown

pub returns-clause-own : goal.returns-clause-own
returns-clause-own g c =
    let l = c.loop-at in
    let ends : length c.args.engines.now ≤ l.at = let test = c.loop-at-test.false in let end = c.len-at-end.ensures in omega (arith, test, end) in
    beside_all (ShowsOwnOf g.S.Frozen.Frozen.content) c.args.engines.now l.shown.items (omega (arith, ends, l.invariant.within, l.invariant.many)) l.invariant.own
