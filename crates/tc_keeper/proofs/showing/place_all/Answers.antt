use Rattle.std.proofs.Common.{◌<◌, ◌≤◌, [], length, arith}
use Rattle.tc_keeper.specs.Places.{IsAt}
use Rattle.tc_keeper.specs.Showing.{IsPlacedOver, IsReadAsBefore}
use Rattle.tc_keeper.proofs.OwnShown.{failed_own, own_stays, StaysOf}
use Rattle.tc_keeper.proofs.PlaceLaws.{at_each-so}
use Rattle.tc_keeper.proofs.ShowLoops.{extended, failed_read, placed_over, placed_read, placed_stays, placed_there, stays_read, stays_there, PlacedBy}
use Rattle.tc_keeper.proofs.Turns.{turns_all, turns_end, turns_more, turns_none, turns_stay, turns_some}
use Rattle.tc_keeper.proofs.showing.place_all.Goals as goal
use Rattle.tc_keeper.proofs.showing.place_all.Goals.{then-active_len-eq0+in_ok-place, else-active_len-eq0}

pub loop-at-init : goal.loop-at-init
loop-at-init g c = turns_none (PlacedBy g.S.Frozen.Frozen.content c.args.engines.now) c.args.shown.now.items

pub place-requires-clause-names : goal.place-requires-clause-names
place-requires-clause-names g c κs within = extended [] c.list.result.now c.list.ensures.names

pub returns-clause-placed : goal.returns-clause-placed
returns-clause-placed g c =
    let l = c.loop-at in
    let ends : length l.shown.items ≤ l.at = let test = c.loop-at-test.false in let end = c.len-at-end.ensures in omega (arith, test, end, l.invariant.many, c.args.shown.now.ok.0) in
    at_each-so (PlacedBy g.S.Frozen.Frozen.content c.args.engines.now) (λ p old new. IsAt p c.args.engines.now (λ e. IsPlacedOver e old new)) 0 c.args.shown.now.items l.shown.items
    (λ q o n is. placed_over g.S.Frozen.Frozen.content c.args.engines.now q o n is) (turns_all (PlacedBy g.S.Frozen.Frozen.content c.args.engines.now) c.args.shown.now.items l.shown.items l.at l.invariant ends)

pub returns-clause-books : goal.returns-clause-books
returns-clause-books g c =
    let l = c.loop-at in
    turns_some (PlacedBy g.S.Frozen.Frozen.content c.args.engines.now) (λ p old new. IsReadAsBefore old new) c.args.shown.now.items l.shown.items l.at (λ q o n is. placed_read g.S.Frozen.Frozen.content c.args.engines.now q o n is) (λ q o. stays_read o) l.invariant

pub returns-in_err-place-clause-books : goal.returns-in_err-place-clause-books
returns-in_err-place-clause-books g c =
    let l = c.loop-at in
    let below : l.at < length l.shown.items = let test = c.loop-at-test.true in let end = c.len-at-end.ensures in omega (arith, test, end, l.invariant.many, c.args.shown.now.ok.0) in
    turns_end (PlacedBy g.S.Frozen.Frozen.content c.args.engines.now) (λ p old new. IsReadAsBefore old new) c.args.shown.now.items l.shown.items l.at c.index_mut.result.now c.place.new.self
    (λ q o n is. placed_read g.S.Frozen.Frozen.content c.args.engines.now q o n is) (λ q o. stays_read o) l.invariant below c.index_mut.ensures.value
    (failed_read c.index_mut.result.now c.place.new.self c.in_err-place.ensures.failed)

pub returns-clause-own : goal.returns-clause-own
returns-clause-own g c =
    let l = c.loop-at in
    let content = g.S.Frozen.Frozen.content in
    own_stays content c.args.engines.now c.args.shown.now.items l.shown.items (turns_some (PlacedBy content c.args.engines.now) (StaysOf content c.args.engines.now) c.args.shown.now.items l.shown.items l.at
    (λ q o n is. placed_stays content c.args.engines.now q o n is) (λ q o e is own. own) l.invariant)

pub returns-in_err-place-clause-own : goal.returns-in_err-place-clause-own
returns-in_err-place-clause-own g c =
    let l = c.loop-at in
    let content = g.S.Frozen.Frozen.content in
    let below : l.at < length l.shown.items = let test = c.loop-at-test.true in let end = c.len-at-end.ensures in omega (arith, test, end, l.invariant.many, c.args.shown.now.ok.0) in
    own_stays content c.args.engines.now c.args.shown.now.items _ (turns_end (PlacedBy content c.args.engines.now) (StaysOf content c.args.engines.now) c.args.shown.now.items l.shown.items l.at
    c.index_mut.result.now c.place.new.self (λ q o n is. placed_stays content c.args.engines.now q o n is) (λ q o e is own. own) l.invariant below c.index_mut.ensures.value
    (λ e is. failed_own content e.engine.part.number e.engine.part.count c.index_mut.result.now c.place.new.self c.in_err-place.ensures.failed))

pub loop-at-preserved : goal.loop-at-preserved
loop-at-preserved g c =
    let l = c.loop-at in
    let below : l.at < length l.shown.items = let test = c.loop-at-test.true in let end = c.len-at-end.ensures in omega (arith, test, end, l.invariant.many, c.args.shown.now.ok.0) in
    elim c.if-active_len-eq0.branch [
      | then-active_len-eq0+in_ok-place w ↦ rw w.shown-is (turns_more (PlacedBy g.S.Frozen.Frozen.content c.args.engines.now) c.args.shown.now.items l.shown.items l.at w.index_mut.result.now w.place.new.self l.invariant below w.index_mut.ensures.value
          (placed_there g.S.Frozen.Frozen.content c.args.engines.now l.at c.active_len.result w.list.result.now _ w.index_mut.result.now w.place.new.self
          (let none = w.if-active_len-eq0 in omega (arith, none)) c.active_len.ensures w.list.ensures.all w.sealed.ensures w.components_are_own.ensures w.in_ok-place.ensures.placed))
      | else-active_len-eq0 w ↦ rw w.shown-is (turns_stay (PlacedBy g.S.Frozen.Frozen.content c.args.engines.now) c.args.shown.now.items l.shown.items l.at l.invariant below
          (λ s. stays_there g.S.Frozen.Frozen.content c.args.engines.now l.at s (omega (arith, below, l.invariant.many, c.requires.as_many))))
    ]
