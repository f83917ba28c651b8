use Rattle.std.proofs.Common.{◌≡◌, ◌≤◌, ◌+◌, ◌++◌, ℕ, None, Option, Some, length, map, vec_capacity, vec_len}
use Rattle.std.specs.Vec.Iter.{into_iter_items, into_iter_len}
use Rattle.tc_keeper.specs.Standing.{HoldWorld}
use Rattle.tc_keeper.specs.WithJobs.{with_reader}
use Rattle.tc_run_model.specs.World.{World}
use Rattle.tc_work.specs.Moving.{eyes}
use Rattle.tc_keeper.proofs.Turns.{Beside, InTurn}
use Rattle.tc_keeper.proofs.lending.lend_watches.Given as goal

-- the watches of the first engines were lent, each beside its lens
abbrev pub invariant-loop-lens : goal.invariant-loop-lens
invariant-loop-lens g l = record {
  counted : into_iter_len l.lens-iterator ≡ length (into_iter_items l.lens-iterator);
  lenses : map (λ pass. pass.lens) l.passes.items ++ into_iter_items l.lens-iterator ≡ l.fn.lenses.items;
  watches : Beside (λ p e pass. Some pass.watch ≡ e.engine.part.reader) l.fn.engines l.passes.items;
  out : InTurn (λ p old new. new ≡ with_reader None old) l.fn.engines l.engines (length l.passes.items);
  filled : vec_len l.passes ≡ length l.passes.items;
  room : length l.passes.items + length (into_iter_items l.lens-iterator) ≤ vec_capacity l.passes;
  many : length l.passes.items + length (into_iter_items l.lens-iterator) ≡ length l.fn.engines;
  held : (only : Option ℕ) (w : World) → HoldWorld (eyes g.S.Store.history g.S.Device.Device.history g.S.Frozen.Frozen.content g.S.Device.Device.name
      g.S.Frozen.Frozen.size g.S.Watch.Watch.counts) only l.fn.engines w
      → HoldWorld (eyes g.S.Store.history g.S.Device.Device.history g.S.Frozen.Frozen.content g.S.Device.Device.name g.S.Frozen.Frozen.size
      g.S.Watch.Watch.counts) only l.engines w;
}
