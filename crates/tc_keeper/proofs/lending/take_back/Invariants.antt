use Rattle.std.proofs.Common.{◌≡◌, ◌+◌, ◌++◌, ℕ, false, List, Option, Some, length, IsTrue}
use Rattle.std.specs.Vec.Iter.{into_iter_items, into_iter_len}
use mathlib.Core.List.{IsPrefix}
use Rattle.tc_keeper.specs.Places.{IsAt}
use Rattle.tc_keeper.specs.Standing.{HoldWorld, KeepWorlds}
use Rattle.tc_keeper.specs.WithJobs.{with_reader}
use Rattle.tc_run_model.specs.World.{World}
use Rattle.tc_shown.specs.declared.scan.Pass.{Pass}
use Rattle.tc_view.specs.Places.{kept_by}
use Rattle.tc_work.specs.Moving.{eyes}
use Rattle.tc_keeper.proofs.Turns.{Beside, InTurn}
use Rattle.tc_keeper.proofs.lending.take_back.Given as goal

-- the watches of the first engines came back
abbrev pub invariant-loop-pass : goal.invariant-loop-pass
invariant-loop-pass g l = record {
  back : List (Pass _ _);
  counted : into_iter_len l.pass-iterator ≡ length (into_iter_items l.pass-iterator);
  passes : back ++ into_iter_items l.pass-iterator ≡ l.fn.passes.items;
  here : l.at ≡ length back;
  covers : IsTrue l.covered → Beside (λ p s pass. (s.failed ≡ false) × IsPrefix (kept_by pass.lens).history s.history) l.shown back;
  home : InTurn (λ p old new. IsAt p l.fn.passes.items (λ pass. new ≡ with_reader (Some pass.watch) old)) l.fn.engines l.engines l.at;
  held : (only : Option ℕ) (w : World) → HoldWorld (eyes g.S.Store.history g.S.Device.Device.history g.S.Frozen.Frozen.content g.S.Device.Device.name
      g.S.Frozen.Frozen.size g.S.Watch.Watch.counts) only l.fn.engines w
      → HoldWorld (eyes g.S.Store.history g.S.Device.Device.history g.S.Frozen.Frozen.content g.S.Device.Device.name g.S.Frozen.Frozen.size
      g.S.Watch.Watch.counts) only l.engines w;
  kept : (only : Option ℕ) (w v : World) → KeepWorlds (eyes g.S.Store.history g.S.Device.Device.history g.S.Frozen.Frozen.content g.S.Device.Device.name
      g.S.Frozen.Frozen.size g.S.Watch.Watch.counts) only l.fn.engines w v
      → KeepWorlds (eyes g.S.Store.history g.S.Device.Device.history g.S.Frozen.Frozen.content g.S.Device.Device.name g.S.Frozen.Frozen.size
      g.S.Watch.Watch.counts) only l.engines w v;
}
