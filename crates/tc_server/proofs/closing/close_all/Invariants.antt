use Rattle.std.proofs.Common.{◌≡◌, ◌≤◌, ◌+◌, true, All, length, vec_capacity, vec_len}
use Rattle.std.specs.Prelude.{is_some}
use Rattle.tc_work.specs.Moving.{eyes}
use Rattle.tc_work.specs.declared.finishing.Finished.{Finished as finished}
use Rattle.tc_keeper.specs.Faults.{faults_in}
use Rattle.tc_server.specs.Kits.{IsClosed}
use Rattle.tc_server.proofs.CloseLoops.{Closing}
use Rattle.tc_server.proofs.closing.close_all.Given as goal

-- so many engines were closed
abbrev pub invariant-loop : goal.invariant-loop
invariant-loop g l = record {
  closing : Closing (λ e (f : finished _ _ _ _). IsClosed (eyes g.S.Store.history g.S.Device.Device.history g.S.Frozen.Frozen.content g.S.Device.Device.name
      g.S.Frozen.Frozen.size g.S.Watch.Watch.counts) g.S.Device.Device.size e f.outcome (g.S.Store.history f.kit.store) (faults_in g.S.Watch.Watch.counts f.kit))
      (λ (f : finished _ _ _ _). f.kit) (λ (f : finished _ _ _ _). f.outcome) l.initial.engines l.initial.kits.items l.engines l.kits.items l.fault;
  left : length l.engines + l.counter ≡ length l.initial.engines;
  readers : All (λ e. is_some e.engine.part.reader ≡ true) l.engines;
  few : length l.engines ≤ 16;
  room : length l.engines + vec_len l.kits ≤ vec_capacity l.kits;
}
