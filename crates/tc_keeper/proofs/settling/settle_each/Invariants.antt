use Rattle.std.proofs.Common.{◌≡◌, length, map}
use Rattle.tc_work.specs.Moving.{eyes}
use Rattle.tc_keeper.specs.Moving.{Settles}
use Rattle.tc_keeper.specs.WithJobs.{with_jobs, AreStaffed}
use Rattle.tc_keeper.proofs.CallsInTurn.{Doing}
use Rattle.tc_keeper.proofs.settling.settle_each.Given as goal

abbrev pub invariant-loop-at : goal.invariant-loop-at
invariant-loop-at g l =
    Doing (Settles (eyes g.S.Store.history g.S.Device.Device.history g.S.Frozen.Frozen.content g.S.Device.Device.name g.S.Frozen.Frozen.size g.S.Watch.Watch.counts)
    g.S.Device.Device.size) (with_jobs (map (λ s. s.engine) l.fn.seats) l.fn.running) (with_jobs (map (λ s. s.engine) l.seats) l.running) l.at
    × AreStaffed (eyes g.S.Store.history g.S.Device.Device.history g.S.Frozen.Frozen.content g.S.Device.Device.name g.S.Frozen.Frozen.size g.S.Watch.Watch.counts)
    (map (λ s. s.engine) l.seats) l.running × (length l.seats ≡ length l.fn.seats) × (length l.running ≡ length l.fn.running)
    × (length l.fn.running ≡ length l.fn.seats)
