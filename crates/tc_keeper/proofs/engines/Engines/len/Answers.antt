use Rattle.std.proofs.Common.{◌∙◌}
use Rattle.tc_work.specs.Moving.{eyes}
use Rattle.tc_keeper.specs.declared.seat.Seat.{Seat}
use Rattle.tc_keeper.proofs.JobsBeside.{seats_many}
use Rattle.tc_keeper.proofs.engines.Engines.len.Goals as goal

pub returns : goal.returns
returns g c = c.len.ensures ∙ c.self.inside.seats.ok.0 ∙ seats_many
    (eyes g.S.Store.history g.S.Device.Device.history g.S.Frozen.Frozen.content g.S.Device.Device.name g.S.Frozen.Frozen.size g.S.Watch.Watch.counts)
    (λ (s : Seat g.row.S.Denot g.row.P.Denot g.row.S-Watch.Denot g.row.S-Device.Denot g.row.S-Frozen.Denot). s.engine) c.self.inside.seats.items
    c.self.inside.running.items c.args.self.now c.self.invariant c.self.view_is
