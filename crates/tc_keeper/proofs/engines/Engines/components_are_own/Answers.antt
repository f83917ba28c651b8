use Rattle.std.proofs.Common.{◌∙◌, map, arith, subst, sym}
use Rattle.std.proofs.lemmas.List.{length-map}
use Rattle.tc_part.specs.OwnComponents.{AreOwnComponents}
use Rattle.tc_work.specs.Moving.{eyes}
use Rattle.tc_keeper.specs.Places.{IsAt}
use Rattle.tc_keeper.specs.declared.seat.Seat.{Seat}
use Rattle.tc_keeper.proofs.JobsBeside.{seats_many, staffed-many}
use Rattle.tc_keeper.proofs.WatchesLent.{engine_placed}
use Rattle.tc_keeper.proofs.engines.Engines.components_are_own.Goals as goal

pub index-requires : goal.index-requires
index-requires g c =
    let many = seats_many (eyes g.S.Store.history g.S.Device.Device.history g.S.Frozen.Frozen.content g.S.Device.Device.name g.S.Frozen.Frozen.size
    g.S.Watch.Watch.counts) (λ (s : Seat g.row.S.Denot g.row.P.Denot g.row.S-Watch.Denot g.row.S-Device.Denot g.row.S-Frozen.Denot). s.engine)
    c.self.inside.seats.items c.self.inside.running.items c.args.self.now c.self.invariant c.self.view_is in
    omega (arith, c.requires.there, many, c.self.inside.seats.ok.0)

pub returns : goal.returns
returns g c =
    let many = seats_many (eyes g.S.Store.history g.S.Device.Device.history g.S.Frozen.Frozen.content g.S.Device.Device.name g.S.Frozen.Frozen.size
    g.S.Watch.Watch.counts) (λ (s : Seat g.row.S.Denot g.row.P.Denot g.row.S-Watch.Denot g.row.S-Device.Denot g.row.S-Frozen.Denot). s.engine)
    c.self.inside.seats.items c.self.inside.running.items c.args.self.now c.self.invariant c.self.view_is in
    subst (λ es. IsAt c.args.at es (λ e. AreOwnComponents g.S.Frozen.Frozen.content e.engine.part.number e.engine.part.count e.engine.part.list)) c.self.view_is
    (engine_placed (λ (s : Seat g.row.S.Denot g.row.P.Denot g.row.S-Watch.Denot g.row.S-Device.Denot g.row.S-Frozen.Denot). s.engine)
    (λ e. AreOwnComponents g.S.Frozen.Frozen.content e.part.number e.part.count e.part.list) c.args.at c.self.inside.seats.items c.self.inside.running.items c.index.result.now
    (sym (length-map c.self.inside.seats.items (λ (s : Seat g.row.S.Denot g.row.P.Denot g.row.S-Watch.Denot g.row.S-Device.Denot g.row.S-Frozen.Denot). s.engine))
    ∙ staffed-many (eyes g.S.Store.history g.S.Device.Device.history g.S.Frozen.Frozen.content g.S.Device.Device.name g.S.Frozen.Frozen.size
    g.S.Watch.Watch.counts) (map (λ (s : Seat g.row.S.Denot g.row.P.Denot g.row.S-Watch.Denot g.row.S-Device.Denot g.row.S-Frozen.Denot). s.engine)
    c.self.inside.seats.items) c.self.inside.running.items c.self.invariant) (omega (arith, c.requires.there, many)) c.index.ensures c.components_are_own.ensures)
