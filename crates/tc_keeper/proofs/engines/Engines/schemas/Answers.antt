use Rattle.std.proofs.Common.{◌∙◌, ap, length, map}
use Rattle.tc_part_model.specs.PartState.{told}
use Rattle.tc_work.specs.Moving.{eyes}
use Rattle.tc_keeper.specs.SchemaTexts.{IsSchemaText}
use Rattle.tc_keeper.specs.WithJobs.{with_jobs}
use Rattle.tc_keeper.specs.declared.seat.Seat.{Seat}
use Rattle.tc_keeper.proofs.JobsBeside.{staffed-many}
use Rattle.tc_keeper.proofs.SchemasShown.{texts_of_seats, texts_of_world}
use Rattle.tc_keeper.proofs.engines.Engines.schemas.Goals as goal

pub returns-clause-each : goal.returns-clause-each
returns-clause-each g c =
    texts_of_seats c.schema_of_each.result (λ (s : Seat g.row.S.Denot g.row.P.Denot g.row.S-Watch.Denot g.row.S-Device.Denot g.row.S-Frozen.Denot). s.engine)
    (IsSchemaText (told g.S.Store.history g.S.Device.Device.history g.S.Frozen.Frozen.content) g.S.Frozen.Frozen.content g.S.Device.Device.size) c.deref.result.now
    c.self.inside.running.items c.args.self.now
    (ap (λ xs. length (map (λ (s : Seat g.row.S.Denot g.row.P.Denot g.row.S-Watch.Denot g.row.S-Device.Denot g.row.S-Frozen.Denot). s.engine) xs))
    c.deref.ensures.value ∙ staffed-many (eyes g.S.Store.history g.S.Device.Device.history g.S.Frozen.Frozen.content g.S.Device.Device.name g.S.Frozen.Frozen.size
    g.S.Watch.Watch.counts) (map (λ (s : Seat g.row.S.Denot g.row.P.Denot g.row.S-Watch.Denot g.row.S-Device.Denot g.row.S-Frozen.Denot). s.engine)
    c.self.inside.seats.items) c.self.inside.running.items c.self.invariant)
    (ap (λ xs. with_jobs (map (λ (s : Seat g.row.S.Denot g.row.P.Denot g.row.S-Watch.Denot g.row.S-Device.Denot g.row.S-Frozen.Denot). s.engine) xs) c.self.inside.running.items) c.deref.ensures.value ∙ c.self.view_is) c.schema_of_each.ensures

pub returns-clause-shown : goal.returns-clause-shown
returns-clause-shown g c = λ w h none short. texts_of_world c.schema_of_each.result
    (eyes g.S.Store.history g.S.Device.Device.history g.S.Frozen.Frozen.content g.S.Device.Device.name g.S.Frozen.Frozen.size g.S.Watch.Watch.counts)
    g.S.Device.Device.size w c.args.self.now none short h (returns-clause-each g c)
