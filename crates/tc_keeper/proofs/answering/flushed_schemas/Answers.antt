use Rattle.std.proofs.Common.{subst}
use Rattle.tc_work.specs.Moving.{eyes}
use Rattle.tc_keeper.specs.Partitions.{StandAt}
use Rattle.tc_keeper.specs.Sight.{sees}
use Rattle.tc_keeper.proofs.EngineWorlds.{err_always, held_keeps, ok_always, schema_flushes, schemas_replied, unflushed, unflushed_stands}
use Rattle.tc_keeper.proofs.answering.flushed_schemas.Goals as goal

pub returns-in-Ok-clause-shown : goal.returns-in-Ok-clause-shown
returns-in-Ok-clause-shown g c = λ known stands.
    schemas_replied (eyes g.S.Store.history g.S.Device.Device.history g.S.Frozen.Frozen.content g.S.Device.Device.name g.S.Frozen.Frozen.size g.S.Watch.Watch.counts)
    c.flush_all.new.engines known c.schemas_of.result (unflushed_stands
    (eyes g.S.Store.history g.S.Device.Device.history g.S.Frozen.Frozen.content g.S.Device.Device.name g.S.Frozen.Frozen.size g.S.Watch.Watch.counts)
    c.flush_all.new.engines known (c.in-Ok.ensures.held known stands)) c.schemas_of.ensures.json (λ w h. c.schemas_of.ensures.shown w h c.in-Ok.ensures.none_sealed c.in-Ok.ensures.emptied)

pub returns-in-Ok-clause-held : goal.returns-in-Ok-clause-held
returns-in-Ok-clause-held g c = λ known stands.
    ok_always c.schemas_of.result (subst (StandAt (eyes g.S.Store.history g.S.Device.Device.history g.S.Frozen.Frozen.content g.S.Device.Device.name g.S.Frozen.Frozen.size g.S.Watch.Watch.counts) c.flush_all.new.engines) (schema_flushes known) (c.in-Ok.ensures.held known stands))

pub returns-in-Ok-clause-failed : goal.returns-in-Ok-clause-failed
returns-in-Ok-clause-failed g c = λ only w h.
    err_always c.schemas_of.result (held_keeps (eyes g.S.Store.history g.S.Device.Device.history g.S.Frozen.Frozen.content g.S.Device.Device.name
    g.S.Frozen.Frozen.size g.S.Watch.Watch.counts) only c.flush_all.new.engines w
    (unflushed (eyes g.S.Store.history g.S.Device.Device.history g.S.Frozen.Frozen.content g.S.Device.Device.name g.S.Frozen.Frozen.size g.S.Watch.Watch.counts)
    only c.flush_all.new.engines w (c.in-Ok.ensures.held (sees only w) h)))
