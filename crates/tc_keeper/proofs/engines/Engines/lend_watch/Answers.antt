use Rattle.std.proofs.Common.{◌≡◌, ◌∙◌, true, is_some, map, set, arith, subst, sym}
use Rattle.std.specs.Prelude.{None, Some}
use Rattle.std.proofs.lemmas.List.{length-map}
use Rattle.tc_work.specs.Moving.{eyes}
use Rattle.tc_keeper.specs.Places.{AtEach, IsAt}
use Rattle.tc_keeper.specs.WithJobs.{with_jobs, ReadsBy}
use Rattle.tc_keeper.specs.declared.seat.Seat.{Seat}
use Rattle.tc_keeper.proofs.JobsBeside.{seats_many, staffed-many}
use Rattle.tc_keeper.proofs.WatchesLent.{engine_placed, lent_held, lent_kept, lent_staffed, place_below, placed_engine, reader_put}
use Rattle.tc_keeper.proofs.engines.Engines.lend_watch.Given.{Over}
use Rattle.tc_keeper.proofs.engines.Engines.lend_watch.Goals as goal

pub index_mut-requires : goal.index_mut-requires
index_mut-requires g c =
    let many = seats_many (eyes g.S.Store.history g.S.Device.Device.history g.S.Frozen.Frozen.content g.S.Device.Device.name g.S.Frozen.Frozen.size
    g.S.Watch.Watch.counts) (λ (s : Seat g.row.S.Denot g.row.P.Denot g.row.S-Watch.Denot g.row.S-Device.Denot g.row.S-Frozen.Denot). s.engine)
    c.self.inside.seats.items c.self.inside.running.items c.args.self.now c.self.invariant c.self.view_is in
    let below = place_below (λ e. is_some e.engine.part.reader ≡ true) c.args.at c.args.self.now c.requires.home in
    omega (arith, below, many, c.self.inside.seats.ok.0)

pub lend_watch-requires-clause-home : goal.lend_watch-requires-clause-home
lend_watch-requires-clause-home g c κs within =
    placed_engine (λ (s : Seat g.row.S.Denot g.row.P.Denot g.row.S-Watch.Denot g.row.S-Device.Denot g.row.S-Frozen.Denot). s.engine) (λ e. is_some e.part.reader ≡ true) c.args.at c.self.inside.seats.items c.self.inside.running.items c.index_mut.result.now c.index_mut.ensures.value
    (subst (λ es. IsAt c.args.at es (λ e. is_some e.engine.part.reader ≡ true)) (sym c.self.view_is) c.requires.home)

pub invariant_of-self : goal.invariant_of-self
invariant_of-self g c = lent_staffed None (eyes g.S.Store.history g.S.Device.Device.history g.S.Frozen.Frozen.content g.S.Device.Device.name g.S.Frozen.Frozen.size
    g.S.Watch.Watch.counts) (λ (s : Seat g.row.S.Denot g.row.P.Denot g.row.S-Watch.Denot g.row.S-Device.Denot g.row.S-Frozen.Denot). s.engine) c.args.at
    c.self.inside.seats.items c.self.inside.running.items c.index_mut.result.now (record c.index_mut.result.now { engine = c.lend_watch.new.self })
    c.index_mut.ensures.value c.lend_watch.ensures.out c.lend_watch.ensures.jobs c.self.invariant

pub returns-clause-lent : goal.returns-clause-lent
returns-clause-lent g c =
    let many = seats_many (eyes g.S.Store.history g.S.Device.Device.history g.S.Frozen.Frozen.content g.S.Device.Device.name g.S.Frozen.Frozen.size
    g.S.Watch.Watch.counts) (λ (s : Seat g.row.S.Denot g.row.P.Denot g.row.S-Watch.Denot g.row.S-Device.Denot g.row.S-Frozen.Denot). s.engine)
    c.self.inside.seats.items c.self.inside.running.items c.args.self.now c.self.invariant c.self.view_is in
    let below = place_below (λ e. is_some e.engine.part.reader ≡ true) c.args.at c.args.self.now c.requires.home in
    subst (λ es. IsAt c.args.at es (λ e. Some c.lend_watch.result ≡ e.engine.part.reader)) c.self.view_is
    (engine_placed (λ (s : Seat g.row.S.Denot g.row.P.Denot g.row.S-Watch.Denot g.row.S-Device.Denot g.row.S-Frozen.Denot). s.engine)
    (λ e. Some c.lend_watch.result ≡ e.part.reader) c.args.at c.self.inside.seats.items c.self.inside.running.items c.index_mut.result.now
    (sym (length-map c.self.inside.seats.items (λ (s : Seat g.row.S.Denot g.row.P.Denot g.row.S-Watch.Denot g.row.S-Device.Denot g.row.S-Frozen.Denot). s.engine))
    ∙ staffed-many (eyes g.S.Store.history g.S.Device.Device.history g.S.Frozen.Frozen.content g.S.Device.Device.name g.S.Frozen.Frozen.size
    g.S.Watch.Watch.counts) (map (λ (s : Seat g.row.S.Denot g.row.P.Denot g.row.S-Watch.Denot g.row.S-Device.Denot g.row.S-Frozen.Denot). s.engine)
    c.self.inside.seats.items) c.self.inside.running.items c.self.invariant) (omega (arith, below, many)) c.index_mut.ensures.value c.lend_watch.ensures.lent)

reads : (g : Over) (c : goal.After-self-1 g) → AtEach (ReadsBy c.args.at None) 0 c.args.self.now
    (with_jobs (map (λ (s : Seat g.row.S.Denot g.row.P.Denot g.row.S-Watch.Denot g.row.S-Device.Denot g.row.S-Frozen.Denot). s.engine)
    (set c.self.inside.seats.items c.args.at (record c.index_mut.result.now { engine = c.lend_watch.new.self }))) c.self.inside.running.items)
reads g c =
    let many = seats_many (eyes g.S.Store.history g.S.Device.Device.history g.S.Frozen.Frozen.content g.S.Device.Device.name g.S.Frozen.Frozen.size
    g.S.Watch.Watch.counts) (λ (s : Seat g.row.S.Denot g.row.P.Denot g.row.S-Watch.Denot g.row.S-Device.Denot g.row.S-Frozen.Denot). s.engine)
    c.self.inside.seats.items c.self.inside.running.items c.args.self.now c.self.invariant c.self.view_is in
    let below = place_below (λ e. is_some e.engine.part.reader ≡ true) c.args.at c.args.self.now c.requires.home in
    subst (λ es. AtEach (ReadsBy c.args.at None) 0 es (with_jobs
    (map (λ (s : Seat g.row.S.Denot g.row.P.Denot g.row.S-Watch.Denot g.row.S-Device.Denot g.row.S-Frozen.Denot). s.engine)
    (set c.self.inside.seats.items c.args.at (record c.index_mut.result.now { engine = c.lend_watch.new.self }))) c.self.inside.running.items)) c.self.view_is
    (reader_put None (λ (s : Seat g.row.S.Denot g.row.P.Denot g.row.S-Watch.Denot g.row.S-Device.Denot g.row.S-Frozen.Denot). s.engine) c.args.at
    c.self.inside.seats.items c.self.inside.running.items c.index_mut.result.now (record c.index_mut.result.now { engine = c.lend_watch.new.self })
    (sym (length-map c.self.inside.seats.items (λ (s : Seat g.row.S.Denot g.row.P.Denot g.row.S-Watch.Denot g.row.S-Device.Denot g.row.S-Frozen.Denot). s.engine))
    ∙ staffed-many (eyes g.S.Store.history g.S.Device.Device.history g.S.Frozen.Frozen.content g.S.Device.Device.name g.S.Frozen.Frozen.size
    g.S.Watch.Watch.counts) (map (λ (s : Seat g.row.S.Denot g.row.P.Denot g.row.S-Watch.Denot g.row.S-Device.Denot g.row.S-Frozen.Denot). s.engine)
    c.self.inside.seats.items) c.self.inside.running.items c.self.invariant) (omega (arith, below, many)) c.index_mut.ensures.value c.lend_watch.ensures.out)

pub returns-clause-out : goal.returns-clause-out
returns-clause-out g c = reads g c

pub returns-clause-held : goal.returns-clause-held
returns-clause-held g c = lent_held None (eyes g.S.Store.history g.S.Device.Device.history g.S.Frozen.Frozen.content g.S.Device.Device.name g.S.Frozen.Frozen.size g.S.Watch.Watch.counts) c.args.at c.args.self.now _ (reads g c)

pub returns-clause-kept : goal.returns-clause-kept
returns-clause-kept g c = lent_kept None (eyes g.S.Store.history g.S.Device.Device.history g.S.Frozen.Frozen.content g.S.Device.Device.name g.S.Frozen.Frozen.size g.S.Watch.Watch.counts) c.args.at c.args.self.now _ (reads g c)
