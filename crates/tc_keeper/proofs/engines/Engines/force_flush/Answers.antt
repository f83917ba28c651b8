use Rattle.std.proofs.Common.{◌≡◌, ◌∙◌, ◌<◌, false, All, length, map, arith, ap, subst, sym}
use Rattle.std.specs.Prelude.{OnOk}
use Rattle.std.specs.Vec.{with_items}
use Rattle.tc_work.specs.EngineState.{EngineState}
use Rattle.tc_work.specs.Moving.{eyes}
use Rattle.tc_keeper.specs.Moving.{FailsFlushing, Flushes, StopsAt}
use Rattle.tc_keeper.specs.Places.{AtEach}
use Rattle.tc_keeper.specs.WithJobs.{with_jobs, AreStaffed}
use Rattle.tc_keeper.specs.declared.seat.Seat.{Seat}
use Rattle.tc_keeper.proofs.CallsInTurn.{err_of, if_of_so}
use Rattle.tc_keeper.proofs.EnginesFlushed.{world_flushed, worlds_flushed}
use Rattle.tc_keeper.proofs.JobsBeside.{called, jobs_many, refilled_both, seats_many, staffed-many, with_jobs-all}
use Rattle.tc_keeper.proofs.engines.Engines.force_flush.Goals as goal

-- ---- what is asked for

pub flush_each-requires-clause-few : goal.flush_each-requires-clause-few
flush_each-requires-clause-few g c κs within =
    let many : length c.self.inside.seats.items ≡ length c.args.self.now = seats_many
    (eyes g.S.Store.history g.S.Device.Device.history g.S.Frozen.Frozen.content g.S.Device.Device.name g.S.Frozen.Frozen.size g.S.Watch.Watch.counts)
    (λ (s : Seat g.row.S.Denot g.row.P.Denot g.row.S-Watch.Denot g.row.S-Device.Denot g.row.S-Frozen.Denot). s.engine) c.self.inside.seats.items
    c.self.inside.running.items c.args.self.now c.self.invariant c.self.view_is in
    omega (arith, ap length c.deref_mut.ensures.value, many, c.requires.few)

pub flush_each-requires-clause-sound : goal.flush_each-requires-clause-sound
flush_each-requires-clause-sound g c κs within =
    subst (λ xs. All (λ (e : EngineState _ _ _ _). e.part.failed ≡ false) (map (λ (s : Seat g.row.S.Denot g.row.P.Denot g.row.S-Watch.Denot g.row.S-Device.Denot g.row.S-Frozen.Denot). s.engine) xs)) (sym c.deref_mut.ensures.value)
    (with_jobs-all (λ (e : EngineState _ _ _ _). e.part.failed ≡ false)
    (map (λ (s : Seat g.row.S.Denot g.row.P.Denot g.row.S-Watch.Denot g.row.S-Device.Denot g.row.S-Frozen.Denot). s.engine) c.self.inside.seats.items)
    c.self.inside.running.items (staffed-many (eyes g.S.Store.history g.S.Device.Device.history g.S.Frozen.Frozen.content g.S.Device.Device.name
    g.S.Frozen.Frozen.size g.S.Watch.Watch.counts) (map (λ (s : Seat g.row.S.Denot g.row.P.Denot g.row.S-Watch.Denot g.row.S-Device.Denot g.row.S-Frozen.Denot).
    s.engine) c.self.inside.seats.items) c.self.inside.running.items c.self.invariant)
    (subst (All (λ e. e.engine.part.failed ≡ false)) (sym c.self.view_is) c.requires.sound))

pub flush_each-requires-clause-staffed : goal.flush_each-requires-clause-staffed
flush_each-requires-clause-staffed g c κs within =
    subst (λ xs. AreStaffed (eyes g.S.Store.history g.S.Device.Device.history g.S.Frozen.Frozen.content g.S.Device.Device.name g.S.Frozen.Frozen.size
    g.S.Watch.Watch.counts) (map (λ (s : Seat g.row.S.Denot g.row.P.Denot g.row.S-Watch.Denot g.row.S-Device.Denot g.row.S-Frozen.Denot). s.engine) xs)
    c.deref_mut-2.result.now) (sym c.deref_mut.ensures.value)
    (subst (AreStaffed (eyes g.S.Store.history g.S.Device.Device.history g.S.Frozen.Frozen.content g.S.Device.Device.name g.S.Frozen.Frozen.size
    g.S.Watch.Watch.counts) (map (λ (s : Seat g.row.S.Denot g.row.P.Denot g.row.S-Watch.Denot g.row.S-Device.Denot g.row.S-Frozen.Denot). s.engine)
    c.self.inside.seats.items)) (sym c.deref_mut-2.ensures.value) c.self.invariant)

-- ---- what comes of it

pub invariant_of-self : goal.invariant_of-self
invariant_of-self g c =
    let many : length c.flush_each.new.seats ≡ c.self.inside.seats.len = c.flush_each.ensures.many ∙ ap length c.deref_mut.ensures.value ∙ sym c.self.inside.seats.ok.0 in
    let as_many : length c.flush_each.new.running ≡ c.self.inside.running.len = jobs_many
    (eyes g.S.Store.history g.S.Device.Device.history g.S.Frozen.Frozen.content g.S.Device.Device.name g.S.Frozen.Frozen.size g.S.Watch.Watch.counts)
    (λ (s : Seat g.row.S.Denot g.row.P.Denot g.row.S-Watch.Denot g.row.S-Device.Denot g.row.S-Frozen.Denot). s.engine) c.deref_mut.result.now
    c.flush_each.new.seats c.flush_each.new.running c.self.inside.seats.items c.self.inside.running c.deref_mut.ensures.value c.flush_each.ensures.many
    c.flush_each.ensures.staffed c.self.invariant in
    refilled_both (λ (s : Seat g.row.S.Denot g.row.P.Denot g.row.S-Watch.Denot g.row.S-Device.Denot g.row.S-Frozen.Denot). s.engine)
    (AreStaffed (eyes g.S.Store.history g.S.Device.Device.history g.S.Frozen.Frozen.content g.S.Device.Device.name g.S.Frozen.Frozen.size g.S.Watch.Watch.counts))
    c.self.inside.seats c.self.inside.running c.flush_each.new.seats c.flush_each.new.running many as_many c.flush_each.ensures.staffed

pub returns-clause-flushed : goal.returns-clause-flushed
returns-clause-flushed g c =
    let many : length c.flush_each.new.seats ≡ c.self.inside.seats.len = c.flush_each.ensures.many ∙ ap length c.deref_mut.ensures.value ∙ sym c.self.inside.seats.ok.0 in
    let as_many : length c.flush_each.new.running ≡ c.self.inside.running.len = jobs_many
    (eyes g.S.Store.history g.S.Device.Device.history g.S.Frozen.Frozen.content g.S.Device.Device.name g.S.Frozen.Frozen.size g.S.Watch.Watch.counts)
    (λ (s : Seat g.row.S.Denot g.row.P.Denot g.row.S-Watch.Denot g.row.S-Device.Denot g.row.S-Frozen.Denot). s.engine) c.deref_mut.result.now
    c.flush_each.new.seats c.flush_each.new.running c.self.inside.seats.items c.self.inside.running c.deref_mut.ensures.value c.flush_each.ensures.many
    c.flush_each.ensures.staffed c.self.invariant in
    called (λ (s : Seat g.row.S.Denot g.row.P.Denot g.row.S-Watch.Denot g.row.S-Device.Denot g.row.S-Frozen.Denot). s.engine)
    (λ olds news. OnOk c.flush_each.result (AtEach (λ p old new. Flushes
    (eyes g.S.Store.history g.S.Device.Device.history g.S.Frozen.Frozen.content g.S.Device.Device.name g.S.Frozen.Frozen.size g.S.Watch.Watch.counts)
    g.S.Device.Device.size old new) 0 olds news)) c.self.inside.seats c.self.inside.running c.deref_mut.result.now c.deref_mut-2.result.now c.flush_each.new.seats
    c.flush_each.new.running c.args.self.now c.deref_mut.ensures.value c.deref_mut-2.ensures.value c.self.view_is many as_many c.flush_each.ensures.flushed

pub returns-clause-stopped : goal.returns-clause-stopped
returns-clause-stopped g c =
    let many : length c.flush_each.new.seats ≡ c.self.inside.seats.len = c.flush_each.ensures.many ∙ ap length c.deref_mut.ensures.value ∙ sym c.self.inside.seats.ok.0 in
    let as_many : length c.flush_each.new.running ≡ c.self.inside.running.len = jobs_many
    (eyes g.S.Store.history g.S.Device.Device.history g.S.Frozen.Frozen.content g.S.Device.Device.name g.S.Frozen.Frozen.size g.S.Watch.Watch.counts)
    (λ (s : Seat g.row.S.Denot g.row.P.Denot g.row.S-Watch.Denot g.row.S-Device.Denot g.row.S-Frozen.Denot). s.engine) c.deref_mut.result.now
    c.flush_each.new.seats c.flush_each.new.running c.self.inside.seats.items c.self.inside.running c.deref_mut.ensures.value c.flush_each.ensures.many
    c.flush_each.ensures.staffed c.self.invariant in
    let whole : length c.deref_mut.result.now ≡ length c.args.self.now = ap length c.deref_mut.ensures.value
    ∙ seats_many (eyes g.S.Store.history g.S.Device.Device.history g.S.Frozen.Frozen.content g.S.Device.Device.name g.S.Frozen.Frozen.size g.S.Watch.Watch.counts)
    (λ (s : Seat g.row.S.Denot g.row.P.Denot g.row.S-Watch.Denot g.row.S-Device.Denot g.row.S-Frozen.Denot). s.engine) c.self.inside.seats.items
    c.self.inside.running.items c.args.self.now c.self.invariant c.self.view_is in
    if_of_so c.flush_each.result (λ p why. (p < length c.deref_mut.result.now)
    × AtEach (StopsAt p (Flushes (eyes g.S.Store.history g.S.Device.Device.history g.S.Frozen.Frozen.content g.S.Device.Device.name g.S.Frozen.Frozen.size
    g.S.Watch.Watch.counts) g.S.Device.Device.size) (FailsFlushing
    (eyes g.S.Store.history g.S.Device.Device.history g.S.Frozen.Frozen.content g.S.Device.Device.name g.S.Frozen.Frozen.size g.S.Watch.Watch.counts) why)) 0
    (with_jobs (map (λ (s : Seat g.row.S.Denot g.row.P.Denot g.row.S-Watch.Denot g.row.S-Device.Denot g.row.S-Frozen.Denot). s.engine) c.deref_mut.result.now)
    c.deref_mut-2.result.now) (with_jobs (map (λ (s : Seat g.row.S.Denot g.row.P.Denot g.row.S-Watch.Denot g.row.S-Device.Denot g.row.S-Frozen.Denot). s.engine)
    c.flush_each.new.seats) c.flush_each.new.running))
    (λ p why. (p < length c.args.self.now) × AtEach (StopsAt p (Flushes
    (eyes g.S.Store.history g.S.Device.Device.history g.S.Frozen.Frozen.content g.S.Device.Device.name g.S.Frozen.Frozen.size g.S.Watch.Watch.counts)
    g.S.Device.Device.size) (FailsFlushing (eyes g.S.Store.history g.S.Device.Device.history g.S.Frozen.Frozen.content g.S.Device.Device.name
    g.S.Frozen.Frozen.size g.S.Watch.Watch.counts) why)) 0 c.args.self.now
    (with_jobs (map (λ (s : Seat g.row.S.Denot g.row.P.Denot g.row.S-Watch.Denot g.row.S-Device.Denot g.row.S-Frozen.Denot). s.engine)
    (with_items c.self.inside.seats c.flush_each.new.seats).items) (with_items c.self.inside.running c.flush_each.new.running).items))
    (λ p why stops. (
      subst (λ n. p < n) whole stops.0,
      called (λ (s : Seat g.row.S.Denot g.row.P.Denot g.row.S-Watch.Denot g.row.S-Device.Denot g.row.S-Frozen.Denot).
          s.engine) (AtEach (StopsAt p (Flushes (eyes g.S.Store.history g.S.Device.Device.history g.S.Frozen.Frozen.content g.S.Device.Device.name g.S.Frozen.Frozen.size
          g.S.Watch.Watch.counts) g.S.Device.Device.size) (FailsFlushing
          (eyes g.S.Store.history g.S.Device.Device.history g.S.Frozen.Frozen.content g.S.Device.Device.name g.S.Frozen.Frozen.size g.S.Watch.Watch.counts) why)) 0)
          c.self.inside.seats c.self.inside.running c.deref_mut.result.now c.deref_mut-2.result.now c.flush_each.new.seats c.flush_each.new.running c.args.self.now
          c.deref_mut.ensures.value c.deref_mut-2.ensures.value c.self.view_is many as_many stops.1,
    )) c.flush_each.ensures.stopped

pub returns-clause-held : goal.returns-clause-held
returns-clause-held g c = λ only w h.
    let laws = g.met.S.Device.Device g.world.𝓛 g.world.𝓜 g.world.𝓡 ((λ s x. x), (λ x. x), (λ x. x), λ x. x) in
    world_flushed c.flush_each.result (eyes g.S.Store.history g.S.Device.Device.history g.S.Frozen.Frozen.content g.S.Device.Device.name g.S.Frozen.Frozen.size
    g.S.Watch.Watch.counts) g.S.Device.Device.size laws.told_size only w c.args.self.now
    (with_jobs (map (λ (s : Seat g.row.S.Denot g.row.P.Denot g.row.S-Watch.Denot g.row.S-Device.Denot g.row.S-Frozen.Denot). s.engine)
    (with_items c.self.inside.seats c.flush_each.new.seats).items) (with_items c.self.inside.running c.flush_each.new.running).items) h (returns-clause-flushed g c)

pub returns-clause-kept : goal.returns-clause-kept
returns-clause-kept g c = λ only w h.
    let laws = g.met.S.Device.Device g.world.𝓛 g.world.𝓜 g.world.𝓡 ((λ s x. x), (λ x. x), (λ x. x), λ x. x) in
    err_of c.flush_each.result (λ p why. (p < length c.args.self.now)
    × AtEach (StopsAt p (Flushes (eyes g.S.Store.history g.S.Device.Device.history g.S.Frozen.Frozen.content g.S.Device.Device.name g.S.Frozen.Frozen.size
    g.S.Watch.Watch.counts) g.S.Device.Device.size) (FailsFlushing
    (eyes g.S.Store.history g.S.Device.Device.history g.S.Frozen.Frozen.content g.S.Device.Device.name g.S.Frozen.Frozen.size g.S.Watch.Watch.counts) why)) 0
    c.args.self.now (with_jobs (map (λ (s : Seat g.row.S.Denot g.row.P.Denot g.row.S-Watch.Denot g.row.S-Device.Denot g.row.S-Frozen.Denot). s.engine)
    (with_items c.self.inside.seats c.flush_each.new.seats).items) (with_items c.self.inside.running c.flush_each.new.running).items))
    c.flush_each.ensures.of_engine
    (λ p why stops. worlds_flushed (eyes g.S.Store.history g.S.Device.Device.history g.S.Frozen.Frozen.content g.S.Device.Device.name g.S.Frozen.Frozen.size
    g.S.Watch.Watch.counts) g.S.Device.Device.size laws.told_size only p why w c.args.self.now
    (with_jobs (map (λ (s : Seat g.row.S.Denot g.row.P.Denot g.row.S-Watch.Denot g.row.S-Device.Denot g.row.S-Frozen.Denot). s.engine)
    (with_items c.self.inside.seats c.flush_each.new.seats).items) (with_items c.self.inside.running c.flush_each.new.running).items) h stops.1)
    (returns-clause-stopped g c)
