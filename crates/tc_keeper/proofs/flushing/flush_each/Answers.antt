use Rattle.std.proofs.Common.{◌≡◌, ◌∙◌, ◌<◌, ◌≤◌, ◌+◌, false, length, map, set, slice_index_or, arith, refl, subst, sym}
use Rattle.std.proofs.lemmas.List.{length-map, length-set}
use Rattle.tc_work.specs.EngineState.{EngineState}
use Rattle.tc_work.specs.Moving.{eyes}
use Rattle.tc_keeper.specs.Moving.{FailsFlushing, Flushes, StopsAt}
use Rattle.tc_keeper.specs.Places.{AtEach}
use Rattle.tc_keeper.specs.WithJobs.{engine_with, with_jobs, IsStaffed, WithJobs}
use Rattle.tc_keeper.specs.declared.seat.Seat.{Seat}
use Rattle.tc_keeper.proofs.CallsInTurn.{doing_all, doing_fault, doing_more, doing_none, doing_still, Doing}
use Rattle.tc_keeper.proofs.JobsBeside.{all-with_jobs, staffed-at, staffed-many, staffed-set, with_jobs-at, with_jobs-length, with_jobs-set}
use Rattle.tc_keeper.proofs.flushing.flush_each.Goals as goal

pub loop-at-init : goal.loop-at-init
loop-at-init g c = (
  doing_none (Flushes (eyes g.S.Store.history g.S.Device.Device.history g.S.Frozen.Frozen.content g.S.Device.Device.name g.S.Frozen.Frozen.size
      g.S.Watch.Watch.counts) g.S.Device.Device.size) (with_jobs (map (λ (s : Seat _ _ _ _ _). s.engine) c.args.seats.now) c.args.running.now),
  c.requires.staffed,
  refl,
  refl,
  sym (staffed-many (eyes g.S.Store.history g.S.Device.Device.history g.S.Frozen.Frozen.content g.S.Device.Device.name g.S.Frozen.Frozen.size
      g.S.Watch.Watch.counts) (map (λ (s : Seat _ _ _ _ _). s.engine) c.args.seats.now) c.args.running.now c.requires.staffed)
      ∙ length-map c.args.seats.now (λ (s : Seat _ _ _ _ _). s.engine),
)

pub flush_one-requires-clause-sound : goal.flush_one-requires-clause-sound
flush_one-requires-clause-sound g c κs within =
    let below : c.loop-at.at < length c.loop-at.seats = omega (arith, c.loop-at-test.true, c.loop-at.invariant.2) in
    let as_many : length c.loop-at.seats ≡ length c.loop-at.running = c.loop-at.invariant.2 ∙ sym (c.loop-at.invariant.3 ∙ c.loop-at.invariant.4) in
    let there : (engine_with c.index-seats-at.result.engine c.index-running-at.result)
    ≡ slice_index_or (with_jobs (map (λ (s : Seat _ _ _ _ _). s.engine) c.loop-at.seats) c.loop-at.running) c.loop-at.at
    (engine_with c.index-seats-at.result.engine c.index-running-at.result) = with_jobs-at (λ (s : Seat _ _ _ _ _). s.engine) c.loop-at.seats c.loop-at.running
    c.loop-at.at c.index-seats-at.result c.index-running-at.result as_many below c.index-seats-at.is c.index-running-at.is in
    let inside : c.loop-at.at < length (with_jobs (map (λ (s : Seat _ _ _ _ _). s.engine) c.loop-at.seats) c.loop-at.running) = omega (
      arith,
      below,
      with_jobs-length (map (λ (s : Seat _ _ _ _ _). s.engine) c.loop-at.seats) c.loop-at.running
          (length-map c.loop-at.seats (λ (s : Seat _ _ _ _ _). s.engine) ∙ as_many),
      length-map c.loop-at.seats (λ (s : Seat _ _ _ _ _). s.engine),
    ) in
    subst (λ (s : Seat _ _ _ _ _). s.engine.part.failed ≡ false) c.index-seats-at.is
    (doing_still (Flushes (eyes g.S.Store.history g.S.Device.Device.history g.S.Frozen.Frozen.content g.S.Device.Device.name g.S.Frozen.Frozen.size
    g.S.Watch.Watch.counts) g.S.Device.Device.size) (λ (e : WithJobs _ _ _ _). e.engine.part.failed ≡ false)
    (with_jobs (map (λ (s : Seat _ _ _ _ _). s.engine) c.args.seats.now) c.args.running.now)
    (with_jobs (map (λ (s : Seat _ _ _ _ _). s.engine) c.loop-at.seats) c.loop-at.running) c.loop-at.at
    (engine_with c.index-seats-at.result.engine c.index-running-at.result) c.loop-at.invariant.0 inside there
    (all-with_jobs (λ (e : EngineState _ _ _ _). e.part.failed ≡ false) (map (λ (s : Seat _ _ _ _ _). s.engine) c.args.seats.now) c.args.running.now c.requires.sound))

pub flush_one-requires-clause-staffed : goal.flush_one-requires-clause-staffed
flush_one-requires-clause-staffed g c κs within =
    let below : c.loop-at.at < length c.loop-at.seats = omega (arith, c.loop-at-test.true, c.loop-at.invariant.2) in
    let as_many : length c.loop-at.seats ≡ length c.loop-at.running = c.loop-at.invariant.2 ∙ sym (c.loop-at.invariant.3 ∙ c.loop-at.invariant.4) in
    subst (λ (s : Seat _ _ _ _ _). IsStaffed (eyes g.S.Store.history g.S.Device.Device.history g.S.Frozen.Frozen.content g.S.Device.Device.name g.S.Frozen.Frozen.size g.S.Watch.Watch.counts) s.engine (slice_index_or c.loop-at.running c.loop-at.at c.index-running-at.result)) c.index-seats-at.is
    (subst (IsStaffed (eyes g.S.Store.history g.S.Device.Device.history g.S.Frozen.Frozen.content g.S.Device.Device.name g.S.Frozen.Frozen.size g.S.Watch.Watch.counts) c.index-seats-at.result.engine) c.index-running-at.is
    (staffed-at (eyes g.S.Store.history g.S.Device.Device.history g.S.Frozen.Frozen.content g.S.Device.Device.name g.S.Frozen.Frozen.size g.S.Watch.Watch.counts)
    (λ (s : Seat _ _ _ _ _). s.engine) c.loop-at.at c.loop-at.seats c.loop-at.running c.index-seats-at.result c.index-running-at.result below c.index-seats-at.is
    c.index-running-at.is c.loop-at.invariant.1))

pub returns-in-Err-clause-many : goal.returns-in-Err-clause-many
returns-in-Err-clause-many g c = length-set c.loop-at.seats c.loop-at.at c.flush_one.new.seat ∙ c.loop-at.invariant.2

pub returns-in-Err-clause-staffed : goal.returns-in-Err-clause-staffed
returns-in-Err-clause-staffed g c = staffed-set (eyes g.S.Store.history g.S.Device.Device.history g.S.Frozen.Frozen.content g.S.Device.Device.name
    g.S.Frozen.Frozen.size g.S.Watch.Watch.counts) (λ (s : Seat _ _ _ _ _). s.engine) c.loop-at.at c.loop-at.seats c.loop-at.running c.flush_one.new.seat
    c.flush_one.new.running c.loop-at.invariant.1 c.flush_one.ensures.staffed

pub returns-in-Err-clause-stopped : goal.returns-in-Err-clause-stopped
returns-in-Err-clause-stopped g c =
    let below : c.loop-at.at < length c.loop-at.seats = omega (arith, c.loop-at-test.true, c.loop-at.invariant.2) in
    let as_many : length c.loop-at.seats ≡ length c.loop-at.running = c.loop-at.invariant.2 ∙ sym (c.loop-at.invariant.3 ∙ c.loop-at.invariant.4) in
    let there : (engine_with c.index-seats-at.result.engine c.index-running-at.result)
    ≡ slice_index_or (with_jobs (map (λ (s : Seat _ _ _ _ _). s.engine) c.loop-at.seats) c.loop-at.running) c.loop-at.at
    (engine_with c.index-seats-at.result.engine c.index-running-at.result) = with_jobs-at (λ (s : Seat _ _ _ _ _). s.engine) c.loop-at.seats c.loop-at.running
    c.loop-at.at c.index-seats-at.result c.index-running-at.result as_many below c.index-seats-at.is c.index-running-at.is in
    let inside : c.loop-at.at < length (with_jobs (map (λ (s : Seat _ _ _ _ _). s.engine) c.loop-at.seats) c.loop-at.running) = omega (
      arith,
      below,
      with_jobs-length (map (λ (s : Seat _ _ _ _ _). s.engine) c.loop-at.seats) c.loop-at.running
          (length-map c.loop-at.seats (λ (s : Seat _ _ _ _ _). s.engine) ∙ as_many),
      length-map c.loop-at.seats (λ (s : Seat _ _ _ _ _). s.engine),
    ) in
    let within : c.loop-at.at < length c.args.seats.now = omega (arith, below, c.loop-at.invariant.2) in
    let stopped : FailsFlushing (eyes g.S.Store.history g.S.Device.Device.history g.S.Frozen.Frozen.content g.S.Device.Device.name g.S.Frozen.Frozen.size
    g.S.Watch.Watch.counts) c.in-Err.fault (engine_with c.index-seats-at.result.engine c.index-running-at.result)
    (engine_with c.flush_one.new.seat.engine c.flush_one.new.running) =
    subst (λ (s : Seat _ _ _ _ _). FailsFlushing (eyes g.S.Store.history g.S.Device.Device.history g.S.Frozen.Frozen.content g.S.Device.Device.name
    g.S.Frozen.Frozen.size g.S.Watch.Watch.counts) c.in-Err.fault (engine_with s.engine c.index-running-at.result)
    (engine_with c.flush_one.new.seat.engine c.flush_one.new.running)) (sym c.index-seats-at.is)
    (subst (λ js. FailsFlushing (eyes g.S.Store.history g.S.Device.Device.history g.S.Frozen.Frozen.content g.S.Device.Device.name g.S.Frozen.Frozen.size
    g.S.Watch.Watch.counts) c.in-Err.fault (engine_with (slice_index_or c.loop-at.seats c.loop-at.at c.index-seats-at.result).engine js)
    (engine_with c.flush_one.new.seat.engine c.flush_one.new.running)) (sym c.index-running-at.is) c.in-Err.ensures.stopped) in
    let put : AtEach (StopsAt c.loop-at.at (Flushes (eyes g.S.Store.history g.S.Device.Device.history g.S.Frozen.Frozen.content g.S.Device.Device.name
    g.S.Frozen.Frozen.size g.S.Watch.Watch.counts) g.S.Device.Device.size)
    (FailsFlushing (eyes g.S.Store.history g.S.Device.Device.history g.S.Frozen.Frozen.content g.S.Device.Device.name g.S.Frozen.Frozen.size
    g.S.Watch.Watch.counts) c.in-Err.fault)) 0 (with_jobs (map (λ (s : Seat _ _ _ _ _). s.engine) c.args.seats.now) c.args.running.now)
    (set (with_jobs (map (λ (s : Seat _ _ _ _ _). s.engine) c.loop-at.seats) c.loop-at.running) c.loop-at.at
    (engine_with c.flush_one.new.seat.engine c.flush_one.new.running)) =
    doing_fault (Flushes (eyes g.S.Store.history g.S.Device.Device.history g.S.Frozen.Frozen.content g.S.Device.Device.name g.S.Frozen.Frozen.size
    g.S.Watch.Watch.counts) g.S.Device.Device.size) (FailsFlushing
    (eyes g.S.Store.history g.S.Device.Device.history g.S.Frozen.Frozen.content g.S.Device.Device.name g.S.Frozen.Frozen.size g.S.Watch.Watch.counts)
    c.in-Err.fault) (with_jobs (map (λ (s : Seat _ _ _ _ _). s.engine) c.args.seats.now) c.args.running.now)
    (with_jobs (map (λ (s : Seat _ _ _ _ _). s.engine) c.loop-at.seats) c.loop-at.running) c.loop-at.at
    (engine_with c.index-seats-at.result.engine c.index-running-at.result) (engine_with c.flush_one.new.seat.engine c.flush_one.new.running) c.loop-at.invariant.0
    inside there stopped in (
      within,
      subst (AtEach (StopsAt c.loop-at.at (Flushes (eyes g.S.Store.history g.S.Device.Device.history g.S.Frozen.Frozen.content g.S.Device.Device.name
          g.S.Frozen.Frozen.size g.S.Watch.Watch.counts) g.S.Device.Device.size)
          (FailsFlushing (eyes g.S.Store.history g.S.Device.Device.history g.S.Frozen.Frozen.content g.S.Device.Device.name g.S.Frozen.Frozen.size
          g.S.Watch.Watch.counts) c.in-Err.fault)) 0 (with_jobs (map (λ (s : Seat _ _ _ _ _). s.engine) c.args.seats.now) c.args.running.now))
          (with_jobs-set (λ (s : Seat _ _ _ _ _). s.engine) c.loop-at.seats c.loop-at.running c.loop-at.at c.flush_one.new.seat c.flush_one.new.running as_many) put,
    )

pub loop-at-preserved : goal.loop-at-preserved
loop-at-preserved g c =
    let below : c.loop-at.at < length c.loop-at.seats = omega (arith, c.loop-at-test.true, c.loop-at.invariant.2) in
    let as_many : length c.loop-at.seats ≡ length c.loop-at.running = c.loop-at.invariant.2 ∙ sym (c.loop-at.invariant.3 ∙ c.loop-at.invariant.4) in
    let there : (engine_with c.index-seats-at.result.engine c.index-running-at.result)
    ≡ slice_index_or (with_jobs (map (λ (s : Seat _ _ _ _ _). s.engine) c.loop-at.seats) c.loop-at.running) c.loop-at.at
    (engine_with c.index-seats-at.result.engine c.index-running-at.result) = with_jobs-at (λ (s : Seat _ _ _ _ _). s.engine) c.loop-at.seats c.loop-at.running
    c.loop-at.at c.index-seats-at.result c.index-running-at.result as_many below c.index-seats-at.is c.index-running-at.is in
    let inside : c.loop-at.at < length (with_jobs (map (λ (s : Seat _ _ _ _ _). s.engine) c.loop-at.seats) c.loop-at.running) = omega (
      arith,
      below,
      with_jobs-length (map (λ (s : Seat _ _ _ _ _). s.engine) c.loop-at.seats) c.loop-at.running
          (length-map c.loop-at.seats (λ (s : Seat _ _ _ _ _). s.engine) ∙ as_many),
      length-map c.loop-at.seats (λ (s : Seat _ _ _ _ _). s.engine),
    ) in
    let done : Flushes (eyes g.S.Store.history g.S.Device.Device.history g.S.Frozen.Frozen.content g.S.Device.Device.name g.S.Frozen.Frozen.size
    g.S.Watch.Watch.counts) g.S.Device.Device.size (engine_with c.index-seats-at.result.engine c.index-running-at.result)
    (engine_with c.flush_one.new.seat.engine c.flush_one.new.running) =
    subst (λ (s : Seat _ _ _ _ _). Flushes (eyes g.S.Store.history g.S.Device.Device.history g.S.Frozen.Frozen.content g.S.Device.Device.name g.S.Frozen.Frozen.size
    g.S.Watch.Watch.counts) g.S.Device.Device.size (engine_with s.engine c.index-running-at.result)
    (engine_with c.flush_one.new.seat.engine c.flush_one.new.running)) (sym c.index-seats-at.is)
    (subst (λ js. Flushes (eyes g.S.Store.history g.S.Device.Device.history g.S.Frozen.Frozen.content g.S.Device.Device.name g.S.Frozen.Frozen.size
    g.S.Watch.Watch.counts) g.S.Device.Device.size (engine_with (slice_index_or c.loop-at.seats c.loop-at.at c.index-seats-at.result).engine js)
    (engine_with c.flush_one.new.seat.engine c.flush_one.new.running)) (sym c.index-running-at.is) c.in-Ok.ensures.flushed) in
    let more : Doing (Flushes (eyes g.S.Store.history g.S.Device.Device.history g.S.Frozen.Frozen.content g.S.Device.Device.name g.S.Frozen.Frozen.size
    g.S.Watch.Watch.counts) g.S.Device.Device.size) (with_jobs (map (λ (s : Seat _ _ _ _ _). s.engine) c.args.seats.now) c.args.running.now)
    (set (with_jobs (map (λ (s : Seat _ _ _ _ _). s.engine) c.loop-at.seats) c.loop-at.running) c.loop-at.at
    (engine_with c.flush_one.new.seat.engine c.flush_one.new.running)) (c.loop-at.at + 1) = doing_more
    (Flushes (eyes g.S.Store.history g.S.Device.Device.history g.S.Frozen.Frozen.content g.S.Device.Device.name g.S.Frozen.Frozen.size g.S.Watch.Watch.counts)
    g.S.Device.Device.size) (with_jobs (map (λ (s : Seat _ _ _ _ _). s.engine) c.args.seats.now) c.args.running.now)
    (with_jobs (map (λ (s : Seat _ _ _ _ _). s.engine) c.loop-at.seats) c.loop-at.running) c.loop-at.at
    (engine_with c.index-seats-at.result.engine c.index-running-at.result) (engine_with c.flush_one.new.seat.engine c.flush_one.new.running) c.loop-at.invariant.0
    inside there done in (
      subst (λ nows. Doing (Flushes (eyes g.S.Store.history g.S.Device.Device.history g.S.Frozen.Frozen.content g.S.Device.Device.name g.S.Frozen.Frozen.size
          g.S.Watch.Watch.counts) g.S.Device.Device.size) (with_jobs (map (λ (s : Seat _ _ _ _ _). s.engine) c.args.seats.now) c.args.running.now) nows
          (c.loop-at.at + 1)) (with_jobs-set (λ (s : Seat _ _ _ _ _). s.engine) c.loop-at.seats c.loop-at.running c.loop-at.at c.flush_one.new.seat
          c.flush_one.new.running as_many) more,
      staffed-set (eyes g.S.Store.history g.S.Device.Device.history g.S.Frozen.Frozen.content g.S.Device.Device.name g.S.Frozen.Frozen.size g.S.Watch.Watch.counts)
          (λ (s : Seat _ _ _ _ _). s.engine) c.loop-at.at c.loop-at.seats c.loop-at.running c.flush_one.new.seat c.flush_one.new.running c.loop-at.invariant.1
          c.flush_one.ensures.staffed,
      length-set c.loop-at.seats c.loop-at.at c.flush_one.new.seat ∙ c.loop-at.invariant.2,
      length-set c.loop-at.running c.loop-at.at c.flush_one.new.running ∙ c.loop-at.invariant.3,
      c.loop-at.invariant.4,
    )

pub returns-clause-many : goal.returns-clause-many
returns-clause-many g c = c.loop-at.invariant.2

pub returns-clause-staffed : goal.returns-clause-staffed
returns-clause-staffed g c = c.loop-at.invariant.1

pub returns-clause-flushed : goal.returns-clause-flushed
returns-clause-flushed g c =
    let as_many : length c.loop-at.seats ≡ length c.loop-at.running = c.loop-at.invariant.2 ∙ sym (c.loop-at.invariant.3 ∙ c.loop-at.invariant.4) in
    let ends : length (with_jobs (map (λ (s : Seat _ _ _ _ _). s.engine) c.loop-at.seats) c.loop-at.running) ≤ c.loop-at.at = omega (
      arith,
      c.loop-at-test.false,
      c.loop-at.invariant.2,
      with_jobs-length (map (λ (s : Seat _ _ _ _ _). s.engine) c.loop-at.seats) c.loop-at.running
          (length-map c.loop-at.seats (λ (s : Seat _ _ _ _ _). s.engine) ∙ as_many),
      length-map c.loop-at.seats (λ (s : Seat _ _ _ _ _). s.engine),
    ) in
    doing_all (Flushes (eyes g.S.Store.history g.S.Device.Device.history g.S.Frozen.Frozen.content g.S.Device.Device.name g.S.Frozen.Frozen.size
    g.S.Watch.Watch.counts) g.S.Device.Device.size) (with_jobs (map (λ (s : Seat _ _ _ _ _). s.engine) c.args.seats.now) c.args.running.now)
    (with_jobs (map (λ (s : Seat _ _ _ _ _). s.engine) c.loop-at.seats) c.loop-at.running) c.loop-at.at c.loop-at.invariant.0 ends
