use Rattle.std.proofs.Common.{◌≡◌, ◌∙◌, false, All, length, map, arith, ap, subst, sym}
use Rattle.std.specs.Map.{keys_of}
use Rattle.std.specs.Vec.{with_items}
use Rattle.std.specs.declared.alloc.Global.{Global}
use Rattle.std.specs.declared.vec.Vec.{Vec}
use Rattle.tc_model.specs.Keyed.{values_in}
use Rattle.tc_route.specs.Gathered.{gathered_rendered}
use Rattle.tc_route.specs.Meaning.{rendered_in, routed_of}
use Rattle.tc_route.specs.declared.placed.Routed.{Routed}
use Rattle.tc_run_model.specs.Kinds.{AreRenderedOfKinds}
use Rattle.tc_work.specs.Asked.{requests_in, IsWindow}
use Rattle.tc_work.specs.Moving.{eyes}
use Rattle.tc_keeper.specs.EngineFaults.{IsDiskOf}
use Rattle.tc_keeper.specs.WithJobs.{with_jobs}
use Rattle.tc_keeper.specs.declared.seat.Seat.{Seat}
use Rattle.tc_keeper.proofs.JobsBeside.{seats_many, staffed-many, with_jobs-all}
use Rattle.tc_keeper.proofs.KindsGiven.{kinds_of, places_of}
use Rattle.tc_keeper.proofs.NothingRun.{nothing_counted, nothing_ran}
use Rattle.tc_keeper.proofs.PlaceLaws.{all_read, at_each-length, refilled}
use Rattle.tc_keeper.proofs.ShareWindows.{window_for_parts}
use Rattle.tc_keeper.proofs.SharesRun.{are_windows}
use Rattle.tc_keeper.proofs.WindowEnds.{ended_answers, ended_counted, ended_first, ended_held, ended_kept, ended_ran, ended_replied, ended_sound, ended_uncounted, ended_well, if_err, no_disk, on_err, seats_ended, seats_framed, seats_staffed, Ended, SeatsRan}
use Rattle.tc_keeper.proofs.WindowsHeld.{nothing_run}
use Rattle.tc_keeper.proofs.engines.Engines.window.Given.{Over}
use Rattle.tc_keeper.proofs.engines.Engines.window.Goals as goal

-- ---- nothing was run

pub returns-in_err-lists-clause-kept : goal.returns-in_err-lists-clause-kept
returns-in_err-lists-clause-kept g c = λ only w h. on_err c.from_residual.result
    (nothing_run (eyes g.S.Store.history g.S.Device.Device.history g.S.Frozen.Frozen.content g.S.Device.Device.name g.S.Frozen.Frozen.size g.S.Watch.Watch.counts) only
    (map routed_of c.args.commands.items) w c.args.self.now h (window_for_parts c.args.commands.items c.requires.window))

pub returns-in_err-lists-clause-ran : goal.returns-in_err-lists-clause-ran
returns-in_err-lists-clause-ran g c = nothing_ran (eyes g.S.Store.history g.S.Device.Device.history g.S.Frozen.Frozen.content g.S.Device.Device.name g.S.Frozen.Frozen.size g.S.Watch.Watch.counts) (map routed_of c.args.commands.items) c.args.self.now

pub returns-in_err-lists-clause-counted : goal.returns-in_err-lists-clause-counted
returns-in_err-lists-clause-counted g c = nothing_counted (eyes g.S.Store.history g.S.Device.Device.history g.S.Frozen.Frozen.content g.S.Device.Device.name
    g.S.Frozen.Frozen.size g.S.Watch.Watch.counts) (map routed_of c.args.commands.items) c.args.self.now (λ p. IsDiskOf p c.from_residual.result)
    (no_disk c.from_residual.result c.from_residual.ensures.1)

pub returns-in_err-room-clause-kept : goal.returns-in_err-room-clause-kept
returns-in_err-room-clause-kept g c = λ only w h. on_err c.from_residual-in_err-room.result
    (nothing_run (eyes g.S.Store.history g.S.Device.Device.history g.S.Frozen.Frozen.content g.S.Device.Device.name g.S.Frozen.Frozen.size g.S.Watch.Watch.counts) only
    (map routed_of c.args.commands.items) w c.args.self.now h (window_for_parts c.args.commands.items c.requires.window))

pub returns-in_err-room-clause-ran : goal.returns-in_err-room-clause-ran
returns-in_err-room-clause-ran g c = nothing_ran (eyes g.S.Store.history g.S.Device.Device.history g.S.Frozen.Frozen.content g.S.Device.Device.name g.S.Frozen.Frozen.size g.S.Watch.Watch.counts) (map routed_of c.args.commands.items) c.args.self.now

pub returns-in_err-room-clause-counted : goal.returns-in_err-room-clause-counted
returns-in_err-room-clause-counted g c = nothing_counted (eyes g.S.Store.history g.S.Device.Device.history g.S.Frozen.Frozen.content g.S.Device.Device.name
    g.S.Frozen.Frozen.size g.S.Watch.Watch.counts) (map routed_of c.args.commands.items) c.args.self.now (λ p. IsDiskOf p c.from_residual-in_err-room.result)
    (no_disk c.from_residual-in_err-room.result c.from_residual-in_err-room.ensures.1)

-- ---- what is asked for

pub overflow_cast-len : goal.overflow_cast-len
overflow_cast-len g c =
    let many : length c.self.inside.seats.items ≡ length c.args.self.now = seats_many
    (eyes g.S.Store.history g.S.Device.Device.history g.S.Frozen.Frozen.content g.S.Device.Device.name g.S.Frozen.Frozen.size g.S.Watch.Watch.counts)
    (λ (s : Seat g.row.S.Denot g.row.P.Denot g.row.S-Watch.Denot g.row.S-Device.Denot g.row.S-Frozen.Denot). s.engine) c.self.inside.seats.items
    c.self.inside.running.items c.args.self.now c.self.invariant c.self.view_is in
    omega (arith, many, c.len.ensures, c.self.inside.seats.ok.0, c.requires.few)

pub split-requires : goal.split-requires
split-requires g c =
    let many : length c.self.inside.seats.items ≡ length c.args.self.now = seats_many
    (eyes g.S.Store.history g.S.Device.Device.history g.S.Frozen.Frozen.content g.S.Device.Device.name g.S.Frozen.Frozen.size g.S.Watch.Watch.counts)
    (λ (s : Seat g.row.S.Denot g.row.P.Denot g.row.S-Watch.Denot g.row.S-Device.Denot g.row.S-Frozen.Denot). s.engine) c.self.inside.seats.items
    c.self.inside.running.items c.args.self.now c.self.invariant c.self.view_is in
    omega (arith, many, c.len.ensures, c.self.inside.seats.ok.0, c.requires.some)

pub run_lists-requires-clause-as_many : goal.run_lists-requires-clause-as_many
run_lists-requires-clause-as_many g c κs within = omega (arith, ap length c.deref.ensures.value, ap length c.deref_mut.ensures.value, c.in_ok-lists.ensures.count, c.len.ensures, c.self.inside.seats.ok.0)

pub run_lists-requires-clause-sound : goal.run_lists-requires-clause-sound
run_lists-requires-clause-sound g c κs within =
    subst (All (λ (s : Seat g.row.S.Denot g.row.P.Denot g.row.S-Watch.Denot g.row.S-Device.Denot g.row.S-Frozen.Denot). s.engine.part.failed ≡ false)) (sym c.deref_mut.ensures.value)
    (all_read (λ (s : Seat g.row.S.Denot g.row.P.Denot g.row.S-Watch.Denot g.row.S-Device.Denot g.row.S-Frozen.Denot). s.engine) (λ e. e.part.failed ≡ false)
    c.self.inside.seats.items (with_jobs-all (λ e. e.part.failed ≡ false)
    (map (λ (s : Seat g.row.S.Denot g.row.P.Denot g.row.S-Watch.Denot g.row.S-Device.Denot g.row.S-Frozen.Denot). s.engine) c.self.inside.seats.items)
    c.self.inside.running.items (staffed-many (eyes g.S.Store.history g.S.Device.Device.history g.S.Frozen.Frozen.content g.S.Device.Device.name
    g.S.Frozen.Frozen.size g.S.Watch.Watch.counts) (map (λ (s : Seat g.row.S.Denot g.row.P.Denot g.row.S-Watch.Denot g.row.S-Device.Denot g.row.S-Frozen.Denot).
    s.engine) c.self.inside.seats.items) c.self.inside.running.items c.self.invariant)
    (subst (All (λ e. e.engine.part.failed ≡ false)) (sym c.self.view_is) c.requires.sound)))

pub run_lists-requires-clause-window : goal.run_lists-requires-clause-window
run_lists-requires-clause-window g c κs within =
    subst (All (λ (list : Vec Routed Global). IsWindow list.items)) (sym c.deref.ensures.value) (are_windows c.in_ok-lists.lists.items _ c.args.commands.items c.in_ok-lists.ensures.count c.requires.window c.in_ok-lists.ensures.each)

pub run_lists-requires-clause-room : goal.run_lists-requires-clause-room
run_lists-requires-clause-room g c κs within = omega (arith, ap length c.deref_mut.ensures.value, c.self.inside.seats.ok.0, c.len-2.ensures, c.in_ok-room.ensures.for_frames)

pub take_answers-requires-clause-few : goal.take_answers-requires-clause-few
take_answers-requires-clause-few g c κs within =
    let many : length c.self.inside.seats.items ≡ length c.args.self.now = seats_many
    (eyes g.S.Store.history g.S.Device.Device.history g.S.Frozen.Frozen.content g.S.Device.Device.name g.S.Frozen.Frozen.size g.S.Watch.Watch.counts)
    (λ (s : Seat g.row.S.Denot g.row.P.Denot g.row.S-Watch.Denot g.row.S-Device.Denot g.row.S-Frozen.Denot). s.engine) c.self.inside.seats.items
    c.self.inside.running.items c.args.self.now c.self.invariant c.self.view_is in
    let ran : length c.deref_mut.result.now ≡ length c.run_lists.new.seats = at_each-length _ 0 c.deref_mut.result.now c.run_lists.new.seats c.run_lists.ensures.ran in
    let filled : length c.run_lists.new.seats ≡ c.self.inside.seats.len = omega (arith, ran, ap length c.deref_mut.ensures.value, c.self.inside.seats.ok.0) in
    let there : c.deref_mut-2.result.now ≡ c.run_lists.new.seats = c.deref_mut-2.ensures.value ∙ refilled c.self.inside.seats c.run_lists.new.seats filled in
    omega (arith, ap length there, filled, c.self.inside.seats.ok.0, many, c.requires.few)

pub take_answers-requires-clause-room : goal.take_answers-requires-clause-room
take_answers-requires-clause-room g c κs within =
    let ran : length c.deref_mut.result.now ≡ length c.run_lists.new.seats = at_each-length _ 0 c.deref_mut.result.now c.run_lists.new.seats c.run_lists.ensures.ran in
    let filled : length c.run_lists.new.seats ≡ c.self.inside.seats.len = omega (arith, ran, ap length c.deref_mut.ensures.value, c.self.inside.seats.ok.0) in
    let there : c.deref_mut-2.result.now ≡ c.run_lists.new.seats = c.deref_mut-2.ensures.value ∙ refilled c.self.inside.seats c.run_lists.new.seats filled in
    omega (arith, ap length there, filled, c.len-2.ensures, c.in_ok-room.ensures.capacity)

-- ---- an engine failed

failed_ran : (g : Over) (c : goal.After-drop-lists-in_err-parts g)
    → SeatsRan (eyes g.S.Store.history g.S.Device.Device.history g.S.Frozen.Frozen.content g.S.Device.Device.name g.S.Frozen.Frozen.size g.S.Watch.Watch.counts)
    c.deref.result.now c.self.inside.seats c.self.inside.running.items c.deref_mut.result.now c.run_lists.new.seats c.deref_mut-2.result.now c.take_answers.new.seats
failed_ran g c = record { olds = c.deref_mut.ensures.value; left = c.deref_mut-2.ensures.value; ran = c.run_lists.ensures.ran; same = c.take_answers.ensures.engines; staffed = c.self.invariant }

failed_ended : (g : Over) (c : goal.After-drop-lists-in_err-parts g)
    → Ended (eyes g.S.Store.history g.S.Device.Device.history g.S.Frozen.Frozen.content g.S.Device.Device.name g.S.Frozen.Frozen.size g.S.Watch.Watch.counts)
    (map routed_of c.args.commands.items) c.args.self.now (with_jobs
    (map (λ (s : Seat g.row.S.Denot g.row.P.Denot g.row.S-Watch.Denot g.row.S-Device.Denot g.row.S-Frozen.Denot). s.engine)
    (with_items (with_items c.self.inside.seats c.run_lists.new.seats) c.take_answers.new.seats).items) c.self.inside.running.items)
    (map (λ (s : Seat g.row.S.Denot g.row.P.Denot g.row.S-Watch.Denot g.row.S-Device.Denot g.row.S-Frozen.Denot). s.answer) c.deref_mut-2.result.now)
failed_ended g c =
    seats_ended (eyes g.S.Store.history g.S.Device.Device.history g.S.Frozen.Frozen.content g.S.Device.Device.name g.S.Frozen.Frozen.size g.S.Watch.Watch.counts)
    c.deref.result.now c.self.inside.seats c.self.inside.running.items c.deref_mut.result.now c.run_lists.new.seats c.deref_mut-2.result.now
    c.take_answers.new.seats (failed_ran g c) c.in_ok-lists.lists.items c.args.commands.items c.args.self.now _
    c.deref.ensures.value c.in_ok-lists.ensures.each
    (omega (
      arith,
      c.len.ensures,
      c.self.inside.seats.ok.0,
      seats_many
          (eyes g.S.Store.history g.S.Device.Device.history g.S.Frozen.Frozen.content g.S.Device.Device.name g.S.Frozen.Frozen.size g.S.Watch.Watch.counts)
          (λ (s : Seat g.row.S.Denot g.row.P.Denot g.row.S-Watch.Denot g.row.S-Device.Denot g.row.S-Frozen.Denot). s.engine) c.self.inside.seats.items
          c.self.inside.running.items c.args.self.now c.self.invariant c.self.view_is,
      c.requires.few,
    )) c.self.view_is

pub invariant_of-self : goal.invariant_of-self
invariant_of-self g c = seats_staffed (eyes g.S.Store.history g.S.Device.Device.history g.S.Frozen.Frozen.content g.S.Device.Device.name g.S.Frozen.Frozen.size
    g.S.Watch.Watch.counts) c.deref.result.now c.self.inside.seats c.self.inside.running.items c.deref_mut.result.now c.run_lists.new.seats c.deref_mut-2.result.now
    c.take_answers.new.seats (failed_ran g c)

pub returns-in_err-parts-clause-kept : goal.returns-in_err-parts-clause-kept
returns-in_err-parts-clause-kept g c = λ only w h. on_err c.from_residual-in_err-parts.result
    (ended_kept (eyes g.S.Store.history g.S.Device.Device.history g.S.Frozen.Frozen.content g.S.Device.Device.name g.S.Frozen.Frozen.size g.S.Watch.Watch.counts)
    (map routed_of c.args.commands.items) c.args.self.now (with_jobs
    (map (λ (s : Seat g.row.S.Denot g.row.P.Denot g.row.S-Watch.Denot g.row.S-Device.Denot g.row.S-Frozen.Denot). s.engine)
    (with_items (with_items c.self.inside.seats c.run_lists.new.seats) c.take_answers.new.seats).items) c.self.inside.running.items)
    (map (λ (s : Seat g.row.S.Denot g.row.P.Denot g.row.S-Watch.Denot g.row.S-Device.Denot g.row.S-Frozen.Denot). s.answer) c.deref_mut-2.result.now)
    (failed_ended g c) (window_for_parts c.args.commands.items c.requires.window) only w h)

pub returns-in_err-parts-clause-ran : goal.returns-in_err-parts-clause-ran
returns-in_err-parts-clause-ran g c = ended_ran (eyes g.S.Store.history g.S.Device.Device.history g.S.Frozen.Frozen.content g.S.Device.Device.name
    g.S.Frozen.Frozen.size g.S.Watch.Watch.counts) (map routed_of c.args.commands.items) c.args.self.now
    (with_jobs (map (λ (s : Seat g.row.S.Denot g.row.P.Denot g.row.S-Watch.Denot g.row.S-Device.Denot g.row.S-Frozen.Denot). s.engine)
    (with_items (with_items c.self.inside.seats c.run_lists.new.seats) c.take_answers.new.seats).items) c.self.inside.running.items)
    (map (λ (s : Seat g.row.S.Denot g.row.P.Denot g.row.S-Watch.Denot g.row.S-Device.Denot g.row.S-Frozen.Denot). s.answer) c.deref_mut-2.result.now) (failed_ended g c)

pub returns-in_err-parts-clause-first : goal.returns-in_err-parts-clause-first
returns-in_err-parts-clause-first g c =
    let many : length c.self.inside.seats.items ≡ length c.args.self.now = seats_many
    (eyes g.S.Store.history g.S.Device.Device.history g.S.Frozen.Frozen.content g.S.Device.Device.name g.S.Frozen.Frozen.size g.S.Watch.Watch.counts)
    (λ (s : Seat g.row.S.Denot g.row.P.Denot g.row.S-Watch.Denot g.row.S-Device.Denot g.row.S-Frozen.Denot). s.engine) c.self.inside.seats.items
    c.self.inside.running.items c.args.self.now c.self.invariant c.self.view_is in
    let ran : length c.deref_mut.result.now ≡ length c.run_lists.new.seats = at_each-length _ 0 c.deref_mut.result.now c.run_lists.new.seats c.run_lists.ensures.ran in
    let filled : length c.run_lists.new.seats ≡ c.self.inside.seats.len = omega (arith, ran, ap length c.deref_mut.ensures.value, c.self.inside.seats.ok.0) in
    let there : c.deref_mut-2.result.now ≡ c.run_lists.new.seats = c.deref_mut-2.ensures.value ∙ refilled c.self.inside.seats c.run_lists.new.seats filled in
    if_err c.from_residual-in_err-parts.result c.in_err-parts.field-0.0 _ c.from_residual-in_err-parts.ensures.1
    (ended_first (eyes g.S.Store.history g.S.Device.Device.history g.S.Frozen.Frozen.content g.S.Device.Device.name g.S.Frozen.Frozen.size g.S.Watch.Watch.counts)
    (map routed_of c.args.commands.items) c.args.self.now (with_jobs
    (map (λ (s : Seat g.row.S.Denot g.row.P.Denot g.row.S-Watch.Denot g.row.S-Device.Denot g.row.S-Frozen.Denot). s.engine)
    (with_items (with_items c.self.inside.seats c.run_lists.new.seats) c.take_answers.new.seats).items) c.self.inside.running.items)
    (map (λ (s : Seat g.row.S.Denot g.row.P.Denot g.row.S-Watch.Denot g.row.S-Device.Denot g.row.S-Frozen.Denot). s.answer) c.deref_mut-2.result.now)
    (failed_ended g c) c.in_err-parts.field-0.0 (length c.deref_mut-2.result.now) (omega (arith, ap length there, filled, c.self.inside.seats.ok.0, many))
    c.in_err-parts.ensures.first)

pub returns-in_err-parts-clause-counted : goal.returns-in_err-parts-clause-counted
returns-in_err-parts-clause-counted g c = ended_counted (eyes g.S.Store.history g.S.Device.Device.history g.S.Frozen.Frozen.content g.S.Device.Device.name
    g.S.Frozen.Frozen.size g.S.Watch.Watch.counts) (map routed_of c.args.commands.items) c.args.self.now
    (with_jobs (map (λ (s : Seat g.row.S.Denot g.row.P.Denot g.row.S-Watch.Denot g.row.S-Device.Denot g.row.S-Frozen.Denot). s.engine)
    (with_items (with_items c.self.inside.seats c.run_lists.new.seats) c.take_answers.new.seats).items) c.self.inside.running.items)
    (map (λ (s : Seat g.row.S.Denot g.row.P.Denot g.row.S-Watch.Denot g.row.S-Device.Denot g.row.S-Frozen.Denot). s.answer) c.deref_mut-2.result.now)
    (failed_ended g c) c.from_residual-in_err-parts.result c.in_err-parts.field-0.0 (length c.deref_mut-2.result.now) c.from_residual-in_err-parts.ensures.1
    c.in_err-parts.ensures.first

-- ---- the replies were not put together

lost_ran : (g : Over) (c : goal.After-drop-lists-in_err-replies g)
    → SeatsRan (eyes g.S.Store.history g.S.Device.Device.history g.S.Frozen.Frozen.content g.S.Device.Device.name g.S.Frozen.Frozen.size g.S.Watch.Watch.counts)
    c.deref.result.now c.self.inside.seats c.self.inside.running.items c.deref_mut.result.now c.run_lists.new.seats c.deref_mut-2.result.now c.take_answers.new.seats
lost_ran g c = record { olds = c.deref_mut.ensures.value; left = c.deref_mut-2.ensures.value; ran = c.run_lists.ensures.ran; same = c.take_answers.ensures.engines; staffed = c.self.invariant }

lost_ended : (g : Over) (c : goal.After-drop-lists-in_err-replies g)
    → Ended (eyes g.S.Store.history g.S.Device.Device.history g.S.Frozen.Frozen.content g.S.Device.Device.name g.S.Frozen.Frozen.size g.S.Watch.Watch.counts)
    (map routed_of c.args.commands.items) c.args.self.now (with_jobs
    (map (λ (s : Seat g.row.S.Denot g.row.P.Denot g.row.S-Watch.Denot g.row.S-Device.Denot g.row.S-Frozen.Denot). s.engine)
    (with_items (with_items c.self.inside.seats c.run_lists.new.seats) c.take_answers.new.seats).items) c.self.inside.running.items)
    (map (λ (s : Seat g.row.S.Denot g.row.P.Denot g.row.S-Watch.Denot g.row.S-Device.Denot g.row.S-Frozen.Denot). s.answer) c.deref_mut-2.result.now)
lost_ended g c =
    seats_ended (eyes g.S.Store.history g.S.Device.Device.history g.S.Frozen.Frozen.content g.S.Device.Device.name g.S.Frozen.Frozen.size g.S.Watch.Watch.counts)
    c.deref.result.now c.self.inside.seats c.self.inside.running.items c.deref_mut.result.now c.run_lists.new.seats c.deref_mut-2.result.now
    c.take_answers.new.seats (lost_ran g c) c.in_ok-lists.lists.items c.args.commands.items c.args.self.now _
    c.deref.ensures.value c.in_ok-lists.ensures.each
    (omega (
      arith,
      c.len.ensures,
      c.self.inside.seats.ok.0,
      seats_many
          (eyes g.S.Store.history g.S.Device.Device.history g.S.Frozen.Frozen.content g.S.Device.Device.name g.S.Frozen.Frozen.size g.S.Watch.Watch.counts)
          (λ (s : Seat g.row.S.Denot g.row.P.Denot g.row.S-Watch.Denot g.row.S-Device.Denot g.row.S-Frozen.Denot). s.engine) c.self.inside.seats.items
          c.self.inside.running.items c.args.self.now c.self.invariant c.self.view_is,
      c.requires.few,
    )) c.self.view_is

pub invariant_of-self-in_err-replies : goal.invariant_of-self-in_err-replies
invariant_of-self-in_err-replies g c = seats_staffed (eyes g.S.Store.history g.S.Device.Device.history g.S.Frozen.Frozen.content g.S.Device.Device.name
    g.S.Frozen.Frozen.size g.S.Watch.Watch.counts) c.deref.result.now c.self.inside.seats c.self.inside.running.items c.deref_mut.result.now c.run_lists.new.seats
    c.deref_mut-2.result.now c.take_answers.new.seats (lost_ran g c)

pub returns-in_err-replies-clause-kept : goal.returns-in_err-replies-clause-kept
returns-in_err-replies-clause-kept g c = λ only w h. on_err c.from_residual-in_err-replies.result
    (ended_kept (eyes g.S.Store.history g.S.Device.Device.history g.S.Frozen.Frozen.content g.S.Device.Device.name g.S.Frozen.Frozen.size g.S.Watch.Watch.counts)
    (map routed_of c.args.commands.items) c.args.self.now (with_jobs
    (map (λ (s : Seat g.row.S.Denot g.row.P.Denot g.row.S-Watch.Denot g.row.S-Device.Denot g.row.S-Frozen.Denot). s.engine)
    (with_items (with_items c.self.inside.seats c.run_lists.new.seats) c.take_answers.new.seats).items) c.self.inside.running.items)
    (map (λ (s : Seat g.row.S.Denot g.row.P.Denot g.row.S-Watch.Denot g.row.S-Device.Denot g.row.S-Frozen.Denot). s.answer) c.deref_mut-2.result.now) (lost_ended g c)
    (window_for_parts c.args.commands.items c.requires.window) only w h)

pub returns-in_err-replies-clause-ran : goal.returns-in_err-replies-clause-ran
returns-in_err-replies-clause-ran g c = ended_ran (eyes g.S.Store.history g.S.Device.Device.history g.S.Frozen.Frozen.content g.S.Device.Device.name
    g.S.Frozen.Frozen.size g.S.Watch.Watch.counts) (map routed_of c.args.commands.items) c.args.self.now
    (with_jobs (map (λ (s : Seat g.row.S.Denot g.row.P.Denot g.row.S-Watch.Denot g.row.S-Device.Denot g.row.S-Frozen.Denot). s.engine)
    (with_items (with_items c.self.inside.seats c.run_lists.new.seats) c.take_answers.new.seats).items) c.self.inside.running.items)
    (map (λ (s : Seat g.row.S.Denot g.row.P.Denot g.row.S-Watch.Denot g.row.S-Device.Denot g.row.S-Frozen.Denot). s.answer) c.deref_mut-2.result.now) (lost_ended g c)

pub returns-in_err-replies-clause-memory : goal.returns-in_err-replies-clause-memory
returns-in_err-replies-clause-memory g c = λ is. ended_sound
    (eyes g.S.Store.history g.S.Device.Device.history g.S.Frozen.Frozen.content g.S.Device.Device.name g.S.Frozen.Frozen.size g.S.Watch.Watch.counts)
    (map routed_of c.args.commands.items) c.args.self.now (with_jobs
    (map (λ (s : Seat g.row.S.Denot g.row.P.Denot g.row.S-Watch.Denot g.row.S-Device.Denot g.row.S-Frozen.Denot). s.engine)
    (with_items (with_items c.self.inside.seats c.run_lists.new.seats) c.take_answers.new.seats).items) c.self.inside.running.items)
    (map (λ (s : Seat g.row.S.Denot g.row.P.Denot g.row.S-Watch.Denot g.row.S-Device.Denot g.row.S-Frozen.Denot). s.answer) c.deref_mut-2.result.now) (lost_ended g c)
    c.in_ok-parts.parts.items c.in_ok-parts.ensures.all

pub returns-in_err-replies-clause-counted : goal.returns-in_err-replies-clause-counted
returns-in_err-replies-clause-counted g c = ended_uncounted (eyes g.S.Store.history g.S.Device.Device.history g.S.Frozen.Frozen.content g.S.Device.Device.name
    g.S.Frozen.Frozen.size g.S.Watch.Watch.counts) (map routed_of c.args.commands.items) c.args.self.now
    (with_jobs (map (λ (s : Seat g.row.S.Denot g.row.P.Denot g.row.S-Watch.Denot g.row.S-Device.Denot g.row.S-Frozen.Denot). s.engine)
    (with_items (with_items c.self.inside.seats c.run_lists.new.seats) c.take_answers.new.seats).items) c.self.inside.running.items)
    (map (λ (s : Seat g.row.S.Denot g.row.P.Denot g.row.S-Watch.Denot g.row.S-Device.Denot g.row.S-Frozen.Denot). s.answer) c.deref_mut-2.result.now) (lost_ended g c)
    (λ p. IsDiskOf p c.from_residual-in_err-replies.result) (no_disk c.from_residual-in_err-replies.result c.from_residual-in_err-replies.ensures.1)

-- ---- all answered

all_ran : (g : Over) (c : goal.After-drop-lists-2 g) → SeatsRan
    (eyes g.S.Store.history g.S.Device.Device.history g.S.Frozen.Frozen.content g.S.Device.Device.name g.S.Frozen.Frozen.size g.S.Watch.Watch.counts)
    c.deref.result.now c.self.inside.seats c.self.inside.running.items c.deref_mut.result.now c.run_lists.new.seats c.deref_mut-2.result.now c.take_answers.new.seats
all_ran g c = record { olds = c.deref_mut.ensures.value; left = c.deref_mut-2.ensures.value; ran = c.run_lists.ensures.ran; same = c.take_answers.ensures.engines; staffed = c.self.invariant }

all_ended : (g : Over) (c : goal.After-drop-lists-2 g) → Ended
    (eyes g.S.Store.history g.S.Device.Device.history g.S.Frozen.Frozen.content g.S.Device.Device.name g.S.Frozen.Frozen.size g.S.Watch.Watch.counts)
    (map routed_of c.args.commands.items) c.args.self.now (with_jobs
    (map (λ (s : Seat g.row.S.Denot g.row.P.Denot g.row.S-Watch.Denot g.row.S-Device.Denot g.row.S-Frozen.Denot). s.engine)
    (with_items (with_items c.self.inside.seats c.run_lists.new.seats) c.take_answers.new.seats).items) c.self.inside.running.items)
    (map (λ (s : Seat g.row.S.Denot g.row.P.Denot g.row.S-Watch.Denot g.row.S-Device.Denot g.row.S-Frozen.Denot). s.answer) c.deref_mut-2.result.now)
all_ended g c =
    seats_ended (eyes g.S.Store.history g.S.Device.Device.history g.S.Frozen.Frozen.content g.S.Device.Device.name g.S.Frozen.Frozen.size g.S.Watch.Watch.counts)
    c.deref.result.now c.self.inside.seats c.self.inside.running.items c.deref_mut.result.now c.run_lists.new.seats c.deref_mut-2.result.now
    c.take_answers.new.seats (all_ran g c) c.in_ok-lists.lists.items c.args.commands.items c.args.self.now _
    c.deref.ensures.value c.in_ok-lists.ensures.each
    (omega (
      arith,
      c.len.ensures,
      c.self.inside.seats.ok.0,
      seats_many
          (eyes g.S.Store.history g.S.Device.Device.history g.S.Frozen.Frozen.content g.S.Device.Device.name g.S.Frozen.Frozen.size g.S.Watch.Watch.counts)
          (λ (s : Seat g.row.S.Denot g.row.P.Denot g.row.S-Watch.Denot g.row.S-Device.Denot g.row.S-Frozen.Denot). s.engine) c.self.inside.seats.items
          c.self.inside.running.items c.args.self.now c.self.invariant c.self.view_is,
      c.requires.few,
    )) c.self.view_is

pub invariant_of-self-2 : goal.invariant_of-self-2
invariant_of-self-2 g c = seats_staffed (eyes g.S.Store.history g.S.Device.Device.history g.S.Frozen.Frozen.content g.S.Device.Device.name g.S.Frozen.Frozen.size
    g.S.Watch.Watch.counts) c.deref.result.now c.self.inside.seats c.self.inside.running.items c.deref_mut.result.now c.run_lists.new.seats c.deref_mut-2.result.now
    c.take_answers.new.seats (all_ran g c)

pub returns-clause-replies : goal.returns-clause-replies
returns-clause-replies g c = λ w h. c.in_ok-replies.ensures ∙ ended_replied
    (eyes g.S.Store.history g.S.Device.Device.history g.S.Frozen.Frozen.content g.S.Device.Device.name g.S.Frozen.Frozen.size g.S.Watch.Watch.counts)
    (map routed_of c.args.commands.items) c.args.self.now (with_jobs
    (map (λ (s : Seat g.row.S.Denot g.row.P.Denot g.row.S-Watch.Denot g.row.S-Device.Denot g.row.S-Frozen.Denot). s.engine)
    (with_items (with_items c.self.inside.seats c.run_lists.new.seats) c.take_answers.new.seats).items) c.self.inside.running.items)
    (map (λ (s : Seat g.row.S.Denot g.row.P.Denot g.row.S-Watch.Denot g.row.S-Device.Denot g.row.S-Frozen.Denot). s.answer) c.deref_mut-2.result.now) (all_ended g c)
    c.in_ok-parts.parts.items c.in_ok-parts.ensures.all c.replies_are_gathered.ensures c.rendered_are_gathered.ensures c.requires.some c.requires.ascending
    (window_for_parts c.args.commands.items c.requires.window) w h

pub returns-clause-frames : goal.returns-clause-frames
returns-clause-frames g c =
    seats_framed (eyes g.S.Store.history g.S.Device.Device.history g.S.Frozen.Frozen.content g.S.Device.Device.name g.S.Frozen.Frozen.size g.S.Watch.Watch.counts)
    c.deref.result.now c.self.inside.seats c.self.inside.running.items c.deref_mut.result.now c.run_lists.new.seats c.deref_mut-2.result.now
    c.take_answers.new.seats (all_ran g c) c.in_ok-lists.lists.items c.args.commands.items c.args.self.now _ c.in_ok-parts.parts.items c.run_lists.new.frames.items
    c.deref.ensures.value c.in_ok-lists.ensures.each
    (omega (
      arith,
      c.len.ensures,
      c.self.inside.seats.ok.0,
      seats_many
          (eyes g.S.Store.history g.S.Device.Device.history g.S.Frozen.Frozen.content g.S.Device.Device.name g.S.Frozen.Frozen.size g.S.Watch.Watch.counts)
          (λ (s : Seat g.row.S.Denot g.row.P.Denot g.row.S-Watch.Denot g.row.S-Device.Denot g.row.S-Frozen.Denot). s.engine) c.self.inside.seats.items
          c.self.inside.running.items c.args.self.now c.self.invariant c.self.view_is,
      c.requires.few,
    )) c.self.view_is
    c.in_ok-parts.ensures.all c.run_lists.ensures.framed

pub returns-clause-held : goal.returns-clause-held
returns-clause-held g c = λ only w h. ended_held (eyes g.S.Store.history g.S.Device.Device.history g.S.Frozen.Frozen.content g.S.Device.Device.name
    g.S.Frozen.Frozen.size g.S.Watch.Watch.counts) (map routed_of c.args.commands.items) c.args.self.now
    (with_jobs (map (λ (s : Seat g.row.S.Denot g.row.P.Denot g.row.S-Watch.Denot g.row.S-Device.Denot g.row.S-Frozen.Denot). s.engine)
    (with_items (with_items c.self.inside.seats c.run_lists.new.seats) c.take_answers.new.seats).items) c.self.inside.running.items)
    (map (λ (s : Seat g.row.S.Denot g.row.P.Denot g.row.S-Watch.Denot g.row.S-Device.Denot g.row.S-Frozen.Denot). s.answer) c.deref_mut-2.result.now) (all_ended g c)
    c.in_ok-parts.parts.items c.in_ok-parts.ensures.all (window_for_parts c.args.commands.items c.requires.window) only w h

pub returns-clause-places : goal.returns-clause-places
returns-clause-places g c = ap keys_of c.in_ok-replies.ensures
    ∙ places_of (map routed_of c.args.commands.items) (gathered_rendered (map rendered_in c.in_ok-parts.parts.items))
    (ended_answers (eyes g.S.Store.history g.S.Device.Device.history g.S.Frozen.Frozen.content g.S.Device.Device.name g.S.Frozen.Frozen.size g.S.Watch.Watch.counts)
    (map routed_of c.args.commands.items) c.args.self.now (with_jobs
    (map (λ (s : Seat g.row.S.Denot g.row.P.Denot g.row.S-Watch.Denot g.row.S-Device.Denot g.row.S-Frozen.Denot). s.engine)
    (with_items (with_items c.self.inside.seats c.run_lists.new.seats) c.take_answers.new.seats).items) c.self.inside.running.items)
    (map (λ (s : Seat g.row.S.Denot g.row.P.Denot g.row.S-Watch.Denot g.row.S-Device.Denot g.row.S-Frozen.Denot). s.answer) c.deref_mut-2.result.now) (all_ended g c)
    c.in_ok-parts.parts.items c.in_ok-parts.ensures.all c.kinds_are_gathered.ensures c.rendered_are_gathered.ensures c.requires.some c.requires.ascending
    (window_for_parts c.args.commands.items c.requires.window))

pub returns-clause-kinds : goal.returns-clause-kinds
returns-clause-kinds g c =
    subst (λ replies. AreRenderedOfKinds (requests_in c.args.commands.items) (values_in replies)) (sym c.in_ok-replies.ensures)
    (kinds_of (map routed_of c.args.commands.items) (gathered_rendered (map rendered_in c.in_ok-parts.parts.items))
    (ended_answers (eyes g.S.Store.history g.S.Device.Device.history g.S.Frozen.Frozen.content g.S.Device.Device.name g.S.Frozen.Frozen.size
    g.S.Watch.Watch.counts) (map routed_of c.args.commands.items) c.args.self.now
    (with_jobs (map (λ (s : Seat g.row.S.Denot g.row.P.Denot g.row.S-Watch.Denot g.row.S-Device.Denot g.row.S-Frozen.Denot). s.engine)
    (with_items (with_items c.self.inside.seats c.run_lists.new.seats) c.take_answers.new.seats).items) c.self.inside.running.items)
    (map (λ (s : Seat g.row.S.Denot g.row.P.Denot g.row.S-Watch.Denot g.row.S-Device.Denot g.row.S-Frozen.Denot). s.answer) c.deref_mut-2.result.now)
    (all_ended g c) c.in_ok-parts.parts.items c.in_ok-parts.ensures.all c.kinds_are_gathered.ensures c.rendered_are_gathered.ensures c.requires.some c.requires.ascending
    (window_for_parts c.args.commands.items c.requires.window)))

pub returns-clause-well : goal.returns-clause-well
returns-clause-well g c = ended_well (eyes g.S.Store.history g.S.Device.Device.history g.S.Frozen.Frozen.content g.S.Device.Device.name g.S.Frozen.Frozen.size
    g.S.Watch.Watch.counts) (map routed_of c.args.commands.items) c.args.self.now
    (with_jobs (map (λ (s : Seat g.row.S.Denot g.row.P.Denot g.row.S-Watch.Denot g.row.S-Device.Denot g.row.S-Frozen.Denot). s.engine)
    (with_items (with_items c.self.inside.seats c.run_lists.new.seats) c.take_answers.new.seats).items) c.self.inside.running.items)
    (map (λ (s : Seat g.row.S.Denot g.row.P.Denot g.row.S-Watch.Denot g.row.S-Device.Denot g.row.S-Frozen.Denot). s.answer) c.deref_mut-2.result.now) (all_ended g c)
    c.in_ok-parts.parts.items c.in_ok-parts.ensures.all

pub returns-clause-ran : goal.returns-clause-ran
returns-clause-ran g c = ended_ran (eyes g.S.Store.history g.S.Device.Device.history g.S.Frozen.Frozen.content g.S.Device.Device.name g.S.Frozen.Frozen.size
    g.S.Watch.Watch.counts) (map routed_of c.args.commands.items) c.args.self.now
    (with_jobs (map (λ (s : Seat g.row.S.Denot g.row.P.Denot g.row.S-Watch.Denot g.row.S-Device.Denot g.row.S-Frozen.Denot). s.engine)
    (with_items (with_items c.self.inside.seats c.run_lists.new.seats) c.take_answers.new.seats).items) c.self.inside.running.items)
    (map (λ (s : Seat g.row.S.Denot g.row.P.Denot g.row.S-Watch.Denot g.row.S-Device.Denot g.row.S-Frozen.Denot). s.answer) c.deref_mut-2.result.now) (all_ended g c)

pub returns-clause-counted : goal.returns-clause-counted
returns-clause-counted g c = ended_uncounted (eyes g.S.Store.history g.S.Device.Device.history g.S.Frozen.Frozen.content g.S.Device.Device.name g.S.Frozen.Frozen.size
    g.S.Watch.Watch.counts) (map routed_of c.args.commands.items) c.args.self.now
    (with_jobs (map (λ (s : Seat g.row.S.Denot g.row.P.Denot g.row.S-Watch.Denot g.row.S-Device.Denot g.row.S-Frozen.Denot). s.engine)
    (with_items (with_items c.self.inside.seats c.run_lists.new.seats) c.take_answers.new.seats).items) c.self.inside.running.items)
    (map (λ (s : Seat g.row.S.Denot g.row.P.Denot g.row.S-Watch.Denot g.row.S-Device.Denot g.row.S-Frozen.Denot). s.answer) c.deref_mut-2.result.now) (all_ended g c)
    (λ p. ⊥) (λ p cause. cause)
