use Rattle.std.proofs.Common.{◌≡◌, ◌∙◌, ◌≤◌, ◌<◌, true, ap, arith, length, refl, subst}
use Rattle.std.specs.Prelude.{is_some}
use Rattle.tc_keeper.specs.WithJobs.{engine_with}
use Rattle.tc_work.specs.Moving.{eyes}
use Rattle.tc_work.specs.declared.finishing.Finished.{Finished as finished}
use Rattle.tc_keeper.specs.Faults.{faults_in}
use Rattle.tc_server.specs.Kits.{fault_before, IsClosed}
use Rattle.tc_server.proofs.CloseLoops.{Closing, closing_all, closing_more, closing_none, fewer_all, none_left, one_fewer}
use Rattle.tc_server.proofs.closing.close_all.Goals as goal

pub loop-init : goal.loop-init
loop-init g c = record {
  closing = closing_none (λ e (f : finished _ _ _ _). IsClosed
      (eyes g.S.Store.history g.S.Device.Device.history g.S.Frozen.Frozen.content g.S.Device.Device.name g.S.Frozen.Frozen.size g.S.Watch.Watch.counts)
      g.S.Device.Device.size e f.outcome (g.S.Store.history f.kit.store) (faults_in g.S.Watch.Watch.counts f.kit)) (λ (f : finished _ _ _ _). f.kit)
      (λ (f : finished _ _ _ _). f.outcome) c.args.engines c.args.kits.items;
  left = omega arith;
  readers = c.requires.readers;
  few = c.requires.few;
  room = c.requires.room;
}

pub unreachable-requires : goal.unreachable-requires
unreachable-requires g c =
    let l = c.loop in
    let more : l.counter < length c.args.engines = let test = c.loop-test.true in let same = c.len-end.ensures in omega arith in
    let none : length l.engines ≡ 0 = ap length (c.in_default.ensures.none refl).0 in
    absurd (omega (arith, more, none, l.invariant.left))

pub close-kit-requires-clause-reader : goal.close-kit-requires-clause-reader
close-kit-requires-clause-reader g c κs within = (fewer_all (λ e. is_some e.engine.part.reader ≡ true) c.loop.engines c.pop.new.self (engine_with c.in-Some.engine c.in-Some.jobs) c.in-Some.ensures.last c.loop.invariant.readers).1

pub put_first-requires-clause-room : goal.put_first-requires-clause-room
put_first-requires-clause-room g c κs within = omega (arith, one_fewer c.loop.engines c.pop.new.self (engine_with c.in-Some.engine c.in-Some.jobs) c.in-Some.ensures.last, c.loop.invariant.room)

pub overflow_cast-len : goal.overflow_cast-len
overflow_cast-len g c = omega (arith, c.len.ensures, one_fewer c.loop.engines c.pop.new.self (engine_with c.in-Some.engine c.in-Some.jobs) c.in-Some.ensures.last, c.loop.invariant.few)

pub loop-preserved : goal.loop-preserved
loop-preserved g c =
    let l = c.loop in
    let fewer = one_fewer l.engines c.pop.new.self (engine_with c.in-Some.engine c.in-Some.jobs) c.in-Some.ensures.last in
    record {
      closing = closing_more (λ e (f : finished _ _ _ _). IsClosed
          (eyes g.S.Store.history g.S.Device.Device.history g.S.Frozen.Frozen.content g.S.Device.Device.name g.S.Frozen.Frozen.size g.S.Watch.Watch.counts)
          g.S.Device.Device.size e f.outcome (g.S.Store.history f.kit.store) (faults_in g.S.Watch.Watch.counts f.kit)) (λ (f : finished _ _ _ _). f.kit)
          (λ (f : finished _ _ _ _). f.outcome) c.args.engines c.args.kits.items l.engines c.pop.new.self l.kits.items c.put_first.new.kits.items l.fault
          c.fault_with-fault.result (engine_with c.in-Some.engine c.in-Some.jobs) c.close-kit.result l.invariant.closing c.in-Some.ensures.last
          c.put_first.ensures.items (c.fault_with-fault.ensures ∙ ap (λ n. fault_before n c.close-kit.result.outcome l.fault) c.len.ensures) c.close-kit.ensures;
      left = omega (arith, fewer, l.invariant.left);
      readers = (fewer_all (λ e. is_some e.engine.part.reader ≡ true) l.engines c.pop.new.self (engine_with c.in-Some.engine c.in-Some.jobs) c.in-Some.ensures.last l.invariant.readers).0;
      few = omega (arith, fewer, l.invariant.few);
      room = omega (arith, fewer, l.invariant.room, c.put_first.ensures.room, c.put_first.ensures.longer);
    }

pub returns : goal.returns
returns g c =
    let l = c.loop in
    let over : length c.args.engines ≤ l.counter = let test = c.loop-test.false in let same = c.len-end.ensures in omega arith in
    let none = none_left l.engines l.counter (length c.args.engines) l.invariant.left over in
    closing_all (λ e (f : finished _ _ _ _). IsClosed (eyes g.S.Store.history g.S.Device.Device.history g.S.Frozen.Frozen.content g.S.Device.Device.name
    g.S.Frozen.Frozen.size g.S.Watch.Watch.counts) g.S.Device.Device.size e f.outcome (g.S.Store.history f.kit.store) (faults_in g.S.Watch.Watch.counts f.kit))
    (λ (f : finished _ _ _ _). f.kit) (λ (f : finished _ _ _ _). f.outcome) c.args.engines c.args.kits.items l.kits.items l.fault
    (subst (λ es. Closing (λ e (f : finished _ _ _ _). IsClosed (eyes g.S.Store.history g.S.Device.Device.history g.S.Frozen.Frozen.content g.S.Device.Device.name
    g.S.Frozen.Frozen.size g.S.Watch.Watch.counts) g.S.Device.Device.size e f.outcome (g.S.Store.history f.kit.store) (faults_in g.S.Watch.Watch.counts f.kit))
    (λ (f : finished _ _ _ _). f.kit) (λ (f : finished _ _ _ _). f.outcome) c.args.engines c.args.kits.items es l.kits.items l.fault) none l.invariant.closing)
