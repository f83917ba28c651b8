use Rattle.std.proofs.Common.{◌≤◌, ◌++◌, length, ap, refl, ◌∙◌, arith}
use Rattle.std.specs.Prelude.{None, Some, option_to_list}
use Rattle.std.proofs.lemmas.Result.{err_from_is_err_and}
use Rattle.tc_gen.specs.Generated.{generated}
use Rattle.tc_gen.proofs.LineLengths.{generated_count, generated_short}
use Rattle.tc_model.specs.Limits.{max_line}
use Rattle.tc_work.specs.Moving.{eyes}
use Rattle.tc_keeper.specs.Keeping.{faults_kept, FailsAt, ServesAt, IsTrueHere}
use Rattle.tc_keeper.proofs.Causes.{call_without_memory, calls_follow, nothing_counted}
use Rattle.tc_server.proofs.DemoLoops.{comes_first, comes_next, ends_at_end, ends_at_line, ends_between, ends_well, line_is}
use Rattle.tc_server.proofs.demo.hear_all.Goals as goal

-- ---- before the first line

pub loop-init : goal.loop-init
loop-init g c =
    let holds = ServesAt (eyes g.S.Store.history g.S.Device.Device.history g.S.Frozen.Frozen.content g.S.Device.Device.name g.S.Frozen.Frozen.size g.S.Watch.Watch.counts) in
    let keeps = FailsAt (eyes g.S.Store.history g.S.Device.Device.history g.S.Frozen.Frozen.content g.S.Device.Device.name g.S.Frozen.Frozen.size g.S.Watch.Watch.counts) in
    record {
      ready = c.requires.ready;
      limit = refl;
      settings = refl;
      comes = rw (c.new-feed.ensures, c.new-tally.ensures) (comes_first holds keeps (holds c.args.session.now.keeper) (generated c.args.commands) c.args.session.now.window.limit c.args.session.now (λ first held. held) c.requires.requests c.requires.bytes);
      cause = nothing_counted (faults_kept g.S.Watch.Watch.counts c.args.session.now.keeper) (IsTrueHere g.S.Store.history g.S.Device.Device.history g.S.Frozen.Frozen.content c.args.session.now.keeper);
    }

-- ---- a line

pub hear_line-requires-clause-size : goal.hear_line-requires-clause-size
hear_line-requires-clause-size g c κs within =
    let holds = ServesAt (eyes g.S.Store.history g.S.Device.Device.history g.S.Frozen.Frozen.content g.S.Device.Device.name g.S.Frozen.Frozen.size g.S.Watch.Watch.counts) in
    let keeps = FailsAt (eyes g.S.Store.history g.S.Device.Device.history g.S.Frozen.Frozen.content g.S.Device.Device.name g.S.Frozen.Frozen.size g.S.Watch.Watch.counts) in
    let came = c.in_ok-line.ensures.given ∙ ap (λ o. option_to_list o ++ c.next.new.self) c.in-Some.is in
    line_is holds keeps (holds c.args.session.now.keeper) (generated c.args.commands) c.args.session.now.window.limit (λ line. length line ≤ max_line) c.loop.feed
    c.in-Some.line c.next.new.self c.loop.session c.loop.tally came (generated_short c.args.commands (omega (arith, c.requires.few))) c.loop.invariant.comes

pub loop-preserved : goal.loop-preserved
loop-preserved g c =
    let holds = ServesAt (eyes g.S.Store.history g.S.Device.Device.history g.S.Frozen.Frozen.content g.S.Device.Device.name g.S.Frozen.Frozen.size g.S.Watch.Watch.counts) in
    let keeps = FailsAt (eyes g.S.Store.history g.S.Device.Device.history g.S.Frozen.Frozen.content g.S.Device.Device.name g.S.Frozen.Frozen.size g.S.Watch.Watch.counts) in
    let came = c.in_ok-line.ensures.given ∙ ap (λ o. option_to_list o ++ c.next.new.self) c.in-Some.is in
    let i = c.loop.invariant in
    let heard = c.in_ok-hear_line-in-Some.ensures in
    record {
      ready = heard.ready;
      limit = heard.limit ∙ i.limit;
      settings = c.hear_line.ensures.settings ∙ i.settings;
      comes = comes_next holds keeps (holds c.args.session.now.keeper) (generated c.args.commands) c.args.session.now.window.limit c.loop.feed c.in-Some.line
          c.next.new.self c.loop.session c.hear_line.new.session c.loop.tally c.hear_line.new.tally came i.limit
          (omega (arith, c.requires.few, generated_count c.args.commands)) heard.heard i.comes;
      cause = calls_follow None _ _ _ _ _ i.cause heard.cause;
    }

pub returns-in_err-hear_line-in-Some-clause-fault : goal.returns-in_err-hear_line-in-Some-clause-fault
returns-in_err-hear_line-in-Some-clause-fault g c =
    let holds = ServesAt (eyes g.S.Store.history g.S.Device.Device.history g.S.Frozen.Frozen.content g.S.Device.Device.name g.S.Frozen.Frozen.size g.S.Watch.Watch.counts) in
    let keeps = FailsAt (eyes g.S.Store.history g.S.Device.Device.history g.S.Frozen.Frozen.content g.S.Device.Device.name g.S.Frozen.Frozen.size g.S.Watch.Watch.counts) in
    let p = err_from_is_err_and c.from_residual-in_err-hear_line-in-Some.result c.from_residual-in_err-hear_line-in-Some.ensures.1 in
    let came = c.in_ok-line.ensures.given ∙ ap (λ o. option_to_list o ++ c.next.new.self) c.in-Some.is in
    rw (p.1, p.2) (ends_at_line holds keeps (holds c.args.session.now.keeper) (generated c.args.commands) c.args.session.now.window.limit c.loop.feed c.in-Some.line
    c.next.new.self c.loop.session c.hear_line.new.session c.loop.tally c.in_err-hear_line-in-Some.field-0.0 came c.loop.invariant.limit
    c.in_err-hear_line-in-Some.ensures.fault c.loop.invariant.comes)

pub returns-in_err-hear_line-in-Some-clause-cause : goal.returns-in_err-hear_line-in-Some-clause-cause
returns-in_err-hear_line-in-Some-clause-cause g c =
    let p = err_from_is_err_and c.from_residual-in_err-hear_line-in-Some.result c.from_residual-in_err-hear_line-in-Some.ensures.1 in
    rw (p.1, p.2) (calls_follow (Some c.in_err-hear_line-in-Some.field-0.0) _ _ _ _ _ c.loop.invariant.cause c.in_err-hear_line-in-Some.ensures.cause)

-- ---- no memory for a line

pub returns-in_err-line-clause-fault : goal.returns-in_err-line-clause-fault
returns-in_err-line-clause-fault g c =
    let holds = ServesAt (eyes g.S.Store.history g.S.Device.Device.history g.S.Frozen.Frozen.content g.S.Device.Device.name g.S.Frozen.Frozen.size g.S.Watch.Watch.counts) in
    let keeps = FailsAt (eyes g.S.Store.history g.S.Device.Device.history g.S.Frozen.Frozen.content g.S.Device.Device.name g.S.Frozen.Frozen.size g.S.Watch.Watch.counts) in
    let p = err_from_is_err_and c.from_residual.result c.from_residual.ensures.1 in
    rw (p.1, p.2) (ends_between holds keeps (holds c.args.session.now.keeper) (generated c.args.commands) c.args.session.now.window.limit c.loop.feed c.loop.session c.loop.tally c.loop.invariant.comes)

pub returns-in_err-line-clause-cause : goal.returns-in_err-line-clause-cause
returns-in_err-line-clause-cause g c =
    let p = err_from_is_err_and c.from_residual.result c.from_residual.ensures.1 in
    rw (p.1, p.2) (call_without_memory _ _ _ _ c.loop.invariant.cause)

-- ---- the end of the lines

pub returns-in_err-hear_end-in-None-clause-fault : goal.returns-in_err-hear_end-in-None-clause-fault
returns-in_err-hear_end-in-None-clause-fault g c =
    let holds = ServesAt (eyes g.S.Store.history g.S.Device.Device.history g.S.Frozen.Frozen.content g.S.Device.Device.name g.S.Frozen.Frozen.size g.S.Watch.Watch.counts) in
    let keeps = FailsAt (eyes g.S.Store.history g.S.Device.Device.history g.S.Frozen.Frozen.content g.S.Device.Device.name g.S.Frozen.Frozen.size g.S.Watch.Watch.counts) in
    let p = err_from_is_err_and c.from_residual-in_err-hear_end-in-None.result c.from_residual-in_err-hear_end-in-None.ensures.1 in
    rw (p.1, p.2) (ends_at_end holds keeps (holds c.args.session.now.keeper) (generated c.args.commands) c.args.session.now.window.limit c.loop.feed c.loop.session
    c.hear_end.new.session c.loop.tally c.in_err-hear_end-in-None.field-0.0 (c.in_ok-line.ensures.end.0 c.in-None.is) c.loop.invariant.limit
    c.in_err-hear_end-in-None.ensures.fault c.loop.invariant.comes)

pub returns-in_err-hear_end-in-None-clause-cause : goal.returns-in_err-hear_end-in-None-clause-cause
returns-in_err-hear_end-in-None-clause-cause g c =
    let p = err_from_is_err_and c.from_residual-in_err-hear_end-in-None.result c.from_residual-in_err-hear_end-in-None.ensures.1 in
    rw (p.1, p.2) (calls_follow (Some c.in_err-hear_end-in-None.field-0.0) _ _ _ _ _ c.loop.invariant.cause c.in_err-hear_end-in-None.ensures.cause)

pub returns-in-None-clause-heard : goal.returns-in-None-clause-heard
returns-in-None-clause-heard g c =
    let holds = ServesAt (eyes g.S.Store.history g.S.Device.Device.history g.S.Frozen.Frozen.content g.S.Device.Device.name g.S.Frozen.Frozen.size g.S.Watch.Watch.counts) in
    let keeps = FailsAt (eyes g.S.Store.history g.S.Device.Device.history g.S.Frozen.Frozen.content g.S.Device.Device.name g.S.Frozen.Frozen.size g.S.Watch.Watch.counts) in
    ends_well holds keeps (holds c.args.session.now.keeper) (generated c.args.commands) c.args.session.now.window.limit c.loop.feed c.loop.session
    c.hear_end.new.session c.loop.tally c.hear_end.new.tally (c.in_ok-line.ensures.end.0 c.in-None.is) c.loop.invariant.limit
    (omega (arith, c.requires.few, generated_count c.args.commands)) c.in_ok-hear_end-in-None.ensures.heard c.loop.invariant.comes

pub returns-in-None-clause-cause : goal.returns-in-None-clause-cause
returns-in-None-clause-cause g c = calls_follow None _ _ _ _ _ c.loop.invariant.cause c.in_ok-hear_end-in-None.ensures.cause

-- ---- more lines than can be

pub returns-clause-fault : goal.returns-clause-fault
returns-clause-fault g c =
    let holds = ServesAt (eyes g.S.Store.history g.S.Device.Device.history g.S.Frozen.Frozen.content g.S.Device.Device.name g.S.Frozen.Frozen.size g.S.Watch.Watch.counts) in
    let keeps = FailsAt (eyes g.S.Store.history g.S.Device.Device.history g.S.Frozen.Frozen.content g.S.Device.Device.name g.S.Frozen.Frozen.size g.S.Watch.Watch.counts) in
    ends_between holds keeps (holds c.args.session.now.keeper) (generated c.args.commands) c.args.session.now.window.limit c.loop.feed c.loop.session c.loop.tally c.loop.invariant.comes

pub returns-clause-cause : goal.returns-clause-cause
returns-clause-cause g c = call_without_memory _ _ _ _ c.loop.invariant.cause
