use Rattle.std.proofs.Common.{◌∙◌, length, refl, sym, ap, subst, arith}
use Rattle.std.specs.Prelude.{Ok}
use Rattle.tc_part_model.specs.PartState.{PartState}
use Rattle.tc_running.specs.Jobs.{JobsState}
use Rattle.tc_work.specs.Moving.{beside, eyes}
use Rattle.tc_work.specs.Settling.{PicksNone}
use Rattle.tc_work.proofs.KeptJobs.{lists_nothing, lists_then}
use Rattle.tc_work.proofs.MovedDocuments.{HasOnlyMerged, merged_then}
use Rattle.tc_work.proofs.MovingCalls.{moves_err, moves_nothing, moves_then}
use Rattle.tc_work.proofs.room.make_room.Goals as goal

pub loop-alloc-init : goal.loop-alloc-init
loop-alloc-init g c =
    let e = eyes g.S.Store.history g.S.Device.Device.history g.S.Frozen.Frozen.content g.S.Device.Device.name g.S.Frozen.Frozen.size g.S.Watch.Watch.counts in
    let first = beside c.args.part.now c.args.jobs.now in
    record { moves = moves_nothing e first c.requires.may; lists = lists_nothing e first c.args.policy c.requires.picked; merged = refl; flush = refl; joined = λ none. none; nothing = λ picks none. (refl, refl); enough = λ few. (refl, refl) }

pub loop-alloc-preserved : goal.loop-alloc-preserved
loop-alloc-preserved g c =
    let e = eyes g.S.Store.history g.S.Device.Device.history g.S.Frozen.Frozen.content g.S.Device.Device.name g.S.Frozen.Frozen.size g.S.Watch.Watch.counts in
    let l = c.loop-alloc in
    let first = beside c.args.part.now c.args.jobs.now in
    let now = beside l.part l.jobs in
    let begun = beside c.start_merge.new.part c.start_merge.new.jobs in
    let new = beside c.install_merge.new.part c.install_merge.new.jobs in
    let one = c.in_ok-start_merge.ensures in
    let two = c.in_ok-install_merge.ensures in
    record {
      moves = moves_then e first now new (Ok tt) l.invariant.moves (moves_then e now begun new (Ok tt) one.moves two.moves);
      lists = lists_then e first now new c.args.policy l.invariant.lists (lists_then e now begun new c.args.policy one.listed (two.listed c.args.policy one.listed.picked));
      merged = merged_then c.args.part.now l.part c.install_merge.new.part l.invariant.merged
          (merged_then l.part c.start_merge.new.part c.install_merge.new.part (subst (λ (s : PartState _ _ _ _). HasOnlyMerged l.part s) (sym one.begun) refl) (subst (λ (s : PartState _ _ _ _). HasOnlyMerged c.start_merge.new.part s) (sym two.installed) refl));
      flush = c.install_merge.ensures.flush ∙ c.start_merge.ensures.flush ∙ l.invariant.flush;
      joined = λ none. ap (λ (s : PartState _ _ _ _). s.merging) two.installed;
      nothing = λ picks none.
          let same = l.invariant.nothing picks none in
          let kept = one.nothing (subst (λ (s : PartState _ _ _ _). PicksNone c.args.policy s.list) (sym same.0) picks) in
          let done = two.nothing (ap (λ (j : JobsState _ _ _). j.merge) (kept.1 ∙ same.1) ∙ none) in
          (done.0 ∙ kept.0 ∙ same.0, done.1 ∙ kept.1 ∙ same.1);
      enough = λ few. absurd (omega (arith, few, ap (λ (s : PartState _ _ _ _). length s.list) (l.invariant.enough few).0, c.listed.ensures, c.loop-alloc-test.true));
    }

pub returns-in_err-start_merge-clause-moves : goal.returns-in_err-start_merge-clause-moves
returns-in_err-start_merge-clause-moves g c =
    let e = eyes g.S.Store.history g.S.Device.Device.history g.S.Frozen.Frozen.content g.S.Device.Device.name g.S.Frozen.Frozen.size g.S.Watch.Watch.counts in
    let l = c.loop-alloc in
    let first = beside c.args.part.now c.args.jobs.now in
    let now = beside l.part l.jobs in
    let begun = beside c.start_merge.new.part c.start_merge.new.jobs in
    moves_then e first now begun c.from_residual.result l.invariant.moves (moves_err e now begun begun c.from_residual.result c.start_merge.result c.in_err-start_merge.field-0.0 c.from_residual.ensures.1 c.in_err-start_merge.was c.start_merge.ensures.moves)

pub returns-then-not-is_merging-clause-moves : goal.returns-then-not-is_merging-clause-moves
returns-then-not-is_merging-clause-moves g c =
    let e = eyes g.S.Store.history g.S.Device.Device.history g.S.Frozen.Frozen.content g.S.Device.Device.name g.S.Frozen.Frozen.size g.S.Watch.Watch.counts in
    let l = c.loop-alloc in
    let first = beside c.args.part.now c.args.jobs.now in
    let now = beside l.part l.jobs in
    let begun = beside c.start_merge.new.part c.start_merge.new.jobs in
    moves_then e first now begun (Ok tt) l.invariant.moves c.in_ok-start_merge.ensures.moves

pub returns-in_err-install_merge-clause-moves : goal.returns-in_err-install_merge-clause-moves
returns-in_err-install_merge-clause-moves g c =
    let e = eyes g.S.Store.history g.S.Device.Device.history g.S.Frozen.Frozen.content g.S.Device.Device.name g.S.Frozen.Frozen.size g.S.Watch.Watch.counts in
    let l = c.loop-alloc in
    let first = beside c.args.part.now c.args.jobs.now in
    let now = beside l.part l.jobs in
    let begun = beside c.start_merge.new.part c.start_merge.new.jobs in
    let new = beside c.install_merge.new.part c.install_merge.new.jobs in
    let r = c.from_residual-in_err-install_merge.result in
    moves_then e first now new r l.invariant.moves
    (moves_then e now begun new r c.in_ok-start_merge.ensures.moves (moves_err e begun new new r c.install_merge.result c.in_err-install_merge.field-0.0 c.from_residual-in_err-install_merge.ensures.1 c.in_err-install_merge.was c.install_merge.ensures.moves))
