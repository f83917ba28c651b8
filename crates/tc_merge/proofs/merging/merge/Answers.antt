use Rattle.std.proofs.Common.{◌≤◌, ◌+◌, map, ◌∙◌, ◌++◌, append_assoc, append-nil, refl, sym, subst, arith}
use Rattle.std.specs.Prelude.{All}
use Rattle.std.proofs.lemmas.List.Elements.{All-append, All-nil}
use Rattle.tc_store.specs.Gate.{IsClosed}
use Rattle.tc_store.specs.Moments.{LeavesAt}
use Rattle.tc_store.proofs.MomentLemmas.{EachSince-none, EachSince-trans}
use Rattle.tc_component.specs.Building.{HasRows}
use Rattle.tc_component.specs.Spelling.{IsIndex}
use Rattle.tc_merge.specs.Faults.{IfHarmed, IsHarmIn, IsJudged}
use Rattle.tc_merge.specs.Inputs.{IsNextOf, IsUpTo}
use Rattle.tc_merge.specs.Merging.{AreTold, live_rows}
use Rattle.tc_merge.proofs.ReadsCounted.{more_reads, no_read}
use Rattle.tc_merge.proofs.UpTo.{adds_to, begins, goes_on, ends}
use Rattle.tc_merge.proofs.merging.merge.Goals as goal

pub loop-next-init : goal.loop-next-init
loop-next-init g c =
    let h = g.S.Device.Device.history in
    let b = c.args.builder.now in
    record {
      next = c.next_of-next.ensures;
      up = λ rows told has. begins (λ file. g.S.Frozen.Frozen.content file) c.args.from c.args.inputs.now (λ done. HasRows (h b.device) b (rows ++ done)) (subst (HasRows (h b.device) b) (sym (append-nil rows)) has);
      judged = λ told.
          let judged = IsJudged (λ file. g.S.Frozen.Frozen.content file) (map (λ i. i.component) c.args.inputs.now) in
          begins (λ file. g.S.Frozen.Frozen.content file) c.args.from c.args.inputs.now (λ done. All judged done) (All-nil judged);
      more = λ rows has. (rows, has);
      same = refl;
      head = refl;
      going_on = c.requires.going_on;
      name = refl;
      moments = EachSince-none (LeavesAt IsClosed) (h b.device) (h b.device) refl;
      reads = begins (λ file. g.S.Frozen.Frozen.content file) c.args.from c.args.inputs.now
          (λ done. (g.S.Watch.Watch.counts c.args.watch.now).reads ≤ (g.S.Watch.Watch.counts c.args.watch.now).reads + live_rows done)
          (no_read (g.S.Watch.Watch.counts c.args.watch.now).reads (g.S.Watch.Watch.counts c.args.watch.now).reads 0 refl);
      faults = omega arith;
    }

pub put_entry-requires-clause-lawful : goal.put_entry-requires-clause-lawful
put_entry-requires-clause-lawful g c κs within = subst (All (λ m. IsIndex m.index)) (sym c.loop-next.invariant.same) c.requires.lawful

pub loop-next-preserved : goal.loop-next-preserved
loop-next-preserved g c =
    let h = g.S.Device.Device.history in
    let content = g.S.Frozen.Frozen.content in
    let l = c.loop-next in
    let b = c.args.builder.now in
    let new = c.put_entry.new in
    record {
      next = c.in-Ok.ensures.next;
      up = λ rows told has.
          goes_on (λ file. content file) c.args.from c.args.inputs.now l.inputs new.inputs (λ done. HasRows (h l.builder.device) l.builder (rows ++ done)) (λ done. HasRows (h new.builder.device) new.builder (rows ++ done))
          (λ done more. HasRows (h new.builder.device) new.builder ((rows ++ done) ++ more)) (l.invariant.up rows told has)
          (λ done pushed. c.in-Ok.ensures.pushed (rows ++ done) (subst (AreTold (λ file. content file)) (sym l.invariant.same) told) pushed)
          (λ done more pushed. subst (HasRows (h new.builder.device) new.builder) (append_assoc rows done more) pushed);
      judged = λ told.
          let components = map (λ i. i.component) c.args.inputs.now in
          goes_on (λ file. content file) c.args.from c.args.inputs.now l.inputs new.inputs (λ done. All (IsJudged (λ file. content file) components) done) (λ done. All (IsJudged (λ file. content file) components) done)
          (λ done more. All (IsJudged (λ file. content file) components) done × All (IsJudged (λ file. content file) components) more) (l.invariant.judged told)
          (λ done judged. adds_to (λ file. content file) c.args.from l.inputs new.inputs (All (IsJudged (λ file. content file) components) done) (λ more. All (IsJudged (λ file. content file) components) more) judged
          (subst (λ cs. IsUpTo (λ file. content file) c.args.from l.inputs new.inputs (λ more. All (IsJudged (λ file. content file) cs) more)) l.invariant.same
          (c.in-Ok.ensures.judged (subst (AreTold (λ file. content file)) (sym l.invariant.same) told))))
          (λ done more judged. All-append (IsJudged (λ file. content file) components) done more judged.0 judged.1);
      more = λ rows has. let before = l.invariant.more rows has in c.in-Ok.ensures.more before.0 before.1;
      same = c.put_entry.ensures.same ∙ l.invariant.same;
      head = c.put_entry.ensures.head ∙ l.invariant.head;
      going_on = c.in-Ok.ensures.not_failed;
      name = c.put_entry.ensures.name ∙ l.invariant.name;
      moments = EachSince-trans (LeavesAt IsClosed) (h b.device) (h l.builder.device) (h new.builder.device) l.invariant.moments c.put_entry.ensures.moments;
      reads =
          let old = (g.S.Watch.Watch.counts c.args.watch.now).reads in
          let middle = (g.S.Watch.Watch.counts l.watch).reads in
          let now = (g.S.Watch.Watch.counts new.watch).reads in
          goes_on (λ file. content file) c.args.from c.args.inputs.now l.inputs new.inputs (λ done. middle ≤ old + live_rows done) (λ done. now ≤ old + live_rows done)
          (λ done more. (middle ≤ old + live_rows done) × (now ≤ middle + live_rows more)) l.invariant.reads
          (λ done few. adds_to (λ file. content file) c.args.from l.inputs new.inputs (middle ≤ old + live_rows done) (λ more. now ≤ middle + live_rows more) few c.in-Ok.ensures.reads)
          (λ done more both. more_reads old middle now done more both.0 both.1);
      faults = omega (arith, l.invariant.faults, c.put_entry.ensures.watched.faults);
    }

pub returns-in-Err-clause-moments : goal.returns-in-Err-clause-moments
returns-in-Err-clause-moments g c =
    let h = g.S.Device.Device.history in
    let l = c.loop-next in
    EachSince-trans (LeavesAt IsClosed) (h c.args.builder.now.device) (h l.builder.device) (h c.put_entry.new.builder.device) l.invariant.moments c.put_entry.ensures.moments

pub returns-clause-pushed : goal.returns-clause-pushed
returns-clause-pushed g c = λ rows told has.
    let h = g.S.Device.Device.history in
    let l = c.loop-next in
    ends (λ file. g.S.Frozen.Frozen.content file) c.args.from c.args.inputs.now l.inputs (λ done. HasRows (h l.builder.device) l.builder (rows ++ done)) (l.invariant.up rows told has) (subst (IsNextOf c.loop-next.inputs) c.in_default.is c.loop-next.invariant.next)

pub returns-in-Err-clause-harmed : goal.returns-in-Err-clause-harmed
returns-in-Err-clause-harmed g c =
    subst (λ run. IfHarmed c.in-Err.fault (λ file place bytes. IsHarmIn (λ f. g.S.Frozen.Frozen.content f) run file place bytes)) c.loop-next.invariant.same c.in-Err.ensures.harmed

pub returns-clause-judged : goal.returns-clause-judged
returns-clause-judged g c = λ told.
    let judged = IsJudged (λ file. g.S.Frozen.Frozen.content file) (map (λ i. i.component) c.args.inputs.now) in
    ends (λ file. g.S.Frozen.Frozen.content file) c.args.from c.args.inputs.now c.loop-next.inputs (λ done. All judged done) (c.loop-next.invariant.judged told) (subst (IsNextOf c.loop-next.inputs) c.in_default.is c.loop-next.invariant.next)

pub returns-clause-reads : goal.returns-clause-reads
returns-clause-reads g c =
    ends (λ file. g.S.Frozen.Frozen.content file) c.args.from c.args.inputs.now c.loop-next.inputs
    (λ done. (g.S.Watch.Watch.counts c.loop-next.watch).reads ≤ (g.S.Watch.Watch.counts c.args.watch.now).reads + live_rows done) c.loop-next.invariant.reads
    (subst (IsNextOf c.loop-next.inputs) c.in_default.is c.loop-next.invariant.next)
