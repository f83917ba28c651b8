use Rattle.std.proofs.Common.{◌≤◌, ◌+◌, ◌≡◌, ◌∙◌, [], None, map, sym, ap, subst}
use Rattle.std.specs.Arc.{arc_value}
use Rattle.std.specs.Prelude.{All}
use Rattle.std.proofs.lemmas.Result.{IfOk-weaker, IfErr-weaker}
use Rattle.tc_store.specs.DiskFile.{settled_file}
use Rattle.tc_store.specs.Gate.{IsClosed, IsClosedOrWhole, IsShutOr, IsShutOrWhole}
use Rattle.tc_store.specs.Moments.{IfTold, LeavesAt, LeavesOnly}
use Rattle.tc_store.proofs.StopLaws.{leaves_only_weaker, shut_or_whole-shut, shut_or_whole-closed, shut_or_whole-whole}
use Rattle.tc_schema_model.specs.Counted.{nothing}
use Rattle.tc_component.specs.Building.{HasRows}
use Rattle.tc_component.specs.Spelling.{IsIndex, file_bytes}
use Rattle.tc_merge.specs.Faults.{IfHarmed, IsHarmIn, IsJudged}
use Rattle.tc_merge.specs.Inputs.{rows_left}
use Rattle.tc_merge.specs.Merging.{AreTold, live_rows, kept, merged_rows, merge_bytes, newest_names, newest_schema}
use Rattle.tc_merge.specs.Newest.{newest}
use Rattle.tc_merge.proofs.UpTo.{started, started_components}
use Rattle.tc_merge.proofs.WrittenMoments.{then_leaves}
use Rattle.tc_merge.proofs.writing.write.Goals as goal

pub returns-in-Err-begin-clause-failed_moments : goal.returns-in-Err-begin-clause-failed_moments
returns-in-Err-begin-clause-failed_moments g c = λ before told shut.
    let h = g.S.Device.Device.history in
    let bytes = merge_bytes (λ file. g.S.Frozen.Frozen.content file) c.args.head (map arc_value c.args.run.now) in
    subst (λ d. LeavesOnly (IsShutOrWhole before bytes) (h c.args.device) (h d)) (sym c.not_written.ensures.device)
    (leaves_only_weaker (IsShutOr before) (IsShutOrWhole before bytes) (h c.args.device) (h c.in-Err-begin.broken.device) (shut_or_whole-shut before bytes) (c.in-Err-begin.ensures.broken_moments before shut))

pub merge-requires-clause-lawful : goal.merge-requires-clause-lawful
merge-requires-clause-lawful g c κs within =
    let run = map arc_value c.args.run.now in
    let components = ap (map (λ i. i.component)) (c.deref_mut.ensures.value ∙ c.in-Ok.ensures.inputs) ∙ started_components run in
    subst (All (λ m. IsIndex m.index)) (sym components) c.in-Ok.ensures.lawful

pub returns-in-Ok-merge-clause-whole : goal.returns-in-Ok-merge-clause-whole
returns-in-Ok-merge-clause-whole g c =
    IfOk-weaker c.finish.result _ _
    (λ written whole told.
    let h = g.S.Device.Device.history in
    let content = g.S.Frozen.Frozen.content in
    let run = map arc_value c.args.run.now in
    let inputs = c.deref_mut.ensures.value ∙ c.in-Ok.ensures.inputs in
    let filled = c.merge.new.builder in
    let rows = merged_rows (λ file. content file) c.args.head.from run in
    let has = subst (λ ls. HasRows (h filled.device) filled (kept c.args.head.from (newest ls))) (ap (map (rows_left (λ file. content file))) inputs ∙ started (λ file. content file) run)
    (c.in-Ok-merge.ensures.pushed [] (subst (AreTold (λ file. content file)) (sym (ap (map (λ i. i.component)) inputs ∙ started_components run)) told) c.in-Ok-begin.ensures.begun) in
    let head = c.merge.ensures.head ∙ c.in-Ok-begin.ensures.head in
    subst (λ k. IfTold (h written) (λ f. f ≡ settled_file (file_bytes k rows (newest_names [] run) (newest_schema nothing run)))) head (whole rows has))
    c.finish.ensures.whole

pub returns-in-Ok-merge-clause-moments : goal.returns-in-Ok-merge-clause-moments
returns-in-Ok-merge-clause-moments g c = λ before told shut.
    let h = g.S.Device.Device.history in
    let content = g.S.Frozen.Frozen.content in
    let run = map arc_value c.args.run.now in
    let inputs = c.deref_mut.ensures.value ∙ c.in-Ok.ensures.inputs in
    let filled = c.merge.new.builder in
    let rows = merged_rows (λ file. content file) c.args.head.from run in
    let has = subst (λ ls. HasRows (h filled.device) filled (kept c.args.head.from (newest ls))) (ap (map (rows_left (λ file. content file))) inputs ∙ started (λ file. content file) run)
    (c.in-Ok-merge.ensures.pushed [] (subst (AreTold (λ file. content file)) (sym (ap (map (λ i. i.component)) inputs ∙ started_components run)) told) c.in-Ok-begin.ensures.begun) in
    let head = c.merge.ensures.head ∙ c.in-Ok-begin.ensures.head in
    let bytes = merge_bytes (λ file. content file) c.args.head run in
    let begun = leaves_only_weaker (IsShutOr before) (IsShutOrWhole before bytes) (h c.args.device) (h c.in-Ok-begin.builder.device) (shut_or_whole-shut before bytes) (c.in-Ok-begin.ensures.moments before shut) in
    let still = then_leaves (IsShutOrWhole before bytes) IsClosed (h c.args.device) (h c.in-Ok-begin.builder.device) (h filled.device) (shut_or_whole-closed before bytes) begun c.merge.ensures.moments in
    IfOk-weaker c.finish.result _ _
    (λ written leaves.
    then_leaves (IsShutOrWhole before bytes) (IsClosedOrWhole bytes) (h c.args.device) (h filled.device) (h written) (shut_or_whole-whole before bytes) still
    (subst (λ k. LeavesOnly (IsClosedOrWhole (file_bytes k rows (newest_names [] run) (newest_schema nothing run))) (h filled.device) (h written)) head leaves))
    (c.finish.ensures.moments rows has)

pub returns-in-Ok-merge-clause-failed_moments : goal.returns-in-Ok-merge-clause-failed_moments
returns-in-Ok-merge-clause-failed_moments g c = λ before told shut.
    let h = g.S.Device.Device.history in
    let content = g.S.Frozen.Frozen.content in
    let run = map arc_value c.args.run.now in
    let inputs = c.deref_mut.ensures.value ∙ c.in-Ok.ensures.inputs in
    let filled = c.merge.new.builder in
    let rows = merged_rows (λ file. content file) c.args.head.from run in
    let has = subst (λ ls. HasRows (h filled.device) filled (kept c.args.head.from (newest ls))) (ap (map (rows_left (λ file. content file))) inputs ∙ started (λ file. content file) run)
    (c.in-Ok-merge.ensures.pushed [] (subst (AreTold (λ file. content file)) (sym (ap (map (λ i. i.component)) inputs ∙ started_components run)) told) c.in-Ok-begin.ensures.begun) in
    let head = c.merge.ensures.head ∙ c.in-Ok-begin.ensures.head in
    let bytes = merge_bytes (λ file. content file) c.args.head run in
    let begun = leaves_only_weaker (IsShutOr before) (IsShutOrWhole before bytes) (h c.args.device) (h c.in-Ok-begin.builder.device) (shut_or_whole-shut before bytes) (c.in-Ok-begin.ensures.moments before shut) in
    let still = then_leaves (IsShutOrWhole before bytes) IsClosed (h c.args.device) (h c.in-Ok-begin.builder.device) (h filled.device) (shut_or_whole-closed before bytes) begun c.merge.ensures.moments in
    IfErr-weaker c.finish.result _ _
    (λ failed leaves.
    then_leaves (IsShutOrWhole before bytes) (IsClosedOrWhole bytes) (h c.args.device) (h filled.device) (h failed.device) (shut_or_whole-whole before bytes) still
    (subst (λ k. LeavesOnly (IsClosedOrWhole (file_bytes k rows (newest_names [] run) (newest_schema nothing run))) (h filled.device) (h failed.device)) head leaves))
    (c.finish.ensures.failed_moments rows has)

pub returns-clause-failed_moments : goal.returns-clause-failed_moments
returns-clause-failed_moments g c = λ before told shut.
    let h = g.S.Device.Device.history in
    let bytes = merge_bytes (λ file. g.S.Frozen.Frozen.content file) c.args.head (map arc_value c.args.run.now) in
    subst (λ d. LeavesOnly (IsShutOrWhole before bytes) (h c.args.device) (h d)) (sym c.give_back.ensures.same)
    (then_leaves (IsShutOrWhole before bytes) IsClosed (h c.args.device) (h c.in-Ok-begin.builder.device) (h c.merge.new.builder.device) (shut_or_whole-closed before bytes)
    (leaves_only_weaker (IsShutOr before) (IsShutOrWhole before bytes) (h c.args.device) (h c.in-Ok-begin.builder.device) (shut_or_whole-shut before bytes) (c.in-Ok-begin.ensures.moments before shut)) c.merge.ensures.moments)

pub returns-clause-harmed : goal.returns-clause-harmed
returns-clause-harmed g c =
    let run = map arc_value c.args.run.now in
    let components = ap (map (λ i. i.component)) (c.deref_mut.ensures.value ∙ c.in-Ok.ensures.inputs) ∙ started_components run in
    subst (λ cs. IfHarmed c.in-Err-merge.cause (λ file place bytes. IsHarmIn (λ f. g.S.Frozen.Frozen.content f) cs file place bytes)) components c.in-Err-merge.ensures.harmed

pub returns-in-Err-begin-clause-failed_untold : goal.returns-in-Err-begin-clause-failed_untold
returns-in-Err-begin-clause-failed_untold g c = λ none.
    let h = g.S.Device.Device.history in
    let shut : IfTold (h c.args.device) (LeavesAt (IsShutOr None)) = subst (λ l. IfTold l (LeavesAt (IsShutOr None))) (sym none) tt in
    ap h c.not_written.ensures.device ∙ (c.in-Err-begin.ensures.broken_moments None shut).untold none

pub returns-in-Ok-merge-clause-untold : goal.returns-in-Ok-merge-clause-untold
returns-in-Ok-merge-clause-untold g c = λ none.
    let h = g.S.Device.Device.history in
    let shut : IfTold (h c.args.device) (LeavesAt (IsShutOr None)) = subst (λ l. IfTold l (LeavesAt (IsShutOr None))) (sym none) tt in
    let begun = (c.in-Ok-begin.ensures.moments None shut).untold none in
    let filled = c.merge.ensures.moments.untold begun in
    let some = c.in-Ok-merge.ensures.more [] c.in-Ok-begin.ensures.begun in
    IfOk-weaker c.finish.result _ _ (λ written leaves. leaves.untold filled) (c.finish.ensures.moments some.0 some.1)

pub returns-in-Ok-merge-clause-failed_untold : goal.returns-in-Ok-merge-clause-failed_untold
returns-in-Ok-merge-clause-failed_untold g c = λ none.
    let h = g.S.Device.Device.history in
    let shut : IfTold (h c.args.device) (LeavesAt (IsShutOr None)) = subst (λ l. IfTold l (LeavesAt (IsShutOr None))) (sym none) tt in
    let begun = (c.in-Ok-begin.ensures.moments None shut).untold none in
    let filled = c.merge.ensures.moments.untold begun in
    let some = c.in-Ok-merge.ensures.more [] c.in-Ok-begin.ensures.begun in
    IfErr-weaker c.finish.result _ _ (λ failed leaves. leaves.untold filled) (c.finish.ensures.failed_moments some.0 some.1)

pub returns-clause-failed_untold : goal.returns-clause-failed_untold
returns-clause-failed_untold g c = λ none.
    let h = g.S.Device.Device.history in
    let shut : IfTold (h c.args.device) (LeavesAt (IsShutOr None)) = subst (λ l. IfTold l (LeavesAt (IsShutOr None))) (sym none) tt in
    let begun = (c.in-Ok-begin.ensures.moments None shut).untold none in
    let filled = c.merge.ensures.moments.untold begun in
    ap h c.give_back.ensures.same ∙ filled

pub returns-in-Ok-merge-clause-judged : goal.returns-in-Ok-merge-clause-judged
returns-in-Ok-merge-clause-judged g c =
    IfOk-weaker c.finish.result _ _
    (λ written short told.
    let content = g.S.Frozen.Frozen.content in
    let run = map arc_value c.args.run.now in
    let inputs = c.deref_mut.ensures.value ∙ c.in-Ok.ensures.inputs in
    let components = ap (map (λ i. i.component)) inputs ∙ started_components run in
    subst (λ ls. All (IsJudged (λ file. content file) run) (kept c.args.head.from (newest ls))) (ap (map (rows_left (λ file. content file))) inputs ∙ started (λ file. content file) run)
    (subst (λ cs. All (IsJudged (λ file. content file) cs) (kept c.args.head.from (newest (map (rows_left (λ file. content file)) c.deref_mut.result.now)))) components
    (c.in-Ok-merge.ensures.judged (subst (AreTold (λ file. content file)) (sym components) told))))
    c.finish.ensures.size

pub returns-in-Ok-merge-clause-reads : goal.returns-in-Ok-merge-clause-reads
returns-in-Ok-merge-clause-reads g c =
    IfOk-weaker c.finish.result _ _
    (λ written short.
    let content = g.S.Frozen.Frozen.content in
    let run = map arc_value c.args.run.now in
    let inputs = c.deref_mut.ensures.value ∙ c.in-Ok.ensures.inputs in
    let counts = g.S.Watch.Watch.counts in
    subst (λ now. now ≤ (counts c.args.watch.now).reads + live_rows (merged_rows (λ file. content file) c.args.head.from run)) (sym c.finish.ensures.watched.reads)
    (subst (λ old. (counts c.merge.new.watch).reads ≤ old + live_rows (merged_rows (λ file. content file) c.args.head.from run)) c.in-Ok-begin.ensures.counted.reads
    (subst (λ ls. (counts c.merge.new.watch).reads ≤ (counts c.begin.new.watch).reads + live_rows (kept c.args.head.from (newest ls))) (ap (map (rows_left (λ file. content file))) inputs ∙ started (λ file. content file) run) c.in-Ok-merge.ensures.reads)))
    c.finish.ensures.size
