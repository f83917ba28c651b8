use Rattle.std.proofs.Common.{◌≤◌, ◌+◌, ◌≡◌, map, sym, subst}
use Rattle.std.specs.Arc.{arc_value}
use Rattle.std.specs.Prelude.{All}
use Rattle.tc_store.specs.DiskFile.{settled_file}
use Rattle.tc_store.specs.Gate.{IsShutOrWhole}
use Rattle.tc_store.specs.Moments.{IfTold, LeavesOnly}
use Rattle.tc_merge.specs.Faults.{IfHarmed, IsHarmIn, IsJudged}
use Rattle.tc_merge.specs.Merging.{AreTold, live_rows, merged_rows, merge_bytes}
use Rattle.tc_merge.proofs.job.MergeJob.run.Goals as goal

pub returns-in-Ok-clause-merged : goal.returns-in-Ok-clause-merged
returns-in-Ok-clause-merged g c = rw (← c.self.view_is) (λ cs all. c.merges_are_made.ensures c.self.inside.parts.head _ cs c.self.invariant.1 all)

pub returns-clause-merged : goal.returns-clause-merged
returns-clause-merged g c = rw (← c.self.view_is) (λ cs all. c.merges_are_made.ensures c.self.inside.parts.head _ cs c.self.invariant.1 all)

pub returns-in-Ok-clause-whole : goal.returns-in-Ok-clause-whole
returns-in-Ok-clause-whole g c =
    let h = g.S.Device.Device.history in
    let content = g.S.Frozen.Frozen.content in
    let parts = c.self.inside.parts in
    let items = c.as_slice.ensures.value in
    rw (← c.self.view_is) (λ ok told. subst (λ run. IfTold (h c.in-Ok.device) (λ f. f ≡ settled_file (merge_bytes (λ file. content file) parts.head (map arc_value run)))) items
    (c.in-Ok.ensures.whole (subst (λ run. AreTold (λ file. content file) (map arc_value run)) (sym items) told)))

pub returns-in-Ok-clause-moments : goal.returns-in-Ok-clause-moments
returns-in-Ok-clause-moments g c =
    let h = g.S.Device.Device.history in
    let content = g.S.Frozen.Frozen.content in
    let parts = c.self.inside.parts in
    let items = c.as_slice.ensures.value in
    rw (← c.self.view_is) (λ before told shut. subst (λ run. LeavesOnly (IsShutOrWhole before (merge_bytes (λ file. content file) parts.head (map arc_value run))) (h parts.device) (h c.in-Ok.device)) items
    (c.in-Ok.ensures.moments before (subst (λ run. AreTold (λ file. content file) (map arc_value run)) (sym items) told) shut))

pub returns-clause-moments : goal.returns-clause-moments
returns-clause-moments g c =
    let h = g.S.Device.Device.history in
    let content = g.S.Frozen.Frozen.content in
    let parts = c.self.inside.parts in
    let items = c.as_slice.ensures.value in
    rw (← c.self.view_is) (λ before told shut. subst (λ run. LeavesOnly (IsShutOrWhole before (merge_bytes (λ file. content file) parts.head (map arc_value run))) (h parts.device) (h c.in-Err.field-0.device)) items
    (c.in-Err.ensures.failed_moments before (subst (λ run. AreTold (λ file. content file) (map arc_value run)) (sym items) told) shut))

pub returns-clause-damaged : goal.returns-clause-damaged
returns-clause-damaged g c =
    let content = g.S.Frozen.Frozen.content in
    let items = c.as_slice.ensures.value in
    rw (← c.self.view_is) (subst (λ run. IfHarmed c.in-Err.field-0.cause (λ file place bytes. IsHarmIn (λ f. content f) (map arc_value run) file place bytes)) items c.in-Err.ensures.harmed)

pub returns-in-Ok-clause-judged : goal.returns-in-Ok-clause-judged
returns-in-Ok-clause-judged g c =
    let content = g.S.Frozen.Frozen.content in
    let parts = c.self.inside.parts in
    let items = c.as_slice.ensures.value in
    rw (← c.self.view_is) (λ ok told. subst (λ run. All (IsJudged (λ file. content file) (map arc_value run)) (merged_rows (λ file. content file) parts.head.from (map arc_value run))) items
    (c.in-Ok.ensures.judged (subst (λ run. AreTold (λ file. content file) (map arc_value run)) (sym items) told)))

pub returns-in-Ok-clause-reads : goal.returns-in-Ok-clause-reads
returns-in-Ok-clause-reads g c =
    let content = g.S.Frozen.Frozen.content in
    let parts = c.self.inside.parts in
    let counts = g.S.Watch.Watch.counts in
    rw (← c.self.view_is) (λ ok. subst (λ run. (counts c.write.new.watch).reads ≤ (counts parts.watch).reads + live_rows (merged_rows (λ file. content file) parts.head.from (map arc_value run))) c.as_slice.ensures.value c.in-Ok.ensures.reads)
