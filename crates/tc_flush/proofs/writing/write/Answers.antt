use Rattle.std.proofs.Common.{◌≡◌, [], sym, ap, ◌∙◌, subst}
use Rattle.tc_store.specs.DiskFile.{settled_file}
use Rattle.tc_store.specs.Gate.{IsClosedOrWhole, IsShutOrWhole}
use Rattle.tc_store.specs.Moments.{IfTold, LeavesOnly}
use Rattle.tc_lsm_model.specs.Tables.{writes_of, shapes_held}
use Rattle.tc_flush.specs.Flushable.{CanCount}
use Rattle.tc_flush.specs.Flushing.{flush_bytes}
use Rattle.tc_flush.specs.Recounting.{FitsEach, all_removed, names_with}
use Rattle.tc_component.specs.Rows.{rows_of}
use Rattle.tc_flush.proofs.FlushedBytes.{shapes_are, can_count, flush_is}
use Rattle.tc_flush.proofs.Outcomes.{if_ok, if_err}
use Rattle.tc_flush.proofs.WrittenMoments.{begun_moments, filled_moments, finished_moments}
use Rattle.tc_flush.proofs.writing.write.Goals as goal

pub take_off-requires : goal.take_off-requires
take_off-requires g c =
    let whole = c.tables_keep_documents.ensures.some c.args.sealed.now c.len-entries.ensures.table in
    subst (λ shapes. FitsEach c.args.names shapes c.args.schema) (sym (shapes_are whole.table c.args.sealed.now whole.of)) (c.requires.can whole.table whole.of).fits

pub put_entries-requires-clause-can : goal.put_entries-requires-clause-can
put_entries-requires-clause-can g c κs within = λ t of.
    subst (λ d. CanCount c.args.names d t) (sym (c.take_off.ensures ∙ ap (λ shapes. all_removed c.args.names shapes c.args.schema) (shapes_are t c.args.sealed.now of)))
    (can_count c.args.names c.len-known.ensures.dictionary.distinct c.args.schema t (c.requires.can t of))

-- ---- all is written

pub returns-in-Ok-put_entries-clause-whole : goal.returns-in-Ok-put_entries-clause-whole
returns-in-Ok-put_entries-clause-whole g c =
    if_ok c.finish.result _ _
    (λ written whole t of.
    let up = c.tables_keep_documents.ensures.ascends t c.args.sealed.now of c.len-entries.ensures.table in
    subst (λ bytes. IfTold (g.D.Device.history written) (λ f. f ≡ settled_file bytes))
    (flush_is c.flushes_learn_names.ensures.documents c.args.head c.args.names c.args.schema t c.args.sealed.now up of c.put_entries.new.builder.head c.put_entries.new.names c.take_off.new.schema c.put_entries.new.schema
    (c.put_entries.ensures.head ∙ c.in-Ok.ensures.head) (c.in-Ok-put_entries.ensures.learned t of) c.take_off.ensures (c.in-Ok-put_entries.ensures.counted t of))
    (whole (rows_of (names_with c.args.names (shapes_held t)) (writes_of t)) (c.in-Ok-put_entries.ensures.pushed t [] of c.in-Ok.ensures.begun)))
    c.finish.ensures.whole

pub returns-in-Ok-put_entries-clause-moments : goal.returns-in-Ok-put_entries-clause-moments
returns-in-Ok-put_entries-clause-moments g c = λ before t of shut.
    let h = g.D.Device.history in
    let up = c.tables_keep_documents.ensures.ascends t c.args.sealed.now of c.len-entries.ensures.table in
    let bytes = flush_is c.flushes_learn_names.ensures.documents c.args.head c.args.names c.args.schema t c.args.sealed.now up of c.put_entries.new.builder.head c.put_entries.new.names c.take_off.new.schema c.put_entries.new.schema
    (c.put_entries.ensures.head ∙ c.in-Ok.ensures.head) (c.in-Ok-put_entries.ensures.learned t of) c.take_off.ensures (c.in-Ok-put_entries.ensures.counted t of) in
    if_ok c.finish.result _ _
    (λ written leaves.
    finished_moments before (flush_bytes c.args.head c.args.names c.args.schema t) (h c.args.device) (h c.in-Ok.builder.device) (h c.put_entries.new.builder.device) (h written) (c.in-Ok.ensures.moments before shut) c.put_entries.ensures.moments
    (subst (λ whole. LeavesOnly (IsClosedOrWhole whole) (h c.put_entries.new.builder.device) (h written)) bytes leaves))
    (c.finish.ensures.moments (rows_of (names_with c.args.names (shapes_held t)) (writes_of t)) (c.in-Ok-put_entries.ensures.pushed t [] of c.in-Ok.ensures.begun))

pub returns-in-Ok-put_entries-clause-broken_moments : goal.returns-in-Ok-put_entries-clause-broken_moments
returns-in-Ok-put_entries-clause-broken_moments g c = λ before t of shut.
    let h = g.D.Device.history in
    let up = c.tables_keep_documents.ensures.ascends t c.args.sealed.now of c.len-entries.ensures.table in
    let bytes = flush_is c.flushes_learn_names.ensures.documents c.args.head c.args.names c.args.schema t c.args.sealed.now up of c.put_entries.new.builder.head c.put_entries.new.names c.take_off.new.schema c.put_entries.new.schema
    (c.put_entries.ensures.head ∙ c.in-Ok.ensures.head) (c.in-Ok-put_entries.ensures.learned t of) c.take_off.ensures (c.in-Ok-put_entries.ensures.counted t of) in
    if_err c.finish.result _ _
    (λ broken leaves.
    finished_moments before (flush_bytes c.args.head c.args.names c.args.schema t) (h c.args.device) (h c.in-Ok.builder.device) (h c.put_entries.new.builder.device) (h broken.device) (c.in-Ok.ensures.moments before shut) c.put_entries.ensures.moments
    (subst (λ whole. LeavesOnly (IsClosedOrWhole whole) (h c.put_entries.new.builder.device) (h broken.device)) bytes leaves))
    (c.finish.ensures.broken_moments (rows_of (names_with c.args.names (shapes_held t)) (writes_of t)) (c.in-Ok-put_entries.ensures.pushed t [] of c.in-Ok.ensures.begun))

-- ---- a call fails before that

pub returns-in-Err-clause-broken_moments : goal.returns-in-Err-clause-broken_moments
returns-in-Err-clause-broken_moments g c = λ before t of shut.
    begun_moments before (flush_bytes c.args.head c.args.names c.args.schema t) (g.D.Device.history c.args.device) (g.D.Device.history c.in-Err.broken.device) (c.in-Err.ensures.broken_moments before shut)

pub returns-clause-broken_moments : goal.returns-clause-broken_moments
returns-clause-broken_moments g c = λ before t of shut.
    let h = g.D.Device.history in
    let whole = flush_bytes c.args.head c.args.names c.args.schema t in
    subst (λ d. LeavesOnly (IsShutOrWhole before whole) (h c.args.device) (h d)) (sym c.give_back.ensures.same)
    (filled_moments before whole (h c.args.device) (h c.in-Ok.builder.device) (h c.put_entries.new.builder.device) (c.in-Ok.ensures.moments before shut) c.put_entries.ensures.moments)
