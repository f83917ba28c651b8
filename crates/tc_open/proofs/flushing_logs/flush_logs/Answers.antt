use Rattle.std.proofs.Common.{◌≡◌, ◌∙◌, List, [], inl, inr, ap, subst, sym}
use Rattle.std.specs.Prelude.{IfSome}
use Rattle.std.proofs.lemmas.Result.{IfErr-weaker}
use Rattle.tc_component.specs.Rows.{head_of, IsComponent}
use Rattle.tc_jobs.specs.Faults.{IfDamaged}
use Rattle.tc_lsm_model.specs.Contents.{Content}
use Rattle.tc_merge.specs.Merging.{newest_names}
use Rattle.tc_model.specs.Dictionary.{Extends}
use Rattle.tc_model.specs.Document.{Name}
use Rattle.tc_schema_model.specs.Counted.{Counted}
use Rattle.tc_store.specs.DiskFile.{settled_file}
use Rattle.tc_store.proofs.MomentLemmas.{told_map}
use Rattle.tc_store.specs.Moments.{IfTold}
use Rattle.std.specs.Arc.{arc_value}
use Rattle.std.specs.Result.{IsOk}
use Rattle.tc_flush.proofs.Outcomes.{ok_both}
use Rattle.tc_flush.specs.Flushing.{flush_bytes}
use Rattle.tc_jobs.specs.Listing.{FitsBehind, IsListed, IsReadBack, IsUnlisted, behind}
use Rattle.tc_store.specs.StoreCalls.{comes_home, content_now, frozen_entry, makes}
use Rattle.tc_component.specs.Spelling.{name_of}
use Rattle.tc_open.specs.FlushedLogs.{EndsHome, IsFlushListed, IsLogsFlushed, IsReplayDamage}
use Rattle.tc_open.proofs.FlushedLogs.{either_way, flushed_so, given_up, harmed_then, home_kept_so, in_both, in_err, sound_so, unmade_kept}
use Rattle.tc_open.proofs.ToldMoments.{device_tells}
use Rattle.tc_open.proofs.flushing_logs.flush_logs.Goals as goal

pub returns-in-Err-clause-moments : goal.returns-in-Err-clause-moments
returns-in-Err-clause-moments g c = λ cs ws is loaded same.
    (unmade_kept (λ file. g.S.Frozen.Frozen.content file) c.args.head c.args.list.now c.args.logs.now (g.S.Store.history c.args.store.now) c.requires.some c.requires.from c.requires.to c.requires.free _ c.in-Err.ensures.failed cs ws is loaded same).moments

pub returns-in-Err-clause-kept : goal.returns-in-Err-clause-kept
returns-in-Err-clause-kept g c = λ cs ws is loaded same.
    (unmade_kept (λ file. g.S.Frozen.Frozen.content file) c.args.head c.args.list.now c.args.logs.now (g.S.Store.history c.args.store.now) c.requires.some c.requires.from c.requires.to c.requires.free _ c.in-Err.ensures.failed cs ws is loaded same).kept

pub returns-in-Ok-clause-moments : goal.returns-in-Ok-clause-moments
returns-in-Ok-clause-moments g c = λ cs ws is loaded same.
    let device = g.S.Device.Device.history c.run_flush.result.device in
    let store = g.S.Store.history c.end_flush.new.store in
    let named = c.run_flush.ensures.name ∙ c.in-Ok.ensures.name in
    let home : EndsHome (IsOk c.run_flush.result.outcome) (name_of c.args.head) device (makes (name_of c.args.head) (g.S.Store.history c.args.store.now)) store =
    subst (λ disks. EndsHome (IsOk c.run_flush.result.outcome) (name_of c.args.head) device disks store) c.in-Ok.ensures.made
    (subst (λ n. EndsHome (IsOk c.run_flush.result.outcome) n device (g.S.Store.history c.begin_flush.new.store) store) named
    (in_both c.end_flush.result.outcome _ _ (EndsHome (IsOk c.run_flush.result.outcome) (g.S.Device.Device.name c.run_flush.result.device) device (g.S.Store.history c.begin_flush.new.store) store) (λ done. inl (done.0, inl done.1)) (λ home. home)
    (ok_both c.end_flush.result.outcome _ _ (IsOk c.run_flush.result.outcome
    × (store ≡ comes_home (g.S.Device.Device.name c.run_flush.result.device) frozen_entry device (g.S.Store.history c.begin_flush.new.store)))
    (λ whole still. (whole, still)) c.end_flush.ensures.whole c.end_flush.ensures.still) c.end_flush.ensures.home)) in
    (home_kept_so (λ file. g.S.Frozen.Frozen.content file) c.args.head c.args.list.now c.args.logs.now (g.S.Store.history c.args.store.now) c.requires.some c.requires.from c.requires.to c.requires.free
    c.in-Ok.begun.inputs.names c.in-Ok.begun.inputs.schema (arc_value c.in-Ok.begun.inputs.sealed) (flush_bytes c.args.head c.in-Ok.begun.inputs.names c.in-Ok.begun.inputs.schema) (g.S.Device.Device.history c.in-Ok.begun.device) device c.requires.last
    (λ cs all. c.in-Ok.ensures.names ∙ c.inputs_are_newest.ensures.names c.args.list.now cs all) (λ cs all. c.in-Ok.ensures.schema ∙ c.inputs_are_newest.ensures.schema c.args.list.now cs all)
    c.in-Ok.ensures.table c.in-Ok.ensures.file c.run_flush.ensures.flushed c.run_flush.ensures.moments (IsOk c.run_flush.result.outcome) store c.run_flush.ensures.settled home cs ws is loaded same).moments

pub returns-in-Ok-clause-kept : goal.returns-in-Ok-clause-kept
returns-in-Ok-clause-kept g c = λ cs ws is loaded same.
    let device = g.S.Device.Device.history c.run_flush.result.device in
    let store = g.S.Store.history c.end_flush.new.store in
    let named = c.run_flush.ensures.name ∙ c.in-Ok.ensures.name in
    let home : EndsHome (IsOk c.run_flush.result.outcome) (name_of c.args.head) device (makes (name_of c.args.head) (g.S.Store.history c.args.store.now)) store =
    subst (λ disks. EndsHome (IsOk c.run_flush.result.outcome) (name_of c.args.head) device disks store) c.in-Ok.ensures.made
    (subst (λ n. EndsHome (IsOk c.run_flush.result.outcome) n device (g.S.Store.history c.begin_flush.new.store) store) named
    (in_both c.end_flush.result.outcome _ _ (EndsHome (IsOk c.run_flush.result.outcome) (g.S.Device.Device.name c.run_flush.result.device) device (g.S.Store.history c.begin_flush.new.store) store) (λ done. inl (done.0, inl done.1)) (λ home. home)
    (ok_both c.end_flush.result.outcome _ _ (IsOk c.run_flush.result.outcome
    × (store ≡ comes_home (g.S.Device.Device.name c.run_flush.result.device) frozen_entry device (g.S.Store.history c.begin_flush.new.store)))
    (λ whole still. (whole, still)) c.end_flush.ensures.whole c.end_flush.ensures.still) c.end_flush.ensures.home)) in
    (home_kept_so (λ file. g.S.Frozen.Frozen.content file) c.args.head c.args.list.now c.args.logs.now (g.S.Store.history c.args.store.now) c.requires.some c.requires.from c.requires.to c.requires.free
    c.in-Ok.begun.inputs.names c.in-Ok.begun.inputs.schema (arc_value c.in-Ok.begun.inputs.sealed) (flush_bytes c.args.head c.in-Ok.begun.inputs.names c.in-Ok.begun.inputs.schema) (g.S.Device.Device.history c.in-Ok.begun.device) device c.requires.last
    (λ cs all. c.in-Ok.ensures.names ∙ c.inputs_are_newest.ensures.names c.args.list.now cs all) (λ cs all. c.in-Ok.ensures.schema ∙ c.inputs_are_newest.ensures.schema c.args.list.now cs all)
    c.in-Ok.ensures.table c.in-Ok.ensures.file c.run_flush.ensures.flushed c.run_flush.ensures.moments (IsOk c.run_flush.result.outcome) store c.run_flush.ensures.settled home cs ws is loaded same).kept

pub returns-in-Ok-clause-listed : goal.returns-in-Ok-clause-listed
returns-in-Ok-clause-listed g c =
    let device = g.S.Device.Device.history c.run_flush.result.device in
    let store = g.S.Store.history c.end_flush.new.store in
    let named = c.run_flush.ensures.name ∙ c.in-Ok.ensures.name in
    ok_both c.end_flush.result.outcome _ _ (IsFlushListed (λ file. g.S.Frozen.Frozen.content file) (λ file. g.S.Frozen.Frozen.name file) c.args.head c.args.list.now c.end_flush.new.list (g.S.Store.history c.args.store.now) store) (λ listed still. record {
      device = device;
      listed = subst (λ n. IsListed (IsReadBack (λ file. g.S.Frozen.Frozen.content file) (λ file. g.S.Frozen.Frozen.name file) c.args.head n device) (FitsBehind c.args.list.now) (behind c.args.list.now) c.end_flush.new.list) named listed;
      still = still ∙ ap (λ n. comes_home n frozen_entry device (g.S.Store.history c.begin_flush.new.store)) named ∙ ap (λ disks. comes_home (name_of c.args.head) frozen_entry device disks) c.in-Ok.ensures.made;
      tells = device_tells (name_of c.args.head) (g.S.Store.history c.args.store.now) (g.S.Device.Device.history c.in-Ok.begun.device) device c.in-Ok.ensures.file c.run_flush.ensures.tells;
    }) c.end_flush.ensures.listed c.end_flush.ensures.still

pub returns-in-Ok-clause-left : goal.returns-in-Ok-clause-left
returns-in-Ok-clause-left g c =
    let device = g.S.Device.Device.history c.run_flush.result.device in
    let store = g.S.Store.history c.end_flush.new.store in
    let disks = g.S.Store.history c.args.store.now in
    let named = c.run_flush.ensures.name ∙ c.in-Ok.ensures.name in
    let home : EndsHome (IsOk c.run_flush.result.outcome) (name_of c.args.head) device (makes (name_of c.args.head) disks) store =
    subst (λ ds. EndsHome (IsOk c.run_flush.result.outcome) (name_of c.args.head) device ds store) c.in-Ok.ensures.made
    (subst (λ n. EndsHome (IsOk c.run_flush.result.outcome) n device (g.S.Store.history c.begin_flush.new.store) store) named
    (in_both c.end_flush.result.outcome _ _ (EndsHome (IsOk c.run_flush.result.outcome) (g.S.Device.Device.name c.run_flush.result.device) device (g.S.Store.history c.begin_flush.new.store) store) (λ done. inl (done.0, inl done.1)) (λ home. home)
    (ok_both c.end_flush.result.outcome _ _ (IsOk c.run_flush.result.outcome
    × (store ≡ comes_home (g.S.Device.Device.name c.run_flush.result.device) frozen_entry device (g.S.Store.history c.begin_flush.new.store)))
    (λ whole still. (whole, still)) c.end_flush.ensures.whole c.end_flush.ensures.still) c.end_flush.ensures.home)) in
    let tells = device_tells (name_of c.args.head) disks (g.S.Device.Device.history c.in-Ok.begun.device) device c.in-Ok.ensures.file c.run_flush.ensures.tells in
    in_err c.end_flush.result.outcome _ _ (given_up c.args.head disks store device (IsOk c.run_flush.result.outcome) tells home) c.end_flush.ensures.unlisted

pub returns-in-Ok-clause-damaged : goal.returns-in-Ok-clause-damaged
returns-in-Ok-clause-damaged g c =
    let device = g.S.Device.Device.history c.run_flush.result.device in
    let size = g.S.Device.Device.size c.run_flush.result.device in
    let named = c.run_flush.ensures.name ∙ c.in-Ok.ensures.name in
    let harm = IsReplayDamage (λ file. g.S.Frozen.Frozen.content file) (λ file. g.S.Frozen.Frozen.name file) c.args.head c.args.logs.now c.args.list.now in
    let documents = c.tables_keep_documents.ensures.some (arc_value c.in-Ok.begun.inputs.sealed) c.in-Ok.ensures.lawful in
    let Wrote = λ (ns : List Name) (s : Counted). IfTold device (λ f. f ≡ settled_file (flush_bytes c.args.head ns s documents.table)) in
    either_way c.run_flush.result.outcome (IfDamaged c.end_flush.result.outcome harm)
    (λ whole. harmed_then _ harm (λ damage unlisted. inr (record {
      size = size;
      device = device;
      table = documents.table;
      written = subst (λ s. Wrote (newest_names [] c.args.list.now) s) c.in-Ok.ensures.schema (subst (λ ns. Wrote ns c.in-Ok.begun.inputs.schema) c.in-Ok.ensures.names (c.run_flush.ensures.whole whole documents.table documents.of));
      unlisted = subst (λ n. IsUnlisted (IsReadBack (λ file. g.S.Frozen.Frozen.content file) (λ file. g.S.Frozen.Frozen.name file) c.args.head n device) (FitsBehind c.args.list.now) c.args.head size device damage) named unlisted;
    })) c.end_flush.result.outcome c.end_flush.ensures.damaged)
    (IfErr-weaker c.run_flush.result.outcome _ (λ cause. IfDamaged c.end_flush.result.outcome harm) (λ cause sound. harmed_then (λ damage. ⊥) harm (λ damage never. absurd never) c.end_flush.result.outcome sound) c.end_flush.ensures.unmade)

pub returns-in-Ok-clause-flushed : goal.returns-in-Ok-clause-flushed
returns-in-Ok-clause-flushed g c = λ cs ws is loaded same.
    let laws = g.met.S.Device.Device g.world.𝓛 g.world.𝓜 g.world.𝓡 ((λ s x. x), (λ x. x), (λ x. x), λ x. x) in
    let device = g.S.Device.Device.history c.run_flush.result.device in
    let store = g.S.Store.history c.end_flush.new.store in
    let named = c.run_flush.ensures.name ∙ c.in-Ok.ensures.name in
    let content = g.S.Frozen.Frozen.content in
    let file_name = g.S.Frozen.Frozen.name in
    let came_home = λ (still : store ≡ comes_home (g.S.Device.Device.name c.run_flush.result.device) frozen_entry device (g.S.Store.history c.begin_flush.new.store)).
    still ∙ ap (λ n. comes_home n frozen_entry device (g.S.Store.history c.begin_flush.new.store)) named ∙ ap (λ disks. comes_home (name_of c.args.head) frozen_entry device disks) c.in-Ok.ensures.made in
    ok_both c.end_flush.result.outcome _ _ (IsLogsFlushed content c.args.head cs ws c.end_flush.new.list store) (λ whole more.
    flushed_so content c.args.head c.args.list.now c.args.logs.now (g.S.Store.history c.args.store.now) c.requires.some c.requires.from c.requires.to c.requires.free
    c.in-Ok.begun.inputs.names c.in-Ok.begun.inputs.schema (arc_value c.in-Ok.begun.inputs.sealed) (flush_bytes c.args.head c.in-Ok.begun.inputs.names c.in-Ok.begun.inputs.schema) (g.S.Device.Device.history c.in-Ok.begun.device) device c.requires.last
    (λ cs all. c.in-Ok.ensures.names ∙ c.inputs_are_newest.ensures.names c.args.list.now cs all) (λ cs all. c.in-Ok.ensures.schema ∙ c.inputs_are_newest.ensures.schema c.args.list.now cs all)
    c.in-Ok.ensures.table c.in-Ok.ensures.file c.run_flush.ensures.flushed c.run_flush.ensures.moments
    file_name (g.S.Device.Device.name c.run_flush.result.device) c.end_flush.new.list store (g.S.Device.Device.size c.run_flush.result.device) (c.run_flush.ensures.size whole) (laws.told_size c.run_flush.result.device) (c.run_flush.ensures.settled whole)
    (c.run_flush.ensures.whole whole) more.0 (came_home more.1) cs ws is loaded same)
    c.end_flush.ensures.whole
    (ok_both c.end_flush.result.outcome _ _ (IsListed (IsReadBack content file_name c.args.head (g.S.Device.Device.name c.run_flush.result.device) device) (FitsBehind c.args.list.now) (behind c.args.list.now) c.end_flush.new.list
    × (store ≡ comes_home (g.S.Device.Device.name c.run_flush.result.device) frozen_entry device (g.S.Store.history c.begin_flush.new.store))) (λ listed still. (listed, still)) c.end_flush.ensures.listed c.end_flush.ensures.still)

pub returns-in-Err-clause-undamaged : goal.returns-in-Err-clause-undamaged
returns-in-Err-clause-undamaged g c = λ cs ws is loaded same. told_map _ _ (g.S.Store.history c.args.store.now) (λ disk kept. c.in-Err.ensures.undamaged cs ws is loaded same) is.kept

pub returns-in-Ok-clause-undamaged : goal.returns-in-Ok-clause-undamaged
returns-in-Ok-clause-undamaged g c = λ cs ws is loaded same.
    let laws = g.met.S.Device.Device g.world.𝓛 g.world.𝓜 g.world.𝓡 ((λ s x. x), (λ x. x), (λ x. x), λ x. x) in
    let device = g.S.Device.Device.history c.run_flush.result.device in
    let disks = g.S.Store.history c.args.store.now in
    let names = c.in-Ok.begun.inputs.names in
    let sound = IfDamaged c.end_flush.result.outcome (λ damage. ⊥) in
    either_way c.run_flush.result.outcome (IfTold disks (λ disk. sound)) (λ whole.
    sound_so (λ file. g.S.Frozen.Frozen.content file) c.args.head c.args.list.now c.args.logs.now disks c.requires.some c.requires.from c.requires.to c.requires.free
    names c.in-Ok.begun.inputs.schema (arc_value c.in-Ok.begun.inputs.sealed) (flush_bytes c.args.head names c.in-Ok.begun.inputs.schema) (g.S.Device.Device.history c.in-Ok.begun.device) device c.requires.last
    (λ cs all. c.in-Ok.ensures.names ∙ c.inputs_are_newest.ensures.names c.args.list.now cs all) (λ cs all. c.in-Ok.ensures.schema ∙ c.inputs_are_newest.ensures.schema c.args.list.now cs all)
    c.in-Ok.ensures.table c.in-Ok.ensures.file c.run_flush.ensures.flushed c.run_flush.ensures.moments
    sound (g.S.Device.Device.size c.run_flush.result.device) (c.run_flush.ensures.size whole) (laws.told_size c.run_flush.result.device) (c.run_flush.ensures.whole whole)
    (subst (λ ns. IfSome (content_now device) (λ bytes. (m : Content) → IsComponent m bytes → head_of m ≡ c.args.head → Extends m.names ns → sound)) (sym c.in-Ok.ensures.names) c.end_flush.ensures.sound)
    cs ws is loaded same)
    (IfErr-weaker c.run_flush.result.outcome _ (λ cause. IfTold disks (λ disk. sound)) (λ cause so. told_map _ _ disks (λ disk kept. so) is.kept) c.end_flush.ensures.unmade)
