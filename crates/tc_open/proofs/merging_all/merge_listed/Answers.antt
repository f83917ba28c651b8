use Rattle.std.proofs.Common.{◌≡◌, ◌∙◌, ◌+◌, ◌-◌, List, [], ◌∷◌, ap, arith, drop, inl, length, refl, subst, sym, take}
use Rattle.std.specs.Prelude.{IfErr, IfSome}
use Rattle.std.specs.Result.{IsOk}
use Rattle.std.proofs.lemmas.Result.{IfErr-weaker}
use Rattle.tc_flush.proofs.Outcomes.{ok_both}
use Rattle.tc_jobs.specs.Faults.{IfDamaged}
use Rattle.tc_jobs.specs.Listing.{FitsFor, IsListed, IsReadBack, IsUnlisted, in_place}
use Rattle.tc_jobs.specs.Lists.{FirstExtends}
use Rattle.tc_list.specs.declared.run.Run.{Run}
use Rattle.tc_list.specs.Intervals.{first_of, last_of}
use Rattle.tc_lsm_model.specs.Contents.{Content}
use Rattle.tc_merge.specs.Faults.{IfHarmed, IsHarmIn}
use Rattle.tc_merge.specs.Merging.{newest_names}
use Rattle.tc_model.specs.Dictionary.{Extends}
use Rattle.tc_model.specs.Document.{Name}
use Rattle.tc_store.specs.declared.damage.Damage.{Damage}
use Rattle.tc_store.specs.Moments.{IfTold}
use Rattle.tc_store.specs.StoreCalls.{FailsMaking, comes_home, content_now, fresh_file_at, frozen_entry, makes}
use Rattle.tc_store.proofs.MomentLemmas.{told_map}
use Rattle.tc_component.specs.declared.head.Head.{Head}
use Rattle.tc_component.specs.Loading.{ComponentState}
use Rattle.tc_component.specs.Rows.{IsComponent, head_of}
use Rattle.tc_component.specs.Spelling.{name_of}
use Rattle.tc_open.specs.FlushedLogs.{EndsHome}
use Rattle.tc_open.specs.Merges.{IsListMerged, IsMergeListed, IsMergeUnfit, head_over, whole_run}
use Rattle.tc_open.proofs.FlushedLogs.{either_way, given_up, harmed_then, in_both, in_err}
use Rattle.tc_open.proofs.MergedLists.{MergeRan, all_in, ended_kept, ended_merged, ended_sound, merge_damage, merge_tells, merge_unmade, none_behind, on_each, unmade_sound}
use Rattle.tc_open.proofs.UnharmedReads.{sound_merge}
use Rattle.tc_open.proofs.merging_all.merge_listed.Goals as goal

pub returns-in-Err-clause-keeps : goal.returns-in-Err-clause-keeps
returns-in-Err-clause-keeps g c = λ cs m is loaded merge.
    let content = g.S.Frozen.Frozen.content in
    let file_name = g.S.Frozen.Frozen.name in
    let number = c.args.number in
    let count = c.args.count in
    let list = c.args.list.now in
    let disks = g.S.Store.history c.args.store.now in
    let last = c.len.result - 1 in
    let at_last : last + 1 ≡ length list = omega (arith, c.len.ensures, c.requires.several) in
    let in_all = all_in list last at_last in
    let ho : Head = head_over number count list in
    let head : c.merged_head-head.result ≡ ho = c.merged_head-head.ensures.exact ∙ ap (λ (l : List (ComponentState g.row.S-Frozen.Denot)). record { number = number; count = count; from = first_of l; to = last_of l }) in_all in
    let later = g.S.Store.history c.begin_merge.new.store in
    merge_unmade (λ file. content file) number count list cs disks c.requires.several c.requires.free is loaded m merge later (subst (λ h. FailsMaking (name_of h) disks later) head c.in-Err.ensures.failed)

pub returns-in-Ok-clause-keeps : goal.returns-in-Ok-clause-keeps
returns-in-Ok-clause-keeps g c = λ cs m is loaded merge.
    let content = g.S.Frozen.Frozen.content in
    let file_name = g.S.Frozen.Frozen.name in
    let number = c.args.number in
    let count = c.args.count in
    let list = c.args.list.now in
    let disks = g.S.Store.history c.args.store.now in
    let last = c.len.result - 1 in
    let at_last : last + 1 ≡ length list = omega (arith, c.len.ensures, c.requires.several) in
    let in_all = all_in list last at_last in
    let ho : Head = head_over number count list in
    let head : c.merged_head-head.result ≡ ho = c.merged_head-head.ensures.exact ∙ ap (λ (l : List (ComponentState g.row.S-Frozen.Denot)). record { number = number; count = count; from = first_of l; to = last_of l }) in_all in
    let laws = g.met.S.Device.Device g.world.𝓛 g.world.𝓜 g.world.𝓡 ((λ s x. x), (λ x. x), (λ x. x), λ x. x) in
    let components = c.in-Ok.ensures.components ∙ in_all in
    let fresh = g.S.Device.Device.history c.in-Ok.begun.device in
    let device = g.S.Device.Device.history c.run_merge.result.device in
    let size = g.S.Device.Device.size c.run_merge.result.device in
    let o = c.run_merge.result.outcome in
    let r = c.end_merge.result.outcome in
    let mid = g.S.Store.history c.begin_merge.new.store in
    let store = g.S.Store.history c.end_merge.new.store in
    let dn = g.S.Device.Device.name c.run_merge.result.device in
    let is_fresh = c.in-Ok.ensures.file ∙ ap (λ h. fresh_file_at (name_of h) disks) head in
    let made = c.in-Ok.ensures.made ∙ ap (λ h. makes (name_of h) disks) head in
    let named = c.run_merge.ensures.name ∙ c.in-Ok.ensures.name ∙ ap name_of head in
    let ran : MergeRan (λ file. content file) ho list fresh device size (IsOk o) =
    subst (λ h. MergeRan (λ file. content file) h list fresh device size (IsOk o)) head (subst (λ l. MergeRan (λ file. content file) c.merged_head-head.result l fresh device size (IsOk o)) components (record {
      merged = c.run_merge.ensures.merged;
      moments = c.run_merge.ensures.moments;
      whole = c.run_merge.ensures.whole;
      untold = c.run_merge.ensures.untold;
      fits = c.run_merge.ensures.size;
      sized = laws.told_size c.run_merge.result.device;
    })) in
    let home : EndsHome (IsOk o) (name_of ho) device (makes (name_of ho) disks) store =
    subst (λ ds. EndsHome (IsOk o) (name_of ho) device ds store) made (subst (λ n. EndsHome (IsOk o) n device mid store) named
    (in_both r _ _ (EndsHome (IsOk o) dn device mid store) (λ done. inl (done.0, inl done.1)) (λ back. back)
    (ok_both r _ _ (IsOk o × (store ≡ comes_home dn frozen_entry device mid)) (λ whole still. (whole, still)) c.end_merge.ensures.whole c.end_merge.ensures.still) c.end_merge.ensures.home)) in
    ended_kept (λ file. content file) number count list disks c.requires.several c.requires.free fresh device is_fresh size (IsOk o) ran cs is loaded store home m merge

pub returns-in-Ok-clause-merged : goal.returns-in-Ok-clause-merged
returns-in-Ok-clause-merged g c = λ cs is loaded.
    let content = g.S.Frozen.Frozen.content in
    let file_name = g.S.Frozen.Frozen.name in
    let number = c.args.number in
    let count = c.args.count in
    let list = c.args.list.now in
    let disks = g.S.Store.history c.args.store.now in
    let last = c.len.result - 1 in
    let at_last : last + 1 ≡ length list = omega (arith, c.len.ensures, c.requires.several) in
    let in_all = all_in list last at_last in
    let ho : Head = head_over number count list in
    let head : c.merged_head-head.result ≡ ho = c.merged_head-head.ensures.exact ∙ ap (λ (l : List (ComponentState g.row.S-Frozen.Denot)). record { number = number; count = count; from = first_of l; to = last_of l }) in_all in
    let laws = g.met.S.Device.Device g.world.𝓛 g.world.𝓜 g.world.𝓡 ((λ s x. x), (λ x. x), (λ x. x), λ x. x) in
    let components = c.in-Ok.ensures.components ∙ in_all in
    let fresh = g.S.Device.Device.history c.in-Ok.begun.device in
    let device = g.S.Device.Device.history c.run_merge.result.device in
    let size = g.S.Device.Device.size c.run_merge.result.device in
    let o = c.run_merge.result.outcome in
    let r = c.end_merge.result.outcome in
    let mid = g.S.Store.history c.begin_merge.new.store in
    let store = g.S.Store.history c.end_merge.new.store in
    let dn = g.S.Device.Device.name c.run_merge.result.device in
    let is_fresh = c.in-Ok.ensures.file ∙ ap (λ h. fresh_file_at (name_of h) disks) head in
    let made = c.in-Ok.ensures.made ∙ ap (λ h. makes (name_of h) disks) head in
    let named = c.run_merge.ensures.name ∙ c.in-Ok.ensures.name ∙ ap name_of head in
    let ran : MergeRan (λ file. content file) ho list fresh device size (IsOk o) =
    subst (λ h. MergeRan (λ file. content file) h list fresh device size (IsOk o)) head (subst (λ l. MergeRan (λ file. content file) c.merged_head-head.result l fresh device size (IsOk o)) components (record {
      merged = c.run_merge.ensures.merged;
      moments = c.run_merge.ensures.moments;
      whole = c.run_merge.ensures.whole;
      untold = c.run_merge.ensures.untold;
      fits = c.run_merge.ensures.size;
      sized = laws.told_size c.run_merge.result.device;
    })) in
    let run : Run = record { first = 0; last = last } in
    let Listed = IsListed (IsReadBack (λ file. content file) (λ file. file_name file) c.merged_head-head.result dn device) (FitsFor run list) (in_place run list) c.end_merge.new.list in
    let Still = store ≡ comes_home dn frozen_entry device mid in
    on_each r (IsListMerged (λ file. content file) ho cs c.end_merge.new.list store)
    (ok_both r (IsOk o) (Listed × Still) (IsListMerged (λ file. content file) ho cs c.end_merge.new.list store) (λ e more.
    ended_merged (λ file. content file) number count list disks c.requires.several c.requires.free fresh device is_fresh size (IsOk o) ran cs is loaded (λ file. file_name file) dn more.0.component c.end_merge.new.list store e
    (subst (λ h. IsReadBack (λ file. content file) (λ file. file_name file) h dn device more.0.component) head more.0.made)
    (more.0.listed ∙ ap (λ (l : List (ComponentState g.row.S-Frozen.Denot)). more.0.component ∷ l) (none_behind list last at_last))
    (more.1 ∙ ap (λ n. comes_home n frozen_entry device mid) named ∙ ap (λ ds. comes_home (name_of ho) frozen_entry device ds) made))
    c.end_merge.ensures.whole (ok_both r Listed Still (Listed × Still) (λ listed still. (listed, still)) c.end_merge.ensures.listed c.end_merge.ensures.still))

pub returns-in-Ok-clause-listed : goal.returns-in-Ok-clause-listed
returns-in-Ok-clause-listed g c =
    let content = g.S.Frozen.Frozen.content in
    let file_name = g.S.Frozen.Frozen.name in
    let number = c.args.number in
    let count = c.args.count in
    let list = c.args.list.now in
    let disks = g.S.Store.history c.args.store.now in
    let last = c.len.result - 1 in
    let at_last : last + 1 ≡ length list = omega (arith, c.len.ensures, c.requires.several) in
    let in_all = all_in list last at_last in
    let ho : Head = head_over number count list in
    let head : c.merged_head-head.result ≡ ho = c.merged_head-head.ensures.exact ∙ ap (λ (l : List (ComponentState g.row.S-Frozen.Denot)). record { number = number; count = count; from = first_of l; to = last_of l }) in_all in
    let laws = g.met.S.Device.Device g.world.𝓛 g.world.𝓜 g.world.𝓡 ((λ s x. x), (λ x. x), (λ x. x), λ x. x) in
    let components = c.in-Ok.ensures.components ∙ in_all in
    let fresh = g.S.Device.Device.history c.in-Ok.begun.device in
    let device = g.S.Device.Device.history c.run_merge.result.device in
    let size = g.S.Device.Device.size c.run_merge.result.device in
    let o = c.run_merge.result.outcome in
    let r = c.end_merge.result.outcome in
    let mid = g.S.Store.history c.begin_merge.new.store in
    let store = g.S.Store.history c.end_merge.new.store in
    let dn = g.S.Device.Device.name c.run_merge.result.device in
    let is_fresh = c.in-Ok.ensures.file ∙ ap (λ h. fresh_file_at (name_of h) disks) head in
    let made = c.in-Ok.ensures.made ∙ ap (λ h. makes (name_of h) disks) head in
    let named = c.run_merge.ensures.name ∙ c.in-Ok.ensures.name ∙ ap name_of head in
    let ran : MergeRan (λ file. content file) ho list fresh device size (IsOk o) =
    subst (λ h. MergeRan (λ file. content file) h list fresh device size (IsOk o)) head (subst (λ l. MergeRan (λ file. content file) c.merged_head-head.result l fresh device size (IsOk o)) components (record {
      merged = c.run_merge.ensures.merged;
      moments = c.run_merge.ensures.moments;
      whole = c.run_merge.ensures.whole;
      untold = c.run_merge.ensures.untold;
      fits = c.run_merge.ensures.size;
      sized = laws.told_size c.run_merge.result.device;
    })) in
    let Made = IsMergeListed (λ file. content file) (λ file. file_name file) ho list c.end_merge.new.list disks store in
    on_each r Made (ok_both r _ _ Made (λ listed still. record {
      device = device;
      component = listed.component;
      made = subst (λ n. IsReadBack (λ file. content file) (λ file. file_name file) ho n device listed.component) named (subst (λ h. IsReadBack (λ file. content file) (λ file. file_name file) h dn device listed.component) head listed.made);
      listed = listed.listed ∙ ap (λ (l : List (ComponentState g.row.S-Frozen.Denot)). listed.component ∷ l) (none_behind list last at_last);
      still = still ∙ ap (λ n. comes_home n frozen_entry device mid) named ∙ ap (λ ds. comes_home (name_of ho) frozen_entry device ds) made;
      tells = merge_tells (λ file. content file) number count list disks c.requires.several c.requires.free fresh device is_fresh size (IsOk o) ran c.requires.told;
    }) c.end_merge.ensures.listed c.end_merge.ensures.still)

pub returns-in-Ok-clause-left : goal.returns-in-Ok-clause-left
returns-in-Ok-clause-left g c =
    let content = g.S.Frozen.Frozen.content in
    let file_name = g.S.Frozen.Frozen.name in
    let number = c.args.number in
    let count = c.args.count in
    let list = c.args.list.now in
    let disks = g.S.Store.history c.args.store.now in
    let last = c.len.result - 1 in
    let at_last : last + 1 ≡ length list = omega (arith, c.len.ensures, c.requires.several) in
    let in_all = all_in list last at_last in
    let ho : Head = head_over number count list in
    let head : c.merged_head-head.result ≡ ho = c.merged_head-head.ensures.exact ∙ ap (λ (l : List (ComponentState g.row.S-Frozen.Denot)). record { number = number; count = count; from = first_of l; to = last_of l }) in_all in
    let laws = g.met.S.Device.Device g.world.𝓛 g.world.𝓜 g.world.𝓡 ((λ s x. x), (λ x. x), (λ x. x), λ x. x) in
    let components = c.in-Ok.ensures.components ∙ in_all in
    let fresh = g.S.Device.Device.history c.in-Ok.begun.device in
    let device = g.S.Device.Device.history c.run_merge.result.device in
    let size = g.S.Device.Device.size c.run_merge.result.device in
    let o = c.run_merge.result.outcome in
    let r = c.end_merge.result.outcome in
    let mid = g.S.Store.history c.begin_merge.new.store in
    let store = g.S.Store.history c.end_merge.new.store in
    let dn = g.S.Device.Device.name c.run_merge.result.device in
    let is_fresh = c.in-Ok.ensures.file ∙ ap (λ h. fresh_file_at (name_of h) disks) head in
    let made = c.in-Ok.ensures.made ∙ ap (λ h. makes (name_of h) disks) head in
    let named = c.run_merge.ensures.name ∙ c.in-Ok.ensures.name ∙ ap name_of head in
    let ran : MergeRan (λ file. content file) ho list fresh device size (IsOk o) =
    subst (λ h. MergeRan (λ file. content file) h list fresh device size (IsOk o)) head (subst (λ l. MergeRan (λ file. content file) c.merged_head-head.result l fresh device size (IsOk o)) components (record {
      merged = c.run_merge.ensures.merged;
      moments = c.run_merge.ensures.moments;
      whole = c.run_merge.ensures.whole;
      untold = c.run_merge.ensures.untold;
      fits = c.run_merge.ensures.size;
      sized = laws.told_size c.run_merge.result.device;
    })) in
    let home : EndsHome (IsOk o) (name_of ho) device (makes (name_of ho) disks) store =
    subst (λ ds. EndsHome (IsOk o) (name_of ho) device ds store) made (subst (λ n. EndsHome (IsOk o) n device mid store) named
    (in_both r _ _ (EndsHome (IsOk o) dn device mid store) (λ done. inl (done.0, inl done.1)) (λ back. back)
    (ok_both r _ _ (IsOk o × (store ≡ comes_home dn frozen_entry device mid)) (λ whole still. (whole, still)) c.end_merge.ensures.whole c.end_merge.ensures.still) c.end_merge.ensures.home)) in
    let tells = merge_tells (λ file. content file) number count list disks c.requires.several c.requires.free fresh device is_fresh size (IsOk o) ran c.requires.told in
    in_err r _ _ (given_up ho disks store device (IsOk o) tells home) c.end_merge.ensures.unlisted

pub returns-in-Ok-clause-damaged : goal.returns-in-Ok-clause-damaged
returns-in-Ok-clause-damaged g c =
    let content = g.S.Frozen.Frozen.content in
    let file_name = g.S.Frozen.Frozen.name in
    let number = c.args.number in
    let count = c.args.count in
    let list = c.args.list.now in
    let disks = g.S.Store.history c.args.store.now in
    let last = c.len.result - 1 in
    let at_last : last + 1 ≡ length list = omega (arith, c.len.ensures, c.requires.several) in
    let in_all = all_in list last at_last in
    let ho : Head = head_over number count list in
    let head : c.merged_head-head.result ≡ ho = c.merged_head-head.ensures.exact ∙ ap (λ (l : List (ComponentState g.row.S-Frozen.Denot)). record { number = number; count = count; from = first_of l; to = last_of l }) in_all in
    let laws = g.met.S.Device.Device g.world.𝓛 g.world.𝓜 g.world.𝓡 ((λ s x. x), (λ x. x), (λ x. x), λ x. x) in
    let components = c.in-Ok.ensures.components ∙ in_all in
    let fresh = g.S.Device.Device.history c.in-Ok.begun.device in
    let device = g.S.Device.Device.history c.run_merge.result.device in
    let size = g.S.Device.Device.size c.run_merge.result.device in
    let o = c.run_merge.result.outcome in
    let r = c.end_merge.result.outcome in
    let mid = g.S.Store.history c.begin_merge.new.store in
    let store = g.S.Store.history c.end_merge.new.store in
    let dn = g.S.Device.Device.name c.run_merge.result.device in
    let is_fresh = c.in-Ok.ensures.file ∙ ap (λ h. fresh_file_at (name_of h) disks) head in
    let made = c.in-Ok.ensures.made ∙ ap (λ h. makes (name_of h) disks) head in
    let named = c.run_merge.ensures.name ∙ c.in-Ok.ensures.name ∙ ap name_of head in
    let ran : MergeRan (λ file. content file) ho list fresh device size (IsOk o) =
    subst (λ h. MergeRan (λ file. content file) h list fresh device size (IsOk o)) head (subst (λ l. MergeRan (λ file. content file) c.merged_head-head.result l fresh device size (IsOk o)) components (record {
      merged = c.run_merge.ensures.merged;
      moments = c.run_merge.ensures.moments;
      whole = c.run_merge.ensures.whole;
      untold = c.run_merge.ensures.untold;
      fits = c.run_merge.ensures.size;
      sized = laws.told_size c.run_merge.result.device;
    })) in
    let run : Run = record { first = 0; last = last } in
    let runs : run ≡ whole_run list = ap (λ n. record { first = 0; last = n - 1 }) c.len.ensures in
    let Un = λ (x : Run) (h : Head) (n : _) (damage : Damage). IsUnlisted (IsReadBack (λ file. content file) (λ file. file_name file) h n device) (FitsFor x list) h size device damage in
    merge_damage o r (IsHarmIn (λ file. content file) list) _ c.end_merge.ensures.unmade
    (subst (λ l. IfErr o (λ fault. IfHarmed fault (λ file place bytes. IsHarmIn (λ f. content f) l file place bytes))) components c.run_merge.ensures.damaged)
    (λ e. harmed_then _ (IsMergeUnfit (λ file. content file) (λ file. file_name file) ho list) (λ damage un. record {
      size = size;
      device = device;
      written = ran.whole e;
      unlisted = subst (λ n. Un (whole_run list) ho n damage) named (subst (λ h. Un (whole_run list) h dn damage) head (subst (λ x. Un x c.merged_head-head.result dn damage) runs un));
    }) r (c.end_merge.ensures.damaged e))

pub returns-in-Ok-clause-undamaged : goal.returns-in-Ok-clause-undamaged
returns-in-Ok-clause-undamaged g c = λ cs is loaded.
    let content = g.S.Frozen.Frozen.content in
    let file_name = g.S.Frozen.Frozen.name in
    let number = c.args.number in
    let count = c.args.count in
    let list = c.args.list.now in
    let disks = g.S.Store.history c.args.store.now in
    let last = c.len.result - 1 in
    let at_last : last + 1 ≡ length list = omega (arith, c.len.ensures, c.requires.several) in
    let in_all = all_in list last at_last in
    let ho : Head = head_over number count list in
    let head : c.merged_head-head.result ≡ ho = c.merged_head-head.ensures.exact ∙ ap (λ (l : List (ComponentState g.row.S-Frozen.Denot)). record { number = number; count = count; from = first_of l; to = last_of l }) in_all in
    let laws = g.met.S.Device.Device g.world.𝓛 g.world.𝓜 g.world.𝓡 ((λ s x. x), (λ x. x), (λ x. x), λ x. x) in
    let components = c.in-Ok.ensures.components ∙ in_all in
    let fresh = g.S.Device.Device.history c.in-Ok.begun.device in
    let device = g.S.Device.Device.history c.run_merge.result.device in
    let size = g.S.Device.Device.size c.run_merge.result.device in
    let o = c.run_merge.result.outcome in
    let r = c.end_merge.result.outcome in
    let mid = g.S.Store.history c.begin_merge.new.store in
    let store = g.S.Store.history c.end_merge.new.store in
    let dn = g.S.Device.Device.name c.run_merge.result.device in
    let is_fresh = c.in-Ok.ensures.file ∙ ap (λ h. fresh_file_at (name_of h) disks) head in
    let made = c.in-Ok.ensures.made ∙ ap (λ h. makes (name_of h) disks) head in
    let named = c.run_merge.ensures.name ∙ c.in-Ok.ensures.name ∙ ap name_of head in
    let ran : MergeRan (λ file. content file) ho list fresh device size (IsOk o) =
    subst (λ h. MergeRan (λ file. content file) h list fresh device size (IsOk o)) head (subst (λ l. MergeRan (λ file. content file) c.merged_head-head.result l fresh device size (IsOk o)) components (record {
      merged = c.run_merge.ensures.merged;
      moments = c.run_merge.ensures.moments;
      whole = c.run_merge.ensures.whole;
      untold = c.run_merge.ensures.untold;
      fits = c.run_merge.ensures.size;
      sized = laws.told_size c.run_merge.result.device;
    })) in
    let laws_read = c.components_are_contents.ensures in
    let sound = IfDamaged r (λ damage. ⊥) in
    let Fits = λ (names : List Name). Extends names (newest_names [] (take 0 list)) × FirstExtends names (drop (last + 1) list) in
    let harmed = subst (λ l. IfErr o (λ fault. IfHarmed fault (λ file place bytes. IsHarmIn (λ f. content f) l file place bytes))) components c.run_merge.ensures.damaged in
    either_way o (IfTold disks (λ disk. sound)) (λ e.
    ended_sound (λ file. content file) number count list disks c.requires.several c.requires.free fresh device is_fresh size (IsOk o) ran cs is loaded sound Fits (λ names. ((names, refl), subst (λ l. FirstExtends names l) (sym (none_behind list last at_last)) tt)) e
    (subst (λ h. IfSome (content_now device) (λ whole. (d : Content) → IsComponent d whole → head_of d ≡ h → Fits d.names → sound)) head (c.end_merge.ensures.sound e)))
    (IfErr-weaker o _ (λ cause. IfTold disks (λ disk. sound)) (λ cause so. told_map _ _ disks (λ disk kept. so) is.kept)
    (unmade_sound o r _ c.end_merge.ensures.unmade harmed (λ Y cause harm. sound_merge (λ file. content file) laws_read.found laws_read.fetched Y list cs cause loaded harm)))
