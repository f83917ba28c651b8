use Rattle.std.proofs.Common.{◌≡◌, ◌∙◌, ◌-◌, [], Some, false, is_some, map, inl, refl, sym, ap, subst}
use Rattle.std.specs.Arc.{arc_value}
use Rattle.std.specs.Prelude.{IfSome}
use Rattle.tc_schema_model.specs.Counted.{nothing}
use Rattle.tc_store.specs.Disk.{IsThere}
use Rattle.tc_store.specs.Moments.{IfTold}
use Rattle.tc_store.specs.StoreCalls.{FailsMaking, fresh_file_at, makes}
use Rattle.tc_store.specs.declared.file_name.FileName.TheVariants.{Component, Log}
use Rattle.tc_component.specs.Spelling.{name_of}
use Rattle.tc_flush.specs.Counting.{IsCounted}
use Rattle.tc_memory.specs.Table.{IsTable}
use Rattle.tc_merge.specs.Merging.{newest_names, newest_schema}
use Rattle.tc_part_model.specs.Calls.{FlushesBehind}
use Rattle.tc_part_model.specs.Changes.{flushing_part}
use Rattle.tc_part.specs.OwnFiles.{HasOwnFiles}
use Rattle.tc_part_model.specs.PartState.{PartState, told, told_component}
use Rattle.tc_part_model.proofs.ToldFiles.{unmade_untold}
use Rattle.tc_part.proofs.OwnNames.{flush_begun_own, flush_is_free}
use Rattle.tc_part.specs.Ready.{active_generation}
use Rattle.tc_part.proofs.Handing.{still_some}
use Rattle.tc_part.proofs.Outcomes.{err_always}
use Rattle.tc_part.proofs.Standing.{left_of, table_in, told_in, unfailed}
use Rattle.tc_part.proofs.DevicesOut.{not_made_in, out_on}
use Rattle.tc_part.proofs.JobDevices.{flush_begun_out}
use Rattle.tc_part.proofs.LogOut.{log_out_on, other_made}
use Rattle.tc_part.proofs.part.Part.begin_flush.Goals as goal

pub returns-in_err-inputs-clause-moments : goal.returns-in_err-inputs-clause-moments
returns-in_err-inputs-clause-moments g c =
    let none = ap (λ s. s.flushing) c.self.view_is ∙ c.requires.none_out in
    let table = table_in _ (ap (λ s. is_some s.sealed) c.self.view_is ∙ c.requires.sealed) in
    rw (← c.self.view_is) λ p is. c.moments_follow.ensures.before (told_in is) p (flushing_part p) _ (c.flushes_begin.ensures.not_made_moments _ p table.0 _ is table.1 none (inl refl))

pub returns-in_err-inputs-clause-failed : goal.returns-in_err-inputs-clause-failed
returns-in_err-inputs-clause-failed g c =
    let none = ap (λ s. s.flushing) c.self.view_is ∙ c.requires.none_out in
    let table = table_in _ (ap (λ s. is_some s.sealed) c.self.view_is ∙ c.requires.sealed) in
    rw (← c.self.view_is) (err_always c.from_residual.result _ (λ p is. c.flushes_begin.ensures.not_made_as _ _ p table.0 is table.1 none refl refl refl (inl refl)))

pub fresh-requires : goal.fresh-requires
fresh-requires g c =
    let t = told g.S.Store.history g.S.Device.Device.history g.S.Frozen.Frozen.content (left_of c.self.view_is) in
    let none = ap (λ s. s.flushing) c.self.view_is ∙ c.requires.none_out in
    let sound : c.self.inside.failed ≡ false = ap (λ s. s.failed) c.self.view_is ∙ c.requires.sound in
    let sealed = sym (still_some arc_value c.self.inside.sealed) ∙ ap (λ s. is_some s.sealed) c.self.view_is ∙ c.requires.sealed in
    let behind = c.self.invariant.behind sound ∙ ap (active_generation c.self.inside.list) sealed in
    let own = subst (λ s. HasOwnFiles (told g.S.Store.history g.S.Device.Device.history g.S.Frozen.Frozen.content s)) (sym c.self.view_is) c.requires.own in
    let named : c.file_name.result ≡ Component (c.self.inside.generation - 1) (c.self.inside.generation - 1) = c.file_name.ensures ∙ ap name_of c.flush_head-head.ensures in
    subst (λ name. IfTold (g.S.Store.history c.self.inside.store) (λ disk. IsThere (disk name) → ⊥)) (sym named) (flush_is_free g.S.Frozen.Frozen.content t c.self.inside.list refl none behind own)

pub returns-in_err-device-clause-moments : goal.returns-in_err-device-clause-moments
returns-in_err-device-clause-moments g c =
    let none = ap (λ s. s.flushing) c.self.view_is ∙ c.requires.none_out in
    let table = table_in _ (ap (λ s. is_some s.sealed) c.self.view_is ∙ c.requires.sealed) in
    let named : c.file_name.result ≡ Component (c.self.inside.generation - 1) (c.self.inside.generation - 1) = c.file_name.ensures ∙ ap name_of c.flush_head-head.ensures in
    let failed = subst (λ name. FailsMaking name (g.S.Store.history c.self.inside.store) (g.S.Store.history c.fresh.new.self)) named c.in_err-device.ensures.failed in
    rw (← c.self.view_is) λ p is. c.moments_follow.ensures.before (told_in is) p (flushing_part p) _ (c.flushes_begin.ensures.not_made_moments _ p table.0 _ is table.1 none failed)

pub returns-in_err-device-clause-failed : goal.returns-in_err-device-clause-failed
returns-in_err-device-clause-failed g c =
    let none = ap (λ s. s.flushing) c.self.view_is ∙ c.requires.none_out in
    let table = table_in _ (ap (λ s. is_some s.sealed) c.self.view_is ∙ c.requires.sealed) in
    let named : c.file_name.result ≡ Component (c.self.inside.generation - 1) (c.self.inside.generation - 1) = c.file_name.ensures ∙ ap name_of c.flush_head-head.ensures in
    let failed = subst (λ name. FailsMaking name (g.S.Store.history c.self.inside.store) (g.S.Store.history c.fresh.new.self)) named c.in_err-device.ensures.failed in
    rw (← c.self.view_is) (err_always c.from_residual-in_err-device.result _ (λ p is. c.flushes_begin.ensures.not_made_as _ _ p table.0 is table.1 none refl refl refl failed))

pub returns-clause-begins : goal.returns-clause-begins
returns-clause-begins g c =
    let list = c.self.inside.list in
    let none = ap (λ s. s.flushing) c.self.view_is ∙ c.requires.none_out in
    let table = table_in _ (ap (λ s. is_some s.sealed) c.self.view_is ∙ c.requires.sealed) in
    let own = subst (λ s. HasOwnFiles (told g.S.Store.history g.S.Device.Device.history g.S.Frozen.Frozen.content s)) (sym c.self.view_is) c.requires.own in
    let named : c.file_name.result ≡ Component (c.self.inside.generation - 1) (c.self.inside.generation - 1) = c.file_name.ensures ∙ ap name_of c.flush_head-head.ensures in
    let sound : c.self.inside.failed ≡ false = ap (λ s. s.failed) c.self.view_is ∙ c.requires.sound in
    let same = c.flush_with.ensures.same in
    let job = c.flush_with.ensures.job in
    let disks = ap (λ (x : PartState _ _ _ _). g.S.Store.history x.store) same ∙ c.in_ok-device.ensures.made ∙ ap (λ name. makes name (g.S.Store.history c.self.inside.store)) named in
    let t = told g.S.Store.history g.S.Device.Device.history g.S.Frozen.Frozen.content (left_of c.self.view_is) in
    rw (← c.self.view_is) record {
      begun = rw same λ p is. (c.flushes_begin.ensures.begun _ _ p table.0 is table.1 none (rw (c.in_ok-device.ensures.made, named, sound) refl), c.flushes_begin.ensures.stored p);
      same = rw (same, sound) refl;
      table = ap (λ j. Some j.kept) job ∙ c.in_ok-inputs.ensures.table;
      lawful = subst (λ j. IsTable j.kept) (sym job) c.in_ok-inputs.ensures.lawful;
      names = ap (λ j. j.names) job ∙ c.in_ok-inputs.ensures.names;
      schema = ap (λ j. j.schema) job ∙ c.in_ok-inputs.ensures.schema;
      can = subst (λ j. IsCounted (newest_names [] list) (newest_schema nothing list) j.kept) (sym job) c.in_ok-inputs.ensures.counted;
      head = ap (λ j. j.head) job ∙ c.flush_head-head.ensures;
      watch = c.flush_with.ensures.watch;
      name = ap (λ j. g.S.Device.Device.name j.device) job ∙ c.in_ok-device.ensures.name ∙ named;
      file = ap (λ j. g.S.Device.Device.history j.device) job ∙ c.in_ok-device.ensures.file ∙ ap (λ name. fresh_file_at name (g.S.Store.history c.self.inside.store)) named;
      made = disks;
      own =
          flush_begun_own t (told g.S.Store.history g.S.Device.Device.history g.S.Frozen.Frozen.content (left_of same)) none disks
          (ap (λ (x : PartState _ _ _ _). x.generation) same) (ap (λ (x : PartState _ _ _ _). map (told_component g.S.Frozen.Frozen.content) x.list) same)
          (ap (λ (x : PartState _ _ _ _). x.flushing) same) (ap (λ (x : PartState _ _ _ _). x.merging) same) own;
      log_out =
          let name = Component (t.generation - 1) (t.generation - 1) in
          rw (same, c.in_ok-device.ensures.made, named) (log_out_on t (makes name t.disks) (other_made name (Log t.generation) t.disks (λ same. absurd (cc))));
      behind = λ p is files. subst (λ j. FlushesBehind p j.head j.names j.schema j.kept) (sym job) (c.in_ok-inputs.ensures.behind p (unfailed is) files c.flush_head-head.result c.flush_head-head.ensures);
    }

pub returns-clause-moments : goal.returns-clause-moments
returns-clause-moments g c =
    let none = ap (λ s. s.flushing) c.self.view_is ∙ c.requires.none_out in
    let table = table_in _ (ap (λ s. is_some s.sealed) c.self.view_is ∙ c.requires.sealed) in
    let named : c.file_name.result ≡ Component (c.self.inside.generation - 1) (c.self.inside.generation - 1) = c.file_name.ensures ∙ ap name_of c.flush_head-head.ensures in
    rw (← c.self.view_is, c.flush_with.ensures.same, c.in_ok-device.ensures.made, named) λ p is. c.moments_follow.ensures.behind (told_in is) p (flushing_part p) _ (c.flushes_begin.ensures.moments _ p table.0 is table.1 none)

pub returns-in_err-device-clause-order : goal.returns-in_err-device-clause-order
returns-in_err-device-clause-order g c =
    let list = c.self.inside.list in
    rw (← c.self.view_is) λ disk. subst (λ o. IfSome o (λ kept. IsCounted (newest_names [] list) (newest_schema nothing list) kept)) c.in_ok-inputs.ensures.table c.in_ok-inputs.ensures.counted

pub returns-in_err-inputs-clause-devices : goal.returns-in_err-inputs-clause-devices
returns-in_err-inputs-clause-devices g c = rw (← c.self.view_is) λ only. only

pub returns-in_err-device-clause-devices : goal.returns-in_err-device-clause-devices
returns-in_err-device-clause-devices g c =
    let t = told g.S.Store.history g.S.Device.Device.history g.S.Frozen.Frozen.content (left_of c.self.view_is) in
    let new = g.S.Store.history c.fresh.new.self in
    rw (← c.self.view_is) (out_on t new (not_made_in c.file_name.result t.disks new c.in_err-device.ensures.failed))

pub returns-clause-devices : goal.returns-clause-devices
returns-clause-devices g c =
    let named : c.file_name.result ≡ Component (c.self.inside.generation - 1) (c.self.inside.generation - 1) = c.file_name.ensures ∙ ap name_of c.flush_head-head.ensures in
    let same = c.flush_with.ensures.same in
    let disks = ap (λ (x : PartState _ _ _ _). g.S.Store.history x.store) same ∙ c.in_ok-device.ensures.made ∙ ap (λ name. makes name (g.S.Store.history c.self.inside.store)) named in
    rw (← c.self.view_is)
    (flush_begun_out (told g.S.Store.history g.S.Device.Device.history g.S.Frozen.Frozen.content (left_of c.self.view_is)) (told g.S.Store.history g.S.Device.Device.history g.S.Frozen.Frozen.content (left_of same)) disks (ap (λ (x : PartState _ _ _ _). x.generation) same)
    (ap (λ (x : PartState _ _ _ _). (told g.S.Store.history g.S.Device.Device.history g.S.Frozen.Frozen.content x).sealed_log) same) (ap (λ (x : PartState _ _ _ _). map (told_component g.S.Frozen.Frozen.content) x.list) same)
    (ap (λ (x : PartState _ _ _ _). x.flushing) same) (ap (λ (x : PartState _ _ _ _). x.merging) same))

-- ---- where nothing is told

pub returns-in_err-inputs-clause-untold : goal.returns-in_err-inputs-clause-untold
returns-in_err-inputs-clause-untold g c = rw (← c.self.view_is) λ untold. untold

pub returns-in_err-device-clause-untold : goal.returns-in_err-device-clause-untold
returns-in_err-device-clause-untold g c = rw (← c.self.view_is) (unmade_untold c.file_name.result (g.S.Store.history c.self.inside.store) (g.S.Store.history c.fresh.new.self) c.in_err-device.ensures.failed)

pub returns-clause-untold : goal.returns-clause-untold
returns-clause-untold g c = rw (← c.self.view_is, c.flush_with.ensures.same, c.in_ok-device.ensures.made) (ap (makes c.file_name.result))
