use Rattle.std.proofs.Common.{◌≡◌, ◌∙◌, List, None, false, true, inl, sym, ap, subst}
use Rattle.std.specs.Prelude.{All}
use Rattle.tc_store.specs.declared.file_name.FileName.{FileName}
use Rattle.tc_store.specs.Disk.{home, is_out, out}
use Rattle.tc_store.specs.Moments.{IfTold}
use Rattle.tc_store.specs.StoreCalls.{comes_home}
use Rattle.tc_store.proofs.MomentLemmas.{told_map}
use Rattle.tc_component.specs.Loading.{ComponentState}
use Rattle.tc_component.specs.Spelling.{IsIndex}
use Rattle.tc_lsm_model.specs.Contents.{Content}
use Rattle.tc_lsm_model.specs.Lists.{live}
use Rattle.tc_part_model.specs.Leaving.{FailedMomentsLeaveStore, KeepsStore}
use Rattle.tc_part_model.specs.Meaning.{IsPart}
use Rattle.tc_part.specs.FilesOut.{LogIsOut, OnlyDevicesOut, OnlyOut}
use Rattle.tc_part.specs.OwnFiles.{FollowInOrder, HasOnlyOwn, HasOwnFiles}
use Rattle.tc_part_model.specs.PartState.{IsTold, told}
use Rattle.tc_part_model.specs.Starting.{IsOpened, started, started_part}
use Rattle.tc_part.specs.Openings.{told_opening}
use Rattle.tc_part.proofs.OwnOutcomes.{follow_in_order}
use Rattle.tc_part.proofs.StagedWrites.{few_live}
use Rattle.tc_part.proofs.StartedLogs.{named_first}
use Rattle.tc_part.proofs.DevicesOut.{IsDeviceOf, one_in}
use Rattle.tc_part.proofs.part.Part.start.Goals as goal

pub returns-in-Ok-clause-starts : goal.returns-in-Ok-clause-starts
returns-in-Ok-clause-starts g c =
    let from = c.args.opened in
    let content = g.S.Frozen.Frozen.content in
    let o = told_opening g.S.Store.history g.S.Device.Device.history content from.number from.count from.kit.store from.log.device from.list in
    let begun = c.begun_with.ensures.begun in
    let lawful = subst (All (λ (x : ComponentState _). IsIndex x.index)) c.as_slice.ensures.all c.look_over.ensures.lawful in
    let order = follow_in_order content 0 from.list c.as_slice.ensures.follow lawful in
    record {
      started = λ list opened.
          let is = c.parts_start.ensures.started o list opened in
          let part = c.begun_with.result in
          let same : told g.S.Store.history g.S.Device.Device.history content part ≡ started o =
          ap (told g.S.Store.history g.S.Device.Device.history content) begun
          ∙ ap (λ names. record (started o) { taken = names; live = part.live }) c.in-Ok.ensures
          ∙ ap (λ n. record (started o) { live = n }) (c.begun_with.ensures.counted (few_live (started o) (started_part o.part list) is)) in
          subst (λ t. IsPart t (started_part o.part list)) (sym same) is;
      own = λ only.
          let own : HasOwnFiles (started o) = told_map (HasOnlyOwn (started o)) (λ disk. FollowInOrder 0 o.components × HasOnlyOwn (started o) disk) o.disks (λ disk each. (order, each)) only in
          subst (λ part. HasOwnFiles (told g.S.Store.history g.S.Device.Device.history content part)) (sym begun) own;
      devices = λ only.
          let is : OnlyDevicesOut (started o) =
          told_map (OnlyOut (g.S.Device.Device.name from.log.device)) (λ disk. (name : FileName) → is_out (disk name) ≡ true → IsDeviceOf (started o) name) o.disks (λ disk each name out. inl (inl (each name out ∙ c.requires.follows))) only in
          subst (λ part. OnlyDevicesOut (told g.S.Store.history g.S.Device.Device.history content part)) (sym begun) is;
      log_out = λ is.
          subst (λ part. LogIsOut (told g.S.Store.history g.S.Device.Device.history content part)) (sym begun)
          (subst (λ name. IfTold o.disks (λ disk. (disk name ≡ out) × IsTold o.log)) c.requires.follows is);
    }

pub returns-in-Err-clause-stays : goal.returns-in-Err-clause-stays
returns-in-Err-clause-stays g c =
    let from = c.args.opened in
    let o = told_opening g.S.Store.history g.S.Device.Device.history g.S.Frozen.Frozen.content from.number from.count from.kit.store from.log.device from.list in
    let home_at = λ (list : List Content) (opened : IsOpened o list).
    let named = c.requires.follows ∙ named_first o list (c.parts_start.ensures.started o list opened) in
    c.given_up.ensures.home ∙ ap (λ name. comes_home name (λ f. home f) o.log o.disks) named in
    record {
      brought_in = λ tells only. subst (λ disks. IfTold disks (λ disk. (name : FileName) → is_out (disk name) ≡ false)) (sym c.given_up.ensures.home) (one_in (g.S.Device.Device.name from.log.device) o.log o.disks tells only);
      kept = λ list opened. subst (λ disks. IfTold disks (KeepsStore o.part (live list) None)) (sym (home_at list opened)) (c.parts_start.ensures.not_begun o list opened);
      moments = λ list opened. subst (λ disks. FailedMomentsLeaveStore (started_part o.part list) None (started o) disks) (sym (home_at list opened)) (c.parts_start.ensures.not_begun_moments o list opened);
    }
