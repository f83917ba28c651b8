use denote.Param.{param}
use denote.Param.Send.{IsSend, IsSync, sendable}
use Rattle.std.proofs.Crossing.{crosses}
use Rattle.tc_component.proofs.directory.Directory.TheSendSync.{the_send as directory_send, the_sync as directory_sync}
use Rattle.tc_component.specs.contracts.component.Component as Component
use Rattle.tc_component.specs.contracts.kept_schema.KeptSchema as KeptSchema
use Rattle.tc_component.specs.contracts.loading.Loaded as Loaded
use Rattle.tc_component.specs.contracts.reading.Parts as Parts
use Rattle.tc_merge.specs.contracts.job.MergeJob as MergeJob
use Rattle.tc_merge.specs.contracts.job.MergeParts as MergeParts
use Rattle.tc_names.proofs.dictionary.Names.TheSendSync.{the_send as names_send, the_sync as names_sync}
use Rattle.tc_running.proofs.running.Running.start_merge.Goals as goal

-- the parts of a job one after the other, since a search that goes down through all of them runs out of steps
pub start-requires-send-F : goal.start-requires-send-F
start-requires-send-F g c κs within =
    let kept_send : IsSend (KeptSchema.the_field).row = search (sendable, crosses) depth 20 in
    let kept_sync : IsSync (KeptSchema.the_field).row = search (sendable, crosses) depth 20 in
    let parts_send : IsSend (Parts.the_field).row = search (sendable, directory_send, names_send) depth 20 in
    let parts_sync : IsSync (Parts.the_field).row = search (sendable, directory_sync, names_sync) depth 20 in
    let loaded_send : IsSend (Loaded.the_field).row = search sendable depth 20 in
    let loaded_sync : IsSync (Loaded.the_field).row = search sendable depth 20 in
    let component_send : IsSend (Component.the_field (param 3 g.row.S-Frozen) (param 1 g.row.S-Watch) g.S.Frozen.Frozen g.S.Watch.Watch).row = search sendable depth 20 in
    let component_sync : IsSync (Component.the_field (param 3 g.row.S-Frozen) (param 1 g.row.S-Watch) g.S.Frozen.Frozen g.S.Watch.Watch).row = search sendable depth 20 in
    let parts : IsSend (MergeParts.the_field (param 0 g.row.S) (param 1 g.row.S-Watch) (param 2 g.row.S-Device) (param 3 g.row.S-Frozen) g.S.Watch.Watch g.S.Frozen.Frozen).row = search (sendable, crosses) depth 20 in
    let job : IsSend (MergeJob.the_field (param 0 g.row.S) (param 1 g.row.S-Watch) (param 2 g.row.S-Device) (param 3 g.row.S-Frozen) g.S.Store g.S.Watch.Watch g.S.Device.Device g.S.Frozen.Frozen).row = search sendable depth 20 in
    search (sendable, crosses) depth 20
