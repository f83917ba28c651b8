use denote.Param.{param}
use denote.Param.Send.{IsSend, IsSync, sendable}
use Rattle.std.proofs.Crossing.{crosses}
use Rattle.std.proofs.MapsCrossing.{crosses as maps_cross}
use Rattle.tc_flush.specs.contracts.job.FlushJob as FlushJob
use Rattle.tc_flush.specs.contracts.job.FlushParts as FlushParts
use Rattle.tc_memory.proofs.slot.Version.TheSendSync.{the_field_send as version_field_send, the_field_sync as version_field_sync}
use Rattle.tc_memory.specs.contracts.memtable.Memtable as Memtable
use Rattle.tc_memory.specs.contracts.sealed.Sealed as Sealed
use Rattle.tc_memory.specs.contracts.slot.Slot as Slot
use Rattle.tc_names.proofs.dictionary.Names.TheSendSync.{the_send as names_send}
use Rattle.tc_schema.proofs.counters.Counts.TheSendSync.{the_send as counts_send, the_sync as counts_sync}
use Rattle.tc_schema.proofs.place.Field.TheLaws.TheKnot.{both_send-Node}
use Rattle.tc_schema.specs.contracts.whole.Schema as Schema
use Rattle.tc_value.proofs.text.Text.TheSendSync.{the_send as text_send, the_sync as text_sync}
use Rattle.tc_value.proofs.shape_tree.ShapeItems.TheLaws.TheKnot.{both_send-Shape, both_sync-Shape, both_send-ShapeItems, both_sync-ShapeItems, both_send-ShapeMembers, both_sync-ShapeMembers}
use Rattle.tc_value.specs.contracts.shape_tree.Shape as Shape
use Rattle.tc_running.proofs.running.Running.start_flush.Goals as goal

-- the parts of a job one after the other, since a search that goes down through all of them runs out of steps
pub start-requires-send-F : goal.start-requires-send-F
start-requires-send-F g c κs within =
    let schema_send : IsSend (Schema.the_field).row = search (sendable, crosses, counts_send, counts_sync, both_send-Node) depth 20 in
    let shape_send : IsSend (Shape.the_field).row = search (sendable, crosses, text_send, text_sync, both_send-Shape, both_send-ShapeItems, both_send-ShapeMembers) depth 20 in
    let slot_send : IsSend (Slot.the_field).row = search (sendable, crosses, version_field_send) depth 20 in
    let table_send : IsSend (Memtable.the_field).row = search (sendable, crosses, maps_cross) depth 20 in
    let shape_sync : IsSync (Shape.the_field).row = search (sendable, crosses, text_send, text_sync, both_sync-Shape, both_sync-ShapeItems, both_sync-ShapeMembers) depth 20 in
    let slot_sync : IsSync (Slot.the_field).row = search (sendable, crosses, version_field_sync) depth 20 in
    let table_sync : IsSync (Memtable.the_field).row = search (sendable, crosses, maps_cross) depth 20 in
    let sealed_send : IsSend (Sealed.the_field).row = search sendable depth 20 in
    let sealed_sync : IsSync (Sealed.the_field).row = search sendable depth 20 in
    let parts : IsSend (FlushParts.the_field (param 0 g.row.S) (param 1 g.row.S-Watch) (param 2 g.row.S-Device) (param 3 g.row.S-Frozen)).row = search (sendable, crosses, names_send) depth 20 in
    let job : IsSend (FlushJob.the_field (param 0 g.row.S) (param 1 g.row.S-Watch) (param 2 g.row.S-Device) (param 3 g.row.S-Frozen) g.S.Store g.S.Watch.Watch g.S.Device.Device g.S.Frozen.Frozen).row = search sendable depth 20 in
    search (sendable, crosses) depth 20
