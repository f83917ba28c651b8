use denote.Param.{param}
use denote.Param.SendFields.{declared_send}
use denote.Param.Send.{IsSend, IsSync, sendable}
use Rattle.std.proofs.Crossing.{crosses}
use Rattle.std.proofs.MapsCrossing.{crosses as maps_cross}
use Rattle.left_right.proofs.reader.Reader.TheSendSync.{the_send as reader_send}
use Rattle.logbook.proofs.tokens.Seen.TheSendSync.{the_send as seen_send, the_sync as seen_sync}
use Rattle.tc_bytes.proofs.byte_string.Bytes.TheSendSync.{the_send as bytes_send}
use Rattle.tc_command.proofs.asks.PathExpr.TheSendSync.{the_send as path_send}
use Rattle.tc_command.proofs.replies.Counts.TheSendSync.{the_send as upto_send}
use Rattle.tc_command.specs.contracts.asks.Ask as Ask
use Rattle.tc_command.specs.contracts.replies.Row as Row
use Rattle.tc_command.specs.contracts.replies.Rows as Rows
use Rattle.tc_component.proofs.directory.Directory.TheSendSync.{the_send as directory_send, the_sync as directory_sync}
use Rattle.tc_component.specs.contracts.component.Component as Component
use Rattle.tc_component.specs.contracts.kept_schema.KeptSchema as KeptSchema
use Rattle.tc_component.specs.contracts.loading.Loaded as Loaded
use Rattle.tc_component.specs.contracts.reading.Parts as Parts
use Rattle.tc_list.specs.contracts.list.ComponentList as ComponentList
use Rattle.tc_memory.proofs.slot.Version.TheSendSync.{the_field_send as version_field_send, the_field_sync as version_field_sync}
use Rattle.tc_memory.specs.contracts.memtable.Memtable as Memtable
use Rattle.tc_memory.specs.contracts.sealed.Sealed as Sealed
use Rattle.tc_memory.specs.contracts.slot.Slot as Slot
use Rattle.tc_names.proofs.dictionary.Names.TheSendSync.{the_send as names_send, the_sync as names_sync}
use Rattle.tc_value.proofs.document.Items.TheLaws.TheKnot.{both_send-Doc, both_send-Items, both_send-Members}
use Rattle.tc_value.proofs.text.Text.TheSendSync.{the_send as text_send, the_sync as text_sync}
use Rattle.tc_value.proofs.shape_tree.ShapeItems.TheLaws.TheKnot.{both_send-Shape, both_sync-Shape, both_send-ShapeItems, both_sync-ShapeItems, both_send-ShapeMembers, both_sync-ShapeMembers}
use Rattle.tc_value.specs.contracts.document.Doc as Doc
use Rattle.tc_value.specs.contracts.shape_tree.Shape as Shape
use Rattle.tc_view.proofs.chunk.Chunk.TheSendSync.{the_send as chunk_send, the_sync as chunk_sync}
use Rattle.tc_view.specs.contracts.lens.Lens as Lens
use Rattle.tc_view.specs.contracts.mark.Mark as Mark
use Rattle.tc_view.specs.contracts.snapshot.Snapshot as Snapshot
use Rattle.tc_view.specs.contracts.view.View as View
use Rattle.tc_shown.specs.contracts.scan.Pass as Pass
use Rattle.tc_shown.specs.contracts.scan.Scan as Scan
use Rattle.tc_shown.specs.contracts.scan.Scanned as Scanned
use Rattle.tc_shown.proofs.fault.ScanFault.TheSendSync.{the_send as fault_send}
use Rattle.tc_shown.proofs.running.RunningScan.start.Given.{Over}
use Rattle.tc_shown.proofs.running.RunningScan.start.Goals as goal

-- What a scan has is shown to cross one by one, since a search that goes down through all of it runs out of steps.

listed_send : (g : Over) → IsSend (param 0 g.row.F) → IsSend (param 1 g.row.F-Watch) → IsSync (param 0 g.row.F) → IsSend (ComponentList.the_field (param 0 g.row.F) (param 1 g.row.F-Watch) g.F.Frozen g.F.Watch.Watch).row
listed_send g file watch shared =
    let kept_send : IsSend (KeptSchema.the_field).row = search (sendable, crosses) depth 20 in
    let kept_sync : IsSync (KeptSchema.the_field).row = search (sendable, crosses) depth 20 in
    let parts_send : IsSend (Parts.the_field).row = search (sendable, directory_send, names_send) depth 20 in
    let parts_sync : IsSync (Parts.the_field).row = search (sendable, directory_sync, names_sync) depth 20 in
    let loaded_send : IsSend (Loaded.the_field).row = search sendable depth 20 in
    let loaded_sync : IsSync (Loaded.the_field).row = search sendable depth 20 in
    let component_send : IsSend (Component.the_field (param 0 g.row.F) (param 1 g.row.F-Watch) g.F.Frozen g.F.Watch.Watch).row = search sendable depth 20 in
    let component_sync : IsSync (Component.the_field (param 0 g.row.F) (param 1 g.row.F-Watch) g.F.Frozen g.F.Watch.Watch).row = search sendable depth 20 in
    search (sendable, crosses) depth 20

listed_sync : (g : Over) → IsSend (param 0 g.row.F) → IsSend (param 1 g.row.F-Watch) → IsSync (param 0 g.row.F) → IsSync (ComponentList.the_field (param 0 g.row.F) (param 1 g.row.F-Watch) g.F.Frozen g.F.Watch.Watch).row
listed_sync g file watch shared =
    let kept_send : IsSend (KeptSchema.the_field).row = search (sendable, crosses) depth 20 in
    let kept_sync : IsSync (KeptSchema.the_field).row = search (sendable, crosses) depth 20 in
    let parts_send : IsSend (Parts.the_field).row = search (sendable, directory_send, names_send) depth 20 in
    let parts_sync : IsSync (Parts.the_field).row = search (sendable, directory_sync, names_sync) depth 20 in
    let loaded_send : IsSend (Loaded.the_field).row = search sendable depth 20 in
    let loaded_sync : IsSync (Loaded.the_field).row = search sendable depth 20 in
    let component_send : IsSend (Component.the_field (param 0 g.row.F) (param 1 g.row.F-Watch) g.F.Frozen g.F.Watch.Watch).row = search sendable depth 20 in
    let component_sync : IsSync (Component.the_field (param 0 g.row.F) (param 1 g.row.F-Watch) g.F.Frozen g.F.Watch.Watch).row = search sendable depth 20 in
    search (sendable, crosses) depth 20

sealed_send : IsSend (Sealed.the_field).row
sealed_send =
    let shape_send : IsSend (Shape.the_field).row = search (sendable, crosses, text_send, text_sync, both_send-Shape, both_send-ShapeItems, both_send-ShapeMembers) depth 20 in
    let slot_send : IsSend (Slot.the_field).row = search (sendable, crosses, version_field_send) depth 20 in
    let table_send : IsSend (Memtable.the_field).row = search (sendable, crosses, maps_cross) depth 20 in
    search sendable depth 20

sealed_sync : IsSync (Sealed.the_field).row
sealed_sync =
    let shape_sync : IsSync (Shape.the_field).row = search (sendable, crosses, text_send, text_sync, both_sync-Shape, both_sync-ShapeItems, both_sync-ShapeMembers) depth 20 in
    let slot_sync : IsSync (Slot.the_field).row = search (sendable, crosses, version_field_sync) depth 20 in
    let table_sync : IsSync (Memtable.the_field).row = search (sendable, crosses, maps_cross) depth 20 in
    search sendable depth 20

mark_sends : (g : Over) → IsSend (Mark.the_field (param 0 g.row.F) (param 1 g.row.F-Watch) g.F.Frozen g.F.Watch.Watch).row
mark_sends g = search (sendable, seen_send) depth 20

mark_syncs : (g : Over) → IsSync (Mark.the_field (param 0 g.row.F) (param 1 g.row.F-Watch) g.F.Frozen g.F.Watch.Watch).row
mark_syncs g = search (sendable, seen_sync) depth 20

view_send : (g : Over) → IsSend (ComponentList.the_field (param 0 g.row.F) (param 1 g.row.F-Watch) g.F.Frozen g.F.Watch.Watch).row
    → IsSync (ComponentList.the_field (param 0 g.row.F) (param 1 g.row.F-Watch) g.F.Frozen g.F.Watch.Watch).row
    → IsSend (View.the_field (param 0 g.row.F) (param 1 g.row.F-Watch) g.F.Frozen g.F.Watch.Watch).row
view_send g list_send list_sync = search (sendable, crosses, chunk_send, chunk_sync, sealed_send, sealed_sync, mark_sends) depth 20

view_sync : (g : Over) → IsSend (ComponentList.the_field (param 0 g.row.F) (param 1 g.row.F-Watch) g.F.Frozen g.F.Watch.Watch).row
    → IsSync (ComponentList.the_field (param 0 g.row.F) (param 1 g.row.F-Watch) g.F.Frozen g.F.Watch.Watch).row
    → IsSync (View.the_field (param 0 g.row.F) (param 1 g.row.F-Watch) g.F.Frozen g.F.Watch.Watch).row
view_sync g list_send list_sync = search (sendable, crosses, chunk_send, chunk_sync, sealed_send, sealed_sync, mark_syncs) depth 20

snapshot_send : (g : Over) → IsSend (View.the_field (param 0 g.row.F) (param 1 g.row.F-Watch) g.F.Frozen g.F.Watch.Watch).row
    → IsSync (View.the_field (param 0 g.row.F) (param 1 g.row.F-Watch) g.F.Frozen g.F.Watch.Watch).row
    → IsSend (Snapshot.the_field (param 0 g.row.F) (param 1 g.row.F-Watch) g.F.Frozen g.F.Watch.Watch).row
snapshot_send g send sync = search (sendable, crosses) depth 20

lens_send : (g : Over) → IsSend (View.the_field (param 0 g.row.F) (param 1 g.row.F-Watch) g.F.Frozen g.F.Watch.Watch).row
    → IsSync (View.the_field (param 0 g.row.F) (param 1 g.row.F-Watch) g.F.Frozen g.F.Watch.Watch).row
    → IsSend (Snapshot.the_field (param 0 g.row.F) (param 1 g.row.F-Watch) g.F.Frozen g.F.Watch.Watch).row
    → IsSend (Lens.the_row (param 0 g.row.F) (param 1 g.row.F-Watch) g.F.Frozen g.F.Watch.Watch)
lens_send g send sync kept = declared_send (Lens.the_type (param 0 g.row.F) (param 1 g.row.F-Watch) g.F.Frozen g.F.Watch.Watch) (search sendable depth 20, (search (reader_send, sendable, crosses) depth 20, (search sendable depth 20, tt)))

pass_send : (g : Over) → IsSend (param 0 g.row.F) → IsSend (param 1 g.row.F-Watch) → IsSync (param 0 g.row.F) → IsSend (Pass.the_row (param 0 g.row.F) (param 1 g.row.F-Watch) g.F.Frozen g.F.Watch.Watch)
pass_send g file watch shared =
    let list_send = listed_send g file watch shared in
    let list_sync = listed_sync g file watch shared in
    let send = view_send g list_send list_sync in
    let sync = view_sync g list_send list_sync in
    let lens : IsSend (Lens.the_row (param 0 g.row.F) (param 1 g.row.F-Watch) g.F.Frozen g.F.Watch.Watch) = lens_send g send sync (snapshot_send g send sync) in
    declared_send (Pass.the_type (param 0 g.row.F) (param 1 g.row.F-Watch) g.F.Frozen g.F.Watch.Watch) (lens, (search sendable depth 20, tt))

pub start-job-requires-send-F : goal.start-job-requires-send-F
start-job-requires-send-F g c κs within =
    let pass = pass_send g c.type_bounds.send-F c.type_bounds.send-F-Watch c.type_bounds.sync-F in
    let doc : IsSend (Doc.the_field).row = search (sendable, crosses, text_send, text_sync, both_send-Doc, both_send-Items, both_send-Members) depth 20 in
    let ask : IsSend (Ask.the_field).row = search (sendable, path_send) depth 20 in
    let scan : IsSend (Scan.the_field (param 0 g.row.F) (param 1 g.row.F-Watch) g.F.Frozen g.F.Watch.Watch).row = search (sendable, crosses) depth 20 in
    search (sendable, crosses) depth 20

pub start-job-requires-send-J-Out : goal.start-job-requires-send-J-Out
start-job-requires-send-J-Out g c κs within =
    let pass = pass_send g c.type_bounds.send-F c.type_bounds.send-F-Watch c.type_bounds.sync-F in
    let row : IsSend (Row.the_field).row = search (sendable, bytes_send) depth 20 in
    let rows : IsSend (Rows.the_field).row = search (sendable, crosses) depth 20 in
    let scanned : IsSend (Scanned.the_field).row = search (sendable, upto_send) depth 20 in
    search (sendable, crosses, fault_send) depth 20
