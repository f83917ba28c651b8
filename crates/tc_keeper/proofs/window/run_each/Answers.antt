use Rattle.std.proofs.Common.{rules, ◌≡◌, ◌<◌, ◌+◌, ℕ, false, arith, slice_index_or, subst, sym}
use Rattle.std.proofs.Crossing.{crosses}
use Rattle.std.proofs.MapsCrossing.{crosses as maps_cross}
use Rattle.std.specs.Prelude.{OnOk}
use denote.Param.{param}
use denote.Param.Send.{IsSend, IsSync, sendable}
use denote.Param.SendFields.{declared_send}
use Rattle.tc_bytes.proofs.byte_string.Bytes.TheSendSync.{the_send as bytes_send}
use Rattle.tc_command.proofs.asks.PathExpr.TheSendSync.{the_sync as path_sync}
use Rattle.tc_command.proofs.replies.Counts.TheSendSync.{the_send as upto_send}
use Rattle.tc_command.specs.contracts.asks.Ask as Ask
use Rattle.tc_command.specs.contracts.commands.Command as Command
use Rattle.tc_command.specs.contracts.replies.Reply as Reply
use Rattle.tc_command.specs.contracts.replies.Row as Row
use Rattle.tc_command.specs.contracts.replies.Rows as Rows
use Rattle.tc_command.specs.contracts.replies.Schemas as Schemas
use Rattle.tc_component.proofs.directory.Directory.TheSendSync.{the_send as directory_send, the_sync as directory_sync}
use Rattle.tc_component.specs.contracts.component.Component as Component
use Rattle.tc_component.specs.contracts.kept_schema.KeptSchema as KeptSchema
use Rattle.tc_component.specs.contracts.loading.Loaded as Loaded
use Rattle.tc_component.specs.contracts.reading.Parts as Parts
use Rattle.tc_list.specs.contracts.list.ComponentList as ComponentList
use Rattle.tc_log.proofs.log.Log.TheSendSync.{the_send as log_send}
use Rattle.tc_log.proofs.write.Write.TheSendSync.{the_send as write_send}
use Rattle.tc_log.specs.contracts.log.Log as Log
use Rattle.tc_memory.proofs.slot.Version.TheSendSync.{the_field_send as version_send, the_field_sync as version_sync}
use Rattle.tc_memory.specs.contracts.memtable.Memtable as Memtable
use Rattle.tc_memory.specs.contracts.sealed.Sealed as Sealed
use Rattle.tc_memory.specs.contracts.slot.Slot as Slot
use Rattle.tc_names.proofs.dictionary.Names.TheSendSync.{the_send as names_send, the_sync as names_sync}
use Rattle.tc_part.specs.contracts.part.Part as Part
use Rattle.tc_part.specs.contracts.part.Part.TheInside as InsidePart
use Rattle.tc_part.specs.contracts.retired.Retired as Retired
use Rattle.tc_route.specs.Meaning.{requests_at}
use Rattle.tc_route.specs.contracts.placed.Placed as Placed
use Rattle.tc_route.specs.contracts.placed.Replies as Replies
use Rattle.tc_route.specs.contracts.placed.Routed as Routed
use Rattle.tc_value.proofs.document.Items.TheLaws.TheKnot.{both_sync-Doc, both_sync-Items, both_sync-Members}
use Rattle.tc_value.proofs.text.Text.TheSendSync.{the_send as text_send, the_sync as text_sync}
use Rattle.tc_value.proofs.shape_tree.ShapeItems.TheLaws.TheKnot.{both_send-Shape, both_sync-Shape, both_send-ShapeItems, both_sync-ShapeItems, both_send-ShapeMembers, both_sync-ShapeMembers}
use Rattle.tc_value.specs.contracts.document.Doc as Doc
use Rattle.tc_value.specs.contracts.document.Items as Items
use Rattle.tc_value.specs.contracts.shape_tree.Shape as Shape
use Rattle.tc_work.proofs.fault.EngineFault.TheSendSync.{the_send as fault_send}
use Rattle.tc_work.specs.contracts.engine.Engine as Engine
use Rattle.tc_work.specs.contracts.engine.Engine.TheInside as InsideEngine
use Rattle.tc_work.specs.Moving.{eyes}
use Rattle.tc_work.specs.contracts.progress.Progress as Progress
use Rattle.tc_keeper.specs.Places.{AtEach}
use Rattle.tc_work.specs.Committed.{HasFramed}
use Rattle.tc_keeper.specs.Running.{HasRun}
use Rattle.tc_keeper.specs.contracts.seat.Seat as SeatRow
use Rattle.tc_keeper.specs.declared.seat.Seat.{Seat}
use Rattle.tc_keeper.proofs.PlaceLaws.{at_each-by, at_each-so}
use Rattle.tc_keeper.proofs.window.run_each.Goals as goal

-- A seat may go to another thread, as what it holds may: a search at the whole takes too many steps.
pub for_each_mut-requires-send-T : goal.for_each_mut-requires-send-T
for_each_mut-requires-send-T g c κs within =
    let kept_send : IsSend (KeptSchema.the_field).row = search (sendable, crosses) depth 20 in
    let parts_send : IsSend (Parts.the_field).row = search (sendable, directory_send, names_send) depth 20 in
    let loaded_send : IsSend (Loaded.the_field).row = search sendable depth 20 in
    let component_send : IsSend (Component.the_field (param 5 g.row.S-Frozen) (param 3 g.row.S-Watch) g.S.Frozen.Frozen g.S.Watch.Watch).row = search sendable depth 20 in
    let shape_send : IsSend (Shape.the_field).row = search (sendable, crosses, text_send, text_sync, both_send-Shape, both_send-ShapeItems, both_send-ShapeMembers) depth 20 in
    let slot_send : IsSend (Slot.the_field).row = search (sendable, crosses, version_send) depth 20 in
    let table_send : IsSend (Memtable.the_field).row = search (sendable, crosses, maps_cross) depth 20 in
    let sealed_send : IsSend (Sealed.the_field).row = search sendable depth 20 in
    let kept_sync : IsSync (KeptSchema.the_field).row = search (sendable, crosses) depth 20 in
    let parts_sync : IsSync (Parts.the_field).row = search (sendable, directory_sync, names_sync) depth 20 in
    let loaded_sync : IsSync (Loaded.the_field).row = search sendable depth 20 in
    let component_sync : IsSync (Component.the_field (param 5 g.row.S-Frozen) (param 3 g.row.S-Watch) g.S.Frozen.Frozen g.S.Watch.Watch).row = search sendable depth 20 in
    let shape_sync : IsSync (Shape.the_field).row = search (sendable, crosses, text_send, text_sync, both_sync-Shape, both_sync-ShapeItems, both_sync-ShapeMembers) depth 20 in
    let slot_sync : IsSync (Slot.the_field).row = search (sendable, crosses, version_sync) depth 20 in
    let table_sync : IsSync (Memtable.the_field).row = search (sendable, crosses, maps_cross) depth 20 in
    let sealed_sync : IsSync (Sealed.the_field).row = search sendable depth 20 in
    let list : IsSend (ComponentList.the_field (param 5 g.row.S-Frozen) (param 3 g.row.S-Watch) g.S.Frozen.Frozen g.S.Watch.Watch).row = search (sendable, crosses) depth 20 in
    let log : IsSend (Log.the_field (param 4 g.row.S-Device) (param 3 g.row.S-Watch) g.S.Device.Device g.S.Watch.Watch).row = search (sendable, log_send) depth 20 in
    let retired : IsSend (Retired.the_field (param 5 g.row.S-Frozen) (param 3 g.row.S-Watch) g.S.Frozen.Frozen g.S.Watch.Watch).row = search (sendable, crosses) depth 20 in
    let inside : IsSend (InsidePart.the_row (param 0 g.row.S) (param 3 g.row.S-Watch) (param 4 g.row.S-Device) (param 5 g.row.S-Frozen) g.S.Store g.S.Watch.Watch
    g.S.Device.Device g.S.Frozen.Frozen) = declared_send (InsidePart.the_type (param 0 g.row.S) (param 3 g.row.S-Watch) (param 4 g.row.S-Device)
    (param 5 g.row.S-Frozen) g.S.Store g.S.Watch.Watch g.S.Device.Device g.S.Frozen.Frozen) (
      search sendable depth 20,
      (
        search sendable depth 20,
        (
          search sendable depth 20,
          (
            search sendable depth 20,
            (
              search sendable depth 20,
              (
                search sendable depth 20,
                (
                  search sendable depth 20,
                  (
                    search sendable depth 20,
                    (
                      search sendable depth 20,
                      (
                        search (sendable, crosses) depth 20,
                        (
                          search sendable depth 20,
                          (
                            search sendable depth 20,
                            (
                              search sendable depth 20,
                              (
                                search sendable depth 20,
                                (
                                  search (sendable, crosses, write_send) depth 20,
                                  (
                                    search (sendable, names_send) depth 20,
                                    (
                                      search sendable depth 20,
                                      (
                                        search sendable depth 20,
                                        (
                                          search sendable depth 20,
                                          (search sendable depth 20, (search sendable depth 20, tt)),
                                        ),
                                      ),
                                    ),
                                  ),
                                ),
                              ),
                            ),
                          ),
                        ),
                      ),
                    ),
                  ),
                ),
              ),
            ),
          ),
        ),
      ),
    ) in
    let part : IsSend (Part.the_field (param 0 g.row.S) (param 3 g.row.S-Watch) (param 4 g.row.S-Device) (param 5 g.row.S-Frozen) g.S.Store g.S.Watch.Watch g.S.Device.Device g.S.Frozen.Frozen).row = search sendable depth 20 in
    let progress : IsSend (Progress.the_field (param 1 g.row.P)).row = search (sendable, crosses) depth 20 in
    let engine_inside : IsSend (InsideEngine.the_row (param 0 g.row.S) (param 1 g.row.P) (param 3 g.row.S-Watch) (param 4 g.row.S-Device) (param 5 g.row.S-Frozen)
    g.S.Store g.S.Watch.Watch g.S.Device.Device g.S.Frozen.Frozen) = declared_send
    (InsideEngine.the_type (param 0 g.row.S) (param 1 g.row.P) (param 3 g.row.S-Watch) (param 4 g.row.S-Device) (param 5 g.row.S-Frozen) g.S.Store g.S.Watch.Watch
    g.S.Device.Device g.S.Frozen.Frozen) (search sendable depth 20, (search sendable depth 20, (search sendable depth 20, (search sendable depth 20, tt)))) in
    let engine : IsSend (Engine.the_field (param 0 g.row.S) (param 1 g.row.P) (param 3 g.row.S-Watch) (param 4 g.row.S-Device) (param 5 g.row.S-Frozen) g.S.Store g.S.Watch.Watch g.S.Device.Device g.S.Frozen.Frozen).row = search sendable depth 20 in
    let row : IsSend (Row.the_field).row = search (sendable, bytes_send) depth 20 in
    let rows : IsSend (Rows.the_field).row = search (sendable, crosses) depth 20 in
    let schemas : IsSend (Schemas.the_field).row = search (sendable, crosses, bytes_send) depth 20 in
    let reply : IsSend (Reply.the_field).row = search (sendable, upto_send, bytes_send) depth 60 in
    let placed : IsSend (Placed.the_field).row = search sendable depth 20 in
    let replies : IsSend (Replies.the_field).row = search (sendable, crosses) depth 20 in
    let seat : IsSend (SeatRow.the_row (param 0 g.row.S) (param 1 g.row.P) (param 3 g.row.S-Watch) (param 4 g.row.S-Device) (param 5 g.row.S-Frozen) g.S.Store
    g.S.Watch.Watch g.S.Device.Device g.S.Frozen.Frozen) = declared_send
    (SeatRow.the_type (param 0 g.row.S) (param 1 g.row.P) (param 3 g.row.S-Watch) (param 4 g.row.S-Device) (param 5 g.row.S-Frozen) g.S.Store g.S.Watch.Watch
    g.S.Device.Device g.S.Frozen.Frozen) (
      search sendable depth 20,
      (search (sendable, fault_send) depth 20, (search (sendable, crosses, write_send) depth 20, tt)),
    ) in
    search sendable depth 20

pub for_each_mut-requires-sync-F : goal.for_each_mut-requires-sync-F
for_each_mut-requires-sync-F g c κs within =
    let doc_sync : IsSync (Doc.the_field).row = search (sendable, crosses, text_send, text_sync, both_sync-Doc, both_sync-Items, both_sync-Members) depth 20 in
    let items_sync : IsSync (Items.the_field).row = search (sendable, crosses, text_send, text_sync, both_sync-Items) depth 20 in
    let ask : IsSync (Ask.the_field).row = search (sendable, path_sync) depth 20 in
    let command : IsSync (Command.the_field).row = search sendable depth 20 in
    let routed : IsSync (Routed.the_field).row = search sendable depth 20 in
    search (sendable, crosses) depth 20

pub for_each_mut-requires-clause-accepts : goal.for_each_mut-requires-clause-accepts
for_each_mut-requires-clause-accepts g c κs within = λ i p below is.
    ((subst (λ n. i < n) (sym c.requires.as_many) below, subst (λ (s : Seat g.row.S.Denot g.row.P.Denot g.row.S-Watch.Denot g.row.S-Device.Denot g.row.S-Frozen.Denot). s.engine.part.failed ≡ false) (sym is) (c.requires.sound i p.now below), c.requires.window), search sendable depth 20)

pub returns : goal.returns
returns g c = record {
  ran = at_each-so Both (λ p old new. HasRun (eyes g.S.Store.history g.S.Device.Device.history g.S.Frozen.Frozen.content g.S.Device.Device.name g.S.Frozen.Frozen.size
      g.S.Watch.Watch.counts) (requests_at p c.args.lists.now) old.engine new.engine new.answer) 0 c.args.seats.now c.for_each_mut.new.s (λ p old new both. both.0) all;
  framed = at_each-so Both (λ p old new. OnOk new.answer (HasFramed
      (eyes g.S.Store.history g.S.Device.Device.history g.S.Frozen.Frozen.content g.S.Device.Device.name g.S.Frozen.Frozen.size g.S.Watch.Watch.counts)
      (requests_at p c.args.lists.now) old.engine new.engine new.frame.items)) 0 c.args.seats.now c.for_each_mut.new.s (λ p old new both. both.1) all;
}
  where
    Both : ℕ → Seat g.row.S.Denot g.row.P.Denot g.row.S-Watch.Denot g.row.S-Device.Denot g.row.S-Frozen.Denot → Seat g.row.S.Denot g.row.P.Denot g.row.S-Watch.Denot g.row.S-Device.Denot g.row.S-Frozen.Denot → Type 0
    Both p old new = HasRun (eyes g.S.Store.history g.S.Device.Device.history g.S.Frozen.Frozen.content g.S.Device.Device.name g.S.Frozen.Frozen.size
        g.S.Watch.Watch.counts) (requests_at p c.args.lists.now) old.engine new.engine new.answer
        × OnOk new.answer (HasFramed (eyes g.S.Store.history g.S.Device.Device.history g.S.Frozen.Frozen.content g.S.Device.Device.name g.S.Frozen.Frozen.size
        g.S.Watch.Watch.counts) (requests_at p c.args.lists.now) old.engine new.engine new.frame.items)

    all : AtEach Both 0 c.args.seats.now c.for_each_mut.new.s
    all =
        at_each-by Both 0 c.args.seats.now c.for_each_mut.new.s (search rules)
        (λ i d below.
        let at = (c.for_each_mut.ensures i d below).1 in
        let here : i ≡ 0 + i = omega arith in
        let one : Both i at.argument.now at.after_call.now = at.call in
        subst (λ k. Both k (slice_index_or c.args.seats.now i d) (slice_index_or c.for_each_mut.new.s i d)) here
        (subst (λ old. Both i old (slice_index_or c.for_each_mut.new.s i d)) at.argument_is (subst (Both i at.argument.now) at.left one)))
