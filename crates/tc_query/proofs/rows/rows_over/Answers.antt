use Rattle.std.proofs.Common.{◌+◌, ◌∙◌, Err, List, length, map, option_map, sym, ap, subst, arith}
use Rattle.std.proofs.lemmas.Result.{err_from_is_err_and}
use Rattle.std.specs.Prelude.{IfErr, option_to_list}
use Rattle.tc_command.specs.Commands.{ask_of}
use Rattle.tc_command.specs.Rows.{row_of}
use Rattle.tc_request_model.specs.Rendered.{row_text}
use Rattle.tc_query.proofs.HeldBelow.{HoldBelow, below_none, below_next, below_all}
use Rattle.tc_query.proofs.KeyRows.{reads_more, reads_within, reads_ended, rows_more, rows_whole}
use Rattle.tc_query.proofs.RowSteps.{rows-start}
use Rattle.tc_query.proofs.Spelled.{unharmed}
use Rattle.tc_query.proofs.WalkSteps.{later_walk, written_back}
use Rattle.tc_query.proofs.WindowReads.{start_read, reads_few}
use Rattle.tc_query.specs.Faults.{IsUnharmed}
use Rattle.tc_query.specs.Walking.{least_left, IsNext, HasNoneIn}
use Rattle.tc_query.specs.Readers.{AreReaders}
use Rattle.tc_query.specs.Windows.{AreRead}
use Rattle.tc_query.specs.declared.reader.Reader.{Reader}
use Rattle.tc_query.proofs.rows.rows_over.Goals as goal

pub loop-key-init : goal.loop-key-init
loop-key-init g c = record {
  walk = c.in_ok-walk.ensures.walk;
  rows = λ pairs h. ap (map row_of) c.new-rows.ensures.items ∙ sym (ap (map row_text) (rows-start (ask_of c.args.ask.now) pairs));
  held = subst (HoldBelow g.F.Frozen.content 0 c.args.list.now (option_map (λ t. t.now) c.args.sealed) c.args.active.now (ask_of c.args.ask.now))
      (sym (ap (map row_of) c.new-rows.ensures.items)) (below_none g.F.Frozen.content c.args.list.now (option_map (λ t. t.now) c.args.sealed) c.args.active.now
      (ask_of c.args.ask.now));
  reads = omega arith;
  readers = c.in_ok-readers.ensures;
  read = start_read c.args.list.now _ _;
  faults = omega arith;
}

pub row_at-requires-clause-of : goal.row_at-requires-clause-of
row_at-requires-clause-of g c κs within = subst (λ ks. AreReaders g.F.Frozen.content (ask_of c.args.ask.now).path c.args.list.now ks) (sym c.deref_mut.ensures.value) c.loop-key.invariant.readers

pub returns-in_err-row-clause-unharmed : goal.returns-in_err-row-clause-unharmed
returns-in_err-row-clause-unharmed g c = λ cs all.
    let r = c.from_residual-in_err-row.result in
    let p = err_from_is_err_and r c.from_residual-in_err-row.ensures.1 in
    let laws = c.components_are_contents.ensures in
    subst (λ q. IfErr q IsUnharmed) (sym (p.1 ∙ ap Err p.2))
    (unharmed g.F.Frozen.content (record {
      found = laws.found;
      read = λ d bytes at key doc is here. record { there = laws.fetched d bytes at key doc is here; one = laws.spelled d bytes at key doc is here; within = laws.within d bytes at key doc is here };
    }) c.in_err-row.field-0.0 c.args.list.now cs all c.in_err-row.ensures.harmed)

pub returns-in_err-row-clause-reads : goal.returns-in_err-row-clause-reads
returns-in_err-row-clause-reads g c =
    let l = c.loop-key in
    let counts = g.F.Watch.Watch.counts in
    let tables = c.in_ok-walk.ensures in
    let sealed = option_map (λ t. t.now) c.args.sealed in
    reads_ended g.F.Frozen.content c.args.list.now sealed c.args.active.now (least_left l.last) c.in-Some.key (counts c.args.watch.now).reads (counts l.watch) (counts c.row_at.new.watch)
    c.next_key.ensures.lawful (c.in-Some.ensures.next sealed c.args.active.now tables.sealed tables.active l.invariant.walk) c.row_at.ensures.reads l.invariant.reads

pub returns-in_err-push_row-clause-reads : goal.returns-in_err-push_row-clause-reads
returns-in_err-push_row-clause-reads g c =
    let l = c.loop-key in
    let counts = g.F.Watch.Watch.counts in
    let tables = c.in_ok-walk.ensures in
    let sealed = option_map (λ t. t.now) c.args.sealed in
    reads_ended g.F.Frozen.content c.args.list.now sealed c.args.active.now (least_left l.last) c.in-Some.key (counts c.args.watch.now).reads (counts l.watch) (counts c.row_at.new.watch)
    c.next_key.ensures.lawful (c.in-Some.ensures.next sealed c.args.active.now tables.sealed tables.active l.invariant.walk) c.row_at.ensures.reads l.invariant.reads

pub returns-in_err-row-clause-windows : goal.returns-in_err-row-clause-windows
returns-in_err-row-clause-windows g c =
    let l = c.loop-key in
    let counts = g.F.Watch.Watch.counts in
    let tables = c.in_ok-walk.ensures in
    let sealed = option_map (λ t. t.now) c.args.sealed in
    let next = c.in-Some.ensures.next sealed c.args.active.now tables.sealed tables.active l.invariant.walk in
    c.row_at.ensures.windows (least_left l.last) (counts c.args.watch.now).reads next.0 (subst (λ ks. AreRead (least_left l.last) c.args.list.now ks (counts c.args.watch.now).reads (counts l.watch).reads) (sym c.deref_mut.ensures.value) l.invariant.read)

pub returns-in_err-push_row-clause-windows : goal.returns-in_err-push_row-clause-windows
returns-in_err-push_row-clause-windows g c =
    let l = c.loop-key in
    let counts = g.F.Watch.Watch.counts in
    let tables = c.in_ok-walk.ensures in
    let sealed = option_map (λ t. t.now) c.args.sealed in
    let next = c.in-Some.ensures.next sealed c.args.active.now tables.sealed tables.active l.invariant.walk in
    c.row_at.ensures.windows (least_left l.last) (counts c.args.watch.now).reads next.0 (subst (λ ks. AreRead (least_left l.last) c.args.list.now ks (counts c.args.watch.now).reads (counts l.watch).reads) (sym c.deref_mut.ensures.value) l.invariant.read)

pub returns-clause-windows : goal.returns-clause-windows
returns-clause-windows g c =
    let l = c.loop-key in
    let counts = g.F.Watch.Watch.counts in
    reads_few (least_left l.last) c.args.list.now l.readers.items (counts c.args.watch.now).reads (counts l.watch).reads l.invariant.readers.many l.invariant.read

pub loop-key-preserved : goal.loop-key-preserved
loop-key-preserved g c =
    let l = c.loop-key in
    let counts = g.F.Watch.Watch.counts in
    let cs = c.args.list.now in
    let sealed = option_map (λ t. t.now) c.args.sealed in
    let active = c.args.active.now in
    let tables = c.in_ok-walk.ensures in
    let low = least_left l.last in
    let key = c.in-Some.key in
    let next = c.in-Some.ensures.next sealed active tables.sealed tables.active l.invariant.walk in
    let written = written_back c.row_at.new.readers l.readers.items _ (c.row_at.ensures.of.many ∙ sym l.invariant.readers.many) (sym c.deref_mut.ensures.len ∙ ap (λ (ks : List Reader). length ks) c.deref_mut.ensures.value) in
    record {
      walk = let least = next.0 in later_walk low (key + 1) cs sealed active c.next_key.new.walk (omega (arith, least)) (c.in-Some.ensures.walk sealed active l.invariant.walk);
      rows = λ pairs h.
          rows_more g.F.Frozen.content cs sealed active pairs h tables.sealed tables.active (c.loaded_components_show_contents.ensures.shown cs h.contents h.loaded) (ask_of c.args.ask.now) low key
          (map row_of l.rows.items) (option_to_list (option_map row_of c.in_ok-row.row)) (map row_of c.push_row.new.rows.items) next (l.invariant.rows pairs h) (c.in_ok-row.ensures.row pairs h) c.in_ok-push_row.ensures;
      held = let may = c.in_ok-row.ensures.shown in below_next g.F.Frozen.content cs sealed active (ask_of c.args.ask.now) low key (map row_of l.rows.items) may.0
          (option_to_list (option_map row_of c.in_ok-row.row)) (map row_of c.push_row.new.rows.items) next l.invariant.held may.1 may.2 c.in_ok-push_row.ensures;
      reads = reads_more g.F.Frozen.content cs sealed active low key (counts c.args.watch.now).reads (counts l.watch) (counts c.row_at.new.watch) c.next_key.ensures.lawful next c.row_at.ensures.reads l.invariant.reads;
      readers = subst (λ ks. AreReaders g.F.Frozen.content (ask_of c.args.ask.now).path cs ks) (sym written) c.row_at.ensures.of;
      read = subst (λ ks. AreRead (key + 1) cs ks (counts c.args.watch.now).reads (counts c.row_at.new.watch).reads) (sym written)
          (c.in_ok-row.ensures.read low (counts c.args.watch.now).reads next.0 (subst (λ ks. AreRead low cs ks (counts c.args.watch.now).reads (counts l.watch).reads) (sym c.deref_mut.ensures.value) l.invariant.read));
      faults = let before = l.invariant.faults in let more = c.row_at.ensures.watched.faults in omega (arith, before, more);
    }

pub returns-clause-rows : goal.returns-clause-rows
returns-clause-rows g c = λ pairs h.
    let l = c.loop-key in
    let cs = c.args.list.now in
    let sealed = option_map (λ t. t.now) c.args.sealed in
    let active = c.args.active.now in
    let tables = c.in_ok-walk.ensures in
    let low = least_left l.last in
    let next = subst (λ o. IsNext low o (HasNoneIn cs sealed active)) c.in_default.is (c.next_key.ensures.next sealed active tables.sealed tables.active l.invariant.walk) in
    c.of.ensures
    ∙ rows_whole g.F.Frozen.content cs sealed active pairs h tables.sealed tables.active (c.loaded_components_show_contents.ensures.shown cs h.contents h.loaded) (ask_of c.args.ask.now) low
    (map row_of l.rows.items) next (l.invariant.rows pairs h)

pub returns-clause-reads : goal.returns-clause-reads
returns-clause-reads g c =
    let l = c.loop-key in
    let counts = g.F.Watch.Watch.counts in
    reads_within g.F.Frozen.content c.args.list.now (option_map (λ t. t.now) c.args.sealed) c.args.active.now (least_left l.last) (counts c.args.watch.now).reads (counts l.watch) l.invariant.reads

pub returns-clause-shown : goal.returns-clause-shown
returns-clause-shown g c =
    let l = c.loop-key in
    let cs = c.args.list.now in
    let sealed = option_map (λ t. t.now) c.args.sealed in
    let active = c.args.active.now in
    let tables = c.in_ok-walk.ensures in
    let low = least_left l.last in
    let next = subst (λ o. IsNext low o (HasNoneIn cs sealed active)) c.in_default.is (c.next_key.ensures.next sealed active tables.sealed tables.active l.invariant.walk) in
    let all = below_all g.F.Frozen.content cs sealed active (ask_of c.args.ask.now) low (map row_of l.rows.items) next l.invariant.held in
    (all.0, all.1, c.of.ensures ∙ all.2)
