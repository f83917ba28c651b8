use Rattle.std.proofs.Common.{◌≡◌, ◌++◌, [], ◌∷◌, List, append_assoc, append-nil, refl, sym, ap, ◌∙◌, subst, arith, rules}
use Rattle.std.specs.Prelude.{All}
use Rattle.std.proofs.lemmas.List.{map-append}
use Rattle.std.proofs.lemmas.List.Elements.{All-head, All-tail}
use Rattle.tc_plain_model.specs.Writes.{Write}
use Rattle.tc_store.specs.Gate.{IsClosed}
use Rattle.tc_store.specs.Moments.{LeavesAt}
use Rattle.tc_store.proofs.MomentLemmas.{EachSince-none, EachSince-trans}
use Rattle.tc_component.specs.Building.{HasRows}
use Rattle.tc_component.specs.Spelling.{Row}
use Rattle.tc_memory.specs.Meaning.{entry_of}
use Rattle.tc_memory.specs.Table.{IsLawfulEntry}
use Rattle.tc_memory.specs.DocumentTables.{IsTableOf}
use Rattle.tc_lsm_model.specs.Tables.{writes_of, shapes_held}
use Rattle.tc_flush.specs.Progress.{IsUpTo}
use Rattle.tc_flush.specs.Recounting.{names_with}
use Rattle.tc_component.specs.Rows.{row_of, rows_of}
use Rattle.tc_flush.proofs.DocumentNames.{dictionary_held}
use Rattle.tc_flush.proofs.EntrySteps.{lawful_held}
use Rattle.tc_flush.proofs.Progressing.{begins, can_first, goes_on, ends}
use Rattle.tc_flush.proofs.writing.put_entries.Goals as goal

pub loop-entry-init : goal.loop-entry-init
loop-entry-init g c =
    let h = g.D.Device.history in
    let all = c.entries-entries.ensures.all in
    let table = c.entries-entries.ensures.table in
    record {
      up = λ t of. begins (λ ws. (rows : List Row) → HasRows (h c.args.builder.now.device) c.args.builder.now rows → HasRows (h c.args.builder.now.device) c.args.builder.now (rows ++ rows_of (names_with c.args.names.now (shapes_held t)) ws))
          t c.entries-entries.result c.args.names.now c.args.schema.now (subst (IsTableOf t) (sym all) of) (c.requires.can t of) (λ rows has. subst (HasRows (h c.args.builder.now.device) c.args.builder.now) (sym (append-nil rows)) has);
      final = λ t of. dictionary_held c.names_agree.ensures.short c.args.names.now t c.args.sealed.now table of c.len-known.ensures.dictionary (c.requires.can t of).known;
      lawful = subst (All IsLawfulEntry) (sym all) table.entries;
      head = refl;
      going_on = c.requires.going_on;
      name = refl;
      moments = EachSince-none (LeavesAt IsClosed) (h c.args.builder.now.device) (h c.args.builder.now.device) refl;
      faults = omega arith;
      reads = refl;
    }

pub put_entry-requires-clause-lawful : goal.put_entry-requires-clause-lawful
put_entry-requires-clause-lawful g c κs within =
    let l = c.loop-entry in
    let here : l.entries ≡ entry_of c.in-Some.entry ∷ c.next.new.self = search rules in
    let lawful = All-head IsLawfulEntry (entry_of c.in-Some.entry) c.next.new.self (subst (All IsLawfulEntry) here l.invariant.lawful) in
    lawful_held c.in-Some.entry.held (entry_of c.in-Some.entry).1.below lawful.lawful

pub put_entry-requires-clause-can : goal.put_entry-requires-clause-can
put_entry-requires-clause-can g c κs within = λ x of.
    let h = g.D.Device.history in
    let l = c.loop-entry in
    let here : l.entries ≡ entry_of c.in-Some.entry ∷ c.next.new.self = search rules in
    let lawful = All-head IsLawfulEntry (entry_of c.in-Some.entry) c.next.new.self (subst (All IsLawfulEntry) here l.invariant.lawful) in
    let whole = c.tables_keep_documents.ensures.some c.args.sealed.now c.entries-entries.ensures.table in
    let Pushed : List Write → Type 0 = λ ws. (rows : List Row) → HasRows (h c.args.builder.now.device) c.args.builder.now rows → HasRows (h l.builder.device) l.builder (rows ++ rows_of (names_with c.args.names.now (shapes_held whole.table)) ws) in
    can_first c.one_document.ensures Pushed whole.table c.args.names.now c.args.schema.now (entry_of c.in-Some.entry) c.next.new.self l.names l.schema lawful
    (subst (λ es. IsUpTo Pushed whole.table c.args.names.now c.args.schema.now es l.names l.schema) here (l.invariant.up whole.table whole.of)) x of

pub loop-entry-preserved : goal.loop-entry-preserved
loop-entry-preserved g c =
    let h = g.D.Device.history in
    let l = c.loop-entry in
    let e = entry_of c.in-Some.entry in
    let left = c.next.new.self in
    let here : l.entries ≡ entry_of c.in-Some.entry ∷ c.next.new.self = search rules in
    let new = c.put_entry.new in
    record {
      up = λ t of.
          let final = names_with c.args.names.now (shapes_held t) in
          let Before : List Write → Type 0 = λ ws. (rows : List Row) → HasRows (h c.args.builder.now.device) c.args.builder.now rows → HasRows (h l.builder.device) l.builder (rows ++ rows_of final ws) in
          let After : List Write → Type 0 = λ ws. (rows : List Row) → HasRows (h c.args.builder.now.device) c.args.builder.now rows → HasRows (h new.builder.device) new.builder (rows ++ rows_of final ws) in
          goes_on Before After t c.args.names.now c.args.schema.now e left l.names new.names l.schema new.schema
          (subst (λ es. IsUpTo Before t c.args.names.now c.args.schema.now es l.names l.schema) here (l.invariant.up t of))
          c.in_ok-put_entry.ensures.learned c.in_ok-put_entry.ensures.counted
          (λ ws x of_x extends before rows has.
          subst (HasRows (h new.builder.device) new.builder)
          (append_assoc rows (rows_of final ws) (rows_of final (writes_of x)) ∙ ap (λ rs. rows ++ rs) (sym (map-append (row_of final) ws (writes_of x))))
          (c.in_ok-put_entry.ensures.pushed x final (rows ++ rows_of final ws) of_x (l.invariant.final t of) extends (before rows has)));
      final = l.invariant.final;
      lawful = All-tail IsLawfulEntry e left (subst (All IsLawfulEntry) here l.invariant.lawful);
      head = c.put_entry.ensures.head ∙ l.invariant.head;
      going_on = c.in_ok-put_entry.ensures.not_failed;
      name = c.put_entry.ensures.name ∙ l.invariant.name;
      moments = EachSince-trans (LeavesAt IsClosed) (h c.args.builder.now.device) (h l.builder.device) (h new.builder.device) l.invariant.moments c.put_entry.ensures.moments;
      faults = omega (arith, l.invariant.faults, c.put_entry.ensures.watched.faults);
      reads = c.put_entry.ensures.watched.reads ∙ l.invariant.reads;
    }

pub returns-in_err-put_entry-clause-moments : goal.returns-in_err-put_entry-clause-moments
returns-in_err-put_entry-clause-moments g c =
    let h = g.D.Device.history in
    let l = c.loop-entry in
    EachSince-trans (LeavesAt IsClosed) (h c.args.builder.now.device) (h l.builder.device) (h c.put_entry.new.builder.device) l.invariant.moments c.put_entry.ensures.moments

pub returns-clause-pushed : goal.returns-clause-pushed
returns-clause-pushed g c = λ t rows of has.
    let h = g.D.Device.history in
    let l = c.loop-entry in
    let none : l.entries ≡ [] = search rules in
    let Pushed : List Write → Type 0 = λ ws. (rows : List Row) → HasRows (h c.args.builder.now.device) c.args.builder.now rows → HasRows (h l.builder.device) l.builder (rows ++ rows_of (names_with c.args.names.now (shapes_held t)) ws) in
    (ends Pushed t c.args.names.now c.args.schema.now l.names l.schema (subst (λ es. IsUpTo Pushed t c.args.names.now c.args.schema.now es l.names l.schema) none (l.invariant.up t of))).pushed rows has

pub returns-clause-learned : goal.returns-clause-learned
returns-clause-learned g c = λ t of.
    let h = g.D.Device.history in
    let l = c.loop-entry in
    let none : l.entries ≡ [] = search rules in
    let Pushed : List Write → Type 0 = λ ws. (rows : List Row) → HasRows (h c.args.builder.now.device) c.args.builder.now rows → HasRows (h l.builder.device) l.builder (rows ++ rows_of (names_with c.args.names.now (shapes_held t)) ws) in
    (ends Pushed t c.args.names.now c.args.schema.now l.names l.schema (subst (λ es. IsUpTo Pushed t c.args.names.now c.args.schema.now es l.names l.schema) none (l.invariant.up t of))).learned

pub returns-clause-counted : goal.returns-clause-counted
returns-clause-counted g c = λ t of.
    let h = g.D.Device.history in
    let l = c.loop-entry in
    let none : l.entries ≡ [] = search rules in
    let Pushed : List Write → Type 0 = λ ws. (rows : List Row) → HasRows (h c.args.builder.now.device) c.args.builder.now rows → HasRows (h l.builder.device) l.builder (rows ++ rows_of (names_with c.args.names.now (shapes_held t)) ws) in
    (ends Pushed t c.args.names.now c.args.schema.now l.names l.schema (subst (λ es. IsUpTo Pushed t c.args.names.now c.args.schema.now es l.names l.schema) none (l.invariant.up t of))).counted
