use Rattle.std.proofs.Common.{◌≡◌, [], ◌∷◌, subst, sym, rules}
use Rattle.std.specs.Prelude.{All}
use Rattle.std.proofs.lemmas.List.Elements.{All-head, All-tail}
use Rattle.tc_memory.specs.DocumentTables.{IsTableOf}
use Rattle.tc_memory.specs.Meaning.{entry_of}
use Rattle.tc_memory.specs.Table.{IsLawfulEntry}
use Rattle.tc_flush.specs.Progress.{IsUpTo}
use Rattle.tc_flush.proofs.EntrySteps.{lawful_held}
use Rattle.tc_flush.proofs.Progressing.{begins, can_first, goes_on, ends}
use Rattle.tc_flush.proofs.tallying.count_entries.Goals as goal

pub loop-entry-init : goal.loop-entry-init
loop-entry-init c = record {
  up = λ t of. begins (λ ws. Unit {0}) t c.entries-entries.result c.args.names.now c.args.schema.now (subst (IsTableOf t) (sym c.entries-entries.ensures.all) of) (c.requires t of) tt;
  lawful = subst (All IsLawfulEntry) (sym c.entries-entries.ensures.all) c.entries-entries.ensures.table.entries;
}

pub count_entry-requires-clause-lawful : goal.count_entry-requires-clause-lawful
count_entry-requires-clause-lawful c =
    let here : c.loop-entry.entries ≡ entry_of c.in-Some.entry ∷ c.next.new.self = search rules in
    let lawful = All-head IsLawfulEntry (entry_of c.in-Some.entry) c.next.new.self (subst (All IsLawfulEntry) here c.loop-entry.invariant.lawful) in
    lawful_held c.in-Some.entry.held (entry_of c.in-Some.entry).1.below lawful.lawful

pub count_entry-requires-clause-can : goal.count_entry-requires-clause-can
count_entry-requires-clause-can c = λ x of.
    let l = c.loop-entry in
    let here : l.entries ≡ entry_of c.in-Some.entry ∷ c.next.new.self = search rules in
    let lawful = All-head IsLawfulEntry (entry_of c.in-Some.entry) c.next.new.self (subst (All IsLawfulEntry) here l.invariant.lawful) in
    let whole = c.tables_keep_documents.ensures.some c.args.sealed.now c.entries-entries.ensures.table in
    can_first c.one_document.ensures (λ ws. Unit {0}) whole.table c.args.names.now c.args.schema.now (entry_of c.in-Some.entry) c.next.new.self l.names l.schema lawful
    (subst (λ es. IsUpTo (λ ws. Unit {0}) whole.table c.args.names.now c.args.schema.now es l.names l.schema) here (l.invariant.up whole.table whole.of)) x of

pub loop-entry-preserved : goal.loop-entry-preserved
loop-entry-preserved c =
    let l = c.loop-entry in
    let e = entry_of c.in-Some.entry in
    let here : l.entries ≡ e ∷ c.next.new.self = search rules in
    record {
      up = λ t of.
          goes_on (λ ws. Unit {0}) (λ ws. Unit {0}) t c.args.names.now c.args.schema.now e c.next.new.self l.names c.count_entry.new.names l.schema c.count_entry.new.schema
          (subst (λ es. IsUpTo (λ ws. Unit {0}) t c.args.names.now c.args.schema.now es l.names l.schema) here (l.invariant.up t of)) c.in_ok-count_entry.ensures.learned c.in_ok-count_entry.ensures.counted (λ ws x of_x extends before. tt);
      lawful = All-tail IsLawfulEntry e c.next.new.self (subst (All IsLawfulEntry) here l.invariant.lawful);
    }

pub returns-clause-learned : goal.returns-clause-learned
returns-clause-learned c = λ t of.
    let l = c.loop-entry in
    let none : l.entries ≡ [] = search rules in
    (ends (λ ws. Unit {0}) t c.args.names.now c.args.schema.now l.names l.schema (subst (λ es. IsUpTo (λ ws. Unit {0}) t c.args.names.now c.args.schema.now es l.names l.schema) none (l.invariant.up t of))).learned

pub returns-clause-counted : goal.returns-clause-counted
returns-clause-counted c = λ t of.
    let l = c.loop-entry in
    let none : l.entries ≡ [] = search rules in
    (ends (λ ws. Unit {0}) t c.args.names.now c.args.schema.now l.names l.schema (subst (λ es. IsUpTo (λ ws. Unit {0}) t c.args.names.now c.args.schema.now es l.names l.schema) none (l.invariant.up t of))).counted
