use Rattle.std.proofs.Common.{refl, subst}
use Rattle.tc_model.specs.Dictionary.{IsDictionary}
use Rattle.tc_plain_model.specs.Store.{names_after}
use Rattle.tc_lsm_model.specs.Lists.{live, names_of, schema_of}
use Rattle.tc_lsm_model.specs.Tables.{writes_of}
use Rattle.tc_memory.specs.Table.{IsLawfulEntry}
use Rattle.std.specs.List.Sorted.{IsStrictlySortedBy}
use Rattle.std.specs.Ordering.{nat_cmp}
use Rattle.std.specs.Prelude.{All}
use Rattle.tc_flush.specs.Flushable.{CanFlush}
use Rattle.tc_component.specs.Rows.{part_of}
use Rattle.tc_flush.proofs.DocumentNames.{dictionary_held}
use Rattle.tc_flush.proofs.FlushedContents.{IsFlushable, flushed, range_of}
use Rattle.tc_flush.proofs.TableDocuments.{keys_of-writes_of, names_with-held}
use Rattle.tc_flush.proofs.laws.flushes_are_made.Goals as goal

pub returns : goal.returns
returns c = λ head cs t generations names schema kept behind table can number count.
    let dictionary = c.lists_know_names.ensures.dictionary (part_of head) cs behind.list in
    let up = c.tables_keep_documents.ensures.ascends t kept behind.of table in
    let can_cs : CanFlush (names_of cs) (schema_of cs) t = subst (λ d. CanFlush (names_of cs) d t) behind.newest_schema (subst (λ ns. CanFlush ns schema t) behind.newest_names can) in
    let same = names_with-held c.flushes_learn_names.ensures.documents (names_of cs) t up in
    let whole : IsDictionary (names_after (names_of cs) (writes_of t)) =
    subst IsDictionary same (dictionary_held c.names_agree.ensures.short (names_of cs) t kept table behind.of dictionary can_cs.known) in
    let is : IsFlushable cs t = record {
      stands = c.lists_have_schemas.ensures.stands (part_of head) cs behind.list;
      schema = c.lists_have_schemas.ensures.lawful (part_of head) cs behind.list;
      up = up;
      range = range_of t (subst (All IsLawfulEntry) behind.of.is table.entries);
      stored = behind.of.stored;
      can = can_cs;
      distinct = dictionary.distinct;
      dictionary = whole;
      same = same;
      extends = c.flushes_learn_names.ensures.extends (names_of cs) (writes_of t);
      known = c.flushes_learn_names.ensures.written (names_of cs) (writes_of t) (subst (IsStrictlySortedBy nat_cmp) (keys_of-writes_of t) up);
      counted = λ path kind. c.tables_count.ensures.counted (live cs) t path kind (c.newest_entries_count.ensures.ascends cs) up behind.keeps;
    } in
    rw (behind.newest_names, behind.newest_schema) (flushed (part_of head) cs t is head generations refl behind.from behind.to number count behind.some behind.last)
