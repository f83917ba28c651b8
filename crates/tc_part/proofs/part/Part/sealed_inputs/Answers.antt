use Rattle.std.proofs.Common.{option_map, sym, ap, subst}
use Rattle.std.specs.Arc.{arc_value}
use Rattle.tc_flush.proofs.Outcomes.{if_ok}
use Rattle.tc_memory.specs.Table.{IsTable}
use Rattle.tc_part.proofs.JobOutcomes.{if_ok_all, damaged_then}
use Rattle.tc_part.proofs.ListedContents.{all_indices}
use Rattle.tc_part.proofs.part.Part.sealed_inputs.Goals as goal

pub returns-clause-behind : goal.returns-clause-behind
returns-clause-behind g c = rw (← c.self.view_is) λ p is files head at.
    let indices = all_indices g.S.Frozen.Frozen.content c.self.inside.list p.list is.view.components in
    let names = c.inputs_are_newest.ensures.names c.self.inside.list p.list indices in
    let schema = c.inputs_are_newest.ensures.schema c.self.inside.list p.list indices in
    let law = c.sealed_tables_can_flush.ensures.behind _ p head (arc_value c.in-Some.sealed) is files (ap (option_map arc_value) c.in-Some.is) c.self.invariant.last at in
    if_ok_all c.flush_inputs.result _ _ _ _ c.flush_inputs.ensures.table c.flush_inputs.ensures.names c.flush_inputs.ensures.schema (λ inputs same_table same_names same_schema. rw (same_table, same_names, names, same_schema, schema) law)

pub returns-clause-undamaged : goal.returns-clause-undamaged
returns-clause-undamaged g c = rw (← c.self.view_is) λ p is files.
    let indices = all_indices g.S.Frozen.Frozen.content c.self.inside.list p.list is.view.components in
    let names = c.inputs_are_newest.ensures.names c.self.inside.list p.list indices in
    let schema = c.inputs_are_newest.ensures.schema c.self.inside.list p.list indices in
    let table : IsTable (arc_value c.in-Some.sealed) = subst IsTable c.deref.ensures c.len-entries.ensures.table in
    let law = c.sealed_tables_can_flush.ensures.counted _ p (arc_value c.in-Some.sealed) is files (ap (option_map arc_value) c.in-Some.is) table in
    damaged_then c.flush_inputs.result _ (λ damage. ⊥) c.flush_inputs.ensures.uncounted (λ damage uncounted. uncounted (rw (names, schema) law))

pub returns-clause-lawful : goal.returns-clause-lawful
returns-clause-lawful g c =
    let table : IsTable (arc_value c.in-Some.sealed) = subst IsTable c.deref.ensures c.len-entries.ensures.table in
    if_ok c.flush_inputs.result _ _ (λ inputs same. subst IsTable (sym same) table) c.flush_inputs.ensures.table
