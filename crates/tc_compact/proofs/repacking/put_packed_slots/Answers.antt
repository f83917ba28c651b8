use Rattle.std.proofs.Common.{◌≡◌, ◌∙◌, ◌++◌, sym, ap, subst}
use Rattle.std.specs.Result.{OnOk}
use Rattle.tc_record.specs.Record.{greatest, in_bits, column_in}
use Rattle.tc_compact.proofs.Repacks.{form1_tree}
use Rattle.tc_compact.proofs.repacking.put_packed_slots.Goals as goal

pub put_bytes-requires : goal.put_bytes-requires
put_bytes-requires c =
    let tree = form1_tree c.args.of.now c.bytes-bytes.ensures.spells c.requires in
    ap greatest (c.in-Some.ensures ∙ tree.numbers) ∙ sym (c.greatest_slot-greatest.ensures tree.tree tree.tokens)

pub put_column-requires : goal.put_column-requires
put_column-requires c =
    let tree = form1_tree c.args.of.now c.bytes-bytes.ensures.spells c.requires in
    ap greatest (c.slots.ensures tree.tree tree.tokens) ∙ sym (c.greatest_slot-greatest.ensures tree.tree tree.tokens)

pub returns-in-None : goal.returns-in-None
returns-in-None c =
    let tree = form1_tree c.args.of.now c.bytes-bytes.ensures.spells c.requires in
    let column = c.slots.ensures tree.tree tree.tokens ∙ sym tree.numbers in
    subst (λ ks. OnOk c.put_column.result (c.put_column.new.out.items ≡ c.args.out.now.items ++ column_in in_bits ks)) column c.put_column.ensures
