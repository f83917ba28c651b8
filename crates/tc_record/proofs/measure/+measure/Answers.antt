use Rattle.std.proofs.Common.{rules, arith, ◌∙◌, ◌≤◌, ◌<◌, ◌+◌, ◌*◌, map}
use Rattle.tc_value.specs.Meaning.{tree_of, member_of}
use Rattle.tc_model.specs.TreeSize.{tree_size, trees_size, labelled_size}
use Rattle.tc_model.proofs.TreeLists.{lawful_object}
use Rattle.tc_value.proofs.Sizes.{from_place, item_size, member_size}
use Rattle.tc_record.specs.Measured.{measured, with_label}
use Rattle.tc_record.proofs.Folds.{fold-item, fold-member}
use Rattle.tc_record.proofs.Measuring.{measured-append, measured-labelled}
use Rattle.tc_record.proofs.measure.+measure.Goals as goal

pub with_value-with_items-requires : goal.with_value-with_items-requires
with_value-with_items-requires t c =
    let within : 2 * trees_size (map tree_of c.as_slice.result.now) + 1 < 2 * tree_size (tree_of c.args.doc.now) = rw (c.as_slice.ensures, c.in-Array.is) (omega arith) in
    (omega (arith, c.decreases), tt)

pub with_value-with_members-requires : goal.with_value-with_members-requires
with_value-with_members-requires t c =
    let within : 2 * labelled_size (map member_of c.as_slice-in-Object.result.now) + 1 < 2 * tree_size (tree_of c.args.doc.now) = rw (c.as_slice-in-Object.ensures.members, c.in-Object.is) (omega arith) in
    (omega (arith, c.decreases), tt)

pub with_items-with_value-measure-requires : goal.with_items-with_value-measure-requires
with_items-with_value-measure-requires t c =
    let within : tree_size (tree_of c.item-item.result) ≤ trees_size (map tree_of c.args.items.now) = item_size c.args.items.now c.loop-item.item-index c.item-item.result (search rules) (search rules) in
    (omega (arith, c.decreases), tt)

pub with_members-with_value-measure-requires : goal.with_members-with_value-measure-requires
with_members-with_value-measure-requires t c =
    let within : tree_size (tree_of c.member-item.result.value) ≤ labelled_size (map member_of c.args.members.now) = member_size c.args.members.now c.loop-member.member-index c.member-item.result (search rules) (search rules) in
    (omega (arith, c.decreases), tt)

pub with_value-returns-in-Array-clause-measured : goal.with_value-returns-in-Array-clause-measured
with_value-returns-in-Array-clause-measured t c = search (rules, measured-append)

pub with_value-returns-in-Object-clause-measured : goal.with_value-returns-in-Object-clause-measured
with_value-returns-in-Object-clause-measured t c = search (rules, measured-append)

pub with_items-loop-item-preserved : goal.with_items-loop-item-preserved
with_items-loop-item-preserved t c = record {
  measured = fold-item measured measured-append c.args.items.now c.loop-item.item-index c.item-item.result c.loop-item.measure _ (search rules) (search rules) (search rules) ∙ c.loop-item.invariant.measured;
  lawful = λ rest. c.loop-item.invariant.lawful (rw (from_place c.args.items.now c.loop-item.item-index c.item-item.result (search rules) (search rules)) (c.with_value-measure.ensures.lawful, rest));
}

pub with_members-loop-member-preserved : goal.with_members-loop-member-preserved
with_members-loop-member-preserved t c = record {
  measured = fold-member measured with_label measured-append measured-labelled c.args.members.now c.loop-member.member-index c.member-item.result c.loop-member.measure _ (search rules) (search rules) (search rules) ∙ c.loop-member.invariant.measured;
  lawful = λ rest. c.loop-member.invariant.lawful (rw (from_place c.args.members.now c.loop-member.member-index c.member-item.result (search rules) (search rules)) (search rules, c.with_value-measure.ensures.lawful, rest));
}

pub with_value-returns-in-Object-clause-lawful : goal.with_value-returns-in-Object-clause-lawful
with_value-returns-in-Object-clause-lawful t c = search (rules, lawful_object)
