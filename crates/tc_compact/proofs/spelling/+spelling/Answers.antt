use Rattle.std.proofs.Common.{◌≡◌, ◌∙◌, false, true, Some, option_map, None, ◌-◌, ◌∷◌, ◌++◌, take, length, refl, sym, ap, arith}
use Rattle.std.proofs.lemmas.List.{length-append}
use Rattle.tc_record.specs.Preorder.{token, closed, items_preorder}
use Rattle.tc_record.specs.Walk.{is_above}
use Rattle.tc_compact.specs.Meant.{name_at}
use Rattle.tc_compact.specs.Outline.{are_members_ordered}
use Rattle.tc_compact.proofs.AlikeRows.{row_passed}
use Rattle.tc_compact.proofs.OutlineSteps.{IsBehindTag, IsBehindNumber, items_done, items_fail, items_next, members_done, names_fail, members_fail, members_next}
use Rattle.tc_compact.proofs.spelling.+spelling.Goals as goal

pub passes_items-returns-then-tag-eq-CLOSE_TAG-clause-passes : goal.passes_items-returns-then-tag-eq-CLOSE_TAG-clause-passes
passes_items-returns-then-tag-eq-CLOSE_TAG-clause-passes t c = λ xs more is.
    let names = c.args.names.now in
    let left = c.loop-tag.invariant.left xs more is in
    let step : IsBehindTag c.loop-tag.outline c.in-Some.tag c.tag.new.self = record { taken = c.in-Some.ensures.taken; slots = c.tag.ensures.slots } in
    (items_done names more c.loop-tag.outline c.in-Some.tag c.tag.new.self step left.0 left.2 c.if-tag-eq-CLOSE_TAG.true).0 ∙ left.1

pub passes_items-returns-then-tag-eq-CLOSE_TAG-clause-behind : goal.passes_items-returns-then-tag-eq-CLOSE_TAG-clause-behind
passes_items-returns-then-tag-eq-CLOSE_TAG-clause-behind t c = λ xs more is _.
    let names = c.args.names.now in
    let left = c.loop-tag.invariant.left xs more is in
    let step : IsBehindTag c.loop-tag.outline c.in-Some.tag c.tag.new.self = record { taken = c.in-Some.ensures.taken; slots = c.tag.ensures.slots } in
    (items_done names more c.loop-tag.outline c.in-Some.tag c.tag.new.self step left.0 left.2 c.if-tag-eq-CLOSE_TAG.true).1

pub passes_items-returns-then-not-passes_item-clause-passes : goal.passes_items-returns-then-not-passes_item-clause-passes
passes_items-returns-then-not-passes_item-clause-passes t c = λ xs more is.
    let names = c.args.names.now in
    let left = c.loop-tag.invariant.left xs more is in
    let step : IsBehindTag c.loop-tag.outline c.in-Some.tag c.tag.new.self = record { taken = c.in-Some.ensures.taken; slots = c.tag.ensures.slots } in
    items_fail names more c.loop-tag.outline c.in-Some.tag c.tag.new.self step c.passes_item.result c.passes_item.new.outline c.passes_item.ensures.passes (λ t xs. c.passes_item.ensures.behind t xs more) c.if-tag-eq-CLOSE_TAG.false left.0 left.2 c.if-not-passes_item.true ∙ left.1

pub passes_items-loop-tag-preserved : goal.passes_items-loop-tag-preserved
passes_items-loop-tag-preserved t c =
    let names = c.args.names.now in
    let step : IsBehindTag c.loop-tag.outline c.in-Some.tag c.tag.new.self = record { taken = c.in-Some.ensures.taken; slots = c.tag.ensures.slots } in
    record {
      left = λ xs more is.
          let left = c.loop-tag.invariant.left xs more is in
          let next = items_next names more c.loop-tag.outline c.in-Some.tag c.tag.new.self step c.passes_item.result c.passes_item.new.outline c.passes_item.ensures.passes (λ t xs. c.passes_item.ensures.behind t xs more) c.if-tag-eq-CLOSE_TAG.false left.0 left.2 c.if-not-passes_item.false in
          (next.left, next.passed ∙ left.1, next.stands);
      shorter = let taken = ap length c.in-Some.ensures.taken in let before = c.loop-tag.invariant.shorter in let further = c.passes_item.ensures.shorter in omega (arith, taken, before, further);
    }

pub passes_rows-loop-numbers-preserved : goal.passes_rows-loop-numbers-preserved
passes_rows-loop-numbers-preserved t c =
    let names = c.args.names.now in
    let first = c.args.outline.now in
    let behind = c.passes_members.new.outline in
    let row = take (length c.tags_left-tags.result.now - length c.tags_left.result.now) c.tags_left-tags.result.now in
    let numbers = take c.saturating_sub-count.result c.numbers_left-numbers.result in
    let row_is : row ≡ take (length first.tags - length behind.tags) first.tags = rw (c.tags_left-tags.ensures, c.tags_left.ensures) refl in
    let numbers_are : numbers ≡ take (length first.slots - length behind.slots) first.slots = rw (c.saturating_sub-count.ensures, c.numbers_left-numbers.ensures, c.count_left-many.ensures, c.count_left.ensures) refl in
    let tags = c.skips_alike.ensures.tags c.loop-numbers-test.true in
    let slots = c.skips_alike.ensures.slots c.loop-numbers-test.true in
    record {
      left = λ ms xs more is.
          let rest = items_preorder xs ++ token None closed ∷ more in
          let stands = c.passes_members.ensures.behind ms rest is c.if-not-passes_members.false in
          let ordered = sym (c.passes_members.ensures.passes ms rest is) ∙ c.if-not-passes_members.false in
          row_passed names ms rest first behind is stands ordered row numbers row_is numbers_are c.loop-numbers.outline c.skips_alike.new.self tags slots more xs (c.loop-numbers.invariant.left ms xs more is);
      shorter = let taken = ap length tags in let parts = length-append row c.skips_alike.new.self.tags in let before = c.loop-numbers.invariant.shorter in omega (arith, taken, parts, before);
    }

pub passes_members-returns-then-tag-eq-CLOSE_TAG-clause-passes : goal.passes_members-returns-then-tag-eq-CLOSE_TAG-clause-passes
passes_members-returns-then-tag-eq-CLOSE_TAG-clause-passes t c = λ ms more is.
    let names = c.args.names.now in
    let left = c.loop-tag.invariant.left ms more is in
    let step : IsBehindTag c.loop-tag.outline c.in-Some.tag c.tag.new.self = record { taken = c.in-Some.ensures.taken; slots = c.tag.ensures.slots } in
    (members_done names more c.loop-tag.outline c.in-Some.tag c.tag.new.self step (option_map (λ n. n.now) c.loop-tag.last) left.0 left.2 c.if-tag-eq-CLOSE_TAG.true).0 ∙ left.1

pub passes_members-returns-then-tag-eq-CLOSE_TAG-clause-behind : goal.passes_members-returns-then-tag-eq-CLOSE_TAG-clause-behind
passes_members-returns-then-tag-eq-CLOSE_TAG-clause-behind t c = λ ms more is _.
    let names = c.args.names.now in
    let left = c.loop-tag.invariant.left ms more is in
    let step : IsBehindTag c.loop-tag.outline c.in-Some.tag c.tag.new.self = record { taken = c.in-Some.ensures.taken; slots = c.tag.ensures.slots } in
    (members_done names more c.loop-tag.outline c.in-Some.tag c.tag.new.self step (option_map (λ n. n.now) c.loop-tag.last) left.0 left.2 c.if-tag-eq-CLOSE_TAG.true).1

pub passes_members-returns-then-not-is_above-clause-passes : goal.passes_members-returns-then-not-is_above-clause-passes
passes_members-returns-then-not-is_above-clause-passes t c = λ ms more is.
    let names = c.args.names.now in
    let last = option_map (λ n. n.now) c.loop-tag.last in
    let left = c.loop-tag.invariant.left ms more is in
    let step : IsBehindTag c.loop-tag.outline c.in-Some.tag c.tag.new.self = record { taken = c.in-Some.ensures.taken; slots = c.tag.ensures.slots } in
    let next : IsBehindNumber c.tag.new.self c.number.result c.number.new.self = record { taken = c.number.ensures.taken; tags = c.number.ensures.tags } in
    let above : is_above last (name_at names c.number.result) ≡ false = ap (is_above last) (sym c.name_meant-name.ensures) ∙ sym c.is_above.ensures ∙ c.if-not-is_above.true in
    names_fail names more c.loop-tag.outline c.in-Some.tag c.tag.new.self step last c.number.result c.number.new.self next c.if-tag-eq-CLOSE_TAG.false left.0 left.2 above ∙ left.1

pub passes_members-returns-then-not-passes_value-clause-passes : goal.passes_members-returns-then-not-passes_value-clause-passes
passes_members-returns-then-not-passes_value-clause-passes t c = λ ms more is.
    let names = c.args.names.now in
    let last = option_map (λ n. n.now) c.loop-tag.last in
    let left = c.loop-tag.invariant.left ms more is in
    let step : IsBehindTag c.loop-tag.outline c.in-Some.tag c.tag.new.self = record { taken = c.in-Some.ensures.taken; slots = c.tag.ensures.slots } in
    let next : IsBehindNumber c.tag.new.self c.number.result c.number.new.self = record { taken = c.number.ensures.taken; tags = c.number.ensures.tags } in
    let above : is_above last (name_at names c.number.result) ≡ true = ap (is_above last) (sym c.name_meant-name.ensures) ∙ sym c.is_above.ensures ∙ c.if-not-is_above.false in
    members_fail names more c.loop-tag.outline c.in-Some.tag c.tag.new.self step last c.number.result c.number.new.self next c.if-tag-eq-CLOSE_TAG.false c.passes_value.result c.passes_value.new.outline c.passes_value.ensures.passes c.passes_value.ensures.behind above left.0 left.2 c.if-not-passes_value.true ∙ left.1

pub passes_members-loop-tag-preserved : goal.passes_members-loop-tag-preserved
passes_members-loop-tag-preserved t c =
    let names = c.args.names.now in
    let last = option_map (λ n. n.now) c.loop-tag.last in
    let step : IsBehindTag c.loop-tag.outline c.in-Some.tag c.tag.new.self = record { taken = c.in-Some.ensures.taken; slots = c.tag.ensures.slots } in
    let next : IsBehindNumber c.tag.new.self c.number.result c.number.new.self = record { taken = c.number.ensures.taken; tags = c.number.ensures.tags } in
    let above : is_above last (name_at names c.number.result) ≡ true = ap (is_above last) (sym c.name_meant-name.ensures) ∙ sym c.is_above.ensures ∙ c.if-not-is_above.false in
    record {
      left = λ ms more is.
          let left = c.loop-tag.invariant.left ms more is in
          let further = members_next names more c.loop-tag.outline c.in-Some.tag c.tag.new.self step last c.number.result c.number.new.self next c.if-tag-eq-CLOSE_TAG.false c.passes_value.result c.passes_value.new.outline c.passes_value.ensures.passes c.passes_value.ensures.behind above left.0 left.2 c.if-not-passes_value.false in
          (further.0, ap (λ n. are_members_ordered names (Some n) further.0) c.name_meant-name.ensures ∙ further.1 ∙ left.1, further.2);
      shorter = let taken = ap length c.in-Some.ensures.taken in let before = c.loop-tag.invariant.shorter in let later = c.passes_value.ensures.shorter in let same = ap length c.number.ensures.tags in omega (arith, taken, before, later, same);
    }
