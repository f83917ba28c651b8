use Rattle.std.proofs.Common.{◌∙◌, None, map, sym, ap, subst}
use Rattle.std.proofs.lemmas.Bool.{both_ways}
use Rattle.tc_model.specs.Document.{IsAscending, name_cmp}
use Rattle.std.specs.List.Sorted.{IsStrictlySortedBy}
use Rattle.tc_compact.specs.Meant.{ascend_behind}
use Rattle.tc_compact.proofs.Orders.{follows-from_test, test-from_follows, member_names}
use Rattle.tc_compact.proofs.order.ordered_members.Goals as goal

pub of-requires : goal.of-requires
of-requires c =
    let test = ap (λ ms. ascend_behind None (map (λ m. m.name) ms)) (sym c.as_slice.ensures.value) ∙ sym c.members_ascend.ensures ∙ c.if-members_ascend.true in
    subst (IsStrictlySortedBy name_cmp) (sym (member_names c.args.members.items)) (follows-from_test None _ test)

pub returns-then-members_ascend-clause-ascending : goal.returns-then-members_ascend-clause-ascending
returns-then-members_ascend-clause-ascending c =
    let test = ap (λ ms. ascend_behind None (map (λ m. m.name) ms)) (sym c.as_slice.ensures.value) ∙ sym c.members_ascend.ensures ∙ c.if-members_ascend.true in
    subst IsAscending (sym c.of.ensures) (subst (IsStrictlySortedBy name_cmp) (sym (member_names c.args.members.items)) (follows-from_test None _ test))

pub returns-else-members_ascend-clause-none : goal.returns-else-members_ascend-clause-none
returns-else-members_ascend-clause-none c = λ ascending.
    let test = ap (λ ms. ascend_behind None (map (λ m. m.name) ms)) (sym c.as_slice.ensures.value) ∙ sym c.members_ascend.ensures ∙ c.if-members_ascend.false in
    both_ways _ test (test-from_follows None _ (subst (IsStrictlySortedBy name_cmp) (member_names c.args.members.items) ascending))
