use Rattle.std.proofs.Common.{rules, ◌∷◌, map, option_map, refl, sym, subst}
use Rattle.std.specs.List.{AllByRecursion}
use Rattle.tc_model.specs.Document.{IsAscending}
use Rattle.tc_model.proofs.TreeLists.{listed_members-members_of}
use Rattle.tc_record.specs.Preorder.{token, array_opened, object_opened}
use Rattle.tc_record.specs.WalkView.{key_of, piece_of}
use Rattle.tc_record.specs.Building.{innermost, member_in, levels_of, HoldDocuments}
use Rattle.tc_record.proofs.Built.{array_holds, object_holds, object_ascends}
use Rattle.tc_compact.specs.Meant.{key_meant, tokens_meant, IsOrdered}
use Rattle.tc_compact.proofs.Orders.{items_ordered, members_ordered}
use Rattle.tc_compact.proofs.decoding.+document.Goals as goal

pub value_behind-returns-in_err-items_behind-in-Array-clause-refused : goal.value_behind-returns-in_err-items_behind-in-Array-clause-refused
value_behind-returns-in_err-items_behind-in-Array-clause-refused t c = λ is holds.
    let label = option_map (key_meant c.args.names.now) (key_of c.args.token.label) in
    let left = tokens_meant c.args.names.now c.args.cursor.now in
    let here : HoldDocuments (levels_of (token label array_opened ∷ left)) = subst (λ v. HoldDocuments (levels_of (token label (piece_of v) ∷ left))) c.in-Array.is holds in
    c.in_err-items_behind-in-Array.ensures.refused (search rules) (array_holds label left here)

pub value_behind-returns-in_err-members_behind-in-Object-clause-refused : goal.value_behind-returns-in_err-members_behind-in-Object-clause-refused
value_behind-returns-in_err-members_behind-in-Object-clause-refused t c = λ is holds.
    let label = option_map (key_meant c.args.names.now) (key_of c.args.token.label) in
    let left = tokens_meant c.args.names.now c.args.cursor.now in
    let here : HoldDocuments (levels_of (token label object_opened ∷ left)) = subst (λ v. HoldDocuments (levels_of (token label (piece_of v) ∷ left))) c.in-Object.is holds in
    c.in_err-members_behind-in-Object.ensures.refused (search rules) (object_holds label left here)

pub value_behind-returns-in_ok-items_behind-in-Array-clause-ordered : goal.value_behind-returns-in_ok-items_behind-in-Array-clause-ordered
value_behind-returns-in_ok-items_behind-in-Array-clause-ordered t c = items_ordered c.of.result (subst (AllByRecursion IsOrdered) (sym c.of.ensures) c.in_ok-items_behind-in-Array.ensures.ordered)

pub value_behind-returns-in-Some-clause-ordered : goal.value_behind-returns-in-Some-clause-ordered
value_behind-returns-in-Some-clause-ordered t c =
    (subst IsAscending (sym (listed_members-members_of c.in-Some.members)) c.in-Some.ensures.ascending, members_ordered c.in-Some.members (subst (AllByRecursion (λ m. IsOrdered m.1)) (sym c.in-Some.ensures.some) c.in_ok-members_behind-in-Object.ensures.ordered))

pub value_behind-returns-in-None-clause-refused : goal.value_behind-returns-in-None-clause-refused
value_behind-returns-in-None-clause-refused t c = λ is holds.
    let label = option_map (key_meant c.args.names.now) (key_of c.args.token.label) in
    let left = tokens_meant c.args.names.now c.args.cursor.now in
    let here : HoldDocuments (levels_of (token label object_opened ∷ left)) = subst (λ v. HoldDocuments (levels_of (token label (piece_of v) ∷ left))) c.in-Object.is holds in
    let ms = map member_in (innermost (levels_of left)) in
    c.in-None.ensures.none (subst IsAscending (sym c.in_ok-members_behind-in-Object.ensures.members) (object_ascends label left ms here refl))
