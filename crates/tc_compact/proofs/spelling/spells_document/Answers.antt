use Rattle.std.proofs.Common.{◌≡◌, ◌∙◌, true, false, sym}
use Rattle.std.proofs.lemmas.Bool.{both_ways}
use Rattle.tc_compact.proofs.Meanings.{has_room, named_under, numbered_under, under_ordered}
use Rattle.tc_compact.specs.Meant.{expanded}
use Rattle.tc_compact.specs.Outline.{is_ordered}
use Rattle.tc_compact.proofs.NumberedTrees.{numbered_tree}
use Rattle.tc_compact.proofs.Outlines.{ordered-from_test, test-from_ordered}
use Rattle.tc_compact.proofs.spelling.spells_document.Goals as goal

pub returns-then-named-clause-found : goal.returns-then-named-clause-found
returns-then-named-clause-found c = λ _. named_under c.args.names.now c.args.of c.bytes-bytes.ensures.spells (sym c.named.ensures ∙ c.if-named.true)

pub returns-then-not-has_room-clause-none : goal.returns-then-not-has_room-clause-none
returns-then-not-has_room-clause-none c = λ refused d is.
    let none = c.has_room.ensures.none c.if-not-has_room.true in
    none.1 (has_room c.args.names.now c.args.of d c.bytes-bytes.ensures.spells none.0 is)

pub returns-clause-found : goal.returns-clause-found
returns-clause-found c = λ passes.
    let names = c.args.names.now in
    let r = c.args.of in
    let unnamed : r.named ≡ false = sym c.named.ensures ∙ c.if-named.false in
    let tree = numbered_tree r c.bytes-bytes.ensures.spells unnamed in
    let test : is_ordered names tree.tree ≡ true = sym (c.passes_all.ensures tree.tree (c.of.ensures tree.tree tree.tokens)) ∙ passes in (
      expanded names tree.tree,
      numbered_under names r tree.tree c.is_dictionary.ensures tree.form tree.is tree.tokens (c.has_room.ensures.room c.if-not-has_room.false unnamed) (ordered-from_test names tree.tree test),
    )

pub returns-clause-none : goal.returns-clause-none
returns-clause-none c = λ refused d is.
    let names = c.args.names.now in
    let r = c.args.of in
    let tree = numbered_tree r c.bytes-bytes.ensures.spells (sym c.named.ensures ∙ c.if-named.false) in
    let test : is_ordered names tree.tree ≡ false = sym (c.passes_all.ensures tree.tree (c.of.ensures tree.tree tree.tokens)) ∙ refused in
    both_ways (is_ordered names tree.tree) test (test-from_ordered names tree.tree (under_ordered names r tree.tree d c.bytes-bytes.ensures.spells tree.tokens is))
