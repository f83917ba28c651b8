use Rattle.std.proofs.Common.{◌≡◌, ◌+◌, ◌<◌, ◌^◌, ◌++◌, length, map, drop, sym, ap, ◌∙◌, subst, arith}
use Rattle.std.specs.List.{AllByRecursion}
use Rattle.tc_model.specs.Tree.{array, object, items_of, members_of}
use Rattle.tc_model.specs.Document.{Name}
use Rattle.tc_model.specs.Dictionary.{learned, Extends, all_learned}
use Rattle.tc_model.proofs.DictionaryGrowth.{Extends-trans, Extends-learned}
use Rattle.tc_value.specs.ShapeMeaning.{shape_tree, shape_member}
use Rattle.tc_model.specs.TreeSize.{tree_size}
use Rattle.tc_model.specs.ShapeNames.{names_within, names_of_items, names_of_members}
use Rattle.tc_model.proofs.LearnedNames.{all_learned-append, Extends-all_learned, length-all_learned, room_for_first, all_of_first, all_of_rest}
use Rattle.tc_value.proofs.ShapeWalks.{items_from, members_from, item_size, member_size}
use Rattle.tc_infer.proofs.learning.+learning.Goals as goal

abbrev IsShort : Name → Type 0
IsShort name = length name < 2 ^ 32

pub learn_names-learn_names_of_items-requires : goal.learn_names-learn_names_of_items-requires
learn_names-learn_names_of_items-requires t c =
    let whole : shape_tree c.args.shape.now ≡ array (items_of (map shape_tree c.as_slice.result.now)) = ap shape_tree c.in-Array.is ∙ ap (λ xs. array (items_of xs)) (sym c.as_slice.ensures) in
    let size = ap tree_size whole in (
      omega (arith, c.decreases, size),
      (
        subst (λ s. length (all_learned c.args.names.now (names_within s)) < 2 ^ 32) whole c.requires.room,
        subst (λ s. AllByRecursion IsShort (names_within s)) whole c.requires.short,
      ),
    )

pub learn_names-learn_names_of_members-requires : goal.learn_names-learn_names_of_members-requires
learn_names-learn_names_of_members-requires t c =
    let whole : shape_tree c.args.shape.now ≡ object (members_of (map shape_member c.as_slice-in-Object.result.now)) = ap shape_tree c.in-Object.is ∙ ap (λ ms. object (members_of ms)) (sym c.as_slice-in-Object.ensures.members) in
    let size = ap tree_size whole in (
      omega (arith, c.decreases, size),
      (
        subst (λ s. length (all_learned c.args.names.now (names_within s)) < 2 ^ 32) whole c.requires.room,
        subst (λ s. AllByRecursion IsShort (names_within s)) whole c.requires.short,
      ),
    )

pub learn_names_of_items-learn_names-requires : goal.learn_names_of_items-learn_names-requires
learn_names_of_items-learn_names-requires t c =
    let l = c.loop-item in
    let x = c.item-item.result in
    let rest = names_of_items (items_of (map shape_tree (drop (l.item-index + 1) c.args.items.now))) in
    let here = ap names_of_items (items_from c.args.items.now l.item-index x c.loop-item-test.true c.item-item.is) in
    let size = item_size c.args.items.now l.item-index x c.loop-item-test.true c.item-item.is in
    let left = ap (all_learned l.names) (sym here) ∙ l.invariant.left in (
      omega (arith, c.decreases, size),
      (
        room_for_first l.names (names_within (shape_tree x)) rest (subst (λ known. length known < 2 ^ 32) (sym left) c.requires.room),
        all_of_first IsShort (names_within (shape_tree x)) rest (subst (AllByRecursion IsShort) here l.invariant.short),
      ),
    )

pub learn_names_of_items-loop-item-preserved : goal.learn_names_of_items-loop-item-preserved
learn_names_of_items-loop-item-preserved t c =
    let l = c.loop-item in
    let x = c.item-item.result in
    let first = names_within (shape_tree x) in
    let rest = names_of_items (items_of (map shape_tree (drop (l.item-index + 1) c.args.items.now))) in
    let here = ap names_of_items (items_from c.args.items.now l.item-index x c.loop-item-test.true c.item-item.is) in
    let known : c.learn_names.new.names ≡ all_learned l.names first = c.in_ok-learn_names.ensures.ok in
    record {
      left = ap (λ names. all_learned names rest) known ∙ sym (all_learned-append l.names first rest) ∙ ap (all_learned l.names) (sym here) ∙ l.invariant.left;
      short = all_of_rest IsShort first rest (subst (AllByRecursion IsShort) here l.invariant.short);
      extends = Extends-trans c.learn_names.new.names l.names c.args.names.now (subst (λ names. Extends names l.names) (sym known) (Extends-all_learned l.names first)) l.invariant.extends;
    }

pub learn_names_of_members-learn-requires-clause-room : goal.learn_names_of_members-learn-requires-clause-room
learn_names_of_members-learn-requires-clause-room t c =
    let l = c.loop-member in
    let m = c.member-item.result in
    let rest = names_of_members (members_of (map shape_member (drop (l.member-index + 1) c.args.members.now))) in
    let here = ap names_of_members (members_from c.args.members.now l.member-index m c.loop-member-test.true c.member-item.is) in
    let left = ap (all_learned l.names) (sym here) ∙ l.invariant.left in
    let known = ap (λ name. length (learned l.names name)) c.as_str.ensures.bytes in
    omega (arith, known, length-all_learned (learned l.names m.name) (names_within (shape_tree m.value) ++ rest), ap length left, c.requires.room)

pub learn_names_of_members-learn-requires-clause-short : goal.learn_names_of_members-learn-requires-clause-short
learn_names_of_members-learn-requires-clause-short t c =
    let l = c.loop-member in
    let here = ap names_of_members (members_from c.args.members.now l.member-index c.member-item.result c.loop-member-test.true c.member-item.is) in
    subst IsShort (sym c.as_str.ensures.bytes) (subst (AllByRecursion IsShort) here l.invariant.short).0

pub learn_names_of_members-learn_names-requires : goal.learn_names_of_members-learn_names-requires
learn_names_of_members-learn_names-requires t c =
    let l = c.loop-member in
    let m = c.member-item.result in
    let first = names_within (shape_tree m.value) in
    let rest = names_of_members (members_of (map shape_member (drop (l.member-index + 1) c.args.members.now))) in
    let here = ap names_of_members (members_from c.args.members.now l.member-index m c.loop-member-test.true c.member-item.is) in
    let size = member_size c.args.members.now l.member-index m c.loop-member-test.true c.member-item.is in
    let known : c.learn.new.self ≡ learned l.names m.name = c.in_ok-learn.ensures.ok ∙ ap (learned l.names) c.as_str.ensures.bytes in
    let left = ap (λ names. all_learned names (first ++ rest)) known ∙ ap (all_learned l.names) (sym here) ∙ l.invariant.left in (
      omega (arith, c.decreases, size),
      (
        room_for_first c.learn.new.self first rest (subst (λ names. length names < 2 ^ 32) (sym left) c.requires.room),
        all_of_first IsShort first rest (subst (AllByRecursion IsShort) here l.invariant.short).1,
      ),
    )

pub learn_names_of_members-loop-member-preserved : goal.learn_names_of_members-loop-member-preserved
learn_names_of_members-loop-member-preserved t c =
    let l = c.loop-member in
    let m = c.member-item.result in
    let first = names_within (shape_tree m.value) in
    let rest = names_of_members (members_of (map shape_member (drop (l.member-index + 1) c.args.members.now))) in
    let here = ap names_of_members (members_from c.args.members.now l.member-index m c.loop-member-test.true c.member-item.is) in
    let one : c.learn.new.self ≡ learned l.names m.name = c.in_ok-learn.ensures.ok ∙ ap (learned l.names) c.as_str.ensures.bytes in
    let known : c.learn_names.new.names ≡ all_learned (learned l.names m.name) first = c.in_ok-learn_names.ensures.ok ∙ ap (λ names. all_learned names first) one in
    record {
      left = ap (λ names. all_learned names rest) known ∙ sym (all_learned-append (learned l.names m.name) first rest) ∙ ap (all_learned l.names) (sym here) ∙ l.invariant.left;
      short = all_of_rest IsShort first rest (subst (AllByRecursion IsShort) here l.invariant.short).1;
      extends =
          Extends-trans c.learn_names.new.names l.names c.args.names.now
          (subst (λ names. Extends names l.names) (sym known) (Extends-trans (all_learned (learned l.names m.name) first) (learned l.names m.name) l.names (Extends-all_learned (learned l.names m.name) first) (Extends-learned l.names m.name)))
          l.invariant.extends;
    }
