-- A shape whose names were learned has a number for each.
use Rattle.std.specs.List.{AllByRecursion}
use Rattle.std.specs.Prelude.{List}
use Rattle.tc_model.specs.Tree.{leaf, array, object, Items, no_items, item, Members, no_members, member}
use Rattle.tc_model.specs.Document.{Name, ShapeTree, ScalarKind}
use Rattle.tc_model.specs.Dictionary.{all_learned}
use Rattle.tc_model.specs.ShapeNames.{names_within, names_of_items, names_of_members}
use Rattle.tc_model.specs.KnownNames.{HasNumber}
use Rattle.tc_model.proofs.LearnedNames.{all_numbered, all_of_first, all_of_rest}
use Rattle.tc_schema_model.specs.Added.{IsNamed, AreItemsNamed, AreMembersNamed}

mutual
  named : (names : List Name) (s : ShapeTree) → AllByRecursion (HasNumber names) (names_within s) → IsNamed names s
  named names (leaf k) all = tt
  named names (array xs) all = items_named names xs all
  named names (object ms) all = members_named names ms all

  items_named : (names : List Name) (xs : Items Name ScalarKind) → AllByRecursion (HasNumber names) (names_of_items xs) → AreItemsNamed names xs
  items_named names no_items all = tt
  items_named names (item s xs) all =
      (named names s (all_of_first (HasNumber names) (names_within s) (names_of_items xs) all), items_named names xs (all_of_rest (HasNumber names) (names_within s) (names_of_items xs) all))

  members_named : (names : List Name) (ms : Members Name ScalarKind) → AllByRecursion (HasNumber names) (names_of_members ms) → AreMembersNamed names ms
  members_named names no_members all = tt
  members_named names (member name s ms) all =
      (all.0, named names s (all_of_first (HasNumber names) (names_within s) (names_of_members ms) all.1), members_named names ms (all_of_rest (HasNumber names) (names_within s) (names_of_members ms) all.1))

-- the names of a shape that was learned have numbers
pub named-all_learned : (known : List Name) (s : ShapeTree) → IsNamed (all_learned known (names_within s)) s
named-all_learned known s = named (all_learned known (names_within s)) s (all_numbered known (names_within s))
