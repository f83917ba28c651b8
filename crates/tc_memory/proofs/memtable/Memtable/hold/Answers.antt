use Rattle.std.proofs.Common.{◌≡◌, ◌∙◌, ap}
use Rattle.std.specs.Prelude.{option_map}
use Rattle.std.specs.BTreeMap.{insert_entry}
use Rattle.std.specs.Ordering.{nat_cmp}
use Rattle.tc_value.specs.ShapeMeaning.{shape_tree}
use Rattle.tc_memory.specs.Table.{holding}
use Rattle.tc_memory.specs.Meaning.{version_of, table_of}
use Rattle.tc_memory.specs.declared.slot.Slot.{Slot}
use Rattle.tc_memory.proofs.TableLemmas.{IsTable-holding, table_of-set_value, table_of-insert_entry}
use Rattle.tc_memory.proofs.memtable.Memtable.hold.Goals as goal

pub invariant_of-self : goal.invariant_of-self
invariant_of-self c =
    let w : Slot = record { version = c.args.version; below = c.in-Some.slot.now.below } in
    let es = c.self.inside.slots.entries in
    let handed = option_map shape_tree c.args.below in
    let written : table_of (c.get_mut.follows.lender w).entries ≡ holding c.args.key (version_of c.args.version) handed (table_of es) =
    ap table_of (c.get_mut.follows.holds w).0 ∙ table_of-set_value c.args.key c.args.version handed c.in-Some.slot.now es c.get_mut.ensures.ordered c.in-Some.ensures.value in
    rw written (IsTable-holding c.args.key (version_of c.args.version) handed (table_of es) c.requires.key (rw c.self.view_is c.requires.lawful) c.self.invariant)

pub returns-in-Some-clause-ok : goal.returns-in-Some-clause-ok
returns-in-Some-clause-ok c =
    let w : Slot = record { version = c.args.version; below = c.in-Some.slot.now.below } in
    rw (← c.self.view_is)
    (ap table_of (c.get_mut.follows.holds w).0 ∙ table_of-set_value c.args.key c.args.version (option_map shape_tree c.args.below) c.in-Some.slot.now c.self.inside.slots.entries c.get_mut.ensures.ordered c.in-Some.ensures.value)

pub invariant_of-self-2 : goal.invariant_of-self-2
invariant_of-self-2 c =
    let slot : Slot = record { version = c.args.version; below = c.in_ok-below.below } in
    let es = c.self.inside.slots.entries in
    let handed = option_map shape_tree c.args.below in
    let put : table_of c.insert.new.self.entries ≡ holding c.args.key (version_of c.args.version) handed (table_of es) =
    ap table_of (c.in_ok-insert.ensures.entries ∙ ap (λ m. insert_entry nat_cmp m.entries c.args.key slot) c.get_mut.follows.holds-at-none) ∙ table_of-insert_entry c.args.key slot es c.in_default.ensures.value
    ∙ ap (λ below. holding c.args.key (version_of c.args.version) below (table_of es)) c.in_ok-below.ensures in
    rw put (IsTable-holding c.args.key (version_of c.args.version) handed (table_of es) c.requires.key (rw c.self.view_is c.requires.lawful) c.self.invariant)

pub returns-clause-ok : goal.returns-clause-ok
returns-clause-ok c =
    let slot : Slot = record { version = c.args.version; below = c.in_ok-below.below } in
    let es = c.self.inside.slots.entries in
    rw (← c.self.view_is)
    (ap table_of (c.in_ok-insert.ensures.entries ∙ ap (λ m. insert_entry nat_cmp m.entries c.args.key slot) c.get_mut.follows.holds-at-none) ∙ table_of-insert_entry c.args.key slot es c.in_default.ensures.value
    ∙ ap (λ below. holding c.args.key (version_of c.args.version) below (table_of es)) c.in_ok-below.ensures)
