use Rattle.std.proofs.Common.{◌≡◌, false, ap, ◌∙◌, rules, refl, add-zero}
use Rattle.tc_store.specs.declared.mem.entry.Held.TheVariants.{Gone, Still, Out}
use Rattle.tc_store.specs.Disk.{is_still}
use Rattle.tc_store.specs.Memory.Disk.{entry_of}
use Rattle.tc_store.proofs.Memory.SlotLemmas.{puts_entry, owes_still, entry_at, no_slot_still, read_held, written_twice, removed_entry}
use Rattle.tc_store.proofs.mem.slots.remove_slot.Goals as goal

pub returns-then-not-is_still_held-clause-exact : goal.returns-then-not-is_still_held-clause-exact
returns-then-not-is_still_held-clause-exact c files =
    let first = rw c.deref.ensures.value at c.in-Some.ensures.first in
    let slots = c.args.slots.now.items in
    let slot = c.index.result.now in
    let test : is_still (entry_of slot.held) ≡ false = search rules in
    ap is_still (entry_at files slots c.args.name.now c.in-Some.at slot.held first (read_held slots c.in-Some.at slot first.within c.index.ensures)) ∙ test

pub returns-in-Still-clause-exact : goal.returns-in-Still-clause-exact
returns-in-Still-clause-exact c files =
    let first = rw c.deref.ensures.value at c.in-Some.ensures.first in
    ap is_still (entry_at files c.args.slots.now.items c.args.name.now c.in-Some.at (Still c.in-Still.bytes) first c.in-Still.ensures.was)

pub returns-in-Still-clause-puts : goal.returns-in-Still-clause-puts
returns-in-Still-clause-puts c _ files =
    let first = rw c.deref.ensures.value at c.in-Some.ensures.first in
    let slots = c.args.slots.now.items in
    removed_entry files slots _ c.args.name.now (Still c.in-Still.bytes) (Gone c.in-Still.bytes)
    (entry_at files slots c.args.name.now c.in-Some.at (Still c.in-Still.bytes) first c.in-Still.ensures.was) refl
    (puts_entry slots _ c.args.name.now c.in-Some.at (Gone c.in-Still.bytes) first
    (written_twice slots c.swap_held.new.slots.items _ c.in-Some.at Out (Gone c.in-Still.bytes) first.within c.swap_held.ensures.slots c.swap_held-out.ensures.slots))

pub returns-in-Still-clause-owed : goal.returns-in-Still-clause-owed
returns-in-Still-clause-owed c _ =
    let first = rw c.deref.ensures.value at c.in-Some.ensures.first in
    let slots = c.args.slots.now.items in
    owes_still slots _ c.args.name.now c.in-Some.at (Gone c.in-Still.bytes) (Still c.in-Still.bytes) first
    (written_twice slots c.swap_held.new.slots.items _ c.in-Some.at Out (Gone c.in-Still.bytes) first.within c.swap_held.ensures.slots c.swap_held-out.ensures.slots)
    c.in-Still.ensures.was refl ∙ add-zero _

pub returns-in-None-clause-exact : goal.returns-in-None-clause-exact
returns-in-None-clause-exact c files = no_slot_still files c.args.slots.now.items c.args.name.now (rw c.deref.ensures.value at c.in-None.ensures.none)
