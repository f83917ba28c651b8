use Rattle.std.proofs.Common.{◌≡◌, ap, ◌∙◌, Some, rules}
use Rattle.tc_store.specs.declared.mem.entry.Held.TheVariants.{Out}
use Rattle.tc_store.specs.Disk.{none}
use Rattle.tc_store.specs.Memory.Disk.{entry_of}
use Rattle.tc_store.proofs.Memory.SlotLemmas.{puts_entry, entry_at, read_held}
use Rattle.tc_store.proofs.Memory.FileLemmas.{puts_new, owes_made, owes_new, absent_entry}
use Rattle.tc_store.proofs.mem.slots.make_slot.Goals as goal

pub returns-in_ok-clone-in-Gone-2-clause-puts : goal.returns-in_ok-clone-in-Gone-2-clause-puts
returns-in_ok-clone-in-Gone-2-clause-puts c =
    puts_entry c.args.slots.now.items _ c.args.name c.in-Some.at Out (rw c.deref.ensures.value at c.in-Some.ensures.first) c.swap_held-gone.ensures.slots

pub returns-in_ok-clone-in-Gone-2-clause-was : goal.returns-in_ok-clone-in-Gone-2-clause-was
returns-in_ok-clone-in-Gone-2-clause-was c files absent =
    let first = rw c.deref.ensures.value at c.in-Some.ensures.first in
    let slots = c.args.slots.now.items in
    let slot = c.index.result.now in
    let copied : none (Some c.in-Gone.bytes.value.items) ≡ none (Some c.in_ok-clone-in-Gone.field-0.value.items) = search rules in
    entry_at files slots c.args.name c.in-Some.at slot.held first (read_held slots c.in-Some.at slot first.within c.index.ensures)
    ∙ ap entry_of c.in-Gone.is ∙ copied

pub returns-in_ok-clone-in-Gone-2-clause-owed : goal.returns-in_ok-clone-in-Gone-2-clause-owed
returns-in_ok-clone-in-Gone-2-clause-owed c =
    owes_made c.args.slots.now.items _ c.args.name c.in-Some.at Out c.swap_held-gone.result (rw c.deref.ensures.value at c.in-Some.ensures.first)
    c.swap_held-gone.ensures.slots c.swap_held-gone.ensures.was c.requires

pub returns-in_ok-push-in-None-clause-puts : goal.returns-in_ok-push-in-None-clause-puts
returns-in_ok-push-in-None-clause-puts c =
    puts_new c.args.slots.now.items _ (record { name = c.args.name; held = Out }) (rw c.deref.ensures.value at c.in-None.ensures.none) c.in_ok-push-in-None.ensures.items

pub returns-in_ok-push-in-None-clause-was : goal.returns-in_ok-push-in-None-clause-was
returns-in_ok-push-in-None-clause-was c files absent = absent_entry files c.args.slots.now.items c.args.name (rw c.deref.ensures.value at c.in-None.ensures.none) absent

pub returns-in_ok-push-in-None-clause-owed : goal.returns-in_ok-push-in-None-clause-owed
returns-in_ok-push-in-None-clause-owed c =
    owes_new c.args.slots.now.items _ (record { name = c.args.name; held = Out }) c.in_ok-push-in-None.ensures.items
