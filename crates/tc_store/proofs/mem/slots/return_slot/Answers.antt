use Rattle.std.proofs.Common.{◌≡◌, true, false, ap, ◌∙◌, rules}
use Rattle.tc_store.specs.Disk.{is_out}
use Rattle.tc_store.specs.Memory.Disk.{entry_of}
use Rattle.tc_store.proofs.Memory.SlotLemmas.{puts_entry, owes_out, entry_at, no_slot_out, read_held}
use Rattle.tc_store.proofs.mem.slots.return_slot.Goals as goal

pub returns-then-not-is_out_held-clause-exact : goal.returns-then-not-is_out_held-clause-exact
returns-then-not-is_out_held-clause-exact c files =
    let first = rw c.deref.ensures.value at c.in-Some.ensures.first in
    let slots = c.args.slots.now.items in
    let slot = c.index.result.now in
    let test : is_out (entry_of slot.held) ≡ false = search rules in
    ap is_out (entry_at files slots c.args.name.now c.in-Some.at slot.held first (read_held slots c.in-Some.at slot first.within c.index.ensures)) ∙ test

pub returns-else-not-is_out_held-clause-exact : goal.returns-else-not-is_out_held-clause-exact
returns-else-not-is_out_held-clause-exact c files =
    let first = rw c.deref.ensures.value at c.in-Some.ensures.first in
    let slots = c.args.slots.now.items in
    let slot = c.index.result.now in
    let test : is_out (entry_of slot.held) ≡ true = search rules in
    ap is_out (entry_at files slots c.args.name.now c.in-Some.at slot.held first (read_held slots c.in-Some.at slot first.within c.index.ensures)) ∙ test

pub returns-else-not-is_out_held-clause-puts : goal.returns-else-not-is_out_held-clause-puts
returns-else-not-is_out_held-clause-puts c _ =
    puts_entry c.args.slots.now.items _ c.args.name.now c.in-Some.at c.args.held (rw c.deref.ensures.value at c.in-Some.ensures.first) c.swap_held-out.ensures.slots

pub returns-else-not-is_out_held-clause-owed : goal.returns-else-not-is_out_held-clause-owed
returns-else-not-is_out_held-clause-owed c _ =
    let first = rw c.deref.ensures.value at c.in-Some.ensures.first in
    let slots = c.args.slots.now.items in
    let slot = c.index.result.now in
    let test : is_out (entry_of slot.held) ≡ true = search rules in
    owes_out slots _ c.args.name.now c.in-Some.at c.args.held slot.held first c.swap_held-out.ensures.slots (read_held slots c.in-Some.at slot first.within c.index.ensures) test

pub returns-in-None-clause-exact : goal.returns-in-None-clause-exact
returns-in-None-clause-exact c files = no_slot_out files c.args.slots.now.items c.args.name.now (rw c.deref.ensures.value at c.in-None.ensures.none)
