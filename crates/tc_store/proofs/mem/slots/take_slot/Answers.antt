use Rattle.std.proofs.Common.{ap, ◌∙◌, sym}
use Rattle.tc_store.specs.declared.mem.entry.Held.TheVariants.{Still}
use Rattle.tc_store.specs.Disk.{still}
use Rattle.tc_store.proofs.Memory.SlotLemmas.{puts_entry}
use Rattle.tc_store.proofs.Memory.FileLemmas.{puts_same, owes_taken}
use Rattle.tc_store.proofs.mem.slots.take_slot.Goals as goal

pub returns-clause-puts : goal.returns-clause-puts
returns-clause-puts c =
    puts_same c.args.name _ _ c.args.slots.now.items _ (ap still (c.in_ok-one-in-Home.ensures.one ∙ sym c.in_ok-one-in-Home.ensures.other))
    (puts_entry c.args.slots.now.items _ c.args.name c.args.at (Still c.in_ok-one-in-Home.one) c.requires.first c.swap_held-home.ensures.slots)

pub returns-clause-owed : goal.returns-clause-owed
returns-clause-owed c =
    owes_taken c.args.slots.now.items _ c.args.name c.args.at (Still c.in_ok-one-in-Home.one) c.swap_held-home.result c.requires.first
    c.swap_held-home.ensures.slots c.swap_held-home.ensures.was c.requires.settled
