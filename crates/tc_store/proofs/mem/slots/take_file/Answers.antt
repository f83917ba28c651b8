use Rattle.std.proofs.Common.{ap, ◌∙◌, sym}
use Rattle.tc_store.specs.declared.mem.entry.Held.TheVariants.{Still}
use Rattle.tc_store.specs.declared.mem.entry.MemFile.{MemFile}
use Rattle.tc_store.specs.Disk.{still, home}
use Rattle.tc_store.specs.DiskFile.{settled_file}
use Rattle.tc_store.proofs.Memory.FileLemmas.{file_entry-none, file_entry-first, take_file_puts, owes_new}
use Rattle.tc_store.proofs.mem.slots.take_file.Goals as goal

pub unreachable-requires : goal.unreachable-requires
unreachable-requires c =
    let gone = file_entry-none c.args.files.now.items c.args.name (rw c.deref.ensures.value at c.in-None.ensures.none) in
    rw gone at c.requires.settled

pub returns-clause-puts : goal.returns-clause-puts
returns-clause-puts c =
    take_file_puts c.args.files.now.items _ c.args.slots.now.items _ (record { name = c.args.name; held = Still c.in_ok-one-in-Some.one }) c.in-Some.at
    (still c.in_ok-one-in-Some.other.value.items) (rw c.deref.ensures.value at c.in-Some.ensures.first) c.requires.free c.remove-file.ensures.items
    c.in_ok-push-in-Some.ensures.items (ap still (c.in_ok-one-in-Some.ensures.one ∙ sym c.in_ok-one-in-Some.ensures.other))

pub returns-clause-was : goal.returns-clause-was
returns-clause-was c =
    let first = rw c.deref.ensures.value at c.in-Some.ensures.first in
    file_entry-first c.args.files.now.items c.args.name c.in-Some.at c.index.result.now first
    ∙ ap (λ (file : MemFile). home (settled_file file.bytes)) (sym c.index.ensures)
    ∙ ap (λ bytes. home (settled_file bytes)) (sym c.as_slice.ensures.same ∙ sym c.in_ok-one-in-Some.ensures.other)

pub returns-clause-owed : goal.returns-clause-owed
returns-clause-owed c =
    owes_new c.args.slots.now.items _ (record { name = c.args.name; held = Still c.in_ok-one-in-Some.one }) c.in_ok-push-in-Some.ensures.items
