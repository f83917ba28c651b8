use Rattle.std.proofs.Common.{arith}
use Rattle.tc_store.specs.Memory.Disk.{disk_of}
use Rattle.tc_store.proofs.Memory.NamesLemmas.{all_listed, lists_names}
use Rattle.tc_store.proofs.mem.slots.names_of.Goals as goal

pub returns : goal.returns
returns c =
    let names = c.loop-file.names.items in
    let files = c.args.files.now in
    let slots = c.args.slots.now in
    lists_names names (disk_of files slots) c.loop-file.invariant.some
    (all_listed names files slots c.loop-file.invariant.slots λ k d within. c.loop-file.invariant.files k d (omega arith))
