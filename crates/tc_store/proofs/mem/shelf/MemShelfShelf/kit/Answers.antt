use Rattle.std.proofs.Common.{ap, sym, arith, rules}
use Rattle.tc_store.specs.Memory.Shelf.{kit_faults_of, kit_disks}
use Rattle.tc_store.proofs.Memory.ShelfLemmas.{kit_at-there, kit_at-other}
use Rattle.tc_store.proofs.mem.shelf.MemShelfShelf.kit.Goals as goal

pub returns-in_err-push-clause-none_there : goal.returns-in_err-push-clause-none_there
returns-in_err-push-clause-none_there c = (
  search rules,
  λ gone. absurd (
      kit_at-there c.self.inside.kits.items c.self.inside.given.items c.args.number (omega (arith, c.if-place-len.false, c.len.ensures))
      (rw (← c.deref.ensures.value) (sym c.if-contains.ensures.value)) (rw (← c.self.view_is) at gone)),
)

pub returns-clause-none_there : goal.returns-clause-none_there
returns-clause-none_there c = (
  search rules,
  λ gone. absurd (
      kit_at-there c.self.inside.kits.items c.self.inside.given.items c.args.number (omega (arith, c.if-place-len.false, c.len.ensures))
      (rw (← c.deref.ensures.value) (sym c.if-contains.ensures.value)) (rw (← c.self.view_is) at gone)),
)

pub returns-clause-other_faults : goal.returns-clause-other_faults
returns-clause-other_faults c other apart = rw (← c.self.view_is) (ap kit_faults_of (
    kit_at-other c.self.inside.kits.items c.take_kit.new.kits.items c.self.inside.given.items c.push.new.self.items c.args.number other
    c.in_ok-push.ensures.items apart (c.take_kit.ensures.others other apart)))

pub returns-clause-other_files : goal.returns-clause-other_files
returns-clause-other_files c other apart = rw (← c.self.view_is) (ap kit_disks (
    kit_at-other c.self.inside.kits.items c.take_kit.new.kits.items c.self.inside.given.items c.push.new.self.items c.args.number other
    c.in_ok-push.ensures.items apart (c.take_kit.ensures.others other apart)))
