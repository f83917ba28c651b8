use Rattle.std.proofs.Common.{List, refl, sym, subst}
use Rattle.tc_store.proofs.NameLemmas.{same_name-refl}
use Rattle.tc_store.specs.Disk.{Disk, IsSettledHome}
use Rattle.tc_store.specs.Moments.{IfTold}
use Rattle.tc_rows.proofs.stores.store_with.Goals as goal

pub returns-clause-home : goal.returns-clause-home
returns-clause-home c = subst (λ (disks : List Disk). IfTold disks (λ disk. IsSettledHome (disk c.args.name))) (sym c.with.ensures.files)
    (rw (c.in_ok-push.ensures.items, c.new-files.ensures.items, same_name-refl c.args.name) refl)
