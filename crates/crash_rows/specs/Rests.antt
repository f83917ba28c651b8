-- Files over which a run may begin.
use Rattle.std.specs.Prelude.{IfSome}
use Rattle.tc_store.specs.Disk.{IsAtRest}
use Rattle.tc_store.specs.Memory.Store.{store_disks}
use Rattle.tc_store.specs.Moments.{IfTold}
use Rattle.crash_rows.specs.declared.files.Files.{Files}

-- of no partition is anything pending
abbrev pub AreAtRest : Files → Type 0
AreAtRest f = IfTold (store_disks f.first) IsAtRest × IfSome f.second (λ store. IfTold (store_disks store) IsAtRest)
