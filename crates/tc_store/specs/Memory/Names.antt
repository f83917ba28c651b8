-- The names of a store in memory, while they are listed.
use Rattle.std.specs.Prelude.{◌≢◌, List, AllPairs, Contains}
use Rattle.tc_store.specs.declared.file_name.FileName.{FileName}
use Rattle.tc_store.specs.Disk.{Disk, IsThere}

-- each listed name is there, and listed once
pub record ListsSome (names : List FileName) (disk : Disk) : Type 0 where
  pub once : AllPairs (λ a b. a ≢ b) names
  pub there : (name : FileName) → Contains names name → IsThere (disk name)
