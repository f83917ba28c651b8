-- What an opening answers where it refuses files.
use Rattle.tc_store.specs.declared.damage.Damage.TheVariants.{Bytes, Files}
use Rattle.tc_store.specs.Judging.{damage}
use Rattle.tc_recover.specs.declared.cause.FilesCause.{FilesCause}
use Rattle.tc_recover.specs.declared.cause.FilesCause.TheVariants.{Damaged, Disk, Layout, Memory}
use Rattle.tc_recover.specs.Refusals.{Refusal, breaks, clashes, strays}

-- what is refused by this cause has P; of a fault of the disk and of want of memory nothing is said here
abbrev pub IsAnswer : FilesCause → (Refusal → Type 0) → Type 0
IsAnswer (Damaged (Bytes file place bytes)) P = P (breaks file (damage place bytes))
IsAnswer (Damaged (Files names)) P = P (clashes names)
IsAnswer (Layout found found_of) P = P (strays found found_of)
IsAnswer _ _ = Unit {0}

-- the files are refused
abbrev pub IsRefusal : FilesCause → Type 0
IsRefusal Disk = ⊥
IsRefusal Memory = ⊥
IsRefusal _ = Unit {0}
