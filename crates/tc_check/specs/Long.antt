-- Records of logs that are too long to be compacted.
use Rattle.std.specs.Prelude.{◌≡◌, ◌≤◌, ◌^◌, ℕ, List, ◌∷◌, ◌++◌, length, Some}
use Rattle.std.specs.List.{AllByRecursion}
use Rattle.tc_log.specs.declared.write.Write.{Write}
use Rattle.tc_log.specs.Writes.{record_in}
use Rattle.tc_lawful.specs.Logs.{IsShort}

-- a write whose record is too long, and how long it is
pub record IsLong (write : Write) (size : ℕ) : Type 0 where
  pub bytes : List ℕ
  pub record_is : record_in write ≡ Some bytes
  pub size_is : size ≡ length bytes
  pub long : 2 ^ 30 ≤ size

-- the first of these writes that is
pub record IsFirstLong (writes : List Write) (size : ℕ) : Type 0 where
  pub before : List Write
  pub write : Write
  pub behind : List Write
  pub parts : writes ≡ before ++ write ∷ behind
  pub short : AllByRecursion IsShort before
  pub long : IsLong write size
