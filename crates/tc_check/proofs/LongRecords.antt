-- The first record that is too long, looked for from the front.
use Rattle.std.proofs.Common.{◌∙◌, ℕ, List, [], ◌∷◌, ◌++◌, refl, sym, ap, append_assoc}
use Rattle.std.specs.List.{AllByRecursion}
use Rattle.tc_log.specs.declared.write.Write.{Write}
use Rattle.tc_lawful.specs.Logs.{IsShort}
use Rattle.tc_check.specs.Long.{IsFirstLong, IsLong}

pub all_short : (front behind : List Write) → AllByRecursion IsShort front → AllByRecursion IsShort behind → AllByRecursion IsShort (front ++ behind)
all_short [] behind first rest = rest
all_short (write ∷ front) behind first rest = (first.0, all_short front behind first.1 rest)

pub first_in_front : (front behind : List Write) (size : ℕ) → IsFirstLong front size → IsFirstLong (front ++ behind) size
first_in_front front behind size first = record {
  before = first.before;
  write = first.write;
  behind = first.behind ++ behind;
  parts = ap (λ ws. ws ++ behind) first.parts ∙ append_assoc first.before (first.write ∷ first.behind) behind;
  short = first.short;
  long = first.long;
}

first_behind : (front behind : List Write) (size : ℕ) → AllByRecursion IsShort front → IsFirstLong behind size → IsFirstLong (front ++ behind) size
first_behind front behind size short first = record {
  before = front ++ first.before;
  write = first.write;
  behind = first.behind;
  parts = ap (λ ws. front ++ ws) first.parts ∙ sym (append_assoc front first.before (first.write ∷ first.behind));
  short = all_short front first.before short first.short;
  long = first.long;
}

pub first_of_all : (write : Write) (behind : List Write) (size : ℕ) → IsLong write size → IsFirstLong (write ∷ behind) size
first_of_all write behind size long = record { before = []; write = write; behind = behind; parts = refl; short = tt; long = long }

-- What is left decides: its first long record is the first of all, and where it has none, none has.
pub record AreLeft (all rest : List Write) : Type 0 where
  pub first : (size : ℕ) → IsFirstLong rest size → IsFirstLong all size
  pub short : AllByRecursion IsShort rest → AllByRecursion IsShort all

pub all_left : (all : List Write) → AreLeft all all
all_left all = record { first = λ size first. first; short = λ short. short }

pub fewer_left : (all front behind : List Write) → AllByRecursion IsShort front → AreLeft all (front ++ behind) → AreLeft all behind
fewer_left all front behind short left = record { first = λ size first. left.first size (first_behind front behind size short first); short = λ rest. left.short (all_short front behind short rest) }
