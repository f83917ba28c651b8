-- The numbers that words ask for are in their ranges: there are 1 to 16 partitions, a window has a line at least and no more than
-- words may ask for, the bytes at which a table is sealed are many, and few components are merged.
use Rattle.std.proofs.Common.{◌≡◌, ◌≤◌, ℕ, Bool, true, false, List, refl, subst, arith, codes}
use Rattle.std.specs.Prelude.{◌&&◌, nat_le, is_some, unwrap_or, option_and_then, option_map, Option, Some, None, IfSome, if◌then◌else◌}
use Rattle.std.specs.Str.{bytes_eq}
use Rattle.std.specs.Option.{option_map_or}
use Rattle.std.proofs.lemmas.Bool.Decides.{nat_tests}
use Rattle.clap.specs.Words.{Row, Text, first_of}
use Rattle.tc_number.specs.Number.{number_between, number_of}
use Rattle.tc_words.specs.Grammar.{partitions, memory, names, docs, window, merge, limit, commands_name, named_matches}
use Rattle.tc_words.specs.Options.{number_in, options_in, options_asked, demo_options, commands_in, invocation_in, invocation_of}
use Rattle.tc_words.specs.declared.asked.Invocation.{Invocation}
use Rattle.tc_words.specs.declared.asked.Invocation.TheVariants.{Run, Demo}
use Rattle.tc_words.specs.declared.run.Options.{Options}

abbrev pub IsBetween : ℕ → ℕ → ℕ → Type 0
IsBetween least most n = (least ≤ n) × (n ≤ most)

-- ---- the number that an option gives

if_within : (least most : ℕ) (b : Bool) (n : ℕ) → (b ≡ true → IsBetween least most n) → IfSome (if b then Some n else None) (IsBetween least most)
if_within least most true n is = is refl
if_within least most false n is = tt

within : (least most n : ℕ) → (nat_le least n && nat_le n most) ≡ true → IsBetween least most n
within least most n both = (grind (arith, nat_tests), grind (arith, nat_tests))

read_within : (least most : ℕ) (o : Option ℕ) → IfSome (option_and_then (λ n. if nat_le least n && nat_le n most then Some n else None) o) (IsBetween least most)
read_within least most None = tt
read_within least most (Some n) = if_within least most (nat_le least n && nat_le n most) n (within least most n)

given_within : (least most default : ℕ) → IsBetween least most default → (o : Option Text) → IfSome (option_map_or (number_between least most) o (Some default)) (IsBetween least most)
given_within least most default is None = is
given_within least most default is (Some text) = read_within least most (number_of text)

there_within : (least most : ℕ) (o : Option ℕ) → is_some o ≡ true → IfSome o (IsBetween least most) → IsBetween least most (unwrap_or o 0)
there_within least most None there is = absurd (cc)
there_within least most (Some n) there is = is

-- ---- the options

and_first : (a b : Bool) → (a && b) ≡ true → a ≡ true
and_first true b both = refl
and_first false b both = both

and_rest : (a b : Bool) → (a && b) ≡ true → b ≡ true
and_rest true b both = both
and_rest false b both = absurd (cc)

some_if : (b : Bool) (x y : Options) → (if b then Some x else None) ≡ Some y → (b ≡ true) × (x ≡ y)
some_if true x y same = (refl, cc)
some_if false x y same = absurd (cc)

pub record AreInRange (o : Options) : Type 0 where
  pub partitions : IsBetween 1 16 o.partitions
  pub window : IsBetween 1 4096 o.window
  pub memory : IsBetween 4096 16777216 o.memory
  pub merge : IsBetween 2 8 o.merge

module _ (a b c d e f g : Bool) (all : (a && (b && (c && (d && (e && (f && g)))))) ≡ true) where
  from_second : (b && (c && (d && (e && (f && g))))) ≡ true
  from_second = and_rest a (b && (c && (d && (e && (f && g))))) all

  second : b ≡ true
  second = and_first b (c && (d && (e && (f && g)))) from_second

  from_fifth : (e && (f && g)) ≡ true
  from_fifth = and_rest d (e && (f && g)) (and_rest c (d && (e && (f && g))) (and_rest b (c && (d && (e && (f && g)))) from_second))

  fifth : e ≡ true
  fifth = and_first e (f && g) from_fifth

  sixth : f ≡ true
  sixth = and_first f g (and_rest e (f && g) from_fifth)

in_rows : (rows : List Row) (o : Options) → options_in rows ≡ Some o → AreInRange o
in_rows rows o same =
    let read = some_if _ _ o same in
    let p = is_some (number_in rows partitions) in
    let m = is_some (number_in rows memory) in
    let n = is_some (number_in rows names) in
    let d = is_some (number_in rows docs) in
    let w = is_some (number_in rows window) in
    let g = is_some (number_in rows merge) in
    let l = is_some (number_in rows limit) && true in
    rw (← read.1) (record {
      partitions = there_within 1 16 (number_in rows partitions) (and_first p (m && (n && (d && (w && (g && l))))) read.0) (given_within 1 16 2 (omega arith, omega arith) (first_of partitions.name rows));
      window = there_within 1 4096 (number_in rows window) (fifth p m n d w g l read.0) (given_within 1 4096 64 (omega arith, omega arith) (first_of window.name rows));
      memory = there_within 4096 16777216 (number_in rows memory) (second p m n d w g l read.0) (given_within 4096 16777216 262144 (omega arith, omega arith) (first_of memory.name rows));
      merge = there_within 2 8 (number_in rows merge) (sixth p m n d w g l read.0) (given_within 2 8 4 (omega arith, omega arith) (first_of merge.name rows));
    })

-- ---- what words ask for

-- a demonstration has a command at least, and no more than words may ask for
abbrev pub HasFewCommands : Invocation → Type 0
HasFewCommands (Run options) = Unit {0}
HasFewCommands (Demo n options) = IsBetween 1 1000000 n

pub record IsInRange (asked : Invocation) : Type 0 where
  pub options : AreInRange (options_asked asked)
  pub commands : HasFewCommands asked

asks_run : (o : Option Options) (asked : Invocation) → ((options : Options) → o ≡ Some options → AreInRange options) → option_map Run o ≡ Some asked → IsInRange asked
asks_run None asked ranges same = absurd (cc)
asks_run (Some options) asked ranges same =
    let is : Run options ≡ asked = cc in
    subst IsInRange is (record { options = ranges options refl; commands = tt })

demo_in_range : AreInRange demo_options
demo_in_range = record { partitions = (omega arith, omega arith); window = (omega arith, omega arith); memory = (omega arith, omega arith); merge = (omega arith, omega arith) }

asks_demo : (o : Option ℕ) (asked : Invocation) → IfSome o (IsBetween 1 1000000) → option_map (λ n. Demo n demo_options) o ≡ Some asked → IsInRange asked
asks_demo None asked few same = absurd (cc)
asks_demo (Some n) asked few same =
    let is : Demo n demo_options ≡ asked = cc in
    subst IsInRange is (record { options = demo_in_range; commands = few })

commands_within : (o : Option Text) → IfSome (option_and_then (number_between 1 1000000) o) (IsBetween 1 1000000)
commands_within None = tt
commands_within (Some text) = read_within 1 1000000 (number_of text)

asks_named : (run demo : Bool) (rows : List Row) (asked : Invocation)
    → (if run then option_map Run (options_in rows) else (if demo then option_map (λ n. Demo n demo_options) (commands_in rows) else None)) ≡ Some asked → IsInRange asked
asks_named true demo rows asked same = asks_run (options_in rows) asked (in_rows rows) same
asks_named false true rows asked same = asks_demo (commands_in rows) asked (commands_within (first_of commands_name rows)) same
asks_named false false rows asked same = absurd (cc)

in_matches : (matches : Option (Text × List Row)) (asked : Invocation) → option_and_then invocation_in matches ≡ Some asked → IsInRange asked
in_matches None asked same = absurd (cc)
in_matches (Some named) asked same = asks_named (bytes_eq named.0 (codes "run")) (bytes_eq named.0 (codes "demo")) named.1 asked same

pub asked_in_range : (words : List Text) (asked : Invocation) → invocation_of words ≡ Some asked → IsInRange asked
unfolding invocation_of
asked_in_range words asked same = in_matches (named_matches words) asked same
