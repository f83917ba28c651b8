-- What words ask for: a run with its options, a demonstration of so many commands, or a check of so many partitions.
use Rattle.std.specs.Prelude.{ℕ, List, codes, Option, Some, None, is_some, unwrap_or, if◌then◌else◌, option_and_then, option_map}
use Rattle.std.specs.List.{list_all}
use Rattle.std.specs.Option.{option_map_or}
use Rattle.std.specs.Str.{bytes_eq}
use Rattle.clap.specs.Words.{Row, Text, first_of}
use Rattle.tc_number.specs.Number.{number_between}
use Rattle.tc_words.specs.Grammar as line
use Rattle.tc_words.specs.Grammar.{Setting, commands_name, max_commands, named_matches}
use Rattle.tc_words.specs.declared.asked.Invocation.{Invocation}
use Rattle.tc_words.specs.declared.asked.Invocation.TheVariants.{Run, Demo}
use Rattle.tc_words.specs.declared.run.Options.{Options}

-- the number of an option: the one that is given, where it is in the range, or else the default
abbrev pub number_in : List Row → Setting → Option ℕ
number_in rows s = option_map_or (number_between s.least s.most) (first_of s.name rows) s.default

abbrev pub value_in : List Row → Setting → ℕ
value_in rows s = unwrap_or (number_in rows s) 0

-- the options, where each of them has its number
abbrev pub options_in : List Row → Option Options
options_in rows = if list_all (λ s. is_some (number_in rows s)) line.settings then Some (record {
  partitions = value_in rows line.partitions;
  memory = value_in rows line.memory;
  names = value_in rows line.names;
  docs = value_in rows line.docs;
  window = value_in rows line.window;
  merge = value_in rows line.merge;
  limit = value_in rows line.limit;
}) else None

-- the number of an option that is left out: its default, or the least one where it has none
abbrev pub default_of : Setting → ℕ
default_of s = unwrap_or s.default s.least

-- the options of a demonstration
abbrev pub demo_options : Options
demo_options = record {
  partitions = default_of line.partitions;
  memory = default_of line.memory;
  names = default_of line.names;
  docs = default_of line.docs;
  window = default_of line.window;
  merge = default_of line.merge;
  limit = default_of line.limit;
}

-- ---- words

-- how many commands a demonstration has
abbrev pub commands_in : List Row → Option ℕ
commands_in rows = option_and_then (number_between 1 max_commands) (first_of commands_name rows)

-- what a subcommand with these matches asks for
abbrev pub invocation_in : Text × List Row → Option Invocation
invocation_in named =
    if bytes_eq named.0 (codes "run") then option_map Run (options_in named.1)
    else (if bytes_eq named.0 (codes "demo") then option_map (λ n. Demo n demo_options) (commands_in named.1)
    else None)

-- what the words ask for; nothing where they are no `run` and no `demo`
unfoldable pub invocation_of : List Text → Option Invocation
invocation_of words = option_and_then invocation_in (named_matches words)

-- the options of what is asked for
abbrev pub options_asked : Invocation → Options
options_asked (Run options) = options
options_asked (Demo n options) = options

-- ---- a check

-- how many partitions a subcommand with these matches has checked; nothing where it is another one
abbrev pub check_in : Text × List Row → Option ℕ
check_in named = if bytes_eq named.0 (codes "check") then number_in named.1 line.partitions else None

-- how many partitions the words have checked; nothing where they are no `check`
unfoldable pub check_of : List Text → Option ℕ
check_of words = option_and_then check_in (named_matches words)
