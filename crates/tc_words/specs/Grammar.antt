-- The command line, as clap's grammar has it: the options of `run`, the number of `demo`, and the option of `check`.
use Rattle.std.specs.Prelude.{ℕ, Bool, true, List, [], ◌∷◌, map, Option, Some, None, is_some, not, codes}
use Rattle.clap.specs.Words.{App, Kinds, Row, Rule, Shape, Text, fault_of, new_app, new_rule, subcommand_of, with_subcommand}
use Rattle.clap.specs.Simple.{new_shape, on_top}
use Rattle.clap.specs.declared.builder.action.ArgAction.TheVariants.{Set}

-- an option with one number
pub record Setting : Type 0 where
  pub name : Text
  pub least : ℕ
  pub most : ℕ
  -- the number where the option is left out; with none, it has to be given
  pub default : Option ℕ

abbrev pub setting : Text → ℕ → ℕ → Option ℕ → Setting
setting name least most default = record { name = name; least = least; most = most; default = default }

abbrev pub partitions : Setting
partitions = setting (codes "partitions") 1 16 (Some 2)

abbrev pub memory : Setting
memory = setting (codes "memory") 4096 16777216 (Some 262144)

abbrev pub names : Setting
names = setting (codes "names") 1 16777216 (Some 1000000)

abbrev pub docs : Setting
docs = setting (codes "docs") 1 4000000000 (Some 4000000000)

abbrev pub window : Setting
window = setting (codes "window") 1 4096 (Some 64)

abbrev pub merge : Setting
merge = setting (codes "merge") 2 8 (Some 4)

abbrev pub limit : Setting
limit = setting (codes "limit") 0 1099511627776 (Some 0)

-- the options of `run`
abbrev pub settings : List Setting
settings = partitions ∷ memory ∷ names ∷ docs ∷ window ∷ merge ∷ limit ∷ []

-- the option `--name`, with one value
abbrev pub option_rule : Text → Bool → Rule
option_rule name is_required =
    record (new_rule name) { long = Some name; action = Some Set; required = is_required }

-- the option of a setting, which has to be given where there is no default
abbrev pub rule_of_setting : Setting → Rule
rule_of_setting s = option_rule s.name (not (is_some s.default))

-- the subcommand `run`
abbrev pub run_shape : Shape
run_shape = record (new_shape (codes "run")) { rules = map rule_of_setting settings }

-- the number of commands of a demonstration, which stands by itself
abbrev pub commands_name : Text
commands_name = codes "commands"

abbrev pub max_commands : ℕ
max_commands = 1000000

abbrev pub commands_rule : Rule
commands_rule = record (new_rule commands_name) { action = Some Set; required = true }

-- the subcommand `demo`
abbrev pub demo_shape : Shape
demo_shape = record (new_shape (codes "demo")) { rules = commands_rule ∷ [] }

-- the subcommand `check`
abbrev pub check_shape : Shape
check_shape = record (new_shape (codes "check")) { rules = rule_of_setting partitions ∷ [] }

-- the command line: a subcommand, with no program's name before it
unfoldable pub grammar : App
grammar = with_subcommand (with_subcommand (with_subcommand (on_top (λ s. record s { no_binary_name = true; subcommand_required = true })
    (new_app (codes "tuple_store"))) run_shape) demo_shape) check_shape

-- the matches, and none where clap has a kind of error for the words
abbrev pub unless_refused : Kinds → Option (Text × List Row) → Option (Text × List Row)
unless_refused [] matches = matches
unless_refused (kind ∷ kinds) matches = None

-- the subcommand that the words name, with its matches, where clap takes the words
unfoldable pub named_matches : List Text → Option (Text × List Row)
named_matches words = unless_refused (fault_of grammar words) (subcommand_of grammar words)
