-- What clap's contracts give for the command line.
use Rattle.std.proofs.Common.{◌≡◌, ◌≢◌, ◌∙◌, ◌||◌, ap, ap₂, sym, true, false, List, [], ◌∷◌, Option, None, Result, Ok, Err, IfOk, IfErr, refl, inl, inr}
use Rattle.clap.specs.Words.{AddsArg, App, FailsBy, HasMatchesOf, IsAmong, Kinds, Row, Rule, Shape, Text, app_of, fault_of, is_simple, is_simple_and_free, kind_of, rule_of, subcommand_of, subcommand_rows_of, with_rule}
use Rattle.clap.specs.Simple.{app_of_fields, on_top}
use Rattle.clap.specs.declared.builder.arg.Arg.{Arg}
use Rattle.clap.specs.declared.builder.command.Command.{Command}
use Rattle.clap.specs.declared.builder.command.Command.TheViews.{out-Command as fields_of}
use Rattle.clap.specs.declared.error.Error.{Error}
use Rattle.clap.specs.declared.error.kind.ErrorKind.{ErrorKind}
use Rattle.clap.specs.declared.error.kind.ErrorKind.TheVariants.{OutOfMemory}
use Rattle.clap.specs.declared.parser.matches.ArgMatches.{ArgMatches}
use Rattle.clap.proofs.OnLiterals.{clap_on_literals}
use Rattle.tc_words.specs.Grammar.{grammar, named_matches}

-- the command is this one, and has no global argument
abbrev pub IsLocal : App → Command → Type 0
IsLocal app command = (app_of command ≡ app) × ((fields_of command).has_globals ≡ false)

-- and stays so with one more argument
pub with_option : (old new : Command) (a : Arg) (rule : Rule) (app : App) → AddsArg old a new → a.global ≡ false
    → rule_of a ≡ rule → IsLocal app old → IsLocal (with_rule app rule) new
with_option old new a rule app added local is old_is = (
  added.shape local ∙ ap₂ with_rule old_is.0 is,
  added.globals ∙ ap₂ (λ x y. x || y) old_is.1 local,
)

-- ---- the two settings of the whole command line

abbrev pub without_name : Shape → Shape
without_name s = record s { no_binary_name = true }

abbrev pub needing_subcommand : Shape → Shape
needing_subcommand s = record s { subcommand_required = true }

pub name_left_out : (old new : Command) → fields_of new ≡ record (fields_of old) { no_binary_name = true }
    → app_of new ≡ on_top without_name (app_of old)
name_left_out old new is = ap app_of_fields is

pub subcommand_needed : (old new : Command) → fields_of new ≡ record (fields_of old) { subcommand_required = true }
    → app_of new ≡ on_top needing_subcommand (app_of old)
subcommand_needed old new is = ap app_of_fields is

-- ---- what a parse gives

grammar_is_simple : is_simple grammar ≡ true
unfolding clap_on_literals grammar
grammar_is_simple = refl

grammar_is_free : is_simple_and_free grammar ≡ true
unfolding clap_on_literals grammar
grammar_is_free = refl

no_fault : (words : List Text) (rows : Option (Text × List Row)) → fault_of grammar words ≡ []
    → rows ≡ subcommand_of grammar words → named_matches words ≡ rows
unfolding named_matches
no_fault words rows none is = rw (none, is) refl

some_fault : (words : List Text) (k : ErrorKind) (ks : Kinds) → fault_of grammar words ≡ ks → IsAmong k ks
    → named_matches words ≡ None
unfolding named_matches
some_fault words k [] e h = absurd h
some_fault words k (x ∷ xs) e h = rw e refl

pub taken : (r : Result ArgMatches Error) (app : App) (words : List Text) → app ≡ grammar
    → (is_simple_and_free app ≡ true → FailsBy (fault_of app words) r) → IfOk r (HasMatchesOf app words)
    → IfOk r (λ m. named_matches words ≡ subcommand_rows_of m)
taken (Err e) app words is fails matches = tt
taken (Ok m) app words is fails matches =
    no_fault words (subcommand_rows_of m)
    (sym (ap (λ a. fault_of a words) is) ∙ fails (ap is_simple_and_free is ∙ grammar_is_free))
    ((matches (ap is_simple is ∙ grammar_is_simple)).1 ∙ ap (λ a. subcommand_of a words) is)

pub refused : (r : Result ArgMatches Error) (app : App) (words : List Text) → app ≡ grammar
    → (is_simple_and_free app ≡ true → FailsBy (fault_of app words) r)
    → IfErr r (λ e. kind_of e ≢ OutOfMemory → named_matches words ≡ None)
refused (Ok m) app words is fails = tt
refused (Err e) app words is fails = λ other. elim (fails (ap is_simple_and_free is ∙ grammar_is_free)) [
  | inl memory ↦ absurd (other memory)
  | inr among ↦ some_fault words (kind_of e) (fault_of app words) (ap (λ a. fault_of a words) (sym is)) among
]
