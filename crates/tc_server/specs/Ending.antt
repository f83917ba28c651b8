-- What a run read and wrote, by the way in which it ended.
use Rattle.std.specs.Prelude.{◌≡◌, ◌≤◌, ℕ, List, Option, Some, None, IfSome, if◌then◌else◌, nat_eq}
use Rattle.tc_edge.specs.Moments.{Moment, IsPrompt}
use Rattle.tc_gen.specs.Generated.{input_of}
use Rattle.tc_gen.specs.TwoLines.{two_lines}
use Rattle.tc_list.specs.declared.policy.Policy.{Policy}
use Rattle.tc_list.specs.declared.policy.Policy.TheVariants.{Constant, Sized}
use Rattle.tc_plain_model.specs.Room.{Limits}
use Rattle.tc_run_model.specs.World.{World}
use Rattle.tc_run_model.specs.Course.{Ending, Shown, behind, each_line, IsDue, Ran, worlds_left}
use Rattle.tc_keeper.specs.Faults.{EndsAs, IsNoDamage}
use Rattle.tc_keeper.specs.Holds.{IsLeft}
use Rattle.tc_keeper.specs.Sight.{sees, whole_of, IfKnown, Sight}
use Rattle.tc_keeper.specs.declared.fault.RunFault.{RunFault}
use Rattle.tc_words.specs.Grammar.{max_commands}
use Rattle.tc_words.specs.Options.{options_asked}
use Rattle.tc_words.specs.declared.asked.Invocation.{Invocation}
use Rattle.tc_words.specs.declared.asked.Invocation.TheVariants.{Run, Demo}
use Rattle.tc_words.specs.declared.run.Options.{Options}

-- A run from what is known at first, over windows of at most so many lines, of whose replies so much is shown, that ended by this fault or
-- by none. Where it ended by a generation that is not there, `spent` holds.
pub record RanTo (shown : Shown) (spent : Type 0) (fault : Option RunFault) (first : Sight) (most : ℕ) (left left' taken taken' : Option (List ℕ)) : Type 0 where
  pub ending : Ending
  pub by : EndsAs spent fault ending
  pub ran : Ran shown (whole_of first) most ending left left' taken taken'

-- The same, and what it left: of one that ended by no fault, it stands at the world behind all windows. It did not end by damage of a
-- partition of which it was known what it stores.
pub record RanLeaving {K : Type 0} (shown : Shown) (holds : K → Sight → Type 0) (keeps : K → Option ℕ → World → World → Type 0) (spent : K → Type 0) (fault : Option RunFault) (first : Sight) (most : ℕ) (unread unread' taken taken' : Option (List ℕ)) (k : K) : Type 0 where
  pub run : RanTo shown (spent k) fault first most unread unread' taken taken'
  pub sound : IfKnown first (λ only w. IfSome fault (IsNoDamage only))
  pub left : IsLeft holds keeps k first (λ w. worlds_left run.ending w run.ran.answered run.ran.last)
  pub stands : fault ≡ None → IfKnown first (λ only w. holds k (sees only (behind w run.ran.answered)))

-- the limits that options set
abbrev pub limits_of : Options → Limits
limits_of options = record { names = options.names; docs = options.docs }

-- the policy that options ask for; no bytes stand for a merge of all
abbrev pub policy_asked : Options → Policy
policy_asked options = if nat_eq options.limit 0 then Constant options.merge else Sized options.merge options.limit

-- Each read from those told at first on to those told now was asked for when the sink, which had taken `base`, had
-- accepted the replies to the windows that had closed among the bytes given before it, and no more.
abbrev pub ReadsPromptly : Sight → ℕ → Option (List ℕ) → Option (List Moment) → Option (List Moment) → Type 0
ReadsPromptly first most base told told' = IsPrompt (IsDue each_line (whole_of first) most base) told told'

-- ---- what is asked for

-- the words ask for a run
abbrev pub IsRun : Option Invocation → Type 0
IsRun (Some (Run options)) = Unit {0}
IsRun (Some (Demo n options)) = ⊥
IsRun None = ⊥

-- a demonstration has no more commands than words may ask for
abbrev pub AreFewCommands : Invocation → Type 0
AreFewCommands (Run options) = Unit {0}
AreFewCommands (Demo n options) = n ≤ max_commands

-- What is asked for is a run over the input, of whose replies each line is shown, or a demonstration: a run over the generated
-- input, of whose replies two lines are shown, and nothing before all replies are there.
abbrev pub RunsOver : Invocation → Option (List ℕ) → Option (List ℕ) → (Shown → Option (List ℕ) → Option (List ℕ) → Type 0) → Type 0
RunsOver (Run options) left left' RunOf = RunOf each_line left left'
RunsOver (Demo n options) left left' RunOf = (rest : Option (List ℕ)) × RunOf (two_lines n) (Some (input_of n)) rest

-- the reads of a run, over windows of at most so many lines, were prompt; a demonstration reads nothing
abbrev pub AskedPromptly : Invocation → Sight → ℕ → Option (List ℕ) → Option (List Moment) → Option (List Moment) → Type 0
AskedPromptly (Run options) first most base told told' = ReadsPromptly first most base told told'
AskedPromptly (Demo n options) first most base told told' = told' ≡ told

-- the same for what the words ask for; where they are no command line there was no read
abbrev pub ServedPromptly : Sight → Option Invocation → Option (List ℕ) → Option (List Moment) → Option (List Moment) → Type 0
ServedPromptly first (Some asked) base told told' = AskedPromptly asked first (options_asked asked).window base told told'
ServedPromptly first None base told told' = told' ≡ told
