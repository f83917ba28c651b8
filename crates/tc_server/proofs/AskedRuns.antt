-- A run and a demonstration, of which the same is said.
use Rattle.std.proofs.Common.{◌≡◌, ℕ, List, [], length, refl, subst, arith}
use Rattle.std.specs.Prelude.{Option, Some, None, IfSome}
use Rattle.tc_gen.specs.Generated.{input_of}
use Rattle.tc_gen.specs.TwoLines.{two_lines}
use Rattle.tc_run_model.specs.Course.{Shown, each_line}
use Rattle.tc_run_model.specs.World.{World}
use Rattle.tc_store.specs.Disk.{Disk}
use Rattle.tc_words.proofs.OptionRanges as words
use Rattle.tc_words.specs.Options.{options_asked}
use Rattle.tc_words.specs.declared.asked.Invocation.{Invocation}
use Rattle.tc_words.specs.declared.asked.Invocation.TheVariants.{Run, Demo}
use Rattle.tc_server.specs.Ending.{AreFewCommands, RanLeaving, RunsOver}
use Rattle.tc_keeper.specs.Faults.{IsOfRun}
use Rattle.tc_server.specs.OverFiles.{AskedOver, RanOver}
use Rattle.tc_keeper.specs.Sight.{IfKnown, Sight}
use Rattle.tc_keeper.specs.declared.fault.RunFault.{RunFault}
use Rattle.tc_server.proofs.DemoRuns.{nothing_shown}
use Rattle.tc_server.proofs.LeftFiles.{ran_over, LeavesKits}

-- what is said of a run over files with the options of what is asked for
abbrev pub OverOf : Invocation → Option RunFault → Sight → (ℕ → List Disk) → Option (List ℕ) → Option (List ℕ) → List (List Disk) → Shown → Option (List ℕ) → Option (List ℕ) → Type 0
OverOf asked fault first files taken taken' kits shown unread unread' = RanOver shown fault first (options_asked asked) files unread unread' taken taken' kits

-- what follows of both
pub runs_so : (asked : Invocation) (left left' : Option (List ℕ)) (P Q : Shown → Option (List ℕ) → Option (List ℕ) → Type 0) → ((shown : Shown) (unread unread' : Option (List ℕ)) → P shown unread unread' → Q shown unread unread') → RunsOver asked left left' P → RunsOver asked left left' Q
runs_so (Run options) left left' P Q so ran = so each_line left left' ran
runs_so (Demo n options) left left' P Q so ran = (ran.0, so (two_lines n) (Some (input_of n)) ran.0 ran.1)

-- what holds where nothing is read, of both of which nothing is shown before a reply
pub runs_unread : (asked : Invocation) (left : Option (List ℕ)) (P : Shown → Option (List ℕ) → Option (List ℕ) → Type 0) → ((shown : Shown) → shown [] ≡ [] → (unread : Option (List ℕ)) → P shown unread unread) → RunsOver asked left left P
runs_unread (Run options) left P holds = holds each_line refl left
runs_unread (Demo n options) left P holds = (Some (input_of n), holds (two_lines n) (nothing_shown n [] (λ is. absurd (omega (arith, is)))) (Some (input_of n)))

-- words ask for few commands
pub few_commands : (asked : Invocation) → words.HasFewCommands asked → AreFewCommands asked
few_commands (Run options) few = tt
few_commands (Demo n options) few = few.1

-- over open partitions, whose files are these where they are closed
pub asked_over : {K : Type 0} (holds : K → Sight → Type 0) (keeps : K → Option ℕ → World → World → Type 0) (rests : Type 0) (spent : K → Type 0) (asked : Invocation)
    (fault : Option RunFault) (first : Sight) (files : ℕ → List Disk) (most : ℕ) (left left' taken taken' : Option (List ℕ)) (k : K) (kits : List (List Disk))
    → most ≡ (options_asked asked).window → LeavesKits holds keeps rests (options_asked asked) k kits → (fault ≡ None → rests) → IfKnown first (λ only w. length w.parts ≡ (options_asked asked).partitions) → IfSome fault IsOfRun
    → RunsOver asked left left' (λ shown unread unread'. RanLeaving shown holds keeps spent fault first most unread unread' taken taken' k) → AskedOver asked fault first files left left' taken taken' kits
asked_over holds keeps rests spent asked fault first files most left left' taken taken' k kits same leaves rest many kind ran =
    runs_so asked left left' (λ shown unread unread'. RanLeaving shown holds keeps spent fault first most unread unread' taken taken' k) (OverOf asked fault first files taken taken' kits)
    (λ shown unread unread' r. ran_over shown holds keeps rests spent fault first (options_asked asked) files unread unread' taken taken' k kits leaves rest many kind
    (subst (λ m. RanLeaving shown holds keeps spent fault first m unread unread' taken taken' k) same r))
    ran
