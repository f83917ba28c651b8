-- A demonstration: a run over the generated input, of whose replies two lines are written.
use Rattle.std.specs.Prelude.{◌≡◌, ◌+◌, ◌^◌, ◌<◌, ℕ, List, [], ◌∷◌, ◌++◌, length, take, Option, Some, None}
use Rattle.std.specs.Io.KnownBytes.{Appends, Keeps}
use Rattle.tc_gen.specs.Generated.{input_of}
use Rattle.tc_gen.specs.TwoLines.{Heard, heard_of, two_lines}
use Rattle.tc_request_model.specs.Reply.{Reply}
use Rattle.tc_run_model.specs.World.{World}
use Rattle.tc_run_model.specs.Known.{MayReply}
use Rattle.tc_run_model.specs.Windows.{BeginsWith, Window, Windows, unless_empty, windows_of}
use Rattle.tc_run_model.specs.Course.{each_line, requests_for, requests_in, stopped, worlds_left}
use Rattle.tc_server.specs.Ending.{RanLeaving}
use Rattle.tc_keeper.specs.Faults.{IsNoDamage}
use Rattle.tc_keeper.specs.Holds.{IsLeft}
use Rattle.tc_keeper.specs.Sight.{sight_after, whole_of, Sight, IfKnown}
use Rattle.tc_server.specs.Stage.{IsAt}
use Rattle.tc_keeper.specs.declared.fault.RunFault.{RunFault}
use Rattle.tc_keeper.specs.declared.fault.RunFault.TheVariants.{Usage, Read, Write, Spent, Disk, Damaged, Memory, Layout}
use Rattle.tc_server.specs.declared.session.Session.{Session}

-- ---- how it ends

-- A demonstration of so many commands that ended by this fault, or by none, and what it left: a run over the whole generated
-- input, of whose replies nothing is written before all are there, and then two lines. So these stand as the replies of the last
-- window.
abbrev pub DemoLeaving : {K : Type 0} → (K → Sight → Type 0) → (K → Option ℕ → World → World → Type 0) → (K → Type 0) → ℕ → Option RunFault → Sight → ℕ → Option (List ℕ) → Option (List ℕ) → K → Type 0
DemoLeaving holds keeps spent commands fault first most taken taken' k = RanLeaving (two_lines commands) holds keeps spent fault first most (Some (input_of commands)) (Some []) taken taken' k

-- ---- line by line

-- The session stands behind the windows, whatever a sink accepted, and the replies to those that have closed were heard.
pub record HasHeard {K : Type 0} (holds : K → Sight → Type 0) (first : Sight) (ws : Windows) (session : Session K) (heard : Heard) : Type 0 where
  pub at : IsAt holds first None ws session None
  pub kept : heard ≡ heard_of at.replies

-- All lines were answered, and the replies to them heard.
pub record HasHeardAll {K : Type 0} (holds : K → Sight → Type 0) (first : Sight) (lines : List (List ℕ)) (k : K) (heard : Heard) : Type 0 where
  pub replies : List Reply
  pub given : MayReply (requests_for lines) (whole_of first) replies
  pub kept : heard ≡ heard_of replies
  pub store : holds k (sight_after (requests_for lines) first)

-- Of these windows some were answered, and at the one behind them, or at none, it ended by this fault.
pub record HasGivenUp {K : Type 0} (holds : K → Sight → Type 0) (keeps : K → Option ℕ → World → World → Type 0) (first : Sight) (fault : RunFault) (closed : List Window) (k : K) : Type 0 where
  pub answered : List Window
  pub last : Window
  pub replies : List Reply
  pub given : MayReply (requests_in answered) (whole_of first) replies
  pub among : BeginsWith closed (answered ++ unless_empty last)
  pub sound : IfKnown first (λ only w. IsNoDamage only fault)
  pub left : IsLeft holds keeps k first (λ w. worlds_left stopped w answered last)

-- there are fewer lines than are counted
abbrev pub AreFew : List (List ℕ) → Type 0
AreFew lines = length lines + 1 < 2 ^ 32

-- the lines of further replies were heard
abbrev pub HearsReplies : Heard → List ℕ → Heard → Type 0
HearsReplies old lines new = (replies more : List Reply) → old ≡ heard_of replies → length (replies ++ more) < 2 ^ 32 → lines ≡ each_line more → new ≡ heard_of (replies ++ more)

-- all windows of lines, also the one that is open
abbrev pub ended : Windows → List Window
ended ws = ws.closed ++ unless_empty ws.open_lines

-- from behind any lines the session goes to behind these with one more, and the replies are heard
abbrev pub HearsLine : {K : Type 0} → (K → Sight → Type 0) → List ℕ → Session K → Heard → Session K → Heard → Type 0
HearsLine holds line old heard new heard' =
    (first : Sight) (seen : List (List ℕ)) → AreFew seen → HasHeard holds first (windows_of old.window.limit seen) old heard → HasHeard holds first (windows_of old.window.limit (seen ++ line ∷ [])) new heard'

-- or it ends in the windows of those lines
abbrev pub GivesUpAtLine : {K : Type 0} → (K → Sight → Type 0) → (K → Option ℕ → World → World → Type 0) → RunFault → List ℕ → Session K → Heard → Session K → Type 0
GivesUpAtLine holds keeps fault line old heard new =
    (first : Sight) (seen : List (List ℕ)) → HasHeard holds first (windows_of old.window.limit seen) old heard → HasGivenUp holds keeps first fault (windows_of old.window.limit (seen ++ line ∷ [])).closed new.keeper

-- the same of the end of the lines
abbrev pub HearsEnd : {K : Type 0} → (K → Sight → Type 0) → Session K → Heard → Session K → Heard → Type 0
HearsEnd holds old heard new heard' =
    (first : Sight) (seen : List (List ℕ)) → AreFew seen → HasHeard holds first (windows_of old.window.limit seen) old heard → HasHeardAll holds first seen new.keeper heard'

abbrev pub GivesUpAtEnd : {K : Type 0} → (K → Sight → Type 0) → (K → Option ℕ → World → World → Type 0) → RunFault → Session K → Heard → Session K → Type 0
GivesUpAtEnd holds keeps fault old heard new =
    (first : Sight) (seen : List (List ℕ)) → HasHeard holds first (windows_of old.window.limit seen) old heard → HasGivenUp holds keeps first fault (ended (windows_of old.window.limit seen)) new.keeper

-- ---- faults

-- A session whose sink is in memory fails to write only for want of it.
abbrev pub fault_in_memory : RunFault → RunFault
fault_in_memory Usage = Usage
fault_in_memory Read = Read
fault_in_memory (Write n) = Memory
fault_in_memory Spent = Spent
fault_in_memory (Disk p) = Disk p
fault_in_memory (Damaged p damage) = Damaged p damage
fault_in_memory Memory = Memory
fault_in_memory (Layout p found found_of asked_of) = Layout p found found_of asked_of

-- The lines were not accepted whole: the first bytes of them, or nothing where memory was wanting for them.
abbrev pub WroteSome : RunFault → List ℕ → Option (List ℕ) → Option (List ℕ) → Type 0
WroteSome (Write n) lines taken taken' = (n < length lines) × Appends taken taken' (take n lines)
WroteSome Memory lines taken taken' = Keeps taken taken'
WroteSome _ lines taken taken' = ⊥
