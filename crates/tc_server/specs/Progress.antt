-- How far a run has come between two lines.
use Rattle.std.specs.Prelude.{◌≡◌, ℕ, ◌⊎◌, Bool, true, false, List, ◌++◌, length, Option, Some, None}
use Rattle.std.specs.Io.KnownBytes.{Consumes, IsAtEnd}
use Rattle.tc_edge.specs.Moments.{Moment, GavePromptly}
use Rattle.tc_lines.specs.Answer.{Reading}
use Rattle.tc_model.specs.Lines.{lines_of, whole_lines}
use Rattle.tc_run_model.specs.World.{World}
use Rattle.tc_run_model.specs.Windows.{windows_of}
use Rattle.tc_run_model.specs.Course.{each_line, IsDue}
use Rattle.tc_server.specs.Ending.{RanLeaving, ReadsPromptly}
use Rattle.tc_keeper.specs.Sight.{whole_of, Sight}
use Rattle.tc_server.specs.Stage.{IsAt}
use Rattle.tc_keeper.specs.declared.fault.RunFault.{RunFault}
use Rattle.tc_server.specs.declared.session.Session.{Session}

-- These lines were seen of the input, and these bytes of it are held, whatever comes behind.
pub record StandsBehind (input : List ℕ) (seen : List (List ℕ)) (held : List ℕ) : Type 0 where
  pub lines : (rest : List ℕ) → lines_of (input ++ rest) ≡ seen ++ lines_of (held ++ rest)
  pub whole : (rest : List ℕ) → whole_lines (input ++ rest) ≡ seen ++ whole_lines (held ++ rest)

-- the input is at its end, and these are its lines
pub record HasSeenAll (input : List ℕ) (seen : List (List ℕ)) (left : Option (List ℕ)) : Type 0 where
  pub at_end : IsAtEnd left
  pub lines : lines_of input ≡ seen

-- The reader has seen these lines, of the source that had `begun` left.
pub record HasSeen (seen : List (List ℕ)) (reading : Reading) (begun left : Option (List ℕ)) : Type 0 where
  pub input : List ℕ
  pub consumed : Consumes begun left input
  pub counted : reading.taken ≡ length input
  pub place : ((reading.ended ≡ false) × StandsBehind input seen reading.held) ⊎ ((reading.ended ≡ true) × HasSeenAll input seen left)

-- Lines were seen, and the session stands behind their windows. The reads from those told at first on to those told now
-- were prompt.
pub record HasCome {K : Type 0} (holds : K → Sight → Type 0) (first : Sight) (reading : Reading) (session : Session K) (begun left base taken : Option (List ℕ)) (told told' : Option (List Moment)) : Type 0 where
  pub seen : List (List ℕ)
  pub heard : HasSeen seen reading begun left
  pub at : IsAt holds first base (windows_of session.window.limit seen) session taken
  pub prompt : GavePromptly (IsDue each_line (whole_of first) session.window.limit base) heard.input told told'

-- a run goes on where more lines may come, or has ended
abbrev pub ComesTo : {K : Type 0} → (K → Sight → Type 0) → (K → Option ℕ → World → World → Type 0) → (K → Type 0) → Sight → Bool → ℕ → Reading → Session K → Option (List ℕ) → Option (List ℕ) → Option (List ℕ) → Option (List ℕ) → Option (List Moment) → Option (List Moment) → Type 0
ComesTo holds keeps spent first true most reading session begun left base taken told told' = HasCome holds first reading session begun left base taken told told'
ComesTo holds keeps spent first false most reading session begun left base taken told told' = RanLeaving each_line holds keeps spent None first most begun left base taken session.keeper

-- one more line was taken, or the input has ended
abbrev pub Goes : {K : Type 0} → (K → Sight → Type 0) → (K → Option ℕ → World → World → Type 0) → (K → Type 0) → Bool → Reading → Session K → Option (List ℕ) → Option (List ℕ) → Option (List Moment) → Reading → Session K → Option (List ℕ) → Option (List ℕ) → Option (List Moment) → Type 0
Goes holds keeps spent more reading session left taken told reading' session' left' taken' told' =
    (first : Sight) (begun base : Option (List ℕ)) (before : Option (List Moment)) → HasCome holds first reading session begun left base taken before told
    → ComesTo holds keeps spent first more session.window.limit reading' session' begun left' base taken' before told'

-- the run has ended by a fault
abbrev pub Ends : {K : Type 0} → (K → Sight → Type 0) → (K → Option ℕ → World → World → Type 0) → (K → Type 0) → RunFault → Reading → Session K → Option (List ℕ) → Option (List ℕ) → Option (List ℕ) → Option (List ℕ) → Option (List Moment) → Session K → Type 0
Ends holds keeps spent fault reading session left left' taken taken' told session' =
    (first : Sight) (begun base : Option (List ℕ)) (before : Option (List Moment)) → HasCome holds first reading session begun left base taken before told
    → RanLeaving each_line holds keeps spent (Some fault) first session.window.limit begun left' base taken' session'.keeper

-- behind any lines that came, the reads that were made now were prompt
abbrev pub AsksPromptly : {K : Type 0} → (K → Sight → Type 0) → Reading → Session K → Option (List ℕ) → Option (List ℕ) → Option (List Moment) → Option (List Moment) → Type 0
AsksPromptly holds reading session left taken told told' =
    (first : Sight) (begun base : Option (List ℕ)) (before : Option (List Moment)) → HasCome holds first reading session begun left base taken before told
    → ReadsPromptly first session.window.limit base before told'
