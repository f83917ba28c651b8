-- What a session holds and what the sink accepted of it, by the windows of the lines that came.
use Rattle.std.specs.Prelude.{◌≡◌, ◌<◌, ◌≤◌, ℕ, length, List, [], ◌∷◌, ◌++◌, sum_by, Option, Some}
use Rattle.std.specs.Io.KnownBytes.{Appends}
use Rattle.tc_request_model.specs.Request.{request_of}
use Rattle.tc_request_model.specs.Reply.{Reply}
use Rattle.tc_run_model.specs.World.{World}
use Rattle.tc_run_model.specs.Known.{MayReply}
use Rattle.tc_run_model.specs.Windows.{BeginsWith, Window, Windows, is_control, line_size, max_window, unless_empty, with_line}
use Rattle.tc_run_model.specs.Course.{requests_for, requests_in, each_line, Took, worlds_left}
use Rattle.tc_server.specs.Asked.{request_asked, is_whole}
use Rattle.tc_keeper.specs.Faults.{Stop, failed_writing, gave_up, stop_of, ending_at, IsNoDamage}
use Rattle.tc_keeper.specs.Holds.{IsLeft}
use Rattle.tc_keeper.specs.Sight.{sight_behind, whole_of, Sight, IfKnown}
use Rattle.tc_server.specs.Window.{requests_of, IsSoundWindow}
use Rattle.tc_server.specs.declared.answer.Action.{Action}
use Rattle.tc_keeper.specs.declared.fault.RunFault.{RunFault}
use Rattle.tc_server.specs.declared.session.Session.{Session}

-- what a line asks for was read off, and its size was told
pub record AsksFor (line : List ℕ) (asked : Action) (size : ℕ) : Type 0 where
  pub request : request_asked asked ≡ request_of line
  pub whole : is_whole asked ≡ is_control (request_of line)
  pub has_size : size ≡ line_size line

-- Between two lines the store may be asked, and the open window has room for one line more.
pub record IsReady {K : Type 0} (may_ask : K → Type 0) (session : Session K) : Type 0 where
  pub works : may_ask session.keeper
  pub sound : IsSoundWindow session.window
  pub room : session.window.bytes < max_window
  pub lines : length session.window.refusals.items < session.window.limit
  pub limit : session.window.limit ≤ 4096

-- The session stands behind the windows: what has closed was answered from the first world and written, in order, to a
-- sink that had taken `base`; what is open is held.
pub record IsAt {K : Type 0} (holds : K → Sight → Type 0) (first : Sight) (base : Option (List ℕ)) (ws : Windows) (session : Session K) (taken : Option (List ℕ)) : Type 0 where
  pub replies : List Reply
  pub given : MayReply (requests_in ws.closed) (whole_of first) replies
  pub written : Appends base taken (each_line replies)
  pub store : holds session.keeper (sight_behind first ws.closed)
  pub requests : requests_of session.window ≡ requests_for ws.open_lines
  pub bytes : session.window.bytes ≡ sum_by line_size ws.open_lines

-- the windows when the open one has closed, where it has a line
abbrev pub with_end : Windows → Windows
with_end ws = record { closed = ws.closed ++ unless_empty ws.open_lines; open_lines = [] }

-- windows, and the one behind them at which a run ended
abbrev pub up_to : Stop → List Window → Window → List Window
up_to (failed_writing n) answered last = answered ++ last ∷ []
up_to gave_up answered last = answered ++ unless_empty last

-- Of windows that closed, these were answered and written, and at the one behind them the run ended.
pub record EndsAmong {K : Type 0} (holds : K → Sight → Type 0) (keeps : K → Option ℕ → World → World → Type 0) (first : Sight) (stop : Stop) (base : Option (List ℕ)) (closed : List Window) (taken : Option (List ℕ)) (k : K) : Type 0 where
  pub answered : List Window
  pub last : Window
  pub replies : List Reply
  pub given : MayReply (requests_in answered) (whole_of first) replies
  pub among : BeginsWith closed (up_to stop answered last)
  pub took : Took each_line (ending_at stop) (whole_of first) answered last replies base taken
  pub left : IsLeft holds keeps k first (λ w. worlds_left (ending_at stop) w answered last)

-- what was done by a fault in the windows that closed
pub record StopsIn {K : Type 0} (holds : K → Sight → Type 0) (keeps : K → Option ℕ → World → World → Type 0) (first : Sight) (fault : RunFault) (base : Option (List ℕ)) (closed : List Window) (taken : Option (List ℕ)) (k : K) : Type 0 where
  pub stop : Stop
  pub by : stop_of fault ≡ Some stop
  pub sound : IfKnown first (λ only w. IsNoDamage only fault)
  pub ends : EndsAmong holds keeps first stop base closed taken k

-- from behind any windows the session goes to behind these windows with the line
abbrev pub TakesLine : {K : Type 0} → (K → Sight → Type 0) → List ℕ → Session K → Option (List ℕ) → Session K → Option (List ℕ) → Type 0
TakesLine holds line old taken new taken' =
    (first : Sight) (base : Option (List ℕ)) (ws : Windows) → IsAt holds first base ws old taken → IsAt holds first base (with_line old.window.limit ws line) new taken'

-- behind any windows the session stops in those that the line closes
abbrev pub FailsAtLine : {K : Type 0} → (K → Sight → Type 0) → (K → Option ℕ → World → World → Type 0) → RunFault → List ℕ → Session K → Option (List ℕ) → Session K → Option (List ℕ) → Type 0
FailsAtLine holds keeps fault line old taken new taken' =
    (first : Sight) (base : Option (List ℕ)) (ws : Windows) → IsAt holds first base ws old taken → StopsIn holds keeps first fault base (with_line old.window.limit ws line).closed taken' new.keeper
