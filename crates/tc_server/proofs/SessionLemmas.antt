-- What a session does with a line, said of the windows that it stands behind.
use Rattle.std.proofs.Common.{◌≡◌, ℕ, ◌+◌, ◌<◌, ◌≤◌, true, false, List, [], ◌∷◌, ◌++◌, length, take, length-append, inl, refl, ap, sym, subst, ◌∙◌, append-nil, arith}
use Rattle.std.specs.Prelude.{Option, nat_le, ◌||◌}
use Rattle.std.specs.Io.KnownBytes.{Appends}
use Rattle.std.proofs.KnownBytes.{Appends-trans, Appends-kept}
use Rattle.std.proofs.lemmas.List.Sums.{sum_by-append}
use Rattle.std.proofs.lemmas.Grind.{flat_map-append}
use Rattle.std.proofs.Math.Seq.{take-append-add}
use Rattle.std.proofs.lemmas.List.{map-append, length-map}
use Rattle.tc_request_model.specs.Request.{request_of}
use Rattle.tc_model.specs.Limits.{max_line}
use Rattle.tc_request_model.specs.Reply.{Reply, reply_line}
use Rattle.tc_run_model.specs.World.{World, after_all}
use Rattle.tc_run_model.specs.Known.{MayReply}
use Rattle.tc_run_model.specs.Windows.{BeginsWith, Window, Windows, is_control, is_full, line_size, max_window, unless_empty, with_open, with_line, lines_in}
use Rattle.tc_run_model.specs.Course.{requests_for, requests_in, behind, each_line, worlds_left}
use Rattle.tc_run_model.proofs.WindowLaws.{lines_in-append, lines_in-unless_empty, closed-with_line}
use Rattle.tc_run_model.proofs.ReplyLaws.{after_all-append, replied-none}
use Rattle.tc_server.specs.Asked.{request_asked, is_whole}
use Rattle.tc_keeper.specs.Faults.{Stop, failed_writing, gave_up, ending_at, IsNoDamage}
use Rattle.tc_keeper.specs.Holds.{AreWritten, HaveFailed, IsLeft, IsLeftAt, WritesPart, worlds_at}
use Rattle.tc_keeper.specs.Sight.{nothing, sees, sight_after, sight_behind, whole_of, Sight}
use Rattle.tc_keeper.specs.Together.{requests_routed}
use Rattle.tc_server.specs.Window.{request_refused, requests_of, IsSoundWindow}
use Rattle.tc_server.specs.Stage.{AsksFor, IsAt, IsReady, with_end, EndsAmong, StopsIn}
use Rattle.tc_server.proofs.Mixing.{length-mixed}
use Rattle.tc_server.proofs.SightLaws.{if_known, known_before, replied_after, replied_both}
use Rattle.std.proofs.lemmas.Bool.Decides.{nat_tests}
use Rattle.tc_command.specs.declared.refusals.Refusal.TheVariants.{Oversized}
use Rattle.tc_server.specs.declared.answer.Action.{Action}
use Rattle.tc_server.specs.declared.answer.Action.TheVariants.{Refuse}
use Rattle.tc_keeper.specs.declared.fault.RunFault.{RunFault}
use Rattle.tc_keeper.specs.declared.fault.RunFault.TheVariants.{Memory}
use Rattle.tc_server.specs.declared.session.Session.{Session}
use Rattle.tc_server.specs.declared.window.Window.{Window as CodeWindow}

-- ---- windows, behind which one more stands

pub requests-unless_empty : (closed : List Window) (window : Window) → requests_in (closed ++ unless_empty window) ≡ requests_in closed ++ requests_for window
requests-unless_empty closed window =
    ap requests_for (lines_in-append closed (unless_empty window) ∙ ap (λ lines. lines_in closed ++ lines) (lines_in-unless_empty window))
    ∙ map-append request_of (lines_in closed) window

behind_window : (closed : List Window) (window : Window) (w : World) → behind w (closed ++ unless_empty window) ≡ after_all (requests_for window) (behind w closed)
behind_window closed window w = ap (λ rs. after_all rs w) (requests-unless_empty closed window) ∙ after_all-append (requests_in closed) (requests_for window) w

sight_window : (closed : List Window) (window : Window) (first : Sight) → sight_behind first (closed ++ unless_empty window) ≡ sight_after (requests_for window) (sight_behind first closed)
sight_window closed window (sees only w) = ap (sees only) (behind_window closed window w)
sight_window closed window nothing = refl

each_line-append : (xs ys : List Reply) → each_line (xs ++ ys) ≡ each_line xs ++ each_line ys
each_line-append xs ys = flat_map-append reply_line xs ys

-- ---- a line

-- a session stands where it stood while it keeps its store and its window, whatever reads its lines
pub stands_still : {K : Type 0} (holds : K → Sight → Type 0) (first : Sight) (base taken : Option (List ℕ)) (ws : Windows) (old new : Session K)
    → new.keeper ≡ old.keeper → new.window ≡ old.window → IsAt holds first base ws old taken → IsAt holds first base ws new taken
stands_still holds first base taken ws old new same_keeper same_window at = record {
  replies = at.replies;
  given = at.given;
  written = at.written;
  store = subst (λ k. holds k (sight_behind first ws.closed)) (sym same_keeper) at.store;
  requests = ap requests_of same_window ∙ at.requests;
  bytes = ap (λ w. w.bytes) same_window ∙ at.bytes;
}

pub stays_ready : {K : Type 0} (may_ask : K → Type 0) (old new : Session K) → new.keeper ≡ old.keeper → new.window ≡ old.window → IsReady may_ask old → IsReady may_ask new
stays_ready may_ask old new same_keeper same_window ready = record {
  works = subst may_ask (sym same_keeper) ready.works;
  sound = subst IsSoundWindow (sym same_window) ready.sound;
  room = subst (λ w. w.bytes < max_window) (sym same_window) ready.room;
  lines = subst (λ w. length w.refusals.items < w.limit) (sym same_window) ready.lines;
  limit = subst (λ w. w.limit ≤ 4096) (sym same_window) ready.limit;
}

-- a line that was pushed is held in the open window
pub holds_line : {K : Type 0} (holds : K → Sight → Type 0) (first : Sight) (base taken : Option (List ℕ)) (ws : Windows) (line : List ℕ) (asked : Action) (size : ℕ) (old new : Session K)
    → AsksFor line asked size → IsAt holds first base ws old taken
    → new.keeper ≡ old.keeper → requests_of new.window ≡ requests_of old.window ++ request_asked asked ∷ [] → new.window.bytes ≡ old.window.bytes + size
    → IsAt holds first base (record { closed = ws.closed; open_lines = ws.open_lines ++ line ∷ [] }) new taken
holds_line holds first base taken ws line asked size old new asks at same requests bytes = record {
  replies = at.replies;
  given = at.given;
  store = subst (λ k. holds k (sight_behind first ws.closed)) (sym same) at.store;
  requests = requests ∙ ap (λ rs. rs ++ request_asked asked ∷ []) at.requests ∙ ap (λ r. requests_for ws.open_lines ++ r ∷ []) asks.request
      ∙ sym (map-append request_of ws.open_lines (line ∷ []));
  bytes = bytes ∙ omega (arith, at.bytes, asks.has_size, sum_by-append line_size ws.open_lines (line ∷ []));
  written = at.written;
}

-- the window has as many lines as the code finds
lines_found : {K : Type 0} (holds : K → Sight → Type 0) (first : Sight) (base taken : Option (List ℕ)) (ws : Windows) (session : Session K) → IsSoundWindow session.window → IsAt holds first base ws session taken
    → length session.window.refusals.items ≡ length ws.open_lines
lines_found holds first base taken ws session sound at =
    sym (length-mixed request_refused session.window.refusals.items (requests_routed session.window.commands.items) (sound.whole ∙ sym (length-map session.window.commands.items _)))
    ∙ ap length at.requests ∙ length-map ws.open_lines request_of

-- the open window is full where the code finds it so
pub is_full-found : {K : Type 0} (holds : K → Sight → Type 0) (first : Sight) (limit : ℕ) (base taken : Option (List ℕ)) (ws : Windows) (session : Session K) → IsSoundWindow session.window → IsAt holds first base ws session taken
    → (nat_le limit (length session.window.refusals.items) || nat_le 4194304 session.window.bytes) ≡ is_full limit ws.open_lines
is_full-found holds first limit base taken ws session sound at =
    rw (lines_found holds first base taken ws session sound at, at.bytes) refl

-- a window that was answered and written has closed
pub closes : {K : Type 0} (holds : K → Sight → Type 0) (first : Sight) (base taken taken' : Option (List ℕ)) (ws : Windows) (old new : Session K)
    → IsAt holds first base ws old taken
    → ((known : Sight) → holds old.keeper known → AreWritten holds known (requests_of old.window) taken taken' new.keeper)
    → requests_of new.window ≡ [] → new.window.bytes ≡ 0
    → IsAt holds first base (with_end ws) new taken'
closes holds first base taken taken' ws old new at writes requests bytes =
    let all = requests-unless_empty ws.closed ws.open_lines in
    let written = subst (λ rs. AreWritten holds (sight_behind first ws.closed) rs taken taken' new.keeper) at.requests (writes (sight_behind first ws.closed) at.store) in record {
      replies = at.replies ++ written.replies;
      given = subst (λ rs. MayReply rs (whole_of first) (at.replies ++ written.replies)) (sym all) (replied_both (requests_in ws.closed) (requests_for ws.open_lines) first at.replies written.replies at.given written.given);
      written = subst (Appends base taken') (sym (each_line-append at.replies written.replies)) (Appends-trans base taken taken' (each_line at.replies) (each_line written.replies) at.written written.written);
      store = subst (λ known. holds new.keeper known) (sym (sight_window ws.closed ws.open_lines first)) written.held;
      requests = requests;
      bytes = bytes;
    }

-- ---- what a fault leaves

-- windows begin with themselves, and with no more
pub BeginsWith-refl : (ws : List Window) → BeginsWith ws ws
BeginsWith-refl ws = record { more = []; goes_on = sym (append-nil ws) }

BeginsWith-none : (whole ws : List Window) → BeginsWith whole ws → BeginsWith whole (ws ++ unless_empty [])
BeginsWith-none whole ws among = subst (BeginsWith whole) (sym (append-nil ws)) among

-- a store that stands behind windows is left there
stands_left : {K : Type 0} (holds : K → Sight → Type 0) (keeps : K → Option ℕ → World → World → Type 0) (first : Sight) (closed : List Window) (k : K) → holds k (sight_behind first closed)
    → IsLeft holds keeps k first (λ w. worlds_left (ending_at gave_up) w closed [])
stands_left holds keeps (sees only w) closed k held = record { one = behind w closed; other = behind w closed; one_of = inl refl; other_of = inl refl; left = inl held }
stands_left holds keeps nothing closed k held = tt

-- where memory is wanting before more is answered, the windows that had closed were answered
pub stops_before : {K : Type 0} (holds : K → Sight → Type 0) (keeps : K → Option ℕ → World → World → Type 0) (first : Sight) (base taken : Option (List ℕ))
    (ws : Windows) (session : Session K) (k : K) (whole : List Window) → IsAt holds first base ws session taken → k ≡ session.keeper → BeginsWith whole ws.closed
    → StopsIn holds keeps first Memory base whole taken k
stops_before holds keeps first base taken ws session k whole at same among = record {
  stop = gave_up;
  by = refl;
  sound = if_known first (λ only. Unit {0}) (λ only w is. tt);
  ends = record {
    answered = ws.closed;
    last = [];
    replies = at.replies;
    given = at.given;
    among = BeginsWith-none whole ws.closed among;
    took = at.written;
    left = stands_left holds keeps first ws.closed k (subst (λ k. holds k (sight_behind first ws.closed)) (sym same) at.store);
  };
}

pub stops_between : {K : Type 0} (holds : K → Sight → Type 0) (keeps : K → Option ℕ → World → World → Type 0) (first : Sight) (base taken : Option (List ℕ))
    (ws : Windows) (session : Session K) → IsAt holds first base ws session taken → StopsIn holds keeps first Memory base ws.closed taken session.keeper
stops_between holds keeps first base taken ws session at = stops_before holds keeps first base taken ws session session.keeper ws.closed at refl (BeginsWith-refl ws.closed)

-- the same where the line that came is in no window yet
pub fails_before : {K : Type 0} (holds : K → Sight → Type 0) (keeps : K → Option ℕ → World → World → Type 0) (first : Sight) (limit : ℕ) (base taken : Option (List ℕ)) (ws : Windows) (line : List ℕ) (session : Session K) (k : K) → IsAt holds first base ws session taken → k ≡ session.keeper
    → StopsIn holds keeps first Memory base (with_line limit ws line).closed taken k
fails_before holds keeps first limit base taken ws line session k at same = stops_before holds keeps first base taken ws session k (with_line limit ws line).closed at same (closed-with_line limit ws line)

-- a window that has replies has lines
unless_empty-answered : (known : Option World) (window : Window) (replies : List Reply) (n : ℕ) → MayReply (requests_for window) known replies → n < length (each_line replies) → unless_empty window ≡ window ∷ []
unless_empty-answered known [] [] n given h = absurd (omega (arith, h))
unless_empty-answered known [] (a ∷ more) n given h = absurd (replied-none known a more given)
unless_empty-answered known (line ∷ lines) replies n given h = refl

-- the first bytes of a window's replies, behind those of other windows
first_bytes : (base taken taken' : Option (List ℕ)) (before more : List Reply) (n : ℕ) → Appends base taken (each_line before) → Appends taken taken' (take n (each_line more))
    → Appends base taken' (take (length (each_line before) + n) (each_line (before ++ more)))
first_bytes base taken taken' before more n whole part =
    subst (Appends base taken') (sym (ap (take (length (each_line before) + n)) (each_line-append before more) ∙ take-append-add (each_line before) (each_line more) n))
    (Appends-trans base taken taken' (each_line before) (take n (each_line more)) whole part)

-- the worlds at which a window failed are those at which the run ended
worlds_of_run : {K : Type 0} (holds : K → Sight → Type 0) (keeps : K → Option ℕ → World → World → Type 0) (stop : Stop) (first : Sight) (closed : List Window) (window : Window) (k : K)
    → ((n : ℕ) → stop ≡ failed_writing n → unless_empty window ≡ window ∷ [])
    → IsLeft holds keeps k (sight_behind first closed) (worlds_at stop (requests_for window)) → IsLeft holds keeps k first (λ w. worlds_left (ending_at stop) w closed window)
worlds_of_run holds keeps stop nothing closed window k some left = tt
worlds_of_run holds keeps (failed_writing n) (sees only w) closed window k some left =
    subst (IsLeftAt holds keeps k only) (ap (λ v. v ∷ []) (sym (behind_window closed window w) ∙ ap (λ end. behind w (closed ++ end)) (some n refl))) left
worlds_of_run holds keeps gave_up (sees only w) closed window k some left =
    subst (IsLeftAt holds keeps k only) (ap (λ v. behind w closed ∷ v ∷ []) (sym (behind_window closed window w))) left

-- where a window fails to close, the run ends at it
ends_closing : {K : Type 0} (holds : K → Sight → Type 0) (keeps : K → Option ℕ → World → World → Type 0) (first : Sight) (base taken taken' : Option (List ℕ)) (closed : List Window) (window : Window) (replies : List Reply) (stop : Stop) (k : K) (whole : List Window)
    → MayReply (requests_in closed) (whole_of first) replies → Appends base taken (each_line replies) → WritesPart stop (sight_behind first closed) (requests_for window) taken taken'
    → IsLeft holds keeps k (sight_behind first closed) (worlds_at stop (requests_for window))
    → BeginsWith whole (closed ++ unless_empty window)
    → EndsAmong holds keeps first stop base whole taken' k
ends_closing holds keeps first base taken taken' closed window replies (failed_writing n) k whole given written wrote left among =
    let more = wrote.0 in
    let some = unless_empty-answered (whole_of (sight_behind first closed)) window more n wrote.1 wrote.2 in record {
      answered = closed;
      last = window;
      replies = replies;
      given = given;
      among = subst (λ end. BeginsWith whole (closed ++ end)) some among;
      took = (
        more,
        replied_after (requests_in closed) (requests_for window) first more wrote.1,
        omega (arith, wrote.2, ap length (each_line-append replies more), length-append (each_line replies) (each_line more)),
        first_bytes base taken taken' replies more n written wrote.3,
      );
      left = worlds_of_run holds keeps (failed_writing n) first closed window k (λ m is. some) left;
    }
ends_closing holds keeps first base taken taken' closed window replies gave_up k whole given written wrote left among = record {
  answered = closed;
  last = window;
  replies = replies;
  given = given;
  among = among;
  took = Appends-kept base taken taken' (each_line replies) written wrote;
  left = worlds_of_run holds keeps gave_up first closed window k (λ m is. absurd (cc)) left;
}

pub fails_closing : {K : Type 0} (holds : K → Sight → Type 0) (keeps : K → Option ℕ → World → World → Type 0) (first : Sight) (base taken taken' : Option (List ℕ)) (ws : Windows) (session : Session K) (fault : RunFault) (k : K) (whole : List Window)
    → IsAt holds first base ws session taken → ((known : Sight) → holds session.keeper known → HaveFailed holds keeps fault known (requests_of session.window) taken taken' k)
    → BeginsWith whole (with_end ws).closed
    → StopsIn holds keeps first fault base whole taken' k
fails_closing holds keeps first base taken taken' ws session fault k whole at fails among =
    let known = sight_behind first ws.closed in
    let failed = subst (λ rs. HaveFailed holds keeps fault known rs taken taken' k) at.requests (fails known at.store) in record {
      stop = failed.stop;
      by = failed.by;
      sound = known_before (λ only. IsNoDamage only fault) first ws.closed failed.sound;
      ends = ends_closing holds keeps first base taken taken' ws.closed ws.open_lines at.replies failed.stop k whole at.given at.written failed.wrote failed.left among;
    }

-- ---- the windows when a line has come

pub with_line-plain : (limit : ℕ) (ws : Windows) (line : List ℕ) → is_control (request_of line) ≡ false → with_line limit ws line ≡ with_open limit ws.closed (ws.open_lines ++ line ∷ [])
with_line-plain limit ws line plain = rw plain refl

-- a window with a line at its end is not empty
unless_empty-push : (window : Window) (line : List ℕ) → unless_empty (window ++ line ∷ []) ≡ (window ++ line ∷ []) ∷ []
unless_empty-push [] line = refl
unless_empty-push (first ∷ lines) line = refl

-- the windows of which the open one has got a line
abbrev pub with_pushed : Windows → List ℕ → Windows
with_pushed ws line = record { closed = ws.closed; open_lines = ws.open_lines ++ line ∷ [] }

pub with_line-full : (limit : ℕ) (ws : Windows) (line : List ℕ) → is_control (request_of line) ≡ false → is_full limit (ws.open_lines ++ line ∷ []) ≡ true → with_line limit ws line ≡ with_end (with_pushed ws line)
with_line-full limit ws line plain full =
    with_line-plain limit ws line plain ∙ rw (full, unless_empty-push ws.open_lines line) refl

pub with_line-open : (limit : ℕ) (ws : Windows) (line : List ℕ) → is_control (request_of line) ≡ false → is_full limit (ws.open_lines ++ line ∷ []) ≡ false → with_line limit ws line ≡ with_pushed ws line
with_line-open limit ws line plain open_yet = with_line-plain limit ws line plain ∙ rw open_yet refl

pub with_line-control : (limit : ℕ) (ws : Windows) (line : List ℕ) → is_control (request_of line) ≡ true → with_line limit ws line ≡ with_end (with_pushed (with_end ws) line)
with_line-control limit ws line control = rw control refl

-- ---- a line that is a window of its own

-- what a line asks for is the only request of its window
request_alone : (line : List ℕ) (asked : Action) (size : ℕ) → AsksFor line asked size → request_asked asked ∷ [] ≡ requests_for (line ∷ [])
request_alone line asked size asks = ap (λ r. r ∷ []) asks.request

-- where no window is open, the line that was answered and written has closed as one
pub closes_line : {K : Type 0} (holds : K → Sight → Type 0) (first : Sight) (base taken taken' : Option (List ℕ)) (ws : Windows) (line : List ℕ) (asked : Action) (size : ℕ) (old new : Session K)
    → AsksFor line asked size → IsAt holds first base (with_end ws) old taken → new.window ≡ old.window → requests_of old.window ≡ [] → old.window.bytes ≡ 0
    → ((known : Sight) → holds old.keeper known → AreWritten holds known (request_asked asked ∷ []) taken taken' new.keeper)
    → IsAt holds first base (with_end (with_pushed (with_end ws) line)) new taken'
closes_line holds first base taken taken' ws line asked size old new asks at same none no_bytes writes =
    let closed = (with_end ws).closed in
    let all = requests-unless_empty closed (line ∷ []) in
    let written = subst (λ rs. AreWritten holds (sight_behind first closed) rs taken taken' new.keeper) (request_alone line asked size asks) (writes (sight_behind first closed) at.store) in record {
      replies = at.replies ++ written.replies;
      given = subst (λ rs. MayReply rs (whole_of first) (at.replies ++ written.replies)) (sym all) (replied_both (requests_in closed) (requests_for (line ∷ [])) first at.replies written.replies at.given written.given);
      written = subst (Appends base taken') (sym (each_line-append at.replies written.replies)) (Appends-trans base taken taken' (each_line at.replies) (each_line written.replies) at.written written.written);
      store = subst (λ known. holds new.keeper known) (sym (sight_window closed (line ∷ []) first)) written.held;
      requests = ap requests_of same ∙ none;
      bytes = ap (λ (w : CodeWindow). w.bytes) same ∙ no_bytes;
    }

-- where it fails to be answered or written, the run ends at it
pub fails_line : {K : Type 0} (holds : K → Sight → Type 0) (keeps : K → Option ℕ → World → World → Type 0) (first : Sight) (base taken taken' : Option (List ℕ)) (ws : Windows) (line : List ℕ) (asked : Action) (size : ℕ) (session : Session K) (fault : RunFault) (k : K)
    → AsksFor line asked size → IsAt holds first base (with_end ws) session taken
    → ((known : Sight) → holds session.keeper known → HaveFailed holds keeps fault known (request_asked asked ∷ []) taken taken' k)
    → StopsIn holds keeps first fault base (with_end (with_pushed (with_end ws) line)).closed taken' k
fails_line holds keeps first base taken taken' ws line asked size session fault k asks at fails =
    let closed = (with_end ws).closed in
    let failed = subst (λ rs. HaveFailed holds keeps fault (sight_behind first closed) rs taken taken' k) (request_alone line asked size asks) (fails (sight_behind first closed) at.store) in record {
      stop = failed.stop;
      by = failed.by;
      sound = known_before (λ only. IsNoDamage only fault) first closed failed.sound;
      ends = ends_closing holds keeps first base taken taken' closed (line ∷ []) at.replies failed.stop k (closed ++ (line ∷ []) ∷ []) at.given at.written failed.wrote failed.left (BeginsWith-refl _);
    }

-- ---- what lines ask for

le_true : (a b : ℕ) → a ≤ b → nat_le a b ≡ true
le_true a b h = grind (arith, nat_tests)

le_false : (a b : ℕ) → b < a → nat_le a b ≡ false
le_false a b h = grind (arith, nat_tests)

-- a line that is not oversized
pub asks_whole : (line : List ℕ) (asked : Action) → request_asked asked ≡ request_of line → is_whole asked ≡ is_control (request_of line) → length line ≤ max_line → AsksFor line asked (length line)
asks_whole line asked same whole fits = record { request = same; whole = whole; has_size = rw (le_true (length line) max_line fits) refl }

-- a line that is oversized
pub asks_oversized : (line : List ℕ) → max_line < length line → AsksFor line (Refuse Oversized) 0
asks_oversized line long = record { request = rw (le_false (length line) max_line long) refl; whole = rw (le_false (length line) max_line long) refl; has_size = rw (le_false (length line) max_line long) refl }

-- ---- room

-- an open window that is not full has room for a line more
pub has_room : (limit lines bytes : ℕ) → (nat_le limit lines || nat_le 4194304 bytes) ≡ false → (lines < limit) × (bytes < 4194304)
has_room limit lines bytes open_yet = (grind (arith, nat_tests), grind (arith, nat_tests))
