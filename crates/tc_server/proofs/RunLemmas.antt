-- How a run comes from line to line, and what it did where it ends.
use Rattle.std.proofs.Common.{◌≡◌, ℕ, ◌+◌, Bool, true, false, List, [], ◌∷◌, ◌++◌, length, refl, ap, sym, subst, ◌∙◌, inl, inr, ⊎_elim, append_assoc, append-nil, length-append, arith}
use Rattle.std.specs.Prelude.{Option, Some, None}
use Rattle.std.specs.Io.KnownBytes.{Consumes, IsAtEnd}
use Rattle.std.proofs.KnownBytes.{Consumes-nil, Consumes-trans, Appends-nil}
use Rattle.tc_edge.specs.Moments.{Moment, GavePromptly}
use Rattle.tc_lines.specs.Needed.{HasReadNeeded}
use Rattle.tc_lines.specs.Answer.{Reading, BeginsWithLine, IsNextLine, IsAnswered}
use Rattle.tc_lines.specs.declared.intake.TheConstants.{MAX_TAKEN}
use Rattle.tc_lines.specs.declared.reader.Line.{Line}
use Rattle.tc_lines.specs.declared.reader.Line.TheVariants.{End}
use Rattle.tc_lines.proofs.NeededReads.{begins_promptly, goes_on_promptly}
use Rattle.tc_model.specs.Lines.{lines_of, whole_lines}
use Rattle.tc_run_model.specs.World.{World}
use Rattle.tc_run_model.specs.Known.{MayReply}
use Rattle.tc_run_model.specs.Windows.{BeginsWith, Window, Windows, windows_of, unless_empty, closed_windows, windows}
use Rattle.tc_run_model.specs.Course.{finished, input_failed, input_spent, stopped, HaveClosed, IsReached, requests_in, behind, each_line, worlds_left, IsDue}
use Rattle.tc_run_model.proofs.ReplyLaws.{MayReply-none}
use Rattle.tc_run_model.proofs.WindowLaws.{BeginsWith-trans, closed-windows_of-append, windows_of-push}
use Rattle.tc_server.specs.Ending.{RanLeaving, ReadsPromptly}
use Rattle.tc_keeper.specs.Faults.{Stop, failed_writing, gave_up, ending_at, stop_of, EndsAs, IsNoDamage, IsOfStore}
use Rattle.tc_keeper.specs.Holds.{IsLeft}
use Rattle.tc_server.specs.Progress.{StandsBehind, HasSeenAll, HasSeen, HasCome}
use Rattle.tc_keeper.specs.Sight.{nothing, sees, sight_behind, whole_of, IfKnown, Sight}
use Rattle.tc_server.specs.Window.{requests_of}
use Rattle.tc_server.specs.Stage.{IsAt, with_end, up_to, StopsIn, TakesLine, FailsAtLine}
use Rattle.tc_keeper.specs.declared.fault.RunFault.{RunFault}
use Rattle.tc_keeper.specs.declared.fault.RunFault.TheVariants.{Usage, Read, Write, Spent, Disk, Damaged, Memory, Layout}
use Rattle.tc_server.specs.declared.session.Session.{Session}
use Rattle.tc_server.proofs.Answering.{store_stops}
use Rattle.tc_server.proofs.SessionLemmas.{stops_between}
use Rattle.tc_server.proofs.SightLaws.{if_known, sight_none}

-- ---- one more line

-- what was read now stands behind what was read before
lines_behind : (f : List ℕ → List (List ℕ)) (input now held : List ℕ) (seen : List (List ℕ)) → ((rest : List ℕ) → f (input ++ rest) ≡ seen ++ f (held ++ rest))
    → (rest : List ℕ) → f (input ++ now ++ rest) ≡ seen ++ f (held ++ now ++ rest)
lines_behind f input now held seen law rest =
    ap f (append_assoc input now rest) ∙ law (now ++ rest) ∙ ap (λ bytes. seen ++ f bytes) (sym (append_assoc held now rest))

-- a line that begins what is held goes to those that were seen
line_behind : (f : List ℕ → List (List ℕ)) (input bytes held : List ℕ) (seen : List (List ℕ)) (line rest : List ℕ) → f (input ++ rest) ≡ seen ++ f (bytes ++ rest) → f (bytes ++ rest) ≡ line ∷ f (held ++ rest)
    → f (input ++ rest) ≡ seen ++ line ∷ [] ++ f (held ++ rest)
line_behind f input bytes held seen line rest before begins =
    before ∙ ap (λ lines. seen ++ lines) begins ∙ sym (append_assoc seen (line ∷ []) (f (held ++ rest)))

stands_behind_line : (input now held held' : List ℕ) (seen : List (List ℕ)) (line : List ℕ) → StandsBehind input seen held → BeginsWithLine (held ++ now) line held' → StandsBehind (input ++ now) (seen ++ line ∷ []) held'
stands_behind_line input now held held' seen line stands begins = record {
  lines = λ rest. line_behind lines_of (input ++ now) (held ++ now) held' seen line rest (lines_behind lines_of input now held seen stands.lines rest) (begins.lines rest);
  whole = λ rest. line_behind whole_lines (input ++ now) (held ++ now) held' seen line rest (lines_behind whole_lines input now held seen stands.whole rest) (begins.whole rest);
}

-- the lines of all that was read, where these are the lines of what is held and was read now
all_lines : (f : List ℕ → List (List ℕ)) (input now held : List ℕ) (seen lines : List (List ℕ)) → ((rest : List ℕ) → f (input ++ rest) ≡ seen ++ f (held ++ rest)) → f (held ++ now) ≡ lines
    → f (input ++ now) ≡ seen ++ lines
all_lines f input now held seen lines law same = law now ∙ ap (λ more. seen ++ more) same

-- a reader that has not ended stands behind the lines that it saw
stands : (seen : List (List ℕ)) (reading : Reading) (begun left : Option (List ℕ)) → reading.ended ≡ false → (heard : HasSeen seen reading begun left) → StandsBehind heard.input seen reading.held
stands seen reading begun left goes heard =
    ⊎_elim (λ place. place.1) (λ place. let both : true ≡ false = sym place.0 ∙ goes in absurd (cc)) heard.place

-- a line was heard
pub hears_line : (seen : List (List ℕ)) (line : List ℕ) (old new : Reading) (begun left left' : Option (List ℕ)) → old.ended ≡ false → HasSeen seen old begun left
    → (now : List ℕ) → Consumes left left' now → new.taken ≡ old.taken + length now → IsNextLine (old.held ++ now) line new left'
    → HasSeen (seen ++ line ∷ []) new begun left'
hears_line seen line old new begun left left' goes heard now consumed counted next =
    let behind = stands seen old begun left goes heard in record {
      input = heard.input ++ now;
      consumed = Consumes-trans begun left left' heard.input now heard.consumed consumed;
      counted = omega (arith, counted, heard.counted, length-append heard.input now);
      place = ⊎_elim
          (λ begins. inl (begins.1, stands_behind_line heard.input now old.held new.held seen line behind begins.0))
          (λ last. inr (last.1.ended, record { at_end = last.1.at_end; lines = all_lines lines_of heard.input now old.held seen (line ∷ []) behind.lines last.0.lines }))
          next;
    }

-- ---- what has closed

-- windows that have closed begin with those of the lines that were seen
pub record HasClosed (limit : ℕ) (seen : List (List ℕ)) (input : List ℕ) (left : Option (List ℕ)) : Type 0 where
  pub closed : List Window
  pub have : HaveClosed limit input left closed
  pub begin : BeginsWith closed (windows_of limit seen).closed

closed_so_far : (limit : ℕ) (seen more : List (List ℕ)) (input : List ℕ) (left : Option (List ℕ)) → whole_lines input ≡ seen ++ more → HasClosed limit seen input left
closed_so_far limit seen more input left all = record {
  closed = closed_windows limit input;
  have = inl refl;
  begin = subst (λ lines. BeginsWith (windows_of limit lines).closed (windows_of limit seen).closed) (sym all) (closed-windows_of-append limit seen more);
}

closed_at_end : (limit : ℕ) (seen : List (List ℕ)) (input : List ℕ) (left : Option (List ℕ)) → HasSeenAll input seen left → HasClosed limit seen input left
closed_at_end limit seen input left all = record {
  closed = windows limit input;
  have = inr (all.at_end, refl);
  begin = subst (λ lines. let ws = windows_of limit lines in BeginsWith (ws.closed ++ unless_empty ws.open_lines) (windows_of limit seen).closed) (sym all.lines)
      (record { more = unless_empty (windows_of limit seen).open_lines; goes_on = refl });
}

has_closed : (limit : ℕ) (seen : List (List ℕ)) (reading : Reading) (begun left : Option (List ℕ)) (heard : HasSeen seen reading begun left) → HasClosed limit seen heard.input left
has_closed limit seen reading begun left heard =
    ⊎_elim
    (λ place. closed_so_far limit seen (whole_lines (reading.held ++ [])) heard.input left (ap whole_lines (sym (append-nil heard.input)) ∙ place.1.whole []))
    (λ place. closed_at_end limit seen heard.input left place.1)
    heard.place

-- the windows that closed among the whole lines of what was read are those of the lines that were seen
closed-no_more : (limit : ℕ) (seen : List (List ℕ)) (old : Reading) (begun left : Option (List ℕ)) → old.ended ≡ false → (heard : HasSeen seen old begun left)
    → (now : List ℕ) → whole_lines (old.held ++ now) ≡ [] → (windows_of limit seen).closed ≡ closed_windows limit (heard.input ++ now)
closed-no_more limit seen old begun left goes heard now none =
    ap (λ lines. (windows_of limit lines).closed) (sym (all_lines whole_lines heard.input now old.held seen [] (stands seen old begun left goes heard).whole none ∙ append-nil seen))

-- The reads of the next line were prompt: what the lines that were seen closed is answered, and these reads gave no whole
-- line but at their end.
asks_promptly : {K : Type 0} (holds : K → Sight → Type 0) (first : Sight) (old : Reading) (session : Session K) (begun left base taken : Option (List ℕ)) (told told' told'' : Option (List Moment)) → old.ended ≡ false
    → (come : HasCome holds first old session begun left base taken told told') → (now : List ℕ) → HasReadNeeded old.held taken now told' told''
    → GavePromptly (IsDue each_line (whole_of first) session.window.limit base) (come.heard.input ++ now) told told''
asks_promptly holds first old session begun left base taken told told' told'' goes come now reads =
    let limit = session.window.limit in
    goes_on_promptly (IsDue each_line (whole_of first) limit base) come.heard.input now old.held taken told told' told'' come.prompt reads (λ given none. (
      come.at.replies,
      subst (λ ws. MayReply (requests_in ws) (whole_of first) come.at.replies) (closed-no_more limit come.seen old begun left goes come.heard given none) come.at.given,
      come.at.written,
    ))

-- a run that ends within a window has reached it
reached_in : (stop : Stop) (most : ℕ) (input : List ℕ) (left : Option (List ℕ)) (closed answered : List Window) (last : Window) → HaveClosed most input left closed → BeginsWith closed (up_to stop answered last) → IsReached (ending_at stop) most input left answered last
reached_in (failed_writing n) most input left closed answered last have begins = (closed, have, begins)
reached_in gave_up most input left closed answered last have begins = (closed, have, begins)

-- a run that a fault ends in a window ends so
ends_as : (spent : Type 0) (fault : RunFault) (stop : Stop) → stop_of fault ≡ Some stop → (fault ≡ Spent → spent) → EndsAs spent (Some fault) (ending_at stop)
ends_as spent Usage stop by cause = absurd (cc)
ends_as spent Read stop by cause = absurd (cc)
ends_as spent (Write n) stop by cause = let same : stop ≡ failed_writing n = cc in ap ending_at same
ends_as spent Spent stop by cause = let same : stop ≡ gave_up = cc in inr (ap ending_at same, cause refl)
ends_as spent (Disk p) stop by cause = let same : stop ≡ gave_up = cc in ap ending_at same
ends_as spent (Damaged p damage) stop by cause = let same : stop ≡ gave_up = cc in ap ending_at same
ends_as spent Memory stop by cause = let same : stop ≡ gave_up = cc in ap ending_at same
ends_as spent (Layout p found found_of asked_of) stop by cause = absurd (cc)

-- a fault in windows that have closed ends the run
ends_among : {K : Type 0} (holds : K → Sight → Type 0) (keeps : K → Option ℕ → World → World → Type 0) (spent : K → Type 0) (first : Sight) (limit : ℕ)
    (input : List ℕ) (begun left base taken : Option (List ℕ)) (fault : RunFault) (k : K) (closed : List Window) → Consumes begun left input
    → HaveClosed limit input left closed → (fault ≡ Spent → spent k)
    → StopsIn holds keeps first fault base closed taken k → RanLeaving each_line holds keeps spent (Some fault) first limit begun left base taken k
ends_among holds keeps spent first limit input begun left base taken fault k closed consumed have cause stops = record {
  run = record {
    ending = ending_at stops.stop;
    by = ends_as (spent k) fault stops.stop stops.by cause;
    ran = record {
      input = input;
      consumed = consumed;
      answered = stops.ends.answered;
      last = stops.ends.last;
      replies = stops.ends.replies;
      given = stops.ends.given;
      reached = reached_in stops.stop limit input left closed stops.ends.answered stops.ends.last have stops.ends.among;
      took = stops.ends.took;
    };
  };
  sound = stops.sound;
  left = stops.ends.left;
  stands = λ never. absurd (cc);
}

-- the same in windows with which those that have closed begin
among_more : {K : Type 0} (holds : K → Sight → Type 0) (keeps : K → Option ℕ → World → World → Type 0) (first : Sight) (fault : RunFault)
    (base taken : Option (List ℕ)) (k : K) (closed front : List Window) → BeginsWith closed front → StopsIn holds keeps first fault base front taken k
    → StopsIn holds keeps first fault base closed taken k
among_more holds keeps first fault base taken k closed front begins stops = record {
  stop = stops.stop;
  by = stops.by;
  sound = stops.sound;
  ends = record {
    answered = stops.ends.answered;
    last = stops.ends.last;
    replies = stops.ends.replies;
    given = stops.ends.given;
    among = BeginsWith-trans begins stops.ends.among;
    took = stops.ends.took;
    left = stops.ends.left;
  };
}

ends_in : {K : Type 0} (holds : K → Sight → Type 0) (keeps : K → Option ℕ → World → World → Type 0) (spent : K → Type 0) (first : Sight) (limit : ℕ)
    (seen : List (List ℕ)) (input : List ℕ) (begun left base taken : Option (List ℕ)) (fault : RunFault) (k : K) → Consumes begun left input
    → HasClosed limit seen input left → (fault ≡ Spent → spent k)
    → StopsIn holds keeps first fault base (windows_of limit seen).closed taken k → RanLeaving each_line holds keeps spent (Some fault) first limit begun left base taken k
ends_in holds keeps spent first limit seen input begun left base taken fault k consumed has cause stops =
    ends_among holds keeps spent first limit input begun left base taken fault k has.closed consumed has.have cause (among_more holds keeps first fault base taken k has.closed (windows_of limit seen).closed has.begin stops)

-- ---- a line is taken

pub goes_on : {K : Type 0} (holds : K → Sight → Type 0) (first : Sight) (line : List ℕ) (old new : Reading) (before after : Session K) (begun left left' base taken taken' : Option (List ℕ)) (told told' told'' : Option (List Moment)) → old.ended ≡ false
    → (come : HasCome holds first old before begun left base taken told told') → (now : List ℕ) → Consumes left left' now → new.taken ≡ old.taken + length now → IsNextLine (old.held ++ now) line new left'
    → HasReadNeeded old.held taken now told' told'' → TakesLine holds line before taken after taken' → after.window.limit ≡ before.window.limit
    → HasCome holds first new after begun left' base taken' told told''
unfolding hears_line
goes_on holds first line old new before after begun left left' base taken taken' told told' told'' goes come now consumed counted next reads takes same = record {
  seen = come.seen ++ line ∷ [];
  heard = hears_line come.seen line old new begun left left' goes come.heard now consumed counted next;
  at = subst (λ (ws : Windows). IsAt holds first base ws after taken') (sym (ap (λ limit. windows_of limit (come.seen ++ line ∷ [])) same ∙ windows_of-push before.window.limit come.seen line)) (takes first base (windows_of before.window.limit come.seen) come.at);
  prompt = subst (λ limit. GavePromptly (IsDue each_line (whole_of first) limit base) (come.heard.input ++ now) told told'') (sym same) (asks_promptly holds first old before begun left base taken told told' told'' goes come now reads);
}

pub fails_at_line : {told told' : Option (List Moment)} {K : Type 0} (holds : K → Sight → Type 0) (keeps : K → Option ℕ → World → World → Type 0) (spent : K → Type 0)
    (first : Sight) (fault : RunFault) (line : List ℕ) (old new : Reading) (before after : Session K) (begun left left' base taken taken' : Option (List ℕ))
    → old.ended ≡ false → (come : HasCome holds first old before begun left base taken told told')
    → (now : List ℕ) → Consumes left left' now → new.taken ≡ old.taken + length now → IsNextLine (old.held ++ now) line new left'
    → (fault ≡ Spent → spent after.keeper) → FailsAtLine holds keeps fault line before taken after taken'
    → RanLeaving each_line holds keeps spent (Some fault) first before.window.limit begun left' base taken' after.keeper
fails_at_line holds keeps spent first fault line old new before after begun left left' base taken taken' goes come now consumed counted next cause fails =
    let limit = before.window.limit in
    let seen = come.seen ++ line ∷ [] in
    let heard = hears_line come.seen line old new begun left left' goes come.heard now consumed counted next in
    ends_in holds keeps spent first limit seen heard.input begun left' base taken' fault after.keeper heard.consumed (has_closed limit seen new begun left' heard) cause
    (subst (λ (ws : Windows). StopsIn holds keeps first fault base ws.closed taken' after.keeper) (sym (windows_of-push limit come.seen line)) (fails first base (windows_of limit come.seen) come.at))

-- ---- the end of the input

-- all lines of the input were seen
pub record HasHeardAll (seen : List (List ℕ)) (begun left : Option (List ℕ)) : Type 0 where
  pub input : List ℕ
  pub consumed : Consumes begun left input
  pub all : HasSeenAll input seen left

pub hears_end : (seen : List (List ℕ)) (old new : Reading) (begun left left' : Option (List ℕ)) → old.ended ≡ false → HasSeen seen old begun left
    → (now : List ℕ) → Consumes left left' now → old.held ++ now ≡ [] → IsAtEnd left' → HasHeardAll seen begun left'
hears_end seen old new begun left left' goes heard now consumed none at_end =
    let behind = stands seen old begun left goes heard in record {
      input = heard.input ++ now;
      consumed = Consumes-trans begun left left' heard.input now heard.consumed consumed;
      all = record { at_end = at_end; lines = all_lines lines_of heard.input now old.held seen [] behind.lines (ap lines_of none) ∙ append-nil seen };
    }

pub heard_end : (seen : List (List ℕ)) (reading : Reading) (begun left : Option (List ℕ)) → reading.ended ≡ true → HasSeen seen reading begun left → HasHeardAll seen begun left
heard_end seen reading begun left ended heard =
    ⊎_elim
    (λ place. let both : true ≡ false = sym ended ∙ place.0 in absurd (cc))
    (λ place. record { input = heard.input; consumed = heard.consumed; all = place.1 })
    heard.place

-- all windows of the input, where these are its lines
all_windows : (limit : ℕ) (seen : List (List ℕ)) (input : List ℕ) (left : Option (List ℕ)) → HasSeenAll input seen left → (with_end (windows_of limit seen)).closed ≡ windows limit input
all_windows limit seen input left all = ap (λ lines. (with_end (windows_of limit lines)).closed) (sym all.lines)

left_behind_all : {K : Type 0} (holds : K → Sight → Type 0) (keeps : K → Option ℕ → World → World → Type 0) (first : Sight) (closed : List Window) (k : K) → holds k (sight_behind first closed) → IsLeft holds keeps k first (λ w. worlds_left finished w closed [])
left_behind_all holds keeps (sees only w) closed k held = record { one = behind w closed; other = behind w closed; one_of = inl refl; other_of = inl refl; left = inl held }
left_behind_all holds keeps nothing closed k held = tt

stands_behind : {K : Type 0} (holds : K → Sight → Type 0) (first : Sight) (closed : List Window) (k : K) → holds k (sight_behind first closed) → IfKnown first (λ only w. holds k (sees only (behind w closed)))
stands_behind holds (sees only w) closed k held = held
stands_behind holds nothing closed k held = tt

pub ran_to_end : {K : Type 0} (holds : K → Sight → Type 0) (keeps : K → Option ℕ → World → World → Type 0) (spent : K → Type 0) (first : Sight) (limit : ℕ)
    (seen : List (List ℕ)) (session : Session K) (begun left base taken : Option (List ℕ)) → HasHeardAll seen begun left
    → IsAt holds first base (with_end (windows_of limit seen)) session taken
    → RanLeaving each_line holds keeps spent None first limit begun left base taken session.keeper
ran_to_end holds keeps spent first limit seen session begun left base taken heard at = record {
  run = record {
    ending = finished;
    by = refl;
    ran = record {
      input = heard.input;
      consumed = heard.consumed;
      answered = (with_end (windows_of limit seen)).closed;
      last = [];
      replies = at.replies;
      given = at.given;
      reached = (heard.all.at_end, all_windows limit seen heard.input left heard.all, refl);
      took = at.written;
    };
  };
  sound = if_known first (λ only. Unit {0}) (λ only w is. tt);
  left = left_behind_all holds keeps first (with_end (windows_of limit seen)).closed session.keeper at.store;
  stands = λ none. stands_behind holds first (with_end (windows_of limit seen)).closed session.keeper at.store;
}

pub fails_at_end : {K : Type 0} (holds : K → Sight → Type 0) (keeps : K → Option ℕ → World → World → Type 0) (spent : K → Type 0) (first : Sight) (limit : ℕ)
    (seen : List (List ℕ)) (fault : RunFault) (begun left base taken : Option (List ℕ)) (k : K) → HasHeardAll seen begun left → (fault ≡ Spent → spent k)
    → StopsIn holds keeps first fault base (with_end (windows_of limit seen)).closed taken k
    → RanLeaving each_line holds keeps spent (Some fault) first limit begun left base taken k
fails_at_end holds keeps spent first limit seen fault begun left base taken k heard cause stops =
    ends_among holds keeps spent first limit heard.input begun left base taken fault k (with_end (windows_of limit seen)).closed heard.consumed (inr (heard.all.at_end, all_windows limit seen heard.input left heard.all)) cause stops

-- ---- a failure of the reader

pub read_failed : {told told' : Option (List Moment)} {K : Type 0} (holds : K → Sight → Type 0) (keeps : K → Option ℕ → World → World → Type 0) (spent : K → Type 0)
    (first : Sight) (old : Reading) (session : Session K) (begun left left' base taken : Option (List ℕ)) → old.ended ≡ false
    → HasCome holds first old session begun left base taken told told'
    → (now : List ℕ) → Consumes left left' now → whole_lines (old.held ++ now) ≡ [] → RanLeaving each_line holds keeps spent (Some Read) first session.window.limit begun left' base taken session.keeper
read_failed holds keeps spent first old session begun left left' base taken goes come now consumed none = record {
  run = record {
    ending = input_failed;
    by = refl;
    ran = record {
      input = come.heard.input ++ now;
      consumed = Consumes-trans begun left left' come.heard.input now come.heard.consumed consumed;
      answered = (windows_of session.window.limit come.seen).closed;
      last = [];
      replies = come.at.replies;
      given = come.at.given;
      reached = (closed-no_more session.window.limit come.seen old begun left goes come.heard now none, refl);
      took = come.at.written;
    };
  };
  sound = if_known first (λ only. Unit {0}) (λ only w is. tt);
  left = left_behind_all holds keeps first (windows_of session.window.limit come.seen).closed session.keeper come.at.store;
  stands = λ never. absurd (cc);
}

pub all_taken : {told told' : Option (List Moment)} {K : Type 0} (holds : K → Sight → Type 0) (keeps : K → Option ℕ → World → World → Type 0) (spent : K → Type 0)
    (first : Sight) (old new : Reading) (session : Session K) (begun left left' base taken : Option (List ℕ)) → old.ended ≡ false
    → HasCome holds first old session begun left base taken told told'
    → (now : List ℕ) → Consumes left left' now → new.taken ≡ old.taken + length now → whole_lines (old.held ++ now) ≡ [] → new.taken ≡ MAX_TAKEN
    → RanLeaving each_line holds keeps spent (Some Spent) first session.window.limit begun left' base taken session.keeper
all_taken holds keeps spent first old new session begun left left' base taken goes come now consumed counted none all = record {
  run = record {
    ending = input_spent;
    by = inl refl;
    ran = record {
      input = come.heard.input ++ now;
      consumed = Consumes-trans begun left left' come.heard.input now come.heard.consumed consumed;
      answered = (windows_of session.window.limit come.seen).closed;
      last = [];
      replies = come.at.replies;
      given = come.at.given;
      reached = (
        omega (arith, all, counted, come.heard.counted, length-append come.heard.input now),
        closed-no_more session.window.limit come.seen old begun left goes come.heard now none,
        refl,
      );
      took = come.at.written;
    };
  };
  sound = if_known first (λ only. Unit {0}) (λ only w is. tt);
  left = left_behind_all holds keeps first (windows_of session.window.limit come.seen).closed session.keeper come.at.store;
  stands = λ never. absurd (cc);
}

pub reads_without_memory : {told told' : Option (List Moment)} {K : Type 0} (holds : K → Sight → Type 0) (keeps : K → Option ℕ → World → World → Type 0)
    (spent : K → Type 0) (first : Sight) (old : Reading) (session : Session K) (begun left left' base taken : Option (List ℕ)) → old.ended ≡ false
    → HasCome holds first old session begun left base taken told told'
    → (now : List ℕ) → Consumes left left' now → RanLeaving each_line holds keeps spent (Some Memory) first session.window.limit begun left' base taken session.keeper
reads_without_memory holds keeps spent first old session begun left left' base taken goes come now consumed =
    let limit = session.window.limit in
    let input = come.heard.input ++ now in
    ends_in holds keeps spent first limit come.seen input begun left' base taken Memory session.keeper (Consumes-trans begun left left' come.heard.input now come.heard.consumed consumed)
    (closed_so_far limit come.seen (whole_lines (old.held ++ now)) input left' ((stands come.seen old begun left goes come.heard).whole now)) (λ same. absurd (cc))
    (stops_between holds keeps first base taken (windows_of limit come.seen) session come.at)

-- ---- the answers of the reader

not_true : (b : Bool) → (b ≡ true → ⊥) → b ≡ false
not_true true h = absurd (h refl)
not_true false h = refl

-- a reader that gave another answer than the end had not ended
pub goes_by : (answer : Line) (old : Reading) → (answer ≡ End → ⊥) → (old.ended ≡ true → answer ≡ End) → old.ended ≡ false
goes_by answer old other ends = not_true old.ended (λ ended. other (ends ended))

-- at the answer of the end all lines were seen
pub hears_all : {accepted : Option (List ℕ)} {told told' : Option (List Moment)} (seen : List (List ℕ)) (old new : Reading) (begun left left' : Option (List ℕ)) → HasSeen seen old begun left
    → (old.ended ≡ false → IsAnswered End old new left left' accepted told told') → (old.ended ≡ true → left' ≡ left) → HasHeardAll seen begun left'
hears_all seen old new begun left left' heard answers same =
    ⊎_elim
    (λ place. let a = answers place.0 in hears_end seen old new begun left left' place.0 heard a.input a.consumed a.says.0 a.says.1.at_end)
    (λ place. subst (HasHeardAll seen begun) (sym (same place.0)) (heard_end seen old begun left place.0 heard))
    heard.place

-- all reads up to an answer were prompt
pub asked_promptly : {K : Type 0} (holds : K → Sight → Type 0) (answer : Line) (first : Sight) (old new : Reading) (session : Session K) (begun left left' base taken : Option (List ℕ)) (told told' told'' : Option (List Moment))
    → HasCome holds first old session begun left base taken told told' → (old.ended ≡ false → IsAnswered answer old new left left' taken told' told'') → (old.ended ≡ true → told'' ≡ told')
    → ReadsPromptly first session.window.limit base told told''
asked_promptly holds answer first old new session begun left left' base taken told told' told'' come answers same =
    ⊎_elim
    (λ place. let a = answers place.0 in (come.heard.input ++ a.input, asks_promptly holds first old session begun left base taken told told' told'' place.0 come a.input a.prompt))
    (λ place. (come.heard.input, subst (GavePromptly (IsDue each_line (whole_of first) session.window.limit base) come.heard.input told) (sym (same place.0)) come.prompt))
    come.heard.place

-- ---- the first line, and after as many as can be

-- before the first line nothing was read nor written
pub begins : {K : Type 0} (holds : K → Sight → Type 0) (first : Sight) (limit : ℕ) (reading : Reading) (session : Session K) (left taken : Option (List ℕ)) (told : Option (List Moment)) → reading ≡ record { limit = limit; held = []; taken = 0; failed = false; ended = false }
    → holds session.keeper first → requests_of session.window ≡ [] → session.window.bytes ≡ 0
    → HasCome holds first reading session left left taken taken told told
begins holds first limit reading session left taken told fresh store requests bytes =
    let held : reading.held ≡ [] = ap (λ (r : Reading). r.held) fresh in record {
      seen = [];
      heard = record {
        input = [];
        consumed = Consumes-nil left;
        counted = ap (λ (r : Reading). r.taken) fresh;
        place = inl (
          ap (λ (r : Reading). r.ended) fresh,
          record {
            lines = λ rest. ap (λ bytes. lines_of (bytes ++ rest)) (sym held);
            whole = λ rest. ap (λ bytes. whole_lines (bytes ++ rest)) (sym held);
          },
        );
      };
      at = record {
        replies = [];
        given = MayReply-none (whole_of first);
        written = Appends-nil taken;
        store = subst (λ known. holds session.keeper known) (sym (sight_none first)) store;
        requests = requests;
        bytes = bytes;
      };
      prompt = begins_promptly (IsDue each_line (whole_of first) session.window.limit taken) told;
    }

-- a run that gives up between two lines has answered the windows that have closed
pub gives_up : {told told' : Option (List Moment)} {K : Type 0} (holds : K → Sight → Type 0) (keeps : K → Option ℕ → World → World → Type 0) (spent : K → Type 0)
    (first : Sight) (reading : Reading) (session : Session K) (begun left base taken : Option (List ℕ))
    → HasCome holds first reading session begun left base taken told told'
    → RanLeaving each_line holds keeps spent (Some Memory) first session.window.limit begun left base taken session.keeper
gives_up holds keeps spent first reading session begun left base taken come =
    ends_in holds keeps spent first session.window.limit come.seen come.heard.input begun left base taken Memory session.keeper come.heard.consumed (has_closed session.window.limit come.seen reading begun left come.heard) (λ same. absurd (cc))
    (stops_between holds keeps first base taken (windows_of session.window.limit come.seen) session come.at)

-- ---- no run

-- a store that fails before a line is read stops in no window
settles_not : {K : Type 0} (holds : K → Sight → Type 0) (keeps : K → Option ℕ → World → World → Type 0) (first : Sight) (k : K) → ((only : Option ℕ) (w : World) → first ≡ sees only w → keeps k only w w) → IsLeft holds keeps k first (λ w. worlds_left stopped w [] [])
settles_not holds keeps (sees only w) k fails = record { one = w; other = w; one_of = inl refl; other_of = inl refl; left = inr (fails only w refl) }
settles_not holds keeps nothing k fails = tt

pub begins_not : {K : Type 0} (holds : K → Sight → Type 0) (keeps : K → Option ℕ → World → World → Type 0) (spent : K → Type 0) (first : Sight) (most : ℕ)
    (left taken : Option (List ℕ)) (fault : RunFault) (k : K) → IsOfStore fault → (fault ≡ Spent → spent k)
    → ((only : Option ℕ) (w : World) → first ≡ sees only w → IsNoDamage only fault) → ((only : Option ℕ) (w : World) → first ≡ sees only w → keeps k only w w)
    → RanLeaving each_line holds keeps spent (Some fault) first most left left taken taken k
begins_not holds keeps spent first most left taken fault k kind cause sound fails =
    ends_among holds keeps spent first most [] left left taken taken fault k (closed_windows most []) (Consumes-nil left) (inl refl) cause (record {
      stop = gave_up;
      by = store_stops fault kind;
      sound = if_known first (λ only. IsNoDamage only fault) sound;
      ends = record {
        answered = [];
        last = [];
        replies = [];
        given = MayReply-none (whole_of first);
        among = record { more = closed_windows most []; goes_on = refl };
        took = Appends-nil taken;
        left = settles_not holds keeps first k fails;
      };
    })

-- where nothing was read, the reads were prompt
pub unread : (first : Sight) (most : ℕ) (base : Option (List ℕ)) (told : Option (List Moment)) → ReadsPromptly first most base told told
unread first most base told = ([], begins_promptly (IsDue each_line (whole_of first) most base) told)
