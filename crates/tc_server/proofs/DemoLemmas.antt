-- What a demonstration does with a line, and at the end of its lines, said of the windows of the lines that came.
use Rattle.std.proofs.Common.{◌≡◌, ℕ, List, [], ◌∷◌, ◌++◌, length-append, refl, ap, ap₂, sym, ◌∙◌, subst, append_assoc, append-nil, inl, inr, arith}
use Rattle.std.specs.Prelude.{Option, Some, sum_by}
use Rattle.tc_gen.specs.TwoLines.{Heard}
use Rattle.tc_request_model.specs.Reply.{Reply}
use Rattle.tc_run_model.specs.World.{World, after_all}
use Rattle.tc_run_model.specs.Known.{MayReply}
use Rattle.tc_run_model.specs.Windows.{BeginsWith, Window, Windows, line_size, unless_empty, with_line, windows_of, lines_in}
use Rattle.tc_run_model.specs.Course.{requests_for, behind, requests_in, stopped, worlds_left}
use Rattle.tc_run_model.proofs.WindowLaws.{lines_held-windows_of, lines_in-append}
use Rattle.tc_run_model.proofs.ReplyLaws.{after_all-append, MayReply-none}
use Rattle.tc_server.specs.Demo.{ended, fault_in_memory, AreFew, HasGivenUp, HasHeard, HasHeardAll, HearsReplies}
use Rattle.tc_keeper.specs.Faults.{Stop, failed_writing, gave_up, ending_at, IsNoDamage}
use Rattle.tc_keeper.specs.Holds.{worlds_at, AreWritten, HaveFailed, IsLeft, IsLeftAt, IsOneOf}
use Rattle.tc_keeper.specs.Sight.{nothing, sees, sight_after, sight_behind, whole_of, Sight, IfKnown}
use Rattle.tc_server.specs.Stage.{up_to, IsAt, StopsIn}
use Rattle.tc_server.specs.Window.{requests_of}
use Rattle.tc_keeper.specs.declared.fault.RunFault.{RunFault}
use Rattle.tc_keeper.specs.declared.fault.RunFault.TheVariants.{Usage, Read, Write, Spent, Disk, Damaged, Memory, Layout}
use Rattle.tc_server.specs.declared.session.Session.{Session}
use Rattle.tc_server.proofs.SessionLemmas.{BeginsWith-refl}
use Rattle.tc_server.proofs.SightLaws.{if_known, replied_both, sight_append, sight_none}
use Rattle.tc_server.proofs.DemoWindows.{few_answered, fresh, lines_ended, next_windows, replies_to_lines, requests_for-append, requests_in-append, same_lines, sight_more, behind_more}

-- ---- the session from the windows that it stands behind on

module _ {K : Type 0} (holds : K → Sight → Type 0) (keeps : K → Option ℕ → World → World → Type 0) where
  -- no window has closed since the replies were heard, and the sink has accepted nothing
  pub stands_fresh : (first : Sight) (ws : Windows) (session : Session K) (heard : Heard) → HasHeard holds first ws session heard → IsAt holds (sight_behind first ws.closed) (Some []) (fresh ws) session (Some [])
  stands_fresh first ws session heard h = record {
    replies = [];
    given = MayReply-none (whole_of (sight_behind first ws.closed));
    written = refl;
    store = subst (λ known. holds session.keeper known) (sym (sight_none (sight_behind first ws.closed))) h.at.store;
    requests = h.at.requests;
    bytes = h.at.bytes;
  }

  module _ (first : Sight) (limit : ℕ) (seen : List (List ℕ)) (line : List ℕ) (old new : Session K) (heard : Heard) (bytes : List ℕ) (h : HasHeard holds first (windows_of limit seen) old heard)
      (at : IsAt holds (sight_behind first (windows_of limit seen).closed) (Some []) (with_line limit (fresh (windows_of limit seen)) line) new (Some bytes)) where
    abbrev closed_before : List Window
    closed_before = (windows_of limit seen).closed

    abbrev further : Windows
    further = with_line limit (fresh (windows_of limit seen)) line

    -- the replies to the windows that the line closed stand behind those that were heard
    line_given : MayReply (requests_in (windows_of limit (seen ++ line ∷ [])).closed) (whole_of first) (h.at.replies ++ at.replies)
    line_given =
        subst (λ (ws : Windows). MayReply (requests_in ws.closed) (whole_of first) (h.at.replies ++ at.replies)) (sym (next_windows limit seen line))
        (subst (λ rs. MayReply rs (whole_of first) (h.at.replies ++ at.replies)) (sym (requests_in-append closed_before further.closed)) (replied_both (requests_in closed_before) (requests_in further.closed) first h.at.replies at.replies h.at.given at.given))

    line_store : holds new.keeper (sight_behind first (windows_of limit (seen ++ line ∷ [])).closed)
    line_store =
        subst (λ (ws : Windows). holds new.keeper (sight_behind first ws.closed)) (sym (next_windows limit seen line))
        (subst (λ known. holds new.keeper known) (sym (sight_more closed_before further.closed first)) at.store)

    pub hears_line : (heard' : Heard) → AreFew seen → HearsReplies heard bytes heard' → HasHeard holds first (windows_of limit (seen ++ line ∷ [])) new heard'
    hears_line heard' few hears = record {
      at = record {
        replies = h.at.replies ++ at.replies;
        given = line_given;
        written = tt;
        store = line_store;
        requests = subst (λ (ws : Windows). requests_of new.window ≡ requests_for ws.open_lines) (sym (next_windows limit seen line)) at.requests;
        bytes = subst (λ (ws : Windows). new.window.bytes ≡ sum_by line_size ws.open_lines) (sym (next_windows limit seen line)) at.bytes;
      };
      kept = hears h.at.replies at.replies h.kept (omega (arith, few, few_answered limit (seen ++ line ∷ []) (whole_of first) (h.at.replies ++ at.replies) line_given, length-append seen (line ∷ []))) at.written;
    }

  -- ---- where memory is wanting behind windows

  stands_left : (first : Sight) (closed : List Window) (k : K) → holds k (sight_behind first closed) → IsLeft holds keeps k first (λ w. worlds_left stopped w closed [])
  stands_left (sees only w) closed k held = record { one = behind w closed; other = behind w closed; one_of = inl refl; other_of = inl refl; left = inl held }
  stands_left nothing closed k held = tt

  pub stops_behind : (first : Sight) (closed : List Window) (replies : List Reply) (k : K) → MayReply (requests_in closed) (whole_of first) replies → holds k (sight_behind first closed) → HasGivenUp holds keeps first Memory closed k
  stops_behind first closed replies k given held = record {
    answered = closed;
    last = [];
    replies = replies;
    given = given;
    among = record { more = []; goes_on = sym (append-nil (closed ++ []) ∙ append-nil closed) };
    sound = if_known first (λ only. Unit {0}) (λ only w is. tt);
    left = stands_left first closed k held;
  }

  -- the replies to the windows that a line closed are not heard
  pub line_unheard : (first : Sight) (limit : ℕ) (seen : List (List ℕ)) (line : List ℕ) (old new : Session K) (heard : Heard) (bytes : List ℕ) (h : HasHeard holds first (windows_of limit seen) old heard)
      (at : IsAt holds (sight_behind first (windows_of limit seen).closed) (Some []) (with_line limit (fresh (windows_of limit seen)) line) new (Some bytes))
      → HasGivenUp holds keeps first Memory (windows_of limit (seen ++ line ∷ [])).closed new.keeper
  line_unheard first limit seen line old new heard bytes h at =
      stops_behind first (windows_of limit (seen ++ line ∷ [])).closed (h.at.replies ++ at.replies) new.keeper (line_given first limit seen line old new heard bytes h at) (line_store first limit seen line old new heard bytes h at)

  -- where all is answered and heard, it may still give up
  pub all_unwritten : (first : Sight) (most : ℕ) (lines : List (List ℕ)) (k : K) (replies : List Reply) → MayReply (requests_for lines) (whole_of first) replies → holds k (sight_after (requests_for lines) first) → HasGivenUp holds keeps first Memory (ended (windows_of most lines)) k
  all_unwritten first most lines k replies given held =
      let all = ap requests_for (lines_ended most lines) in
      stops_behind first (ended (windows_of most lines)) replies k (subst (λ rs. MayReply rs (whole_of first) replies) (sym all) given) (subst (λ rs. holds k (sight_after rs first)) (sym all) held)

  -- nothing was answered
  pub begins_not : (first : Sight) (fault : RunFault) (closed : List Window) (k : K) → ((only : Option ℕ) (w : World) → first ≡ sees only w → IsNoDamage only fault) → ((only : Option ℕ) (w : World) → first ≡ sees only w → keeps k only w w) → HasGivenUp holds keeps first fault closed k
  begins_not first fault closed k sound fails = record {
    answered = [];
    last = [];
    replies = [];
    given = MayReply-none (whole_of first);
    among = record { more = closed; goes_on = refl };
    sound = if_known first (λ only. IsNoDamage only fault) sound;
    left = kept_left first fails;
  }
    where
      kept_left : (first : Sight) → ((only : Option ℕ) (w : World) → first ≡ sees only w → keeps k only w w) → IsLeft holds keeps k first (λ w. worlds_left stopped w [] [])
      kept_left (sees only w) fails = record { one = w; other = w; one_of = inl refl; other_of = inl refl; left = inr (fails only w refl) }
      kept_left nothing fails = tt

  -- ---- a session that fails

  fewer_named : (u x y z : World) → x ≡ z → IsOneOf u (x ∷ []) → IsOneOf u (y ∷ z ∷ [])
  fewer_named u x y z same (inl is) = inr (inl (is ∙ same))
  fewer_named u x y z same (inr none) = absurd none

  -- a window without lines counts for nothing
  same_world : (v : World) (answered : List Window) (last : Window) → behind v (answered ++ last ∷ []) ≡ behind v (answered ++ unless_empty last)
  same_world v answered [] = same_lines (answered ++ [] ∷ []) (answered ++ []) v (lines_in-append answered ([] ∷ []) ∙ sym (lines_in-append answered []))
  same_world v answered (line ∷ lines) = refl

  left_stopped : (stop : Stop) (only : Option ℕ) (v : World) (answered : List Window) (last : Window) (k : K) → IsLeftAt holds keeps k only (worlds_left (ending_at stop) v answered last) → IsLeftAt holds keeps k only (worlds_left stopped v answered last)
  left_stopped gave_up only v answered last k left = left
  left_stopped (failed_writing n) only v answered last k left = record {
    one = left.one;
    other = left.other;
    one_of = fewer_named left.one (behind v (answered ++ last ∷ [])) (behind v answered) (behind v (answered ++ unless_empty last)) (same_world v answered last) left.one_of;
    other_of = fewer_named left.other (behind v (answered ++ last ∷ [])) (behind v answered) (behind v (answered ++ unless_empty last)) (same_world v answered last) left.other_of;
    left = left.left;
  }

  left_behind : (stop : Stop) (first : Sight) (before answered : List Window) (last : Window) (k : K) → IsLeft holds keeps k (sight_behind first before) (λ w. worlds_left (ending_at stop) w answered last)
      → IsLeft holds keeps k first (λ w. worlds_left stopped w (before ++ answered) last)
  left_behind stop nothing before answered last k left = tt
  left_behind stop (sees only w) before answered last k left =
      subst (IsLeftAt holds keeps k only) (ap₂ (λ u v. u ∷ v ∷ []) (sym (behind_more before answered w)) (sym (ap (behind w) (append_assoc before answered (unless_empty last)) ∙ behind_more before (answered ++ unless_empty last) w)))
      (left_stopped stop only (behind w before) answered last k left)

  among_stop : (stop : Stop) (closed answered : List Window) (last : Window) → BeginsWith closed (up_to stop answered last) → BeginsWith closed (answered ++ unless_empty last)
  among_stop gave_up closed answered last begins = begins
  among_stop (failed_writing n) closed answered (line ∷ lines) begins = begins
  among_stop (failed_writing n) closed answered [] begins =
      record { more = [] ∷ begins.more; goes_on = begins.goes_on ∙ append_assoc answered ([] ∷ []) begins.more ∙ ap (λ ws. ws ++ [] ∷ begins.more) (sym (append-nil answered)) }

  begins_behind : (before closed answered : List Window) (last : Window) → BeginsWith closed (answered ++ unless_empty last) → BeginsWith (before ++ closed) ((before ++ answered) ++ unless_empty last)
  begins_behind before closed answered last begins = record {
    more = begins.more;
    goes_on = ap (λ ws. before ++ ws) begins.goes_on ∙ sym (append_assoc before (answered ++ unless_empty last) begins.more) ∙ ap (λ ws. ws ++ begins.more) (sym (append_assoc before answered (unless_empty last)));
  }

  no_damage : (only : Option ℕ) (fault : RunFault) → IsNoDamage only fault → IsNoDamage only (fault_in_memory fault)
  no_damage only Usage is = tt
  no_damage only Read is = tt
  no_damage only (Write n) is = tt
  no_damage only Spent is = tt
  no_damage only (Disk p) is = tt
  no_damage only (Damaged p damage) is = is
  no_damage only Memory is = tt
  no_damage only (Layout p found found_of asked_of) is = tt

  sound_behind : (first : Sight) (before : List Window) (fault : RunFault) → IfKnown (sight_behind first before) (λ only w. IsNoDamage only fault) → IfKnown first (λ only w. IsNoDamage only (fault_in_memory fault))
  sound_behind nothing before fault sound = tt
  sound_behind (sees only w) before fault sound = no_damage only fault sound

  -- at a line
  pub fails_line : (first : Sight) (limit : ℕ) (seen : List (List ℕ)) (line : List ℕ) (old : Session K) (heard : Heard) (taken' : Option (List ℕ)) (fault : RunFault) (k : K) → HasHeard holds first (windows_of limit seen) old heard
      → StopsIn holds keeps (sight_behind first (windows_of limit seen).closed) fault (Some []) (with_line limit (fresh (windows_of limit seen)) line).closed taken' k
      → HasGivenUp holds keeps first (fault_in_memory fault) (windows_of limit (seen ++ line ∷ [])).closed k
  fails_line first limit seen line old heard taken' fault k h s =
      let before = (windows_of limit seen).closed in
      let closed = (with_line limit (fresh (windows_of limit seen)) line).closed in
      let e = s.ends in record {
        answered = before ++ e.answered;
        last = e.last;
        replies = h.at.replies ++ e.replies;
        given = subst (λ rs. MayReply rs (whole_of first) (h.at.replies ++ e.replies)) (sym (requests_in-append before e.answered)) (replied_both (requests_in before) (requests_in e.answered) first h.at.replies e.replies h.at.given e.given);
        among = subst (λ (ws : Windows). BeginsWith ws.closed ((before ++ e.answered) ++ unless_empty e.last)) (sym (next_windows limit seen line)) (begins_behind before closed e.answered e.last (among_stop s.stop closed e.answered e.last e.among));
        sound = sound_behind first before fault s.sound;
        left = left_behind s.stop first before e.answered e.last k e.left;
      }

  -- ---- the end of the lines

  module _ (first : Sight) (limit : ℕ) (seen : List (List ℕ)) (old : Session K) (heard : Heard) (h : HasHeard holds first (windows_of limit seen) old heard) where
    -- all requests are those of the windows that closed, and those of the open one
    end_requests : requests_for seen ≡ requests_in (windows_of limit seen).closed ++ requests_of old.window
    end_requests =
        let ws = windows_of limit seen in
        ap requests_for (sym (lines_held-windows_of limit seen)) ∙ requests_for-append (lines_in ws.closed) ws.open_lines ∙ ap (λ rs. requests_in ws.closed ++ rs) (sym h.at.requests)

    end_given : (replies : List Reply) → MayReply (requests_of old.window) (whole_of (sight_behind first (windows_of limit seen).closed)) replies → MayReply (requests_for seen) (whole_of first) (h.at.replies ++ replies)
    end_given replies given =
        subst (λ rs. MayReply rs (whole_of first) (h.at.replies ++ replies)) (sym end_requests) (replied_both (requests_in (windows_of limit seen).closed) (requests_of old.window) first h.at.replies replies h.at.given given)

    end_store : (k : K) → holds k (sight_after (requests_of old.window) (sight_behind first (windows_of limit seen).closed)) → holds k (sight_after (requests_for seen) first)
    end_store k held =
        subst (λ known. holds k known) (sym (ap (λ rs. sight_after rs first) end_requests ∙ sight_append (requests_in (windows_of limit seen).closed) (requests_of old.window) first)) held

    pub hears_end : (heard' : Heard) (bytes : List ℕ) (k : K) → AreFew seen → AreWritten holds (sight_behind first (windows_of limit seen).closed) (requests_of old.window) (Some []) (Some bytes) k → HearsReplies heard bytes heard' → HasHeardAll holds first seen k heard'
    hears_end heard' bytes k few written hears = record {
      replies = h.at.replies ++ written.replies;
      given = end_given written.replies written.given;
      kept = hears h.at.replies written.replies h.kept (omega (arith, few, replies_to_lines seen (whole_of first) (h.at.replies ++ written.replies) (end_given written.replies written.given))) written.written;
      store = end_store k written.held;
    }

    pub end_unheard : (bytes : List ℕ) (k : K) → AreWritten holds (sight_behind first (windows_of limit seen).closed) (requests_of old.window) (Some []) (Some bytes) k → HasGivenUp holds keeps first Memory (ended (windows_of limit seen)) k
    end_unheard bytes k written = all_unwritten first limit seen k (h.at.replies ++ written.replies) (end_given written.replies written.given) (end_store k written.held)

    end_world : (w : World) → after_all (requests_of old.window) (behind w (windows_of limit seen).closed) ≡ behind w (ended (windows_of limit seen))
    end_world w =
        sym (ap (λ rs. after_all rs w) (ap requests_for (lines_ended limit seen) ∙ end_requests) ∙ after_all-append (requests_in (windows_of limit seen).closed) (requests_of old.window) w)

    end_left : (stop : Stop) (k : K) (first' : Sight) → IsLeft holds keeps k (sight_behind first' (windows_of limit seen).closed) (worlds_at stop (requests_of old.window))
        → IsLeft holds keeps k first' (λ w. worlds_left stopped w (windows_of limit seen).closed (windows_of limit seen).open_lines)
    end_left stop k nothing left = tt
    end_left gave_up k (sees only w) left = subst (IsLeftAt holds keeps k only) (ap (λ v. behind w (windows_of limit seen).closed ∷ v ∷ []) (end_world w)) left
    end_left (failed_writing n) k (sees only w) left = record {
      one = left.one;
      other = left.other;
      one_of = fewer_named left.one (after_all (requests_of old.window) (behind w (windows_of limit seen).closed)) (behind w (windows_of limit seen).closed) (behind w (ended (windows_of limit seen))) (end_world w) left.one_of;
      other_of = fewer_named left.other (after_all (requests_of old.window) (behind w (windows_of limit seen).closed)) (behind w (windows_of limit seen).closed) (behind w (ended (windows_of limit seen))) (end_world w) left.other_of;
      left = left.left;
    }

    pub fails_end : (fault : RunFault) (taken' : Option (List ℕ)) (k : K) → HaveFailed holds keeps fault (sight_behind first (windows_of limit seen).closed) (requests_of old.window) (Some []) taken' k
        → HasGivenUp holds keeps first (fault_in_memory fault) (ended (windows_of limit seen)) k
    fails_end fault taken' k failed = record {
      answered = (windows_of limit seen).closed;
      last = (windows_of limit seen).open_lines;
      replies = h.at.replies;
      given = h.at.given;
      among = BeginsWith-refl (ended (windows_of limit seen));
      sound = sound_behind first (windows_of limit seen).closed fault failed.sound;
      left = end_left failed.stop k first failed.left;
    }
