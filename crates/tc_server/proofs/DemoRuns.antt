-- How a demonstration ends, by what became of its lines.
use Rattle.std.proofs.Common.{◌≡◌, ◌≢◌, ℕ, suc, ◌+◌, ◌<◌, ◌≤◌, ◌==◌, List, [], ◌∷◌, ◌++◌, length, length-append, take, refl, ap, sym, ◌∙◌, subst, append-nil, inl, inr, ⊎_elim, arith}
use Rattle.std.specs.Prelude.{Option, Some, None, IfSome}
use Rattle.std.specs.Io.KnownBytes.{Appends, Keeps}
use Rattle.std.proofs.KnownBytes.{Appends-kept, Appends-nil}
use Rattle.std.proofs.lemmas.Bool.{eq-eqb, eqb-true, false_from_ne_true}
use Rattle.tc_gen.specs.Generated.{generated, input_of}
use Rattle.tc_gen.specs.TwoLines.{Heard, heard_of, lines_for, two_lines}
use Rattle.tc_gen.proofs.OneLine.{lines_of_input}
use Rattle.tc_gen.proofs.LineLengths.{generated_count}
use Rattle.tc_request_model.specs.Reply.{Reply}
use Rattle.tc_run_model.specs.World.{World}
use Rattle.tc_run_model.specs.Known.{MayReply}
use Rattle.tc_run_model.specs.Windows.{BeginsWith, Window, unless_empty, windows, windows_of, lines_in}
use Rattle.tc_run_model.specs.Course.{requests_for, behind, finished, output_failed, requests_in, stopped, worlds_left, HaveClosed}
use Rattle.tc_run_model.proofs.WindowLaws.{BeginsWith-trans}
use Rattle.tc_server.specs.Demo.{ended, DemoLeaving, HasGivenUp, HasHeardAll}
use Rattle.tc_keeper.specs.Faults.{EndsAs, IsNoDamage, IsOfStore}
use Rattle.tc_keeper.specs.Holds.{IsLeft, IsLeftAt, IsOneOf}
use Rattle.tc_keeper.specs.Sight.{nothing, sees, sight_after, whole_of, IfKnown, Sight}
use Rattle.tc_keeper.specs.declared.fault.RunFault.{RunFault}
use Rattle.tc_keeper.specs.declared.fault.RunFault.TheVariants.{Usage, Read, Write, Spent, Disk, Damaged, Memory, Layout}
use Rattle.tc_server.proofs.DemoLemmas.{all_unwritten}
use Rattle.tc_server.proofs.SessionLemmas.{requests-unless_empty}
use Rattle.tc_server.proofs.SightLaws.{if_known}
use Rattle.tc_server.proofs.DemoWindows.{cut, last_of, lines_ended, lines_with, no_more_lines, replies_to_lines, same_lines, AreCut, HasLast}

-- ---- what is shown

pub nothing_shown : (n : ℕ) (replies : List Reply) → length replies ≢ suc n → two_lines n replies ≡ []
nothing_shown n replies other = rw (false_from_ne_true (length replies == suc n) (λ is. other (eqb-true (length replies) (suc n) is))) refl

all_shown : (n : ℕ) (replies : List Reply) → length replies ≡ suc n → two_lines n replies ≡ lines_for n (heard_of replies)
all_shown n replies is = rw (eq-eqb (length replies) (suc n) is) refl

-- all windows of the generated input are those of the generated lines
all_windows : (most n : ℕ) → ended (windows_of most (generated n)) ≡ windows most (input_of n)
all_windows most n = ap (λ lines. ended (windows_of most lines)) (sym (lines_of_input n))

all_lines : (most n : ℕ) → length (lines_in (ended (windows_of most (generated n)))) ≡ suc n
all_lines most n = ap length (lines_ended most (generated n)) ∙ generated_count n

closed_all : (most n : ℕ) → HaveClosed most (input_of n) (Some []) (ended (windows_of most (generated n)))
closed_all most n = inr (refl, all_windows most n)

-- ---- it ended by a fault before anything was written

ends_stopped : (spent : Type 0) (fault : RunFault) → IsOfStore fault → (fault ≡ Spent → spent) → EndsAs spent (Some fault) stopped
ends_stopped spent Usage kind cause = absurd kind
ends_stopped spent Read kind cause = absurd kind
ends_stopped spent (Write n) kind cause = absurd kind
ends_stopped spent Spent kind cause = inr (refl, cause refl)
ends_stopped spent (Disk p) kind cause = refl
ends_stopped spent (Damaged p damage) kind cause = refl
ends_stopped spent Memory kind cause = refl
ends_stopped spent (Layout p found found_of asked_of) kind cause = absurd kind

module _ {K : Type 0} (holds : K → Sight → Type 0) (keeps : K → Option ℕ → World → World → Type 0) (spent : K → Type 0) where
  -- of fewer replies than all nothing is shown
  stops_at : (n : ℕ) (fault : RunFault) (first : Sight) (most : ℕ) (taken taken' : Option (List ℕ)) (k : K) (answered : List Window) (last : Window) (replies : List Reply)
      → IsOfStore fault → (fault ≡ Spent → spent k) → Keeps taken taken' → MayReply (requests_in answered) (whole_of first) replies → length (lines_in answered) ≢ suc n
      → BeginsWith (ended (windows_of most (generated n))) (answered ++ unless_empty last) → IfKnown first (λ only w. IsNoDamage only fault) → IsLeft holds keeps k first (λ w. worlds_left stopped w answered last)
      → DemoLeaving holds keeps spent n (Some fault) first most taken taken' k
  stops_at n fault first most taken taken' k answered last replies kind cause kept given fewer among sound left =
      let other : length replies ≢ suc n = λ is. fewer (sym (replies_to_lines (lines_in answered) (whole_of first) replies given) ∙ is) in record {
        run = record {
          ending = stopped;
          by = ends_stopped (spent k) fault kind cause;
          ran = record {
            input = input_of n;
            consumed = sym (append-nil (input_of n));
            answered = answered;
            last = last;
            replies = replies;
            given = given;
            reached = (ended (windows_of most (generated n)), closed_all most n, among);
            took = subst (Appends taken taken') (sym (nothing_shown n replies other)) (Appends-kept taken taken taken' [] (Appends-nil taken) kept);
          };
        };
        sound = sound;
        left = left;
        stands = λ never. absurd (cc);
      }

  -- where all that came was answered, it ended at the last window that has a line
  among_last : (w u v x : World) → u ≡ v → IsOneOf w (u ∷ u ∷ []) → IsOneOf w (x ∷ v ∷ [])
  among_last w u v x same (inl is) = inr (inl (is ∙ same))
  among_last w u v x same (inr (inl is)) = inr (inl (is ∙ same))
  among_last w u v x same (inr (inr none)) = absurd none

  left_last : (first : Sight) (ws : List Window) (l : HasLast ws) (k : K) → IsLeft holds keeps k first (λ w. worlds_left stopped w ws []) → IsLeft holds keeps k first (λ w. worlds_left stopped w l.answered l.last)
  left_last nothing ws l k left = tt
  left_last (sees only w) ws l k left =
      let same = same_lines ws (l.answered ++ unless_empty l.last) w l.lines in
      let at : IsLeftAt holds keeps k only (behind w ws ∷ behind w ws ∷ []) = subst (λ vs. IsLeftAt holds keeps k only (behind w ws ∷ behind w vs ∷ [])) (append-nil ws) left in record {
        one = at.one;
        other = at.other;
        one_of = among_last at.one (behind w ws) (behind w (l.answered ++ unless_empty l.last)) (behind w l.answered) same at.one_of;
        other_of = among_last at.other (behind w ws) (behind w (l.answered ++ unless_empty l.last)) (behind w l.answered) same at.other_of;
        left = at.left;
      }

  -- the windows before the last one that has a line have fewer lines than all
  fewer_before : (n : ℕ) (ws : List Window) (l : HasLast ws) → length (lines_in ws) ≤ suc n → length (lines_in l.answered) ≢ suc n
  fewer_before n ws l few =
      let size = ap length (l.lines ∙ lines_with l.answered l.last) ∙ length-append (lines_in l.answered) l.last in
      ⊎_elim (λ none. λ is. let nothing = ap length none in omega (arith, size, nothing, is)) (λ some. λ is. omega (arith, size, some, few, is)) l.some

  gives_up_at : (n : ℕ) (fault : RunFault) (first : Sight) (most : ℕ) (taken taken' : Option (List ℕ)) (k : K) → IsOfStore fault → (fault ≡ Spent → spent k) → Keeps taken taken'
      → (last : Window) (g : HasGivenUp holds keeps first fault (ended (windows_of most (generated n))) k) → g.last ≡ last → DemoLeaving holds keeps spent n (Some fault) first most taken taken' k
  gives_up_at n fault first most taken taken' k kind cause kept (line ∷ lines) g is =
      let few = no_more_lines (ended (windows_of most (generated n))) (g.answered ++ unless_empty g.last) g.among in
      let size = ap length (lines_with g.answered g.last) ∙ length-append (lines_in g.answered) g.last in
      let some = ap length is in
      stops_at n fault first most taken taken' k g.answered g.last g.replies kind cause kept g.given (λ all. omega (arith, few, size, some, all, all_lines most n)) g.among g.sound g.left
  gives_up_at n fault first most taken taken' k kind cause kept [] g is =
      let whole = ended (windows_of most (generated n)) in
      let among : BeginsWith whole g.answered = subst (BeginsWith whole) (append-nil g.answered) (subst (λ w. BeginsWith whole (g.answered ++ unless_empty w)) is g.among) in
      let l = last_of g.answered in
      let few = no_more_lines whole g.answered among in
      let split : requests_in g.answered ≡ requests_in l.answered ++ requests_for l.last = ap requests_for l.lines ∙ requests-unless_empty l.answered l.last in
      let c : AreCut (requests_in l.answered) (requests_for l.last) (whole_of first) g.replies = cut (requests_in l.answered) (requests_for l.last) (whole_of first) g.replies (subst (λ rs. MayReply rs (whole_of first) g.replies) split g.given) in
      stops_at n fault first most taken taken' k l.answered l.last c.front kind cause kept c.given (fewer_before n g.answered l (omega (arith, few, all_lines most n)))
      (BeginsWith-trans among l.among) g.sound (left_last first g.answered l k (subst (λ w. IsLeft holds keeps k first (λ v. worlds_left stopped v g.answered w)) is g.left))

  pub gives_up : (n : ℕ) (fault : RunFault) (first : Sight) (most : ℕ) (taken taken' : Option (List ℕ)) (k : K) → IsOfStore fault → (fault ≡ Spent → spent k) → Keeps taken taken'
      → HasGivenUp holds keeps first fault (ended (windows_of most (generated n))) k → DemoLeaving holds keeps spent n (Some fault) first most taken taken' k
  gives_up n fault first most taken taken' k kind cause kept g = gives_up_at n fault first most taken taken' k kind cause kept g.last g refl

  -- memory was wanting for the two lines
  pub makes_no_lines : (n : ℕ) (first : Sight) (most : ℕ) (taken taken' : Option (List ℕ)) (k : K) (heard : Heard) → Keeps taken taken' → HasHeardAll holds first (generated n) k heard → DemoLeaving holds keeps spent n (Some Memory) first most taken taken' k
  makes_no_lines n first most taken taken' k heard kept a =
      gives_up n Memory first most taken taken' k tt (λ same. absurd (cc)) kept (all_unwritten holds keeps first most (generated n) k a.replies a.given a.store)

  -- ---- the two lines were written, or the first bytes of them

  sound_none : (first : Sight) → IfKnown first (λ only w. IfSome None (IsNoDamage only))
  sound_none first = if_known first (λ only. Unit {0}) (λ only w is. tt)

  sound_write : (m : ℕ) (first : Sight) → IfKnown first (λ only w. IfSome (Some (Write m)) (IsNoDamage only))
  sound_write m first = if_known first (λ only. Unit {0}) (λ only w is. tt)

  stands_at : (first : Sight) (us : List Window) (lines : List (List ℕ)) (k : K) → lines_in us ≡ lines → holds k (sight_after (requests_for lines) first) → IsLeft holds keeps k first (λ w. behind w us ∷ [])
  stands_at nothing us lines k same held = tt
  stands_at (sees only w) us lines k same held =
      record { one = behind w us; other = behind w us; one_of = inl refl; other_of = inl refl; left = inl (subst (λ ls. holds k (sight_after (requests_for ls) (sees only w))) (sym same) held) }

  stands_behind : (first : Sight) (us : List Window) (lines : List (List ℕ)) (k : K) → lines_in us ≡ lines → holds k (sight_after (requests_for lines) first) → IfKnown first (λ only w. holds k (sees only (behind w us)))
  stands_behind nothing us lines k same held = tt
  stands_behind (sees only w) us lines k same held = subst (λ ls. holds k (sight_after (requests_for ls) (sees only w))) (sym same) held

  pub writes_lines : (n : ℕ) (first : Sight) (most : ℕ) (taken taken' : Option (List ℕ)) (k : K) (heard : Heard) → HasHeardAll holds first (generated n) k heard → Appends taken taken' (lines_for n heard) → DemoLeaving holds keeps spent n None first most taken taken' k
  writes_lines n first most taken taken' k heard a wrote =
      let whole = ended (windows_of most (generated n)) in
      let count : length a.replies ≡ suc n = replies_to_lines (generated n) (whole_of first) a.replies a.given ∙ generated_count n in record {
        run = record {
          ending = finished;
          by = refl;
          ran = record {
            input = input_of n;
            consumed = sym (append-nil (input_of n));
            answered = whole;
            last = [];
            replies = a.replies;
            given = subst (λ rs. MayReply rs (whole_of first) a.replies) (sym (ap requests_for (lines_ended most (generated n)))) a.given;
            reached = (refl, all_windows most n, refl);
            took = subst (Appends taken taken') (sym (all_shown n a.replies count ∙ ap (lines_for n) (sym a.kept))) wrote;
          };
        };
        sound = sound_none first;
        left = stands_at first whole (generated n) k (lines_ended most (generated n)) a.store;
        stands = λ none. stands_behind first whole (generated n) k (lines_ended most (generated n)) a.store;
      }

  -- a window that has a line is one
  one_window : (window : Window) → 0 < length window → unless_empty window ≡ window ∷ []
  one_window [] some = absurd (omega (arith, some))
  one_window (line ∷ lines) some = refl

  pub writes_part : (n m : ℕ) (first : Sight) (most : ℕ) (taken taken' : Option (List ℕ)) (k : K) (heard : Heard) → HasHeardAll holds first (generated n) k heard → m < length (lines_for n heard) → Appends taken taken' (take m (lines_for n heard))
      → DemoLeaving holds keeps spent n (Some (Write m)) first most taken taken' k
  writes_part n m first most taken taken' k heard a within wrote =
      let whole = ended (windows_of most (generated n)) in
      let l = last_of whole in
      let some : 0 < length l.last = ⊎_elim (λ none. let bad = ap length none in absurd (omega (arith, bad, all_lines most n))) (λ some. some) l.some in
      let one = one_window l.last some in
      let lines : generated n ≡ lines_in (l.answered ++ unless_empty l.last) = sym (lines_ended most (generated n)) ∙ l.lines in
      let split : requests_for (generated n) ≡ requests_in l.answered ++ requests_for l.last = ap requests_for lines ∙ requests-unless_empty l.answered l.last in
      let c : AreCut (requests_in l.answered) (requests_for l.last) (whole_of first) a.replies = cut (requests_in l.answered) (requests_for l.last) (whole_of first) a.replies (subst (λ rs. MayReply rs (whole_of first) a.replies) split a.given) in
      let fewer = fewer_before n whole l (omega (arith, all_lines most n)) in
      let none : two_lines n c.front ≡ [] = nothing_shown n c.front (λ is. fewer (sym (replies_to_lines (lines_in l.answered) (whole_of first) c.front c.given) ∙ is)) in
      let count : length a.replies ≡ suc n = replies_to_lines (generated n) (whole_of first) a.replies a.given ∙ generated_count n in
      let nothing : 0 + m ≡ m = omega arith in
      let shown : two_lines n (c.front ++ c.back) ≡ lines_for n heard = ap (two_lines n) (sym c.all) ∙ all_shown n a.replies count ∙ ap (lines_for n) (sym a.kept) in record {
        run = record {
          ending = output_failed m;
          by = refl;
          ran = record {
            input = input_of n;
            consumed = sym (append-nil (input_of n));
            answered = l.answered;
            last = l.last;
            replies = c.front;
            given = c.given;
            reached = (whole, closed_all most n, subst (λ end. BeginsWith whole (l.answered ++ end)) one l.among);
            took = (c.back, c.more, rw (none, shown) (omega (arith, within)), rw (none, shown) (subst (λ k. Appends taken taken' (take k (lines_for n heard))) (sym nothing) wrote));
          };
        };
        sound = sound_write m first;
        left = stands_at first (l.answered ++ l.last ∷ []) (generated n) k (ap (λ end. lines_in (l.answered ++ end)) (sym one) ∙ sym lines) a.store;
        stands = λ never. absurd (cc);
      }
