-- The lines of a demonstration, one after the other.
use Rattle.std.proofs.Common.{◌≡◌, ℕ, ◌+◌, ◌<◌, ◌^◌, List, [], ◌∷◌, ◌++◌, length, length-append, refl, ap, sym, ◌∙◌, subst, append_assoc, append-nil, arith}
use Rattle.std.specs.Prelude.{Option}
use Rattle.std.specs.List.{AllByRecursion}
use Rattle.tc_gen.specs.TwoLines.{Heard, heard_of}
use Rattle.tc_run_model.specs.World.{World}
use Rattle.tc_run_model.specs.Windows.{BeginsWith, Window, unless_empty, windows_of}
use Rattle.tc_run_model.proofs.WindowLaws.{closed-windows_of-append, BeginsWith-trans}
use Rattle.tc_run_model.proofs.ReplyLaws.{MayReply-none}
use Rattle.tc_server.specs.Demo.{ended, GivesUpAtEnd, GivesUpAtLine, HasGivenUp, HasHeard, HasHeardAll, HearsEnd, HearsLine}
use Rattle.tc_keeper.specs.Sight.{whole_of, Sight}
use Rattle.tc_server.specs.Window.{requests_of}
use Rattle.tc_keeper.specs.declared.fault.RunFault.{RunFault}
use Rattle.tc_keeper.specs.declared.fault.RunFault.TheVariants.{Memory}
use Rattle.tc_server.specs.declared.session.Session.{Session}
use Rattle.tc_server.proofs.DemoLemmas.{stops_behind}
use Rattle.tc_server.proofs.SightLaws.{sight_none}

-- Of the lines these are left, and the session stands behind the others, whose replies were heard, from each world in which it may
-- have begun.
pub record ComesOn {K : Type 0} (holds : K → Sight → Type 0) (begun : Sight → Type 0) (lines left : List (List ℕ)) (most : ℕ) (session : Session K) (heard : Heard) : Type 0 where
  pub done : List (List ℕ)
  pub all : lines ≡ done ++ left
  pub stands : (first : Sight) → begun first → HasHeard holds first (windows_of most done) session heard

-- a line that stands among others of a kind
among_kind : (P : List ℕ → Type 0) (before : List (List ℕ)) (line : List ℕ) (more : List (List ℕ)) → AllByRecursion P (before ++ line ∷ more) → P line
among_kind P [] line more all = all.0
among_kind P (x ∷ before) line more all = among_kind P before line more all.1

module _ {K : Type 0} (holds : K → Sight → Type 0) (keeps : K → Option ℕ → World → World → Type 0) (begun : Sight → Type 0) (lines : List (List ℕ)) (most : ℕ) where
  pub comes_first : (session : Session K) → ((first : Sight) → begun first → holds session.keeper first) → requests_of session.window ≡ [] → session.window.bytes ≡ 0 → ComesOn holds begun lines lines most session (heard_of [])
  comes_first session held none no_bytes = record {
    done = [];
    all = refl;
    stands = λ first is. record {
      at = record {
        replies = [];
        given = MayReply-none (whole_of first);
        written = tt;
        store = subst (λ known. holds session.keeper known) (sym (sight_none first)) (held first is);
        requests = none;
        bytes = no_bytes;
      };
      kept = refl;
    };
  }

  few_done : (left : List (List ℕ)) (session : Session K) (heard : Heard) (c : ComesOn holds begun lines left most session heard) → length lines + 1 < 2 ^ 32 → length c.done + 1 < 2 ^ 32
  few_done left session heard c few = omega (arith, few, ap length c.all, length-append c.done left)

  pub comes_next : (left : List (List ℕ)) (line : List ℕ) (more : List (List ℕ)) (old new : Session K) (heard heard' : Heard) → left ≡ line ∷ more → old.window.limit ≡ most → length lines + 1 < 2 ^ 32
      → HearsLine holds line old heard new heard' → ComesOn holds begun lines left most old heard → ComesOn holds begun lines more most new heard'
  comes_next left line more old new heard heard' is limit few hears c = record {
    done = c.done ++ line ∷ [];
    all = c.all ∙ ap (λ ls. c.done ++ ls) is ∙ sym (append_assoc c.done (line ∷ []) more);
    stands = λ first b.
        subst (λ m. HasHeard holds first (windows_of m (c.done ++ line ∷ [])) new heard') limit
        (hears first c.done (few_done left old heard c few) (subst (λ m. HasHeard holds first (windows_of m c.done) old heard) (sym limit) (c.stands first b)));
  }

  pub line_is : (P : List ℕ → Type 0) (left : List (List ℕ)) (line : List ℕ) (more : List (List ℕ)) (session : Session K) (heard : Heard) → left ≡ line ∷ more → AllByRecursion P lines → ComesOn holds begun lines left most session heard → P line
  line_is P left line more session heard is all c = among_kind P c.done line more (subst (AllByRecursion P) (c.all ∙ ap (λ ls. c.done ++ ls) is) all)

  -- what ended in some windows ended in more
  in_more : (first : Sight) (fault : RunFault) (closed whole : List Window) (k : K) → BeginsWith whole closed → HasGivenUp holds keeps first fault closed k → HasGivenUp holds keeps first fault whole k
  in_more first fault closed whole k begins g = record { answered = g.answered; last = g.last; replies = g.replies; given = g.given; among = BeginsWith-trans begins g.among; sound = g.sound; left = g.left }

  -- the windows of some lines begin those of all
  begins_all : (done left : List (List ℕ)) → lines ≡ done ++ left → BeginsWith (ended (windows_of most lines)) (windows_of most done).closed
  begins_all done left all =
      subst (λ ls. BeginsWith (ended (windows_of most ls)) (windows_of most done).closed) (sym all)
      (BeginsWith-trans (record { more = unless_empty (windows_of most (done ++ left)).open_lines; goes_on = refl }) (closed-windows_of-append most done left))

  pub ends_at_line : (left : List (List ℕ)) (line : List ℕ) (more : List (List ℕ)) (old new : Session K) (heard : Heard) (fault : RunFault) → left ≡ line ∷ more → old.window.limit ≡ most → GivesUpAtLine holds keeps fault line old heard new
      → ComesOn holds begun lines left most old heard → (first : Sight) → begun first → HasGivenUp holds keeps first fault (ended (windows_of most lines)) new.keeper
  ends_at_line left line more old new heard fault is limit gives c first b =
      in_more first fault (windows_of most (c.done ++ line ∷ [])).closed (ended (windows_of most lines)) new.keeper
      (begins_all (c.done ++ line ∷ []) more (c.all ∙ ap (λ ls. c.done ++ ls) is ∙ sym (append_assoc c.done (line ∷ []) more)))
      (subst (λ m. HasGivenUp holds keeps first fault (windows_of m (c.done ++ line ∷ [])).closed new.keeper) limit
      (gives first c.done (subst (λ m. HasHeard holds first (windows_of m c.done) old heard) (sym limit) (c.stands first b))))

  -- where memory is wanting between two lines
  pub ends_between : (left : List (List ℕ)) (session : Session K) (heard : Heard) → ComesOn holds begun lines left most session heard → (first : Sight) → begun first → HasGivenUp holds keeps first Memory (ended (windows_of most lines)) session.keeper
  ends_between left session heard c first b =
      let h = c.stands first b in
      in_more first Memory (windows_of most c.done).closed (ended (windows_of most lines)) session.keeper (begins_all c.done left c.all) (stops_behind holds keeps first (windows_of most c.done).closed h.at.replies session.keeper h.at.given h.at.store)

  all_done : (left : List (List ℕ)) (session : Session K) (heard : Heard) (c : ComesOn holds begun lines left most session heard) → left ≡ [] → c.done ≡ lines
  all_done left session heard c none = sym (c.all ∙ ap (λ ls. c.done ++ ls) none ∙ append-nil c.done)

  pub ends_well : (left : List (List ℕ)) (old new : Session K) (heard heard' : Heard) → left ≡ [] → old.window.limit ≡ most → length lines + 1 < 2 ^ 32 → HearsEnd holds old heard new heard' → ComesOn holds begun lines left most old heard
      → (first : Sight) → begun first → HasHeardAll holds first lines new.keeper heard'
  ends_well left old new heard heard' none limit few hears c first b =
      subst (λ ls. HasHeardAll holds first ls new.keeper heard') (all_done left old heard c none)
      (hears first c.done (few_done left old heard c few) (subst (λ m. HasHeard holds first (windows_of m c.done) old heard) (sym limit) (c.stands first b)))

  pub ends_at_end : (left : List (List ℕ)) (old new : Session K) (heard : Heard) (fault : RunFault) → left ≡ [] → old.window.limit ≡ most → GivesUpAtEnd holds keeps fault old heard new → ComesOn holds begun lines left most old heard
      → (first : Sight) → begun first → HasGivenUp holds keeps first fault (ended (windows_of most lines)) new.keeper
  ends_at_end left old new heard fault none limit gives c first b =
      subst (λ ls. HasGivenUp holds keeps first fault (ended (windows_of most ls)) new.keeper) (all_done left old heard c none)
      (subst (λ m. HasGivenUp holds keeps first fault (ended (windows_of m c.done)) new.keeper) limit
      (gives first c.done (subst (λ m. HasHeard holds first (windows_of m c.done) old heard) (sym limit) (c.stands first b))))
