-- What is shown of a partition has its own components alone.
use Rattle.std.proofs.Common.{◌≡◌, ◌∙◌, ◌⊎◌, ◌<◌, ◌++◌, ℕ, zero, suc, true, false, List, [], ◌∷◌, length, map, arith, ap, sym, subst, inl, inr}
use Rattle.std.specs.Prelude.{fold, slice_get, HoldsAt, None, Option, Some}
use mathlib.Core.List.{IsPrefix}
use Rattle.std.proofs.lemmas.Bool.{false≢true}
use Rattle.std.proofs.lemmas.List.Elements.{All-nil}
use Rattle.tc_component.specs.Loading.{ComponentState, IsAsJudged}
use Rattle.tc_jobs.specs.Lists.{IsOf}
use Rattle.tc_keeper.specs.Places.{AtEach}
use Rattle.tc_keeper.specs.WithJobs.{settings, Settings, WithJobs}
use Rattle.tc_log.specs.declared.write.Write as log
use Rattle.tc_part.specs.OwnComponents.{AreOwnComponents}
use Rattle.tc_query.specs.Faults.{IsHarmIn}
use Rattle.tc_shown.specs.Shown.{wrote, Reads, ShownState}
use Rattle.tc_shown.specs.declared.scan.Pass.{Pass}
use Rattle.tc_store.specs.declared.damage.Damage.TheVariants.{Bytes}
use Rattle.tc_store.specs.declared.file_name.FileName.{FileName}
use Rattle.tc_view.specs.declared.happened.Happened.{Happened}
use Rattle.tc_view.specs.declared.happened.Happened.TheVariants.{Placed, Wrote}
use Rattle.tc_view.specs.declared.lens.Lens.{Lens}
use Rattle.tc_view.specs.Changes.{after_one, empty_showing, Showing}
use Rattle.tc_view.specs.Places.{kept_by}
use Rattle.tc_keeper.specs.Keeping.{IsShownAt}
use Rattle.tc_keeper.specs.Showing.{AllPlaced, IsPlacedOver, ShowsOwn, ShowsOwnOf, StaysOwn}
use Rattle.tc_keeper.proofs.EachLaws.{at_each-at, at_each-from, at_each-then}
use Rattle.tc_keeper.proofs.PlaceLaws.{at_each-length, head_same, tail_same}

-- ---- histories

module _ {F W : Type 0} (P : List (ComponentState F) → Type 0) where
  placed_behind : (xs ys : List (Happened F W)) → AllPlaced P xs → AllPlaced P ys → AllPlaced P (xs ++ ys)
  placed_behind [] ys front back = back
  placed_behind (Wrote writes ∷ xs) ys front back = placed_behind xs ys front back
  placed_behind (Placed list sealed ∷ xs) ys front back = (front.0, placed_behind xs ys front.1 back)

  placed_front : (xs ys : List (Happened F W)) → AllPlaced P (xs ++ ys) → AllPlaced P xs
  placed_front [] ys all = tt
  placed_front (Wrote writes ∷ xs) ys all = placed_front xs ys all
  placed_front (Placed list sealed ∷ xs) ys all = (all.0, placed_front xs ys all.1)

  -- so of what is shown then
  placed_last : (s : Showing F) (xs : List (Happened F W)) → P s.list → AllPlaced P xs → P (fold after_one s xs).list
  placed_last s [] first all = first
  placed_last s (Wrote writes ∷ xs) first all = placed_last (after_one {W = W} s (Wrote writes)) xs first all
  placed_last s (Placed list sealed ∷ xs) first all = placed_last (after_one {W = W} s (Placed list sealed)) xs all.0 all.1

-- a frame places nothing
nothing_placed : {F : Type 0} (W : Type 0) (P : List (ComponentState F) → Type 0) (ws : List log.Write) → AllPlaced {W = W} P (wrote ws)
nothing_placed W P [] = tt
nothing_placed W P (w ∷ ws) = tt

-- ---- one partition

module _ {F W : Type 0} (content : F → Option (List ℕ)) (number count : ℕ) where
  pub failed_own : (old new : ShownState F W) → (new ≡ old) ⊎ (new.failed ≡ true) → StaysOwn content number count old new
  failed_own old new (inl same) = subst (ShowsOwn content number count) (sym same)
  failed_own old new (inr failed) = λ own works. absurd (false≢true (sym works ∙ failed))

  pub wrote_own : (old new : ShownState F W) (ws : List log.Write) → new ≡ record old { history = old.history ++ wrote ws } → StaysOwn content number count old new
  wrote_own old new ws is = λ own. subst (ShowsOwn content number count) (sym is) (λ works. placed_behind (AreOwnComponents content number count) old.history (wrote ws) (own works) (nothing_placed W (AreOwnComponents content number count) ws))

  pub first_own : (s : ShownState F W) (list : List (ComponentState F)) → s.history ≡ Placed list None ∷ [] → AreOwnComponents content number count list → ShowsOwn content number count s
  first_own s list is own = λ works. subst (AllPlaced (AreOwnComponents content number count)) (sym is) (own, tt)

  -- a lens of what is shown keeps such components alone
  lens_own : (s : ShownState F W) (lens : Lens F W) → s.failed ≡ false → Reads s.book lens → IsPrefix (kept_by lens).history s.history → ShowsOwn content number count s → AreOwnComponents content number count (kept_by lens).list
  lens_own s lens works reads begins own =
      let front = placed_front (AreOwnComponents content number count) (kept_by lens).history begins.0 (subst (AllPlaced (AreOwnComponents content number count)) (sym begins.1) (own works)) in
      let none : AreOwnComponents content number count [] = record { each = All-nil (IsOf number count); judged = All-nil (IsAsJudged content) } in
      subst (AreOwnComponents content number count) (sym (ap (λ (t : Showing F). t.list) reads.kept.shows)) (placed_last (AreOwnComponents content number count) empty_showing (kept_by lens).history none front)

pub placed_own : {S D F W : Type 0} (content : F → Option (List ℕ)) (e : WithJobs S D F W) (old new : ShownState F W) → AreOwnComponents content e.engine.part.number e.engine.part.count e.engine.part.list → IsPlacedOver e old new
    → StaysOwn content e.engine.part.number e.engine.part.count old new
placed_own content e old new lists (inl stays) = subst (ShowsOwn content e.engine.part.number e.engine.part.count) (sym stays)
placed_own content e old new lists (inr (empty, inl more)) = λ own. subst (ShowsOwn content e.engine.part.number e.engine.part.count) (sym more)
    (λ works. placed_behind (AreOwnComponents content e.engine.part.number e.engine.part.count) old.history (Placed e.engine.part.list e.engine.part.sealed ∷ []) (own works) (lists, tt))
placed_own content e old new lists (inr (empty, inr there)) = subst (ShowsOwn content e.engine.part.number e.engine.part.count) (sym there.0)

-- ---- all partitions

module _ {S D F W : Type 0} (content : F → Option (List ℕ)) where
  abbrev Owns : ℕ → WithJobs S D F W → ShownState F W → Type 0
  Owns = ShowsOwnOf content

  -- engines of the same partitions
  pub own_settled : (n : ℕ) (es es' : List (WithJobs S D F W)) (shown : List (ShownState F W)) → map settings es' ≡ map settings es → AtEach Owns n es shown → AtEach Owns n es' shown
  own_settled n [] [] shown same own = own
  own_settled n [] (e' ∷ es') shown same own = absurd (cc)
  own_settled n (e ∷ es) [] shown same own = absurd (cc)
  own_settled n (e ∷ es) (e' ∷ es') [] same own = absurd own
  own_settled n (e ∷ es) (e' ∷ es') (s ∷ shown) same own =
      (subst (λ (t : Settings). ShowsOwn content t.here.number t.here.count s) (sym (head_same same)) own.0, own_settled (suc n) es es' shown (tail_same same) own.1)

  pub own_written : (es : List (WithJobs S D F W)) (shown shown' : List (ShownState F W)) → AtEach (λ p old new. (number count : ℕ) → StaysOwn content number count old new) 0 shown shown' → AtEach Owns 0 es shown → AtEach Owns 0 es shown'
  own_written es shown shown' stays own = at_each-then Owns (λ p old new. (number count : ℕ) → StaysOwn content number count old new) Owns 0 es shown shown' (λ i e old new own stays. stays e.engine.part.number e.engine.part.count own) own stays

  -- what is shown stays that of the engine of its place
  abbrev pub StaysOf : List (WithJobs S D F W) → ℕ → ShownState F W → ShownState F W → Type 0
  StaysOf es p old new = (e : WithJobs S D F W) → slice_get es p ≡ Some e → StaysOwn content e.engine.part.number e.engine.part.count old new

  pub own_stays : (es : List (WithJobs S D F W)) (shown shown' : List (ShownState F W)) → AtEach (StaysOf es) 0 shown shown' → AtEach Owns 0 es shown → AtEach Owns 0 es shown'
  own_stays es shown shown' stays own = at_each-from Owns 0 es shown' (at_each-length Owns 0 es shown own ∙ at_each-length (StaysOf es) 0 shown shown' stays) (λ p e s' is_e is_s'.
      let was = at_each-at Owns p es shown e own is_e in
      let now = at_each-at (StaysOf es) p shown shown' was.0 stays was.1 in
      let same : now.0 ≡ s' = let first = now.1 in cc in
      subst (ShowsOwn content e.engine.part.number e.engine.part.count) same (now.2 e is_e was.2))

  -- what a lens keeps that is shown is damage of what is shown
  pub harm_at : (es : List (WithJobs S D F W)) (shown : List (ShownState F W)) (passes : List (Pass F W)) (n p : ℕ) (file : FileName) (place : ℕ) (bytes : List ℕ) → p < length passes → AtEach Owns n es shown
      → AtEach (λ q s pass. s.failed ≡ false → Reads s.book pass.lens) n shown passes → AtEach (λ q s pass. (s.failed ≡ false) × IsPrefix (kept_by pass.lens).history s.history) n shown passes
      → HoldsAt (λ (pass : Pass F W). IsHarmIn content (kept_by pass.lens).list file place bytes) passes p → IsShownAt content es shown p (Bytes file place bytes)
  harm_at es shown [] n p file place bytes below own reads covers harm = absurd (omega (arith, below))
  harm_at es [] (pass ∷ passes) n p file place bytes below own reads covers harm = absurd covers
  harm_at [] (s ∷ shown) (pass ∷ passes) n p file place bytes below own reads covers harm = absurd own
  harm_at (e ∷ es) (s ∷ shown) (pass ∷ passes) n zero file place bytes below own reads covers harm = record {
    lens = pass.lens;
    sound = covers.0.0;
    kept = covers.0.1;
    own = lens_own content e.engine.part.number e.engine.part.count s pass.lens covers.0.0 (reads.0 covers.0.0) covers.0.1 own.0;
    harm = harm pass;
  }
  harm_at (e ∷ es) (s ∷ shown) (pass ∷ passes) n (suc p) file place bytes below own reads covers harm = harm_at es shown passes (suc n) p file place bytes (omega (arith, below)) own.1 reads.1 covers.1 harm
