-- The watch of a reader is lent or taken back at one place, and all else of the engines goes on.
use Rattle.std.proofs.Common.{◌≡◌, ◌∙◌, ◌<◌, ◌+◌, ℕ, zero, suc, false, List, [], ◌∷◌, Option, length, map, set, arith, refl, ap, sym, subst}
use Rattle.std.specs.Prelude.{slice_index_or, zip}
use Rattle.tc_run_model.specs.World.{Part, World}
use Rattle.tc_running.specs.Jobs.{JobsState}
use Rattle.tc_part.specs.FilesOut.{HoldsDevices}
use Rattle.tc_work.specs.EngineState.{EngineState}
use Rattle.tc_work.specs.Moving.{beside, told_part, Eyes, IsOutBy}
use Rattle.tc_work.specs.Settling.{MaySettle}
use Rattle.tc_keeper.specs.Places.{AtEach, IsAt}
use Rattle.tc_keeper.specs.Standing.{HoldsOwn, HoldWorld, KeepsOwn, KeepWorlds}
use Rattle.tc_keeper.specs.WithJobs.{engine_with, with_jobs, with_reader, AreStaffed, IsStaffed, ReadsBy, WithJobs}
use Rattle.tc_keeper.proofs.PlaceLaws.{at_each-join}

-- ---- what stands at a place

pub place_below : {X : Type 0} (P : X → Type 0) (at : ℕ) (xs : List X) → IsAt at xs P → at < length xs
place_below P at [] holds = absurd holds
place_below P zero (x ∷ xs) holds = omega arith
place_below P (suc at) (x ∷ xs) holds = let less = place_below P at xs holds in omega (arith, less)

-- it is this place, or another one
by_place : {T : Type 0} (p q : ℕ) → (p ≡ q → T) → ((p ≡ q → ⊥) → T) → T
by_place zero zero here other = here refl
by_place zero (suc q) here other = other (λ is. absurd (omega (arith, is)))
by_place (suc p) zero here other = other (λ is. absurd (omega (arith, is)))
by_place (suc p) (suc q) here other = by_place p q (λ is. here (ap suc is)) (λ apart. other (λ is. apart (omega (arith, is))))

module _ {X S D F W : Type 0} (f : X → EngineState S D F W) (P : EngineState S D F W → Type 0) where
  -- what holds of the engine that is read there holds of it with its jobs
  pub engine_placed : (at : ℕ) (xs : List X) (jobs : List (JobsState F D W)) (x : X) → length xs ≡ length jobs → at < length xs → x ≡ slice_index_or xs at x → P (f x) → IsAt at (with_jobs (map f xs) jobs) (λ e. P e.engine)
  engine_placed at [] jobs x many below is holds = absurd (omega (arith, below))
  engine_placed at (y ∷ xs) [] x many below is holds = absurd (omega (arith, many))
  engine_placed zero (y ∷ xs) (js ∷ jobs) x many below is holds = subst (λ z. P (f z)) is holds
  engine_placed (suc at) (y ∷ xs) (js ∷ jobs) x many below is holds = engine_placed at xs jobs x (omega (arith, many)) (omega (arith, below)) is holds

  pub placed_engine : (at : ℕ) (xs : List X) (jobs : List (JobsState F D W)) (x : X) → x ≡ slice_index_or xs at x → IsAt at (with_jobs (map f xs) jobs) (λ e. P e.engine) → P (f x)
  placed_engine at [] jobs x is holds = absurd holds
  placed_engine at (y ∷ xs) [] x is holds = absurd holds
  placed_engine zero (y ∷ xs) (js ∷ jobs) x is holds = subst (λ z. P (f z)) (sym is) holds
  placed_engine (suc at) (y ∷ xs) (js ∷ jobs) x is holds = placed_engine at xs jobs x is holds

-- ---- an engine whose reader has another watch, or none

module _ {S D F W : Type 0} (reader : Option W) where
  abbrev read_by : EngineState S D F W → EngineState S D F W
  read_by e = record e { part = record e.part { reader = reader } }

  others_stay : (at q : ℕ) (es : List (WithJobs S D F W)) → at < q → AtEach (ReadsBy at reader) q es es
  others_stay at q [] less = tt
  others_stay at q (e ∷ es) less = ((λ there. absurd (omega (arith, less, there)), λ other. refl), others_stay at (suc q) es (omega (arith, less)))

  put_reader : {X : Type 0} (f : X → EngineState S D F W) (at p k : ℕ) (xs : List X) (jobs : List (JobsState F D W)) (x y : X) → at ≡ p + k → length xs ≡ length jobs → k < length xs → x ≡ slice_index_or xs k x → f y ≡ read_by (f x)
      → AtEach (ReadsBy at reader) p (with_jobs (map f xs) jobs) (with_jobs (map f (set xs k y)) jobs)
  put_reader f at p k [] jobs x y here many below is lent = absurd (omega (arith, below))
  put_reader f at p k (z ∷ xs) [] x y here many below is lent = absurd (omega (arith, many))
  put_reader f at p zero (z ∷ xs) (js ∷ jobs) x y here many below is lent = (
    (λ there. ap (λ e. engine_with e js) (lent ∙ ap (λ v. read_by (f v)) is), λ other. absurd (other (omega (arith, here)))),
    others_stay at (suc p) (with_jobs (map f xs) jobs) (omega (arith, here)),
  )
  put_reader f at p (suc k) (z ∷ xs) (js ∷ jobs) x y here many below is lent =
      ((λ there. absurd (omega (arith, here, there)), λ other. refl), put_reader f at (suc p) k xs jobs x y (omega (arith, here)) (omega (arith, many)) (omega (arith, below)) is lent)

  pub reader_put : {X : Type 0} (f : X → EngineState S D F W) (at : ℕ) (xs : List X) (jobs : List (JobsState F D W)) (x y : X) → length xs ≡ length jobs → at < length xs → x ≡ slice_index_or xs at x → f y ≡ read_by (f x)
      → AtEach (ReadsBy at reader) 0 (with_jobs (map f xs) jobs) (with_jobs (map f (set xs at y)) jobs)
  reader_put f at xs jobs x y many below is lent = put_reader f at 0 at xs jobs x y (omega arith) many below is lent

  -- ---- what does not look at it

  reads_keep : (Q : WithJobs S D F W → Type 0) → ((e : WithJobs S D F W) → Q e → Q (with_reader reader e)) → (at p : ℕ) (old new : WithJobs S D F W) → ReadsBy at reader p old new → Q old → Q new
  reads_keep Q so at p old new reads holds = by_place p at (λ here. subst Q (sym (reads.0 here)) (so old holds)) (λ other. subst Q (sym (reads.1 other)) holds)

  pub lent_held : (eyes : Eyes S D F W) (at : ℕ) (olds news : List (WithJobs S D F W)) → AtEach (ReadsBy at reader) 0 olds news → (only : Option ℕ) (w : World) → HoldWorld eyes only olds w → HoldWorld eyes only news w
  lent_held eyes at olds news reads only w h = record {
    each = at_each-join (ReadsBy at reader) (HoldsOwn eyes only (length w.parts) w) (HoldsOwn eyes only (length w.parts) w) 0 olds news w.parts
        (λ p old new part read holds. reads_keep (λ e. HoldsOwn eyes only (length w.parts) w p e part) (λ e held. held) at p old new read holds) reads h.each;
    own = h.own;
  }

  pub lent_kept : (eyes : Eyes S D F W) (at : ℕ) (olds news : List (WithJobs S D F W)) → AtEach (ReadsBy at reader) 0 olds news → (only : Option ℕ) (w v : World) → KeepWorlds eyes only olds w v → KeepWorlds eyes only news w v
  lent_kept eyes at olds news reads only w v keeps =
      at_each-join (ReadsBy at reader) (λ p e (parts : Part × Part). KeepsOwn eyes only (length w.parts) w v p e parts.0 parts.1) (λ p e (parts : Part × Part). KeepsOwn eyes only (length w.parts) w v p e parts.0 parts.1) 0 olds news (zip w.parts v.parts)
      (λ p old new parts read kept. reads_keep (λ e. KeepsOwn eyes only (length w.parts) w v p e parts.0 parts.1) (λ e held. held) at p old new read kept) reads keeps

  -- its jobs stay those that are out
  put_staffed : {X : Type 0} (eyes : Eyes S D F W) (f : X → EngineState S D F W) (p k : ℕ) (xs : List X) (jobs : List (JobsState F D W)) (x y : X) → x ≡ slice_index_or xs k x → ((js : JobsState F D W) → IsStaffed eyes (f x) js → IsStaffed eyes (f y) js)
      → AtEach (λ i e js. IsStaffed eyes e js) p (map f xs) jobs → AtEach (λ i e js. IsStaffed eyes e js) p (map f (set xs k y)) jobs
  put_staffed eyes f p k [] [] x y is so all = tt
  put_staffed eyes f p k [] (js ∷ jobs) x y is so all = absurd all
  put_staffed eyes f p k (z ∷ xs) [] x y is so all = absurd all
  put_staffed eyes f p zero (z ∷ xs) (js ∷ jobs) x y is so all = (so js (subst (λ v. IsStaffed eyes (f v) js) (sym is) all.0), all.1)
  put_staffed eyes f p (suc k) (z ∷ xs) (js ∷ jobs) x y is so all = (all.0, put_staffed eyes f (suc p) k xs jobs x y is so all.1)

  pub lent_staffed : {X : Type 0} (eyes : Eyes S D F W) (f : X → EngineState S D F W) (at : ℕ) (xs : List X) (jobs : List (JobsState F D W)) (x y : X)
      → x ≡ slice_index_or xs at x → f y ≡ read_by (f x) → ((js : JobsState F D W) → IsOutBy eyes (beside (f x).part js) → IsOutBy eyes (beside (f y).part js))
      → AreStaffed eyes (map f xs) jobs → AreStaffed eyes (map f (set xs at y)) jobs
  lent_staffed eyes f at xs jobs x y is lent out all = put_staffed eyes f 0 at xs jobs x y is still all
    where
      still : (js : JobsState F D W) → IsStaffed eyes (f x) js → IsStaffed eyes (f y) js
      still js staffed = record {
        out = out js staffed.out;
        ready = subst (λ (e : EngineState S D F W). e.part.failed ≡ false → MaySettle (told_part eyes e.part)) (sym lent) staffed.ready;
        devices = subst (λ (e : EngineState S D F W). HoldsDevices (told_part eyes e.part)) (sym lent) staffed.devices;
      }
