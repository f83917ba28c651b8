-- Lenses and watches go out one after the other, and come back so: what holds behind each turn.
use Rattle.std.proofs.Common.{◌≡◌, ◌∙◌, ◌<◌, ◌+◌, ℕ, false, List, [], ◌∷◌, ◌++◌, map, length, length-append, arith, refl, ap, sym, subst}
use Rattle.std.specs.Prelude.{Some, slice_get}
use Rattle.tc_keeper.specs.Places.{AtEach, IsAt}
use Rattle.tc_keeper.specs.WithJobs.{with_reader, WithJobs}
use Rattle.tc_shown.specs.Shown.{Reads, ShownState}
use Rattle.tc_shown.specs.declared.scan.Pass.{Pass}
use Rattle.tc_view.specs.declared.lens.Lens.{Lens}
use Rattle.tc_keeper.proofs.EachLaws.{at_each-at, behind_front}

-- ---- what is left of a list, behind what was taken

front_more : {X : Type 0} (front : List X) (x : X) (rest : List X) → (front ++ x ∷ []) ++ rest ≡ front ++ x ∷ rest
front_more [] x rest = refl
front_more (y ∷ front) x rest = ap (λ zs. y ∷ zs) (front_more front x rest)

pub taken_more : {X : Type 0} (front more more' all : List X) (x : X) → more ≡ x ∷ more' → front ++ more ≡ all → (front ++ x ∷ []) ++ more' ≡ all
taken_more front more more' all x steps whole = front_more front x more' ∙ ap (λ zs. front ++ zs) (sym steps) ∙ whole

-- the next place is one of the list
pub taken_below : {X : Type 0} (front more more' all : List X) (x : X) (at : ℕ) → at ≡ length front → more ≡ x ∷ more' → front ++ more ≡ all → at < length all
taken_below front more more' all x at here steps whole = omega (arith, here, ap length steps, ap length whole, length-append front more)

behind_at : {X : Type 0} (P : X → Type 0) (front more : List X) (x : X) → P x → IsAt (length front) (front ++ x ∷ more) P
behind_at P [] more x is = is
behind_at P (y ∷ front) more x is = behind_at P front more x is

pub front_at : {X : Type 0} (P : X → Type 0) (front more all : List X) (x : X) (at : ℕ) → at ≡ length front → front ++ x ∷ more ≡ all → P x → IsAt at all P
front_at P front more all x at here whole is = subst (λ xs. IsAt at xs P) whole (subst (λ n. IsAt n (front ++ x ∷ more) P) (sym here) (behind_at P front more x is))

module _ {F W : Type 0} where
  map_more : (passes : List (Pass F W)) (pass : Pass F W) (more : List (Lens F W)) → map (λ (pass : Pass F W). pass.lens) (passes ++ pass ∷ []) ++ more ≡ map (λ (pass : Pass F W). pass.lens) passes ++ pass.lens ∷ more
  map_more [] pass more = refl
  map_more (p ∷ passes) pass more = ap (λ (zs : List (Lens F W)). p.lens ∷ zs) (map_more passes pass more)

  pub lenses_more : (passes passes' : List (Pass F W)) (pass : Pass F W) (more more' all : List (Lens F W)) → passes' ≡ passes ++ pass ∷ [] → more ≡ pass.lens ∷ more' → map (λ (pass : Pass F W). pass.lens) passes ++ more ≡ all
      → map (λ (pass : Pass F W). pass.lens) passes' ++ more' ≡ all
  lenses_more passes passes' pass more more' all is steps whole =
      ap (λ (ps : List (Pass F W)). map (λ (pass : Pass F W). pass.lens) ps ++ more') is ∙ map_more passes pass more' ∙ ap (λ (zs : List (Lens F W)). map (λ (pass : Pass F W). pass.lens) passes ++ zs) (sym steps) ∙ whole

  -- the lens that comes back next reads what is shown there
  pub lens_reads : (shown : List (ShownState F W)) (front more all : List (Pass F W)) (pass : Pass F W) (s : ShownState F W) (at : ℕ) → at ≡ length front → front ++ pass ∷ more ≡ all → slice_get shown at ≡ Some s
      → AtEach (λ p s pass. s.failed ≡ false → Reads s.book pass.lens) 0 shown all → s.failed ≡ false → Reads s.book pass.lens
  lens_reads shown front more all pass s at here whole is reads =
      let one = at_each-at (λ p (s : ShownState F W) (pass : Pass F W). s.failed ≡ false → Reads s.book pass.lens) at shown all s reads is in
      let there : slice_get all at ≡ Some pass = subst (λ ps. slice_get ps at ≡ Some pass) whole (behind_front front pass more at here) in
      let same : one.0 ≡ pass = let first = one.1 in cc in
      subst (λ (pass : Pass F W). s.failed ≡ false → Reads s.book pass.lens) same one.2

-- and its watch is that which comes back to the engine there
pub watch_back : {S D F W : Type 0} (front more all : List (Pass F W)) (pass : Pass F W) (at : ℕ) → at ≡ length front → front ++ pass ∷ more ≡ all → (e : WithJobs S D F W) → IsAt at all (λ one. with_reader (Some pass.watch) e ≡ with_reader (Some one.watch) e)
watch_back front more all pass at here whole e = front_at (λ (one : Pass _ _). with_reader (Some pass.watch) e ≡ with_reader (Some one.watch) e) front more all pass at here whole refl
