-- Damage that was met, once what keeps the documents has ended.
use Rattle.std.proofs.Common.{◌⊎◌, ◌<◌, ℕ, zero, suc, List, [], ◌∷◌, length, arith, sym, subst, inl, inr}
use Rattle.std.specs.Prelude.{Option}
use Rattle.tc_keeper.specs.Keeping.{IsShownAt, IsShownDamage, WasShown, WasShownAt}
use Rattle.tc_keeper.specs.Places.{AtEach, IsAt}
use Rattle.tc_keeper.specs.WithJobs.{with_reader, WithJobs}
use Rattle.tc_keeper.proofs.ReadersApart.{IsReread}
use Rattle.tc_keeper.proofs.Turns.{is_at-so}
use Rattle.tc_shown.specs.Shown.{ShownState}
use Rattle.tc_store.specs.DiskFile.{DiskFile}
use Rattle.tc_store.specs.declared.damage.Damage.{Damage}
use Rattle.tc_work.specs.Damage.{IsPartDamage}

-- what holds at a place holds of one that is there
at_some : {X : Type 0} (P : X → Type 0) (q : ℕ) (xs : List X) → IsAt q xs P → (q < length xs) × ((x : X) × P x)
at_some P q [] is = absurd is
at_some P zero (x ∷ xs) is = (omega arith, (x, is))
at_some P (suc q) (x ∷ xs) is = let more = at_some P q xs is in (omega (arith, more.0), more.1)

-- and where only the watch of a reader came back, it holds as before
still_at : {S D F W : Type 0} (P : WithJobs S D F W → Type 0) → ((reader : Option W) (e : WithJobs S D F W) → P e → P (with_reader reader e)) → (n q : ℕ) (es es' : List (WithJobs S D F W)) → AtEach IsReread n es es' → IsAt q es P → IsAt q es' P
still_at P same n q [] es' read is = absurd is
still_at P same n q (e ∷ es) [] read is = absurd read
still_at P same n zero (e ∷ es) (e' ∷ es') read is = subst P (sym read.0.1) (same read.0.0 e is)
still_at P same n (suc q) (e ∷ es) (e' ∷ es') read is = still_at P same (suc n) q es es' read.1 is

module _ {S D F W : Type 0} (content : F → Option (List ℕ)) (damage : Damage) where
  abbrev Seen : List (ShownState F W) → ℕ → WithJobs S D F W → Type 0
  Seen shown q e = IsAt q shown (λ s. IsShownDamage content e.engine.part.number e.engine.part.count s damage)

  pub shown_still : (shown : List (ShownState F W)) (es es' : List (WithJobs S D F W)) (q : ℕ) → AtEach IsReread 0 es es' → IsShownAt content es shown q damage → IsShownAt content es' shown q damage
  shown_still shown es es' q read met = still_at (Seen shown q) (λ reader e is. is) 0 q es es' read met

  was_shown : (shown : List (ShownState F W)) (es : List (WithJobs S D F W)) (q : ℕ) → IsShownAt content es shown q damage → WasShownAt content es q damage
  was_shown shown es q met = is_at-so (Seen shown q) (λ e. WasShown W content e.engine.part.number e.engine.part.count damage) q es
      (λ e is. (at_some (λ s. IsShownDamage content e.engine.part.number e.engine.part.count s damage) q shown is).1) met

module _ {S D F W : Type 0} (moments : D → List DiskFile) (content : F → Option (List ℕ)) (damage : Damage) where
  abbrev Met : WithJobs S D F W → Type 0
  Met e = IsPartDamage content moments e.engine.part damage

  abbrev Behind : List (WithJobs S D F W) → ℕ → Type 0
  Behind es q = (q < length es) × (IsAt q es Met ⊎ WasShownAt content es q damage)

  pub met_here : (shown : List (ShownState F W)) (es : List (WithJobs S D F W)) (q : ℕ) → IsAt q es Met ⊎ IsShownAt content es shown q damage → Behind es q
  met_here shown es q (inl met) = ((at_some Met q es met).0, inl met)
  met_here shown es q (inr met) = ((at_some (Seen content damage shown q) q es met).0, inr (was_shown content damage shown es q met))

  -- a reader's watch that comes back leaves it
  pub met_behind : (shown : List (ShownState F W)) (es es' : List (WithJobs S D F W)) (q : ℕ) → AtEach IsReread 0 es es' → IsAt q es Met ⊎ IsShownAt content es shown q damage → Behind es' q
  met_behind shown es es' q read (inl met) = met_here shown es' q (inl (still_at Met (λ reader e is. is) 0 q es es' read met))
  met_behind shown es es' q read (inr met) = met_here shown es' q (inr (shown_still content damage shown es es' q read met))
