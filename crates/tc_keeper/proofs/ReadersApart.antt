-- Engines whose readers' watches went out with a scan, or came back, are otherwise as they were.
use Rattle.std.proofs.Common.{◌≡◌, ◌∙◌, ◌<◌, ◌≤◌, ℕ, suc, List, [], ◌∷◌, All, map, refl, ap, sym, subst}
use Rattle.std.specs.Prelude.{None, Option, Some}
use Rattle.tc_keeper.specs.Places.{AtEach, IsAt, SomeFrom}
use Rattle.tc_keeper.specs.WithJobs.{settings, with_reader, WithJobs}
use Rattle.tc_keeper.proofs.PlaceLaws.{at_each-length, at_each-so}
use Rattle.tc_part_model.specs.PartState.{told}
use Rattle.tc_shown.specs.declared.scan.Pass.{Pass}
use Rattle.tc_store.specs.Disk.{Disk}
use Rattle.tc_store.specs.DiskFile.{DiskFile}
use Rattle.tc_keeper.specs.Calls.{IsSettled, IsSpentAt, MayAsk, MayBeAsked}
use Rattle.tc_keeper.proofs.EachLaws.{carried_all, some-beside}
use Rattle.tc_keeper.proofs.Turns.{is_at-get}

module _ {S D F W : Type 0} where
  -- another watch, or none
  abbrev pub IsReread : ℕ → WithJobs S D F W → WithJobs S D F W → Type 0
  IsReread p old new = (reader : Option W) × (new ≡ with_reader reader old)

  pub reread_lent : (es es' : List (WithJobs S D F W)) → AtEach (λ p old new. new ≡ with_reader None old) 0 es es' → AtEach IsReread 0 es es'
  reread_lent es es' out = at_each-so (λ p (old new : WithJobs S D F W). new ≡ with_reader None old) IsReread 0 es es' (λ i old new is. (None, is)) out

  came_so : (passes : List (Pass F W)) (p : ℕ) (old new : WithJobs S D F W) → IsAt p passes (λ pass. new ≡ with_reader (Some pass.watch) old) → IsReread p old new
  came_so passes p old new at = let one = is_at-get (λ (pass : Pass F W). new ≡ with_reader (Some pass.watch) old) p passes at in (Some one.0.watch, one.2)

  pub reread_back : (passes : List (Pass F W)) (es es' : List (WithJobs S D F W)) → AtEach (λ p old new. IsAt p passes (λ pass. new ≡ with_reader (Some pass.watch) old)) 0 es es' → AtEach IsReread 0 es es'
  reread_back passes es es' came = at_each-so (λ p old new. IsAt p passes (λ (pass : Pass F W). new ≡ with_reader (Some pass.watch) old)) IsReread 0 es es' (λ i old new at. came_so passes i old new at) came

  -- ---- what they may be asked, and what is promised of them

  module _ (disks : S → List Disk) (moments : D → List DiskFile) (content : F → Option (List ℕ)) where
    abbrev Asked : WithJobs S D F W → Type 0
    Asked e = MayBeAsked (told disks moments content e.engine.part) e.engine.part

    abbrev Spent : ℕ → WithJobs S D F W → Type 0
    Spent q e = IsSpentAt (told disks moments content e.engine.part) e.engine.part

    asked_so : (reader : Option W) (old : WithJobs S D F W) → Asked old → Asked (with_reader reader old)
    asked_so reader old may = record { sound = may.sound; log = may.log }

    spent_so : (q : ℕ) (reader : Option W) (old : WithJobs S D F W) → Spent q old → Spent q (with_reader reader old)
    spent_so q reader old is = record { failed = is.failed; last = is.last; log = is.log }

    pub works_reread : (es es' : List (WithJobs S D F W)) → AtEach IsReread 0 es es' → MayAsk disks moments content es → MayAsk disks moments content es'
    works_reread es es' read may =
        let many = at_each-length IsReread 0 es es' read in (
          subst (λ n. 0 < n) many may.0,
          subst (λ n. n ≤ 16) many may.1,
          carried_all IsReread Asked Asked 0 es es' (λ i old new is one. subst Asked (sym is.1) (asked_so is.0 old one)) read may.2,
        )

    pub spent_reread : (es es' : List (WithJobs S D F W)) → AtEach IsReread 0 es es' → SomeFrom Spent 0 es → SomeFrom Spent 0 es'
    spent_reread es es' read some = some-beside Spent IsReread Spent 0 es es' (λ i old new one is. subst (Spent i) (sym is.1) (spent_so i is.0 old one)) some read

  settled_so : (size : D → ℕ) (reader : Option W) (old : WithJobs S D F W) → IsSettled size old → IsSettled size (with_reader reader old)
  settled_so size reader old is = record { sound = is.sound; short = is.short; none = is.none }

  pub rests_reread : (size : D → ℕ) (es es' : List (WithJobs S D F W)) → AtEach IsReread 0 es es' → All (IsSettled size) es → All (IsSettled size) es'
  rests_reread size es es' read all = carried_all IsReread (IsSettled size) (IsSettled size) 0 es es' (λ i old new is one. subst (IsSettled size) (sym is.1) (settled_so size is.0 old one)) read all

  same_settings : (n : ℕ) (es es' : List (WithJobs S D F W)) → AtEach IsReread n es es' → map settings es' ≡ map settings es
  same_settings n [] [] read = refl
  same_settings n [] (e' ∷ es') read = absurd read
  same_settings n (e ∷ es) [] read = absurd read
  same_settings n (e ∷ es) (e' ∷ es') read = ap (λ s. s ∷ map settings es') (ap (λ (w : WithJobs S D F W). settings w) read.0.1) ∙ ap (λ ss. settings e ∷ ss) (same_settings (suc n) es es' read.1)

  pub settings_reread : (es es' : List (WithJobs S D F W)) → AtEach IsReread 0 es es' → map settings es' ≡ map settings es
  settings_reread es es' read = same_settings 0 es es' read
