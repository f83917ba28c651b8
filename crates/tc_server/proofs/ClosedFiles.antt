-- What is left of the files of an engine that is closed, by the world at which it stood.
use Rattle.std.proofs.Common.{◌≡◌, ◌⊎◌, ◌∙◌, ℕ, List, [], ◌∷◌, Option, Some, None, ap, subst, inl, inr}
use Rattle.std.specs.Prelude.{slice_get, unwrap_or, Result}
use Rattle.std.proofs.lemmas.Option.{slice_get-map}
use Rattle.tc_keeper.specs.Standing.{FailsPart, HoldsPart, KeepsPart}
use Rattle.tc_keeper.specs.WithJobs.{told_of, works_of, WithJobs}
use Rattle.tc_keeper.proofs.EnginesHeld.{committed}
use Rattle.tc_lsm_model.specs.Contents.{Partition}
use Rattle.tc_machine.specs.Pictures.{Recovers}
use Rattle.tc_machine.specs.Sound.{IsWithOrWithout}
use Rattle.tc_machine.specs.Steps.{nothing_held}
use Rattle.tc_part_model.specs.Leaving.{KeepsStore}
use Rattle.tc_part_model.specs.PartView.{store_of}
use Rattle.tc_plain_model.specs.Store.{Store, empty}
use Rattle.tc_plain_model.specs.Writes.{Pairs}
use Rattle.tc_open.specs.BeingOpened.{AreIn}
use Rattle.tc_run_model.specs.World.{Part, World, store_at}
use Rattle.tc_store.specs.Disk.{Disk}
use Rattle.tc_store.specs.KitFaults.{KitFaults}
use Rattle.tc_store.specs.Moments.{IfTold}
use Rattle.tc_store.specs.Pictures.{LeavesPictures}
use Rattle.tc_work.specs.Moving.{Eyes}
use Rattle.tc_work.specs.declared.fault.EngineFault.{EngineFault}
use Rattle.tc_server.specs.Kits.{IsClosed}
use Rattle.tc_server.proofs.ClosedKits.{told_both}

-- no file is out, and each picture holds what is said
abbrev pub Leaves : Partition → (Pairs → Type 0) → List Disk → Type 0
Leaves here P disks = IfTold disks (λ disk. AreIn disk × LeavesPictures nothing_held (λ picture. Recovers here picture P) disk)

pub leaves_so : (here : Partition) (P Q : Pairs → Type 0) (disks : List Disk) → ((pairs : Pairs) → P pairs → Q pairs) → Leaves here P disks → Leaves here Q disks
leaves_so here P Q [] so leaves = tt
leaves_so here P Q (disk ∷ past) so leaves = (leaves.0, λ picture is. let r = leaves.1 picture is in record { lawful = r.lawful; holds = so _ r.holds })

-- what a partition stores, if there is one
abbrev pub stored_in : Option Part → Option Store
stored_in None = None
stored_in (Some part) = Some part.now

-- what a partition stores is what the world stores at its number
pub stored_there : (w : World) (p : ℕ) (part : Part) → slice_get w.parts p ≡ Some part → store_at p w ≡ part.now
stored_there w p part is = ap (λ o. unwrap_or o empty) (slice_get-map (λ part. part.now) w.parts p ∙ ap stored_in is)

module _ {S D F W : Type 0} (eyes : Eyes S D F W) (size : D → ℕ) where
  -- of an engine that stands at a world
  pub held_left : (here : Partition) (w : World) (part : Part) (e : WithJobs S D F W) (outcome : Result (Unit {0}) EngineFault) (disks : List Disk) (counted : KitFaults) → IsClosed eyes size e outcome disks counted → HoldsPart (works_of eyes e) (told_of eyes e) e.engine.part.limits here w part
      → Leaves here (λ pairs. pairs ≡ part.now.pairs) disks
  held_left here w part e outcome disks counted closed h =
      leaves_so here (IsWithOrWithout (store_of h.view) None) (λ pairs. pairs ≡ part.now.pairs) disks (λ pairs is. is ∙ committed (told_of eyes e) e.engine.part.limits here w part h)
      (subst (λ at. Leaves at (IsWithOrWithout (store_of h.view) None) disks) h.of_number (told_both AreIn (KeepsStore h.view.part (store_of h.view) None) disks closed.home (closed.keeps h.view h.is h.jobs)))

  -- of one that failed
  pub failed_left : (here : Partition) (before after : Part) (e : WithJobs S D F W) (outcome : Result (Unit {0}) EngineFault) (disks : List Disk) (counted : KitFaults) → IsClosed eyes size e outcome disks counted → FailsPart (works_of eyes e) (told_of eyes e) here before after
      → Leaves here (λ pairs. (pairs ≡ before.now.pairs) ⊎ (pairs ≡ after.now.pairs)) disks
  failed_left here before after e outcome disks counted closed f = elim f.kept [
    | inl k ↦ leaves_so here (IsWithOrWithout before.now.pairs None) Either disks (λ pairs is. inl is) (told_both AreIn (KeepsStore here before.now.pairs None) disks closed.home (closed.failed here before.now.pairs None k))
    | inr (frame, k, same) ↦ leaves_so here (IsWithOrWithout before.now.pairs (Some frame)) Either disks (λ pairs is. elim is [ inl without ↦ inl without | inr with ↦ inr (with ∙ same) ])
        (told_both AreIn (KeepsStore here before.now.pairs (Some frame)) disks closed.home (closed.failed here before.now.pairs (Some frame) k))
  ]
    where
      Either : Pairs → Type 0
      Either pairs = (pairs ≡ before.now.pairs) ⊎ (pairs ≡ after.now.pairs)

  pub kept_left : (here : Partition) (w v : World) (before after : Part) (e : WithJobs S D F W) (outcome : Result (Unit {0}) EngineFault) (disks : List Disk)
      (counted : KitFaults) → IsClosed eyes size e outcome disks counted → KeepsPart (works_of eyes e) (told_of eyes e) e.engine.part.limits here w v before after
      → Leaves here (λ pairs. (pairs ≡ before.now.pairs) ⊎ (pairs ≡ after.now.pairs)) disks
  kept_left here w v before after e outcome disks counted closed (inl h) =
      leaves_so here (λ pairs. pairs ≡ before.now.pairs) (λ pairs. (pairs ≡ before.now.pairs) ⊎ (pairs ≡ after.now.pairs)) disks (λ pairs is. inl is) (held_left here w before e outcome disks counted closed h)
  kept_left here w v before after e outcome disks counted closed (inr (inl h)) =
      leaves_so here (λ pairs. pairs ≡ after.now.pairs) (λ pairs. (pairs ≡ before.now.pairs) ⊎ (pairs ≡ after.now.pairs)) disks (λ pairs is. inr is) (held_left here v after e outcome disks counted closed h)
  kept_left here w v before after e outcome disks counted closed (inr (inr f)) = failed_left here before after e outcome disks counted closed f
