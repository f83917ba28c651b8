-- A run that met nothing, over lawful files, ends well, or memory was wanting.
use Rattle.std.proofs.Common.{◌≡◌, ◌⊎◌, refl, inl, inr}
use Rattle.std.specs.Prelude.{IfSome, None, Option, Some}
use Rattle.tc_keeper.specs.Faults.{status_of, IfDisk, IsNoDamage, IsWrite}
use Rattle.tc_keeper.specs.declared.fault.RunFault.{RunFault}
use Rattle.tc_keeper.specs.declared.fault.RunFault.TheVariants.{Usage, Read, Write, Spent, Disk, Damaged, Memory, Layout}
use Rattle.tc_server.specs.OverFiles.{IsHere}

pub ends_well : (fault : Option RunFault) → (fault ≡ Some Usage → ⊥) → (fault ≡ Some Read → ⊥) → IfSome fault (λ f. IsWrite f → ⊥) → IfSome fault (λ f. IfDisk f (λ p. ⊥)) → (fault ≡ Some Spent → ⊥)
    → IfSome fault (IsNoDamage None) → IfSome fault (IsHere None) → (status_of fault ≡ 0) ⊎ (status_of fault ≡ 7)
ends_well None usage read write disk spent sound here = inl refl
ends_well (Some Usage) usage read write disk spent sound here = absurd (usage refl)
ends_well (Some Read) usage read write disk spent sound here = absurd (read refl)
ends_well (Some (Write n)) usage read write disk spent sound here = absurd (write tt)
ends_well (Some Spent) usage read write disk spent sound here = absurd (spent refl)
ends_well (Some (Disk p)) usage read write disk spent sound here = absurd disk
ends_well (Some (Damaged p damage)) usage read write disk spent sound here = absurd (sound tt)
ends_well (Some Memory) usage read write disk spent sound here = inr refl
ends_well (Some (Layout p found found_of asked_of)) usage read write disk spent sound here = absurd (here tt)
