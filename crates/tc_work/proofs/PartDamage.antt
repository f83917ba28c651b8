-- Damage of a part, by what its calls and its jobs tell of it.
use Rattle.std.proofs.Common.{◌≡◌, ◌+◌, ◌-◌, ℕ, zero, suc, true, List, [], ◌∷◌, Option, Some, take, drop, slice_get, refl, sym, subst, arith, inl, inr}
use Rattle.std.specs.Prelude.{◌⊎◌, IfSome, Result, Ok, Err}
use Rattle.tc_component.specs.declared.head.Head.{Head}
use Rattle.tc_component.specs.Loading.{ComponentState}
use Rattle.tc_flush.specs.Counting.{IsCounted}
use Rattle.tc_jobs.specs.Faults.{AreFiles}
use Rattle.tc_jobs.specs.Listing.{HasOtherNames, IsDamaged, IsReadBack, IsUnlisted}
use Rattle.tc_jobs.specs.Lists.{file_names}
use Rattle.tc_list.specs.Runs.{in_run}
use Rattle.tc_list.specs.declared.run.Run.{Run}
use Rattle.tc_merge.specs.Faults as merge
use Rattle.tc_merge.specs.Merging.{newest_names, newest_schema}
use Rattle.tc_part.specs.Harms.{IsHarmIn}
use Rattle.tc_part.specs.declared.fault.PartFault.{PartFault}
use Rattle.tc_part.specs.declared.fault.PartFault.TheVariants as part
use Rattle.tc_part.specs.Faults.{IfDamaged as part_damaged}
use Rattle.tc_part_model.specs.PartState.{PartState}
use Rattle.tc_schema_model.specs.Counted.{nothing}
use Rattle.tc_store.specs.DiskFile.{DiskFile}
use Rattle.tc_store.specs.declared.damage.Damage.{Damage}
use Rattle.tc_store.specs.declared.damage.Damage.TheVariants.{Bytes, Files}
use Rattle.tc_store.specs.declared.file_name.FileName.{FileName}
use Rattle.tc_work.specs.Damage.{IsOfDevice, IsPartDamage, IsUnfit}

-- ---- a record of a listed component

at_take : {X : Type 0} (n i : ℕ) (xs : List X) (x : X) → slice_get (take n xs) i ≡ Some x → slice_get xs i ≡ Some x
at_take zero i xs x there = absurd (cc)
at_take (suc n) i [] x there = absurd (cc)
at_take (suc n) zero (y ∷ xs) x there = there
at_take (suc n) (suc i) (y ∷ xs) x there = at_take n i xs x there

at_drop : {X : Type 0} (n i : ℕ) (xs : List X) (x : X) → slice_get (drop n xs) i ≡ Some x → slice_get xs (n + i) ≡ Some x
at_drop zero i xs x there = let same : i ≡ 0 + i = omega arith in subst (λ k. slice_get xs k ≡ Some x) same there
at_drop (suc n) i [] x there = absurd (cc)
at_drop (suc n) i (y ∷ xs) x there = let same : suc (n + i) ≡ suc n + i = omega arith in subst (λ k. slice_get (y ∷ xs) k ≡ Some x) same (at_drop n i xs x there)

-- a merge finds it damaged, which reads it of a run
pub harm_of_run : {F : Type 0} (content : F → Option (List ℕ)) (run : Run) (list : List (ComponentState F)) (file : FileName) (place : ℕ) (bytes : List ℕ) → merge.IsHarmIn content (in_run run list) file place bytes → IsHarmIn content list file place bytes
harm_of_run content run list file place bytes is = record {
  at = run.first + is.at;
  component = is.component;
  here = at_drop run.first is.at list is.component (at_take (run.last + 1 - run.first) is.at (drop run.first list) is.component is.here);
  harm = record { entry = is.harm.entry; there = is.harm.there; file_is = is.harm.file_is; place_is = is.harm.place_is; long = is.harm.long; broken = inl is.harm.broken; told = is.harm.told };
}

-- ---- the sealed table

pub both_damaged : {X : Type 0} (r : Result X PartFault) (P Q : Damage → Type 0) → part_damaged r P → part_damaged r Q → part_damaged r (λ damage. P damage × Q damage)
both_damaged (Ok x) P Q p q = tt
both_damaged (Err part.Disk) P Q p q = tt
both_damaged (Err (part.Damaged damage)) P Q p q = (p, q)
both_damaged (Err part.Spent) P Q p q = tt
both_damaged (Err part.Memory) P Q p q = tt

pub uncounted : {S D F W : Type 0} (content : F → Option (List ℕ)) (history : D → List DiskFile) (old new : PartState S D F W) (damage : Damage) → new ≡ record old { store = new.store; main = new.main; failed = true }
    → AreFiles (file_names old.list) damage × (IfSome old.sealed (λ table. IsCounted (newest_names [] old.list) (newest_schema nothing old.list) table) → ⊥) → IsPartDamage content history new damage
uncounted {S = S} {D = D} {F = F} {W = W} content history old new damage left both = subst (λ (s : PartState S D F W). IsPartDamage content history s damage) (sym left) (inr (inl (record { files = both.0; uncounted = both.1 })))

-- ---- what a job wrote

pub unfit_of : {F : Type 0} (content : F → Option (List ℕ)) (name : F → FileName) (Fits : ComponentState F → Type 0) (head : Head) (device_name : FileName) (size : ℕ) (device : List DiskFile) (damage : Damage)
    → IsUnlisted (IsReadBack content name head device_name device) Fits head size device damage → IsUnfit content Fits head device damage
unfit_of {F = F} content name Fits head device_name size device (Bytes file place bytes) is = (is.0, at is.1)
  where
    at : IsDamaged head size device place bytes ⊎ HasOtherNames (IsReadBack content name head device_name device) Fits place bytes → ((n : ℕ) × IsDamaged head n device place bytes) ⊎ HasOtherNames (IsOfDevice content head device) Fits place bytes
    at (inl damaged) = inl (size, damaged)
    at (inr other) = inr (record { component = other.component; made = record { has_head = other.made.has_head; lawful = other.made.lawful; has_content = other.made.has_content; has_name = refl; judged = other.made.judged; loaded = other.made.loaded }; unfit = other.unfit; names = other.names })
unfit_of content name Fits head device_name size device (Files names) is = absurd is
