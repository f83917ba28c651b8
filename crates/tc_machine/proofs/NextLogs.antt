-- What a stop leaves in the place of the next log.
use Rattle.std.proofs.Common.{◌≡◌, ◌<◌, ℕ, true, List, refl, subst, arith, inl, inr, Some, None}
use Rattle.std.proofs.lemmas.Bool.{cases_Bool}
use Rattle.tc_lsm_model.specs.Contents.{Partition}
use Rattle.tc_store.specs.Disk.{MayLeaveAt}
use Rattle.tc_store.specs.Gate.{is_open_file}
use Rattle.tc_store.specs.Images.{Image}
use Rattle.tc_store.specs.declared.file_name.FileName.TheVariants.{Log}
use Rattle.tc_machine.specs.Sound.{AreFilesSound, IsExplained, LeavesOf}
use Rattle.tc_machine.specs.State.{State, next_generation}
use Rattle.tc_machine.specs.Steps.{IsShutOrHas, nothing_held}
use Rattle.tc_machine.proofs.FilesMade.{closed_or_open}

shut_unless_open : (image : Image) → ((b : List ℕ) → image ≡ Some b → is_open_file b ≡ true → ⊥) → IsShutOrHas (λ b. ⊥) image
shut_unless_open None never = tt
shut_unless_open (Some b) never = elim (cases_Bool (is_open_file b)) [
  | inl is_open ↦ absurd (never b refl is_open)
  | inr closed ↦ inl closed
]

pub shut_is_not_open : (b : List ℕ) → is_open_file b ≡ true → IsShutOrHas (λ b. ⊥) (Some b) → ⊥
shut_is_not_open b is_open (inl closed) = closed_or_open b ⊥ closed is_open
shut_is_not_open b is_open (inr never) = never

-- no log behind the next one is open
pub beyond_is_shut : (part : Partition) (s : State) (g : ℕ) → AreFilesSound part s → next_generation s < g → LeavesOf s.files (Log g) (IsShutOrHas (λ b. ⊥))
beyond_is_shut part s g k far image left = shut_unless_open image (λ b is is_open. reason b (k.others (Log g) b (subst (λ i. MayLeaveAt (nothing_held (Log g)) (s.files (Log g)) i) is left) is_open))
  where
    reason : (b : List ℕ) → IsExplained part s (Log g) b → ⊥
    reason b (inl covered) = omega (arith, covered.0, far)
    reason b (inr (inl between)) = omega (arith, between.1, far)
    reason b (inr (inr is)) = omega (arith, is.0, far)
