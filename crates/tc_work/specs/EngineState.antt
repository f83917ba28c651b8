-- An engine, as contracts see it.
use Rattle.std.specs.Prelude.{◌≡◌, ℕ, Bool, false, [], is_some}
use Rattle.tc_list.specs.declared.policy.Policy.{Policy}
use Rattle.tc_part_model.specs.PartState.{PartState}
use Rattle.tc_work.specs.JobsOut.{IsPickedOut}

-- the partition, which has failed where the engine has, and by which policy its components are merged
pub record EngineState (S D F W : Type 0) : Type 0 where
  pub part : PartState S D F W
  pub policy : Policy

-- A partition that takes writes: nothing is staged, and a flush is out exactly where a table waits for it. If a merge is out, the
-- policy picked its run.
pub record IsAwake {S D F W : Type 0} (size : F → ℕ) (policy : Policy) (part : PartState S D F W) : Type 0 where
  pub sound : part.failed ≡ false
  pub nothing_staged : part.staged ≡ []
  pub flushing : part.flushing ≡ is_some part.sealed
  pub picked : IsPickedOut policy size part.list part.merging

-- Between two calls it takes writes where the engine has not failed.
abbrev pub IsBetweenCalls : {S D F W : Type 0} → (F → ℕ) → Policy → PartState S D F W → Bool → Type 0
IsBetweenCalls size policy part failed = failed ≡ false → IsAwake size policy part
