-- What holds where files are told, and for all that lawful ones may hold.
use Rattle.std.proofs.Common.{◌≡◌, List, [], ◌∷◌, refl}
use Rattle.tc_store.specs.Disk.{Disk}
use Rattle.tc_store.specs.Moments.{IfTold}
use Rattle.tc_plain_model.specs.Writes.{Write}
use Rattle.tc_lsm_model.specs.Contents.{Content, Partition}
use Rattle.tc_open.specs.Answered.{OfLawful}

-- what follows from both, where something is told
pub both_told : {X : Type 0} (P Q R : X → Type 0) (old : List X) → ((x : X) → P x → Q x → R x) → IfTold old P → IfTold old Q → IfTold old R
both_told P Q R [] give p q = tt
both_told P Q R (x ∷ past) give p q = give x p q

-- what holds of the last moment, whichever came before
pub told_last : {X : Type 0} (P : X → Type 0) (old : List X) → ((x : X) (past : List X) → old ≡ x ∷ past → P x) → IfTold old P
told_last P [] give = tt
told_last P (x ∷ past) give = give x past refl

module _ (part : Partition) (P Q R : List Content → List (List Write) → Type 0) where
  -- what follows from both
  pub both_lawful : (old : List Disk) → OfLawful part old P → OfLawful part old Q → ((cs : List Content) (logs : List (List Write)) → P cs logs → Q cs logs → R cs logs) → OfLawful part old R
  both_lawful [] p q give = tt
  both_lawful (disk ∷ past) p q give = λ cs logs opens. give cs logs (p cs logs opens) (q cs logs opens)
