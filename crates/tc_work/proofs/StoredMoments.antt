-- The moments of a store while what it stores stays, of calls that follow each other.
use Rattle.std.proofs.Common.{◌≡◌, List, [], ◌∷◌, Option, Some, None, refl, subst, inl, inr}
use Rattle.std.specs.Prelude.{◌⊎◌}
use Rattle.tc_store.specs.Disk.{Disk}
use Rattle.tc_store.specs.DiskFile.{DiskFile}
use Rattle.tc_store.specs.Moments.{IfTold}
use Rattle.tc_store.proofs.MomentLemmas.{EachSince-trans}
use Rattle.tc_store.proofs.StopLaws.{since_weaker}
use Rattle.tc_lsm_model.specs.Contents.{Partition}
use Rattle.tc_plain_model.specs.Writes.{Pairs}
use Rattle.tc_part_model.specs.Leaving.{LeavesStoreAt, StoreMomentsLeaveStore}
use Rattle.tc_part_model.specs.Meaning.{IsPart}
use Rattle.tc_part_model.specs.PartFiles.{IsSealedFile}
use Rattle.tc_part_model.specs.PartState.{Told, IsTold}
use Rattle.tc_part_model.specs.PartView.{PartView, store_of}
use Rattle.tc_part_model.proofs.DeviceFiles.{some_sealed}
use Rattle.tc_part_model.proofs.ToldFiles.{MomentsSince, no_moments_since}
use Rattle.tc_part.proofs.FreshFiles.{since_tells}
use Rattle.tc_work.specs.Settling.{LeavesPairs, MomentsLeavePairs, MomentsLeavePairsOver}

-- ---- what is told

-- what holds where something is told holds where it is
pub where_told : {X : Type 0} (xs : List X) (Q : Type 0) → IsTold xs → IfTold xs (λ x. Q) → Q
where_told [] Q tells q = absurd tells
where_told (x ∷ xs) Q tells q = q

-- ---- one call

pub store_moments : (t : Told) (p q : PartView) (disks : List Disk) → q.part ≡ p.part → store_of q ≡ store_of p → StoreMomentsLeaveStore p q t disks → MomentsLeavePairs p.part (store_of p) t disks
store_moments t p q disks here holds moments = at t.log moments
  where
    either : (g f : DiskFile) (disk : Disk) → LeavesStoreAt p None g f disk ⊎ LeavesStoreAt q None g f disk → LeavesPairs p.part (store_of p) g f disk
    either g f disk (inl leaves) = record { view = p; here = refl; holds = refl; leaves = leaves }
    either g f disk (inr leaves) = record { view = q; here = here; holds = holds; leaves = leaves }

    at : (log : List DiskFile) → MomentsSince (λ disk f g. LeavesStoreAt p None g f disk ⊎ LeavesStoreAt q None g f disk) t.disks log t.sealed_log disks → MomentsSince (λ disk f g. LeavesPairs p.part (store_of p) g f disk) t.disks log t.sealed_log disks
    at [] all = tt
    at (f ∷ past) all = λ g is. since_weaker (λ disk. LeavesStoreAt p None g f disk ⊎ LeavesStoreAt q None g f disk) (LeavesPairs p.part (store_of p) g f) t.disks disks (either g f) (all g is)

-- so they are of a part that stores the same as another one
pub moments_of : (t : Told) (p q : PartView) (disks : List Disk) → q.part ≡ p.part → store_of q ≡ store_of p → MomentsLeavePairs q.part (store_of q) t disks → MomentsLeavePairs p.part (store_of p) t disks
moments_of t p q disks here holds moments = subst (λ (pairs : Pairs). MomentsLeavePairs p.part pairs t disks) holds (subst (λ (part : Partition). MomentsLeavePairs part (store_of q) t disks) here moments)

pub over_of : (t : Told) (p q : PartView) (log : List DiskFile) (disks : List Disk) → q.part ≡ p.part → store_of q ≡ store_of p → MomentsLeavePairsOver q.part (store_of q) t log disks → MomentsLeavePairsOver p.part (store_of p) t log disks
over_of t p q log disks here holds moments = subst (λ (pairs : Pairs). MomentsLeavePairsOver p.part pairs t log disks) holds (subst (λ (part : Partition). MomentsLeavePairsOver part (store_of q) t log disks) here moments)

pub store_tells : (part : Partition) (pairs : Pairs) (t : Told) (p : PartView) (disks : List Disk) → IsPart t p → IsTold t.disks → MomentsLeavePairs part pairs t disks → IsTold disks
store_tells part pairs t p disks is tells moments = at t.log (where_told t.disks (IsTold t.log) tells is.tells.active) moments
  where
    at : (log : List DiskFile) → IsTold log → MomentsSince (λ disk f g. LeavesPairs part pairs g f disk) t.disks log t.sealed_log disks → IsTold disks
    at [] told all = absurd told
    at (f ∷ past) told all = let any = some_sealed t.sealed_log in since_tells (LeavesPairs part pairs any.0 f) t.disks disks (all any.0 any.1) tells

-- ---- calls that follow each other

module _ (part : Partition) (pairs : Pairs) where
  -- a moment of the store over the logs as they were, or over the log that was sealed and the next one
  abbrev Over : List DiskFile → DiskFile → DiskFile → Disk → Type 0
  Over log g f disk = LeavesPairs part pairs g f disk ⊎ IfTold log (λ h. LeavesPairs part pairs f h disk)

  -- while the log stays, and what is sealed stays or is flushed
  pub then_moments : (t v : Told) (disks : List Disk) → v.log ≡ t.log → ((g : DiskFile) → IsSealedFile t.sealed_log g → IsSealedFile v.sealed_log g) → MomentsLeavePairs part pairs t v.disks → MomentsLeavePairs part pairs v disks
      → MomentsLeavePairs part pairs t disks
  then_moments t v disks log sealed one two = at t.log one (subst (λ (fs : List DiskFile). MomentsSince (λ disk f g. LeavesPairs part pairs g f disk) v.disks fs v.sealed_log disks) log two)
    where
      at : (fs : List DiskFile) → MomentsSince (λ disk f g. LeavesPairs part pairs g f disk) t.disks fs t.sealed_log v.disks → MomentsSince (λ disk f g. LeavesPairs part pairs g f disk) v.disks fs v.sealed_log disks
          → MomentsSince (λ disk f g. LeavesPairs part pairs g f disk) t.disks fs t.sealed_log disks
      at [] first second = tt
      at (f ∷ past) first second = λ g is. EachSince-trans (LeavesPairs part pairs g f) t.disks v.disks disks (first g is) (second g (sealed g is))

  pub over_before : (t : Told) (log : List DiskFile) (disks : List Disk) → MomentsLeavePairs part pairs t disks → MomentsLeavePairsOver part pairs t log disks
  over_before t log disks moments = at t.log moments
    where
      at : (fs : List DiskFile) → MomentsSince (λ disk f g. LeavesPairs part pairs g f disk) t.disks fs t.sealed_log disks → MomentsSince (λ disk f g. Over log g f disk) t.disks fs t.sealed_log disks
      at [] all = tt
      at (f ∷ past) all = λ g is. since_weaker (LeavesPairs part pairs g f) (Over log g f) t.disks disks (λ disk leaves. inl leaves) (all g is)

  -- the log is sealed, and the next one is there
  pub over_sealed : (t u : Told) (disks : List Disk) → u.sealed_log ≡ Some t.log → IsTold u.log → MomentsLeavePairs part pairs t u.disks → MomentsLeavePairs part pairs u disks → MomentsLeavePairsOver part pairs t u.log disks
  over_sealed t u disks sealed tells one two = at t.log u.log tells one (subst (λ (o : Option (List DiskFile)). MomentsSince (λ disk f g. LeavesPairs part pairs g f disk) u.disks u.log o disks) sealed two)
    where
      at : (fs hs : List DiskFile) → IsTold hs → MomentsSince (λ disk f g. LeavesPairs part pairs g f disk) t.disks fs t.sealed_log u.disks → MomentsSince (λ disk f g. LeavesPairs part pairs g f disk) u.disks hs (Some fs) disks
          → MomentsSince (λ disk f g. Over hs g f disk) t.disks fs t.sealed_log disks
      at [] hs told first second = tt
      at (f ∷ past) [] told first second = absurd told
      at (f ∷ past) (h ∷ more) told first second = λ g is.
          EachSince-trans (Over (h ∷ more) g f) t.disks u.disks disks (since_weaker (LeavesPairs part pairs g f) (Over (h ∷ more) g f) t.disks u.disks (λ disk leaves. inl leaves) (first g is))
          (since_weaker (LeavesPairs part pairs f h) (Over (h ∷ more) g f) u.disks disks (λ disk leaves. inr leaves) (second f refl))

  -- so it is behind calls over the logs as they were
  pub before_over : (t v : Told) (log : List DiskFile) (disks : List Disk) → v.log ≡ t.log → ((g : DiskFile) → IsSealedFile t.sealed_log g → IsSealedFile v.sealed_log g) → MomentsLeavePairs part pairs t v.disks → MomentsLeavePairsOver part pairs v log disks
      → MomentsLeavePairsOver part pairs t log disks
  before_over t v log disks same sealed one two = at t.log one (subst (λ (fs : List DiskFile). MomentsSince (λ disk f g. Over log g f disk) v.disks fs v.sealed_log disks) same two)
    where
      at : (fs : List DiskFile) → MomentsSince (λ disk f g. LeavesPairs part pairs g f disk) t.disks fs t.sealed_log v.disks → MomentsSince (λ disk f g. Over log g f disk) v.disks fs v.sealed_log disks
          → MomentsSince (λ disk f g. Over log g f disk) t.disks fs t.sealed_log disks
      at [] first second = tt
      at (f ∷ past) first second = λ g is. EachSince-trans (Over log g f) t.disks v.disks disks (since_weaker (LeavesPairs part pairs g f) (Over log g f) t.disks v.disks (λ disk leaves. inl leaves) (first g is)) (second g (sealed g is))

  -- and so while the next log stays, and what was sealed does or is flushed
  pub over_then : (t u : Told) (disks : List Disk) → u.sealed_log ≡ Some t.log → IsTold u.log → MomentsLeavePairsOver part pairs t u.log u.disks → MomentsLeavePairs part pairs u disks → MomentsLeavePairsOver part pairs t u.log disks
  over_then t u disks sealed tells one two = at t.log u.log tells one (subst (λ (o : Option (List DiskFile)). MomentsSince (λ disk f g. LeavesPairs part pairs g f disk) u.disks u.log o disks) sealed two)
    where
      at : (fs hs : List DiskFile) → IsTold hs → MomentsSince (λ disk f g. Over hs g f disk) t.disks fs t.sealed_log u.disks → MomentsSince (λ disk f g. LeavesPairs part pairs g f disk) u.disks hs (Some fs) disks
          → MomentsSince (λ disk f g. Over hs g f disk) t.disks fs t.sealed_log disks
      at [] hs told first second = tt
      at (f ∷ past) [] told first second = absurd told
      at (f ∷ past) (h ∷ more) told first second = λ g is.
          EachSince-trans (Over (h ∷ more) g f) t.disks u.disks disks (first g is) (since_weaker (LeavesPairs part pairs f h) (Over (h ∷ more) g f) u.disks disks (λ disk leaves. inr leaves) (second f refl))

-- no moment more
pub no_moments : (part : Partition) (pairs : Pairs) (t : Told) → MomentsLeavePairs part pairs t t.disks
no_moments part pairs t = no_moments_since (λ disk f g. LeavesPairs part pairs g f disk) t.disks t.log t.sealed_log
