-- The moments of calls that follow each other.
use Rattle.std.proofs.Common.{◌≡◌, ◌⊎◌, List, [], ◌∷◌, subst, inl, inr, Option, None}
use Rattle.std.proofs.lemmas.List.Elements.{All-weaker}
use Rattle.tc_store.specs.Disk.{Disk}
use Rattle.tc_store.specs.DiskFile.{DiskFile}
use Rattle.tc_store.proofs.MomentLemmas.{EachSince-trans}
use Rattle.tc_part_model.specs.Leaving.{FailedMomentsLeaveStore, LeavesStoreAt, StoreMomentsLeaveStore}
use Rattle.tc_part_model.specs.PartState.{Told}
use Rattle.tc_part_model.specs.PartView.{PartView}
use Rattle.tc_part_model.proofs.ToldFiles.{MomentsSince}

-- each moment has another property
moments_weaker : (P Q : Disk → DiskFile → DiskFile → Type 0) (disks new : List Disk) (log : List DiskFile) (sealed : Option (List DiskFile)) → ((disk : Disk) (f g : DiskFile) → P disk f g → Q disk f g)
    → MomentsSince P disks log sealed new → MomentsSince Q disks log sealed new
moments_weaker P Q disks new [] sealed go all = tt
moments_weaker P Q disks new (f ∷ fs) sealed go all = λ g is.
    let each = all g is in
    record { added = each.added; goes_on = each.goes_on; each = All-weaker (λ d. P d f g) (λ d. Q d f g) (λ d p. go d f g p) each.added each.each; untold = each.untold }

moments_trans : (P : Disk → DiskFile → DiskFile → Type 0) (first second third : List Disk) (log : List DiskFile) (sealed : Option (List DiskFile)) → MomentsSince P first log sealed second → MomentsSince P second log sealed third → MomentsSince P first log sealed third
moments_trans P first second third [] sealed one two = tt
moments_trans P first second third (f ∷ fs) sealed one two = λ g is. EachSince-trans (λ d. P d f g) first second third (one g is) (two g is)

abbrev Either : PartView → PartView → Disk → DiskFile → DiskFile → Type 0
Either p q disk f g = LeavesStoreAt p None g f disk ⊎ LeavesStoreAt q None g f disk

pub run_on : (t : Told) (p : PartView) (disks : List Disk) → FailedMomentsLeaveStore p None t disks → StoreMomentsLeaveStore p p t disks
run_on t p disks moments = moments_weaker (λ disk f g. LeavesStoreAt p None g f disk) (Either p p) t.disks disks t.log t.sealed_log (λ disk f g leaves. inl leaves) moments

pub follow_as : (t u : Told) (p q : PartView) (disks : List Disk) → u.log ≡ t.log → u.sealed_log ≡ t.sealed_log → StoreMomentsLeaveStore p q t u.disks → StoreMomentsLeaveStore p q u disks → StoreMomentsLeaveStore p q t disks
follow_as t u p q disks log sealed one two =
    moments_trans (Either p q) t.disks u.disks disks t.log t.sealed_log one
    (subst (λ o. MomentsSince (Either p q) u.disks t.log o disks) sealed (subst (λ fs. MomentsSince (Either p q) u.disks fs u.sealed_log disks) log two))

pub as_before : (t : Told) (p q : PartView) (disks : List Disk) → StoreMomentsLeaveStore p p t disks → StoreMomentsLeaveStore p q t disks
as_before t p q disks moments = moments_weaker (Either p p) (Either p q) t.disks disks t.log t.sealed_log (λ disk f g leaves. inl (one disk f g leaves)) moments
  where
    one : (disk : Disk) (f g : DiskFile) → Either p p disk f g → LeavesStoreAt p None g f disk
    one disk f g (inl leaves) = leaves
    one disk f g (inr leaves) = leaves

pub as_after : (t : Told) (p q : PartView) (disks : List Disk) → StoreMomentsLeaveStore q q t disks → StoreMomentsLeaveStore p q t disks
as_after t p q disks moments = moments_weaker (Either q q) (Either p q) t.disks disks t.log t.sealed_log (λ disk f g leaves. inr (one disk f g leaves)) moments
  where
    one : (disk : Disk) (f g : DiskFile) → Either q q disk f g → LeavesStoreAt q None g f disk
    one disk f g (inl leaves) = leaves
    one disk f g (inr leaves) = leaves
