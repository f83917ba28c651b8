-- Files of a store in memory are told.
use Rattle.std.proofs.Common.{◌≡◌, ◌∙◌, ℕ, List, [], ◌∷◌, map, ap, refl, subst, sym}
use Rattle.std.specs.Prelude.{IsSome}
use Rattle.std.proofs.lemmas.List.Elements.{All-map}
use Rattle.tc_store.specs.declared.mem.frozen.MemFrozen.{MemFrozen}
use Rattle.tc_store.specs.DiskFile.{DiskFile, IsSettled, settled_file, synced_file}
use Rattle.tc_store.specs.Memory.Frozen.{frozen_content}
use Rattle.tc_store.specs.Moments.{IfTold, goes_on}
use Rattle.tc_component.specs.Loading.{ComponentState}
use Rattle.tc_merge.specs.Merging.{AreTold as FilesAreTold}
use Rattle.tc_part_model.specs.PartState.{AreTold, told_component}

pub all_told : (list : List (ComponentState MemFrozen)) → AreTold (map (told_component frozen_content) list)
all_told list = All-map (λ c. IsSome c.content) (told_component frozen_content) list (λ k d within. refl)

pub files_told : (list : List (ComponentState MemFrozen)) → FilesAreTold frozen_content list
files_told list = λ k d within. refl

pub settled_told : (fs : List DiskFile) (bytes : List ℕ) → IfTold fs (λ f. f ≡ settled_file bytes) → IfTold fs IsSettled
settled_told [] bytes is = tt
settled_told (f ∷ past) bytes is = is ∙ ap settled_file (sym (ap (λ (f : DiskFile). f.content) is))

-- nothing is pending on a file behind a sync
pub synced_settled : (old new : List DiskFile) → new ≡ goes_on synced_file old → IfTold new IsSettled
synced_settled [] new is = subst (λ (fs : List DiskFile). IfTold fs IsSettled) (sym is) tt
synced_settled (f ∷ past) new is = subst (λ (fs : List DiskFile). IfTold fs IsSettled) (sym is) refl
