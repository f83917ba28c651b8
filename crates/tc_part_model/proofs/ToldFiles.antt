-- What holds of files, and of the moments of a store, where a file is made.
use Rattle.std.proofs.Common.{◌≡◌, ◌∙◌, List, [], ◌∷◌, refl, sym, ap, subst, inl, inr, Option}
use Rattle.tc_store.specs.declared.file_name.FileName.{FileName}
use Rattle.tc_store.specs.Disk.{Disk, home, put, removed_of}
use Rattle.tc_store.specs.DiskFile.{DiskFile, empty_file}
use Rattle.tc_store.specs.Moments.{EachSince, IfTold, goes_on}
use Rattle.tc_store.specs.StoreCalls.{FailsMaking}
use Rattle.tc_store.proofs.MomentLemmas.{EachSince-none, EachSince-one}
use Rattle.tc_part_model.specs.PartFiles.{IfFiles, IsSealedFile}

-- the disk with an empty file at home
abbrev pub wasted : FileName → Disk → Disk
wasted name disk = put name (home (empty_file (removed_of (disk name)))) disk

pub if_files_map : (P Q : Disk → DiskFile → DiskFile → Type 0) (disks : List Disk) (log : List DiskFile) (sealed : Option (List DiskFile)) → ((disk : Disk) (f g : DiskFile) → P disk f g → Q disk f g)
    → IfFiles disks log sealed P → IfFiles disks log sealed Q
if_files_map P Q [] log sealed go all = tt
if_files_map P Q (disk ∷ before) [] sealed go all = tt
if_files_map P Q (disk ∷ before) (f ∷ past) sealed go all = λ g is. go disk f g (all g is)

pub if_files_goes_on : (change : Disk → Disk) (P Q : Disk → DiskFile → DiskFile → Type 0) (disks : List Disk) (log : List DiskFile) (sealed : Option (List DiskFile))
    → ((disk : Disk) (f g : DiskFile) → P disk f g → Q (change disk) f g) → IfFiles disks log sealed P → IfFiles (goes_on change disks) log sealed Q
if_files_goes_on change P Q [] log sealed go all = tt
if_files_goes_on change P Q (disk ∷ before) [] sealed go all = tt
if_files_goes_on change P Q (disk ∷ before) (f ∷ past) sealed go all = λ g is. go disk f g (all g is)

pub if_files_unmade : (name : FileName) (P Q : Disk → DiskFile → DiskFile → Type 0) (disks new : List Disk) (log : List DiskFile) (sealed : Option (List DiskFile))
    → ((disk : Disk) (f g : DiskFile) → P disk f g → Q disk f g) → ((disk : Disk) (f g : DiskFile) → P disk f g → Q (wasted name disk) f g) → IfFiles disks log sealed P → FailsMaking name disks new → IfFiles new log sealed Q
if_files_unmade name P Q disks new log sealed same go all (inl is) = subst (λ ds. IfFiles ds log sealed Q) (sym is) (if_files_map P Q disks log sealed same all)
if_files_unmade name P Q disks new log sealed same go all (inr is) = subst (λ ds. IfFiles ds log sealed Q) (sym is) (if_files_goes_on (wasted name) P Q disks log sealed go all)

-- ---- the moments of a store

abbrev pub MomentsSince : (Disk → DiskFile → DiskFile → Type 0) → List Disk → List DiskFile → Option (List DiskFile) → List Disk → Type 0
MomentsSince L disks log sealed new = IfTold log λ f. (g : DiskFile) → IsSealedFile sealed g → EachSince (λ disk. L disk f g) disks new

pub no_moments_since : (L : Disk → DiskFile → DiskFile → Type 0) (disks : List Disk) (log : List DiskFile) (sealed : Option (List DiskFile)) → MomentsSince L disks log sealed disks
no_moments_since L disks [] sealed = tt
no_moments_since L disks (f ∷ past) sealed = λ g is. EachSince-none (λ disk. L disk f g) disks disks refl

pub moments_goes_on : (change : Disk → Disk) (P L : Disk → DiskFile → DiskFile → Type 0) (disks : List Disk) (log : List DiskFile) (sealed : Option (List DiskFile))
    → ((disk : Disk) (f g : DiskFile) → P disk f g → L (change disk) f g) → IfFiles disks log sealed P → MomentsSince L disks log sealed (goes_on change disks)
moments_goes_on change P L disks [] sealed go all = tt
moments_goes_on change P L [] (f ∷ past) sealed go all = λ g is. EachSince-none (λ disk. L disk f g) [] [] refl
moments_goes_on change P L (disk ∷ before) (f ∷ past) sealed go all = λ g is. EachSince-one (λ disk. L disk f g) change (disk ∷ before) (go disk f g (all g is))

pub moments_unmade : (name : FileName) (P L : Disk → DiskFile → DiskFile → Type 0) (disks new : List Disk) (log : List DiskFile) (sealed : Option (List DiskFile))
    → ((disk : Disk) (f g : DiskFile) → P disk f g → L (wasted name disk) f g) → IfFiles disks log sealed P → FailsMaking name disks new → MomentsSince L disks log sealed new
moments_unmade name P L disks new log sealed go all (inl is) = subst (λ ds. MomentsSince L disks log sealed ds) (sym is) (no_moments_since L disks log sealed)
moments_unmade name P L disks new log sealed go all (inr is) = subst (λ ds. MomentsSince L disks log sealed ds) (sym is) (moments_goes_on (wasted name) P L disks log sealed go all)

pub unmade_untold : (name : FileName) (disks new : List Disk) → FailsMaking name disks new → disks ≡ [] → new ≡ []
unmade_untold name disks new (inl same) none = same ∙ none
unmade_untold name disks new (inr is) none = is ∙ ap (goes_on (wasted name)) none
