-- The component files of a partition: their names, and what they hold.
use Rattle.std.specs.Prelude.{◌≡◌, ◌<◌, ℕ, List, ◌∷◌, ◌++◌, length, Some, None}
use Rattle.tc_store.specs.declared.file_name.FileName.{FileName}
use Rattle.tc_store.specs.declared.file_name.FileName.TheVariants.{Component}
use Rattle.tc_store.specs.Disk.{Entry, still}
use Rattle.tc_store.specs.Images.{Image}
use Rattle.tc_lsm_model.specs.Contents.{Partition, Content}
use Rattle.tc_component.specs.declared.head.Head.{Head}
use Rattle.tc_component.specs.declared.head.Sizes.{Sizes}
use Rattle.tc_component.specs.Layout.{number_end, file_size}
use Rattle.tc_component.specs.Reading.{version_of}
use Rattle.tc_component.specs.Spelling.{IsHead, head_bytes}
use Rattle.tc_component.specs.Rows.{IsComponent}

abbrev pub file_of : Content → FileName
file_of c = Component c.from c.to

-- there is the component of this content
abbrev pub LeavesComponent : Content → Image → Type 0
LeavesComponent c None = ⊥
LeavesComponent c (Some bytes) = IsComponent c bytes

-- it never changes
abbrev pub IsStillComponent : Content → Entry → Type 0
IsStillComponent c entry = (bytes : List ℕ) × (entry ≡ still bytes) × IsComponent c bytes

abbrev pub component_head : Partition → ℕ → ℕ → Head
component_head part from to = record { number = part.number; count = part.count; from = from; to = to }

-- Whatever stands behind it, the header is that of a component of these generations in the version that it tells, and its
-- lengths add up to the length of the file.
pub record HasComponentHead (part : Partition) (from to : ℕ) (bytes : List ℕ) : Type 0 where
  pub is_head : IsHead (component_head part from to)
  pub sizes : Sizes
  pub rest : List ℕ
  pub spelled : bytes ≡ 1 ∷ (head_bytes (version_of bytes) (component_head part from to) sizes ++ rest)
  pub adds_up : length bytes ≡ file_size sizes
  pub short : length bytes < number_end
