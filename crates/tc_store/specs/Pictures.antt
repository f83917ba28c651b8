-- The pictures that a stop at a moment of a disk may leave.
use Rattle.tc_store.specs.declared.file_name.FileName.{FileName}
use Rattle.tc_store.specs.Disk.{Disk, Picture, IsPictureOf}
use Rattle.tc_store.specs.Images.{Image}

-- what a stop may leave of each file that is out
abbrev pub HeldOut : Type 1
HeldOut = FileName → Image → Type 0

-- each picture that a stop at this moment may leave has P
abbrev pub LeavesPictures : HeldOut → (Picture → Type 0) → Disk → Type 0
LeavesPictures held P disk = (picture : Picture) → IsPictureOf held disk picture → P picture
