-- A store whose files are lawful: what is read of them, and what stays once they are taken.
use Rattle.std.specs.Prelude.{◌≡◌, ℕ, false, List, [], Option, map, unwrap_or, All}
use Rattle.std.specs.List.{AllZip}
use Rattle.tc_store.specs.declared.file_name.FileName.{FileName}
use Rattle.tc_store.specs.Disk.{Disk, Picture, IsPictureOf, content_of, is_out, still}
use Rattle.tc_store.specs.Images.{Image}
use Rattle.tc_component.specs.Loaded.{IsLoadedOf}
use Rattle.tc_component.specs.Loading.{ComponentState}
use Rattle.tc_component.specs.Reading.{version_of}
use Rattle.tc_component.specs.Rows.{component_index}
use Rattle.tc_component.specs.Spelling.{Index}
use Rattle.tc_log.specs.declared.write.Write.{Write}
use Rattle.tc_plain_model.specs.Writes.{Write as Stored}
use Rattle.tc_lsm_model.specs.Contents.{Content, Partition}
use Rattle.tc_lsm_model.specs.Lists.{last_of}
use Rattle.tc_machine.specs.Components.{file_of}
use Rattle.tc_machine.specs.Events.{opened}
use Rattle.tc_machine.specs.Kept.{IsKept}
use Rattle.tc_machine.specs.Logs.{kept_write}
use Rattle.tc_machine.specs.Pictures.{Opens}
use Rattle.tc_machine.specs.State.{State}
use Rattle.tc_machine.specs.Steps.{IsSpare, nothing_held}
use Rattle.tc_recover.specs.Opening.{Found}

-- what the component of a content has beside its records, in the version of the file that stands under its name
abbrev pub index_of_file : (FileName → Image) → Content → Index
index_of_file images c = component_index (version_of (unwrap_or (images (file_of c)) [])) c

-- what files hold that open as these components and logs
abbrev pub found_of : (FileName → Image) → List Content → List (List Stored) → Found
found_of images cs logs = record { components = map (index_of_file images) cs; logs = map (map kept_write) logs }

-- what a disk has under each name
abbrev pub images_of : Disk → FileName → Image
images_of disk name = content_of (disk name)

-- the files of a disk open as these components and logs
pub record DiskOpens (part : Partition) (disk : Disk) (cs : List Content) (logs : List (List Stored)) : Type 0 where
  pub picture : Picture
  pub left : IsPictureOf nothing_held disk picture
  pub opens : Opens part picture cs logs

-- Each component is loaded of its content, each log has its writes, and the last generation is that of the newest content.
pub record ReadsAs {F : Type 0} (content : F → Option (List ℕ)) (cs : List Content) (logs : List (List Stored)) (list : List (ComponentState F)) (writes : List (List Write)) (last : ℕ) : Type 0 where
  pub loaded : AllZip (IsLoadedOf content) list cs
  pub written : writes ≡ map (map kept_write) logs
  pub last_is : last ≡ last_of cs

-- ---- files that were taken

-- the machine while these components are listed, with these logs above them and these files
abbrev pub resting : List Content → List (List Stored) → Disk → State
resting cs logs disk = record (opened [] cs logs) { files = disk }

-- the machine keeps these files, and none is out
pub record KeepsFiles (part : Partition) (cs : List Content) (logs : List (List Stored)) (disk : Disk) : Type 0 where
  pub kept : IsKept part (resting cs logs disk)
  pub home : (name : FileName) → is_out (disk name) ≡ false

-- nobody needs the files of these names, where they are still, while these components are listed
abbrev pub AreSpare : List Content → Disk → List FileName → Type 0
AreSpare cs disk names = All (λ name. (bytes : List ℕ) → disk name ≡ still bytes → IsSpare (resting cs [] disk) name bytes) names
