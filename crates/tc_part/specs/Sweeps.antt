-- Files of components that are not listed any more are removed.
use Rattle.std.specs.Prelude.{◌≢◌, Bool, List, All}
use Rattle.std.specs.List.{list_any}
use Rattle.tc_store.specs.declared.file_name.FileName.{FileName}
use Rattle.tc_store.specs.declared.file_name.FileName.TheVariants.{Component, Log}
use Rattle.tc_store.specs.Disk.{Disk, same_name}
use Rattle.tc_store.specs.StoreCalls.{RemovesSome}
use Rattle.tc_component.specs.Loading.{ComponentState}
use Rattle.tc_component.specs.Spelling.{name_of}

-- whether one of these components has this name
abbrev pub has_name : {F : Type 0} → FileName → List (ComponentState F) → Bool
has_name name list = list_any (λ c. same_name (name_of c.index.head) name) list

-- the name is that of a component, and none of these has it
abbrev pub NamesNoneOf : {F : Type 0} → List (ComponentState F) → FileName → Type 0
NamesNoneOf list (Component from to) = All (λ c. name_of c.index.head ≢ Component from to) list
NamesNoneOf list (Log generation) = ⊥

-- files of such names are removed, or none
pub record RemovesNoneOf {F : Type 0} (list : List (ComponentState F)) (old new : List Disk) : Type 0 where
  pub names : List FileName
  pub apart : All (NamesNoneOf list) names
  pub removed : RemovesSome names old new
