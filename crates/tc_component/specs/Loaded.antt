-- Components that were loaded of the bytes of contents.
use Rattle.std.specs.Prelude.{◌≡◌, ℕ, List, Option, Some}
use Rattle.tc_lsm_model.specs.Contents.{Content}
use Rattle.tc_component.specs.Loading.{ComponentState}
use Rattle.tc_component.specs.Reading.{version_of}
use Rattle.tc_component.specs.Rows.{component_index, IsComponent}

-- the file tells the bytes of a content, and the component has beside its records what that content's has
pub record IsLoadedOf {F : Type 0} (told : F → Option (List ℕ)) (component : ComponentState F) (c : Content) : Type 0 where
  pub bytes : List ℕ
  pub tells : told component.file ≡ Some bytes
  pub is : IsComponent c bytes
  pub index : component.index ≡ component_index (version_of bytes) c
