-- What stands at the places of components that were loaded of the bytes of contents.
use Rattle.std.specs.Prelude.{◌≡◌, ℕ, List, length, slice_get, Option, Some}
use Rattle.tc_model.specs.Document.{Document}
use Rattle.tc_model.specs.Keyed.{value_of}
use Rattle.tc_lsm_model.specs.Contents.{Content}
use Rattle.tc_lsm_model.specs.Lists.{live}
use Rattle.tc_component.specs.declared.found.Place.{Place}
use Rattle.tc_component.specs.Fetching.{IsPlace, record_at, IsRecordWithin}
use Rattle.tc_component.specs.Loading.{ComponentState}
use Rattle.tc_component.specs.Meaning.{IsRecordOfOne}

-- at a place of the component at a position stands the record of the live document of a key, and of no other document
pub record HoldsLive {F : Type 0} (told : F → Option (List ℕ)) (components : List (ComponentState F)) (cs : List Content) (key at : ℕ) (place : Place) : Type 0 where
  pub component : ComponentState F
  pub here : slice_get components at ≡ Some component
  pub place_is : IsPlace component.index.slots place
  pub document : Document
  pub live_is : value_of key (live cs) ≡ Some document
  pub bytes : List ℕ
  pub tells : told component.file ≡ Some bytes
  pub record_is : IsRecordOfOne component.index.version component.index.names document (record_at component.index.slots place.at bytes)
  -- so that it is no damage
  pub within : IsRecordWithin component.index.version (length component.index.names) (record_at component.index.slots place.at bytes)
