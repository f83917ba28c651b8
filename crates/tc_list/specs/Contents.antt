-- The contents of the components of a list, as far as the directories show them.
use Rattle.std.specs.Prelude.{◌≡◌, ℕ, nat_lt, Bool, List, map, slice_get, Some, None, is_some}
use Rattle.tc_model.specs.Document.{Document}
use Rattle.tc_model.specs.Keyed.{Keyed, value_of, on_value}
use Rattle.tc_lsm_model.specs.Contents.{Content}
use Rattle.tc_lsm_model.specs.Lists.{live}
use Rattle.tc_component.specs.declared.slot.Slot.{Slot}
use Rattle.tc_component.specs.Loading.{ComponentState}
use Rattle.tc_list.specs.declared.whereabouts.Whereabouts.{Whereabouts}
use Rattle.tc_list.specs.declared.whereabouts.Whereabouts.TheVariants.{Absent, At}

-- the keys of a directory, and which of them have a record
abbrev pub marks : List Slot → Keyed Bool
marks slots = map (λ s. (s.key, nat_lt 0 s.length)) slots

-- a component has an entry for each one of a content, and a record where that is a document
abbrev pub Shows : {F : Type 0} → ComponentState F → Content → Type 0
Shows component c = marks component.index.slots ≡ map (on_value is_some) c.entries

-- the live document of a key is nowhere, or is the entry at a place of a content
abbrev pub IsLiveAt : List Content → ℕ → Whereabouts → Type 0
IsLiveAt cs key Absent = value_of key (live cs) ≡ None
IsLiveAt cs key (At component place) =
    (c : Content) × (d : Document) × (slice_get cs component ≡ Some c) × (slice_get c.entries place.at ≡ Some (key, Some d)) × (value_of key (live cs) ≡ Some d)
