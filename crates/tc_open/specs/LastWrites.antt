-- What a memory table over components holds once logs are replayed: of each key what the last write to it leaves.
use Rattle.std.specs.Prelude.{◌≡◌, ◌==◌, ℕ, Bool, true, false, if◌then◌else◌, List, [], ◌∷◌, Option, Some, None, option_map, flat_map}
use Rattle.std.specs.Option.{option_or}
use Rattle.tc_model.specs.Keyed.{value_of}
use Rattle.tc_log.specs.Writes.{key_of}
use Rattle.tc_log.specs.declared.write.Write.{Write}
use Rattle.tc_log.specs.declared.write.Write.TheVariants.{Upsert, Delete}
use Rattle.tc_memory.specs.Table as memory
use Rattle.tc_component.specs.Loading.{ComponentState}
use Rattle.tc_list.specs.declared.whereabouts.Whereabouts.{Whereabouts}
use Rattle.tc_list.specs.declared.whereabouts.Whereabouts.TheVariants.{Absent, At}
use Rattle.tc_part.specs.Below.{IsFoundAt}
use Rattle.tc_part_model.specs.Meaning.{shown}

-- what is written in logs, of which the oldest comes first
abbrev pub written_in : {W : Type 0} → List (List W) → List W
written_in logs = flat_map (λ ws. ws) logs

-- the last of these writes to a key, if there is one
abbrev pub last_to : ℕ → List Write → Option Write
last_to key [] = None
last_to key (w ∷ ws) = option_or (last_to key ws) (if key == key_of w then Some w else None)

-- a component has a document of the key
abbrev pub is_listed : Whereabouts → Bool
is_listed Absent = false
is_listed (At component place) = true

-- What is held of a key after its last write, and whether a shape is kept. A deletion is held only where something is below.
abbrev pub left_by : Bool → Write → Option (memory.Held × Bool)
left_by below (Upsert key bytes) = Some (memory.live bytes, below)
left_by true (Delete key) = Some (memory.gone, true)
left_by false (Delete key) = None

-- a key without a write has no entry, and another one what its last write leaves, over what the components have of it
abbrev pub IsLeftOver : {F : Type 0} → List (ComponentState F) → ℕ → Option Write → Option (memory.Held × Bool) → Type 0
IsLeftOver list key None held = held ≡ None
IsLeftOver list key (Some w) held = (at : Whereabouts) × IsFoundAt list key at × (held ≡ left_by (is_listed at) w)

abbrev pub HoldsLast : {F : Type 0} → List (ComponentState F) → List Write → memory.Table → Type 0
HoldsLast list ws table = (key : ℕ) → IsLeftOver list key (last_to key ws) (option_map shown (value_of key table))
