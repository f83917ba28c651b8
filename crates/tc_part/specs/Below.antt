-- What a key has below the active table, and where.
use Rattle.std.specs.Prelude.{◌≡◌, ◌⊎◌, ℕ, Bool, true, false, List, Option, Some, None, option_map}
use Rattle.std.specs.List.{AllZip}
use Rattle.tc_model.specs.Keyed.{value_of}
use Rattle.tc_memory.specs.Table as memory
use Rattle.tc_component.specs.Loading.{ComponentState}
use Rattle.tc_lsm_model.specs.Contents.{Partition, Content}
use Rattle.tc_lsm_model.specs.Lists.{IsList}
use Rattle.tc_list.specs.Contents.{Shows, IsLiveAt}
use Rattle.tc_list.specs.Lookups.{IsWhere}
use Rattle.tc_list.specs.declared.whereabouts.Whereabouts.{Whereabouts}
use Rattle.tc_list.specs.declared.whereabouts.Whereabouts.TheVariants as list
use Rattle.tc_part.specs.declared.below.Below.{Below}
use Rattle.tc_part.specs.declared.below.Below.TheVariants.{Absent, Sealed, Listed}

-- what a table holds of a key
abbrev pub held_at : ℕ → memory.Table → Option memory.Held
held_at key t = option_map (λ k. k.held) (value_of key t)

-- the same of a sealed table, if there is one
abbrev pub sealed_held : ℕ → Option memory.Table → Option memory.Held
sealed_held key None = None
sealed_held key (Some t) = held_at key t

abbrev pub newer_held : Option memory.Held → Option memory.Held → Option memory.Held
newer_held None older = older
newer_held (Some held) older = Some held

-- a document, and not that it is gone
abbrev pub is_document : memory.Held → Bool
is_document memory.gone = false
is_document (memory.live bytes) = true

abbrev pub is_there : Below → Bool
is_there Absent = false
is_there Sealed = true
is_there (Listed component place) = true

-- whether a key has a document, by what the active table holds of it and by what it has below
abbrev pub is_live : Option memory.Held → Below → Bool
is_live None below = is_there below
is_live (Some held) below = is_document held

abbrev pub below_held : memory.Held → Below
below_held memory.gone = Absent
below_held (memory.live bytes) = Sealed

abbrev pub below_listed : Whereabouts → Below
below_listed list.Absent = Absent
below_listed (list.At component place) = Listed component place

-- of a key this is where the newest component that has it says, and what is live in the contents
pub record IsFoundAt {F : Type 0} (components : List (ComponentState F)) (key : ℕ) (at : Whereabouts) : Type 0 where
  pub newest : IsWhere components key at
  pub live : (part : Partition) (cs : List Content) → IsList part cs → AllZip Shows components cs → IsLiveAt cs key at

-- What the sealed table holds of the key decides, and where it holds nothing, the list.
abbrev pub IsBelow : {F : Type 0} → Option memory.Table → List (ComponentState F) → ℕ → Below → Type 0
IsBelow sealed components key below =
    ((held : memory.Held) × (sealed_held key sealed ≡ Some held) × (below ≡ below_held held))
    ⊎ ((at : Whereabouts) × (sealed_held key sealed ≡ None) × IsFoundAt components key at × (below ≡ below_listed at))

-- What the active table holds of a key shows whether it has a document, and where it holds nothing, what lies below.
abbrev pub ShowsLiveBy : {F : Type 0} → Option memory.Held → Option memory.Table → List (ComponentState F) → ℕ → Bool → Type 0
ShowsLiveBy None sealed components key live = (below : Below) × IsBelow sealed components key below × (live ≡ is_there below)
ShowsLiveBy (Some held) sealed components key live = live ≡ is_document held

abbrev pub ShowsLive : {F : Type 0} → Option memory.Table → List (ComponentState F) → memory.Table → ℕ → Bool → Type 0
ShowsLive sealed components active key live = ShowsLiveBy (held_at key active) sealed components key live

-- what the newer of both tables holds of a key that has an entry of it
abbrev pub newest_held : memory.Table → Option memory.Table → ℕ → Option memory.Held
newest_held active sealed key = newer_held (held_at key active) (sealed_held key sealed)
