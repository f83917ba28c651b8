-- A walk over the keys of components and tables in ascending order: what is ahead of it, and what is its next key.
use Rattle.std.specs.Prelude.{◌≡◌, ◌<◌, ◌≤◌, ◌+◌, ℕ, List, [], ◌∷◌, ◌++◌, length, drop, slice_get, Option, Some, None, option_map, IfSome}
use Rattle.std.specs.List.{AllByRecursion}
use Rattle.tc_component.specs.Loading.{ComponentState}
use Rattle.tc_component.specs.declared.slot.Slot.{Slot}
use Rattle.tc_list.specs.Contents.{marks}
use Rattle.tc_list.specs.Lookups.{HaveNone}
use Rattle.tc_memory.specs.Meaning.{entry_of}
use Rattle.tc_memory.specs.declared.held.Entry.{Entry}
use Rattle.tc_memory.specs.Table.{Table}
use Rattle.tc_model.specs.Keyed.{Keyed}
use Rattle.tc_query.specs.Shown.{held_newest}
use Rattle.tc_query.specs.declared.ahead.Ahead.{Ahead}
use Rattle.tc_query.specs.declared.walk.Walk.{Walk}

-- the least key that a walk may come to, behind the last one that it came to
abbrev pub least_left : Option ℕ → ℕ
least_left None = 0
least_left (Some last) = last + 1

-- ---- one source

abbrev pub first_key : {V : Type 0} → Keyed V → Option ℕ
first_key [] = None
first_key (e ∷ es) = Some e.0

-- what is behind has lesser keys
pub record IsAhead {V : Type 0} (low : ℕ) (entries ahead : Keyed V) : Type 0 where
  pub behind : Keyed V
  pub parts : entries ≡ behind ++ ahead
  pub lesser : AllByRecursion (λ e. e.0 < low) behind

-- the entries of a table that are ahead
abbrev pub from_next : Option Entry → Table → Table
from_next None behind = []
from_next (Some e) behind = entry_of e ∷ behind

abbrev pub entries_ahead : Ahead → Table
entries_ahead a = from_next a.next a.behind

-- ---- all sources

-- of each component this is the place of the first entry that is ahead
pub record AreAhead {F : Type 0} (low : ℕ) (components : List (ComponentState F)) (places : List ℕ) : Type 0 where
  pub many : length places ≡ length components
  pub each : (n at : ℕ) (c : ComponentState F) → slice_get components n ≡ Some c → slice_get places n ≡ Some at → IsAhead low (marks c.index.slots) (drop at (marks c.index.slots))

-- the entry at a place, if there is one, has this key or a greater one
abbrev pub IsFrom : ℕ → List Slot → ℕ → Type 0
IsFrom low slots at = IfSome (option_map (λ s. s.key) (slice_get slots at)) (λ key. low ≤ key)

-- so of each component
abbrev pub AreFrom : {F : Type 0} → ℕ → List (ComponentState F) → List ℕ → Type 0
AreFrom {F} low components places = (n at : ℕ) (c : ComponentState F) → slice_get components n ≡ Some c → slice_get places n ≡ Some at → IsFrom low c.index.slots at

-- of each component this is the place of its first entry of this key or a greater one
pub record StandAt {F : Type 0} (key : ℕ) (components : List (ComponentState F)) (places : List ℕ) : Type 0 where
  pub ahead : AreAhead key components places
  pub from : AreFrom key components places

abbrev pub IsSealedAhead : ℕ → Option Table → Option Ahead → Type 0
IsSealedAhead low None None = Unit {0}
IsSealedAhead low None (Some a) = ⊥
IsSealedAhead low (Some t) None = ⊥
IsSealedAhead low (Some t) (Some a) = IsAhead low t (entries_ahead a)

pub record IsWalk {F : Type 0} (low : ℕ) (components : List (ComponentState F)) (sealed : Option Table) (active : Table) (walk : Walk) : Type 0 where
  pub listed : AreAhead low components walk.places.items
  pub sealed_ahead : IsSealedAhead low sealed walk.sealed
  pub active_ahead : IsAhead low active (entries_ahead walk.active)

-- ---- the next key

-- a key comes before the next one, or none comes
abbrev pub IsBefore : ℕ → Option ℕ → Type 0
IsBefore key None = Unit {0}
IsBefore key (Some next) = key < next

-- what holds of no key from a low one on before the next
abbrev pub IsNext : ℕ → Option ℕ → (ℕ → Type 0) → Type 0
IsNext low next HasNone = IfSome next (λ key. low ≤ key) × ((key : ℕ) → low ≤ key → IsBefore key next → HasNone key)

-- a source has no entry of a key
abbrev pub HasNoneIn : {F : Type 0} → List (ComponentState F) → Option Table → Table → ℕ → Type 0
HasNoneIn cs sealed active key = HaveNone cs key × (held_newest key sealed active ≡ None)
