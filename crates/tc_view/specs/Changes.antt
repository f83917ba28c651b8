-- What a view shows, and what a change leaves of it.
use Rattle.std.specs.Prelude.{◌+◌, List, [], ◌∷◌, ◌++◌, length, flat_map, fold, Option, None, option_map}
use Rattle.std.specs.Arc.{arc_value}
use Rattle.std.specs.declared.sync.Arc.{Arc}
use Rattle.std.specs.declared.alloc.Global.{Global}
use Rattle.tc_log.specs.declared.write.Write.{Write}
use Rattle.tc_memory.specs.Table.{Table}
use Rattle.tc_component.specs.Loading.{ComponentState}
use Rattle.tc_view.specs.declared.content.Content.{Content}
use Rattle.tc_view.specs.declared.change.Change.{Change}
use Rattle.tc_view.specs.declared.change.Change.TheVariants.{Writes, Placed as PlacedBy}
use Rattle.tc_view.specs.declared.happened.Happened.{Happened}
use Rattle.tc_view.specs.declared.happened.Happened.TheVariants.{Wrote, Placed}

abbrev pub writes_in : Arc (List Write) Global → List Write
writes_in chunk = arc_value chunk

-- what a view shows: components, a table over them, and the writes behind both
pub record Showing (F : Type 0) : Type 0 where
  pub list : List (ComponentState F)
  pub sealed : Option Table
  pub written : List Write

abbrev pub empty_showing : {F : Type 0} → Showing F
empty_showing = record { list = []; sealed = None; written = [] }

module _ {F W : Type 0} where
  -- ---- the history

  -- what the history has of a change
  abbrev pub happened : Change F W → Happened F W
  happened (Writes chunk) = Wrote (writes_in chunk)
  happened (PlacedBy list sealed) = Placed (arc_value list) (option_map arc_value sealed)

  -- the writes that a change makes; where they lie is no write
  abbrev pub writes_of_one : Happened F W → List Write
  writes_of_one (Wrote writes) = writes
  writes_of_one (Placed list sealed) = []

  -- the writes of all changes, of which the oldest comes first
  abbrev pub writes_of : List (Happened F W) → List Write
  writes_of history = flat_map writes_of_one history

  abbrev pub after_one : Showing F → Happened F W → Showing F
  after_one s (Wrote writes) = record s { written = s.written ++ writes }
  after_one s (Placed list sealed) = record { list = list; sealed = sealed; written = [] }

  -- what these changes leave of an empty view
  abbrev pub shown_after : List (Happened F W) → Showing F
  shown_after history = fold after_one empty_showing history

  -- ---- a view

  abbrev pub showing_in : Content F W → Showing F
  showing_in c = record { list = c.list; sealed = c.sealed; written = c.written }

  -- the view that shows this, and is else as it was
  abbrev pub that_shows : Content F W → Showing F → Content F W
  that_shows c s = record c { list = s.list; sealed = s.sealed; written = s.written }

  -- what a view shows after a change, but for the numbers and the history
  abbrev pub changed : Content F W → Change F W → Content F W
  changed c change = that_shows c (after_one (showing_in c) (happened change))

  -- and with the numbers and the history
  abbrev pub after_change : Content F W → Change F W → Content F W
  after_change c change = record (changed c change) {
    upto = c.upto + length (writes_of_one (happened change));
    changes = c.changes + 1;
    history = c.history ++ happened change ∷ [];
  }
