-- How far a tiling has come, where some of the intervals are still to be placed.
use Rattle.std.specs.Prelude.{◌≤◌, ◌⊎◌, List, Contains}
use Rattle.tc_recover.specs.declared.interval.Interval.{Interval}
use Rattle.tc_recover.specs.Tilings.{Tile, IsUpTo, Ascend, AreAround}

-- Of all intervals those that are not left have their tiles, and none that is left stands before a tile.
pub record IsPlaced (all left tiles : List Interval) : Type 0 where
  pub tile : Tile 0 tiles
  pub there : (t : Interval) → Contains tiles t → Contains all t
  pub waiting : (i : Interval) → Contains left i → Contains all i
  pub placed : (i : Interval) → Contains all i → Contains left i ⊎ AreAround tiles i
  pub behind : (t i : Interval) → Contains tiles t → Contains left i → IsUpTo t i
  pub ascend : Ascend left
  pub order : (i : Interval) → Contains left i → i.from ≤ i.to
