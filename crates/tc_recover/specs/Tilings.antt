-- Intervals of generations: which lie within others, and which tile the generations from 1 on.
use Rattle.std.specs.Prelude.{◌≡◌, ◌<◌, ◌≤◌, ◌⊎◌, ◌+◌, ℕ, List, [], ◌∷◌, Contains}
use Rattle.tc_recover.specs.declared.interval.Interval.{Interval}

-- an interval lies within an outer one, which may be the same
pub record LiesWithin (outer inner : Interval) : Type 0 where
  pub begins : outer.from ≤ inner.from
  pub ends : inner.to ≤ outer.to

-- the order of intervals: by the first generation, and by the last one where the first is the same
abbrev pub IsUpTo : Interval → Interval → Type 0
IsUpTo i j = (i.from < j.from) ⊎ ((i.from ≡ j.from) × (i.to ≤ j.to))

-- they stand in that order
abbrev pub Ascend : List Interval → Type 0
Ascend [] = Unit {0}
Ascend (i ∷ is) = ((j : Interval) → Contains is j → IsUpTo i j) × Ascend is

-- each tile begins behind the one before, and the first behind a generation
abbrev pub Tile : ℕ → List Interval → Type 0
Tile generation [] = Unit {0}
Tile generation (t ∷ ts) = (t.from ≡ generation + 1) × (t.from ≤ t.to) × Tile t.to ts

-- the last generation of the tiles behind one
abbrev pub end_of : ℕ → List Interval → ℕ
end_of generation [] = generation
end_of generation (t ∷ ts) = end_of t.to ts

-- one of these is around an interval
abbrev pub AreAround : List Interval → Interval → Type 0
AreAround tiles interval = (t : Interval) × Contains tiles t × LiesWithin t interval

-- some of the intervals tile the generations from 1 on, and each other one lies within one of these
pub record IsTiling (intervals tiles : List Interval) : Type 0 where
  pub tile : Tile 0 tiles
  pub there : (t : Interval) → Contains tiles t → Contains intervals t
  pub around : (i : Interval) → Contains intervals i → AreAround tiles i
