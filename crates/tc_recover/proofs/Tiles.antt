-- Tiles behind a generation: where they stand, and what is put behind them.
use Rattle.std.proofs.Common.{◌≡◌, ◌<◌, ◌≤◌, ◌⊎◌, ◌+◌, ℕ, List, [], ◌∷◌, ◌++◌, refl, sym, subst, inl, inr, arith}
use Rattle.std.specs.Prelude.{Contains}
use Rattle.std.proofs.lemmas.Bool.{cases_lt}
use Rattle.tc_recover.specs.declared.interval.Interval.{Interval}
use Rattle.tc_recover.specs.Tilings.{Tile, end_of}
use Rattle.tc_recover.proofs.Members.{member_cases, member_first, member_further, no_member}

pub ends_behind : (g : ℕ) (ts : List Interval) → Tile g ts → g ≤ end_of g ts
ends_behind g [] tile = omega arith
ends_behind g (t ∷ ts) tile = let rest = ends_behind t.to ts tile.2 in omega (arith, rest, tile.0, tile.1)

-- where one of them stands
pub stands_at : (g : ℕ) (ts : List Interval) (t : Interval) → Tile g ts → Contains ts t → (g < t.from) × (t.from ≤ t.to) × (t.to ≤ end_of g ts)
stands_at g [] t tile member = absurd (no_member t member)
stands_at g (u ∷ us) t tile member = elim (member_cases u us t member) [
  | inl same ↦ subst (λ (x : Interval). (g < x.from) × (x.from ≤ x.to) × (x.to ≤ end_of u.to us)) same (omega (arith, tile.0), tile.1, ends_behind u.to us tile.2)
  | inr further ↦ let rest = stands_at u.to us t tile.2 further in (omega (arith, rest.0, tile.0, tile.1), rest.1, rest.2)
]

-- it is the first, or there is the one before it
pub one_before : (g : ℕ) (ts : List Interval) (t : Interval) → Tile g ts → Contains ts t → (t.from ≡ g + 1) ⊎ ((p : Interval) × Contains ts p × (p.to + 1 ≡ t.from))
one_before g [] t tile member = absurd (no_member t member)
one_before g (u ∷ us) t tile member = elim (member_cases u us t member) [
  | inl same ↦ inl (subst (λ (x : Interval). x.from ≡ g + 1) same tile.0)
  | inr further ↦ elim (one_before u.to us t tile.2 further) [
    | inl next ↦ inr (u, member_first u us, sym next)
    | inr before ↦ inr (before.0, member_further u us before.0 before.1, before.2)
  ]
]

-- of two that begin apart the earlier one ends before the later one begins
pub stand_apart : (g : ℕ) (ts : List Interval) (t u : Interval) → Tile g ts → Contains ts t → Contains ts u → t.from < u.from → t.to < u.from
stand_apart g [] t u tile first second below = absurd (no_member t first)
stand_apart g (v ∷ vs) t u tile first second below = elim (member_cases v vs t first) [
  | inl same ↦ elim (member_cases v vs u second) [
    | inl equal ↦ absurd (let lower = subst (λ (x : Interval). x.from < u.from) (sym same) below in let both = subst (λ (x : Interval). v.from < x.from) (sym equal) lower in omega (arith, both))
    | inr further ↦ let place = stands_at v.to vs u tile.2 further in subst (λ (x : Interval). x.to < u.from) same place.0
  ]
  | inr further ↦ elim (member_cases v vs u second) [
    | inl equal ↦ absurd (let place = stands_at v.to vs t tile.2 further in let both = subst (λ (x : Interval). t.from < x.from) (sym equal) below in omega (arith, both, place.0, tile.1))
    | inr later ↦ stand_apart v.to vs t u tile.2 further later below
  ]
]

-- each generation up to the last one is in a tile
pub one_holds : (g n : ℕ) (ts : List Interval) → Tile g ts → g < n → n ≤ end_of g ts → (t : Interval) × Contains ts t × (t.from ≤ n) × (n ≤ t.to)
one_holds g n [] tile above within = absurd (omega (arith, above, within))
one_holds g n (u ∷ us) tile above within = elim (cases_lt u.to n) [
  | inl further ↦ let rest = one_holds u.to n us tile.2 further within in (rest.0, member_further u us rest.0 rest.1, rest.2, rest.3)
  | inr here ↦ (u, member_first u us, omega (arith, tile.0, above), here)
]

-- a tile more
pub tile_pushed : (g : ℕ) (ts : List Interval) (t : Interval) → Tile g ts → t.from ≡ end_of g ts + 1 → t.from ≤ t.to → Tile g (ts ++ t ∷ [])
tile_pushed g [] t tile next order = (next, order, tt)
tile_pushed g (u ∷ us) t tile next order = (tile.0, tile.1, tile_pushed u.to us t tile.2 next order)

pub without_last : (g : ℕ) (ts : List Interval) (t : Interval) → Tile g (ts ++ t ∷ []) → Tile g ts × (t.from ≡ end_of g ts + 1)
without_last g [] t tile = (tt, tile.0)
without_last g (u ∷ us) t tile = let rest = without_last u.to us t tile.2 in ((tile.0, tile.1, rest.0), rest.1)

pub end_pushed : (g : ℕ) (ts : List Interval) (t : Interval) → end_of g (ts ++ t ∷ []) ≡ t.to
end_pushed g [] t = refl
end_pushed g (u ∷ us) t = end_pushed u.to us t
