-- Intervals have one tiling at most, so that what is judged of a picture is one thing.
use Rattle.std.proofs.Common.{◌≡◌, ◌∙◌, ◌≤◌, ◌⊎◌, ◌+◌, ℕ, List, [], ◌∷◌, refl, sym, subst, ap, inl, inr, arith}
use Rattle.std.specs.Prelude.{Contains, Option, Some, None, Result, Ok, Err}
use Rattle.tc_lsm_model.specs.Contents.{Partition}
use Rattle.tc_store.specs.declared.file_name.FileName.{FileName}
use Rattle.tc_store.specs.Disk.{Picture}
use Rattle.tc_recover.specs.declared.interval.Interval.{Interval}
use Rattle.tc_recover.specs.Opening.{Found, HeadsThen, OpeningJudged, SortedJudged, open_in, tiles_judged}
use Rattle.tc_recover.specs.Refusals.{Refusal, clashes, heads_refused}
use Rattle.tc_recover.specs.Sorting.{GoTogether, intervals_of}
use Rattle.tc_recover.specs.Tilings.{AreAround, IsTiling, LiesWithin, Tile}
use Rattle.tc_recover.proofs.LoadSteps.{same_interval}
use Rattle.tc_recover.proofs.Members.{member_cases, member_first, member_further, no_member}
use Rattle.tc_recover.proofs.Tiles.{stands_at}

-- each of these lies within one of those
abbrev AreWithin : List Interval → List Interval → Type 0
AreWithin inner outer = (t : Interval) → Contains inner t → AreAround outer t

-- what begins with the first tile lies within the first one alone
first_around : (g : ℕ) (u : Interval) (us : List Interval) (t : Interval) → Tile g (u ∷ us) → t.from ≡ g + 1 → AreAround (u ∷ us) t → t.to ≤ u.to
first_around g u us t tile begins around = elim (member_cases u us around.0 around.1) [
  | inl same ↦ subst (λ (x : Interval). t.to ≤ x.to) (sym same) around.2.ends
  | inr further ↦
      let place = stands_at u.to us around.0 tile.2 further in
      absurd (omega (arith, place.0, around.2.begins, begins, tile.0, tile.1))
]

-- what stands behind the first tile lies within one behind it
behind_around : (g : ℕ) (t : Interval) (ts : List Interval) (u : Interval) (us : List Interval) → Tile g (t ∷ ts) → t.to ≡ u.to → AreWithin (t ∷ ts) (u ∷ us) → AreWithin ts us
behind_around g t ts u us tile ends within x member =
    let place = stands_at t.to ts x tile.2 member in
    let around = within x (member_further t ts x member) in
    elim (member_cases u us around.0 around.1) [
      | inl same ↦
          let to : u.to ≡ around.0.to = ap (λ (i : Interval). i.to) same in
          absurd (omega (arith, place.0, place.1, around.2.ends, to, ends))
      | inr further ↦ (around.0, further, around.2)
    ]

one_way : (g : ℕ) (ts us : List Interval) → Tile g ts → Tile g us → AreWithin ts us → AreWithin us ts → ts ≡ us
one_way g [] [] first second there back = refl
one_way g [] (u ∷ us) first second there back = let around = back u (member_first u us) in absurd (no_member around.0 around.1)
one_way g (t ∷ ts) [] first second there back = let around = there t (member_first t ts) in absurd (no_member around.0 around.1)
one_way g (t ∷ ts) (u ∷ us) first second there back =
    let low = first_around g u us t second first.0 (there t (member_first t ts)) in
    let high = first_around g t ts u first second.0 (back u (member_first u us)) in
    let ends : t.to ≡ u.to = omega (arith, low, high) in
    let begins : t.from ≡ u.from = omega (arith, first.0, second.0) in
    let same = same_interval t u begins ends in
    let rest = one_way t.to ts us first.2 (subst (λ g. Tile g us) (sym ends) second.2) (behind_around g t ts u us first ends there) (behind_around g u us t ts second (sym ends) back) in
    ap (λ x. x ∷ ts) same ∙ ap (λ xs. u ∷ xs) rest

pub one_tiling : (is ts us : List Interval) → IsTiling is ts → IsTiling is us → ts ≡ us
one_tiling is ts us p q = one_way 0 ts us p.tile q.tile (λ t member. q.around t (p.there t member)) (λ u member. p.around u (q.there u member))

-- ---- what is judged

sorted_one_way : (part : Partition) (picture : Picture) (a b : Result Found Refusal) → SortedJudged part picture a → SortedJudged part picture b → a ≡ b
sorted_one_way part picture a b (inl p) (inl q) =
    let same = one_tiling (intervals_of (open_in picture)) p.0 q.0 p.1.tiling q.1.tiling in
    p.2 ∙ (ap (λ tiles. tiles_judged part picture tiles) same ∙ sym q.2)
sorted_one_way part picture a b (inl p) (inr q) = absurd (q.0 p.0 p.1)
sorted_one_way part picture a b (inr p) (inl q) = absurd (p.0 q.0 q.1)
sorted_one_way part picture a b (inr p) (inr q) = p.1 ∙ sym q.1

heads_one_way : (part : Partition) (picture : Picture) (refused : Option Refusal) (a b : Result Found Refusal) → HeadsThen refused a (SortedJudged part picture a) → HeadsThen refused b (SortedJudged part picture b) → a ≡ b
heads_one_way part picture None a b p q = sorted_one_way part picture a b p q
heads_one_way part picture (Some refusal) a b p q = p ∙ sym q

pub judged_one_way : (part : Partition) (picture : Picture) (a b : Result Found Refusal) → OpeningJudged part picture a → OpeningJudged part picture b → a ≡ b
judged_one_way part picture a b p q = heads_one_way part picture (heads_refused part picture) a b p q
