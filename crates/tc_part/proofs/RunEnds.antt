-- The first and the last component of a run, and a content that merges one.
use Rattle.std.proofs.Common.{◌≡◌, ◌∙◌, ◌<◌, ◌≤◌, ◌+◌, ◌-◌, ℕ, zero, suc, List, [], ◌∷◌, Some, length, take, drop, slice_get, refl, ap, subst, arith}
use Rattle.std.proofs.lemmas.List.{length-drop, length-take-le}
use Rattle.std.proofs.lemmas.Option.{same_Some}
use Rattle.tc_component.specs.Loading.{ComponentState}
use Rattle.tc_list.specs.declared.run.Run.{Run}
use Rattle.tc_list.specs.Intervals.{first_of, last_after, last_of}
use Rattle.tc_list.specs.Runs.{in_run}
use Rattle.tc_lsm_model.specs.Contents.{Content}
use Rattle.tc_lsm_model.specs.Lists as contents
use Rattle.tc_lsm_model.specs.Merges.{IsMerge, merged_entries, in_run as contents_in_run, Run as Neighbours}
use Rattle.tc_part_model.proofs.RunInputs.{slice_get-drop}
use Rattle.tc_part.specs.JobHeads.{merged_head}
use Rattle.tc_part.specs.Ready.{LiesIn}

listed_at : {F : Type 0} (cs : List (ComponentState F)) (n : ℕ) → n < length cs → (c : ComponentState F) × (slice_get cs n ≡ Some c)
listed_at [] n within = absurd (omega (arith, within))
listed_at (c ∷ cs) zero within = (c, refl)
listed_at (c ∷ cs) (suc n) within = listed_at cs n (omega (arith, within))

begins_at : {F : Type 0} (n : ℕ) (cs : List (ComponentState F)) (c : ComponentState F) → slice_get cs 0 ≡ Some c → first_of (take (suc n) cs) ≡ c.index.head.from
begins_at n [] c here = absurd (cc)
begins_at n (d ∷ cs) c here = ap (λ (x : ComponentState _). x.index.head.from) (same_Some d c here)

ends_at : {F : Type 0} (g n : ℕ) (cs : List (ComponentState F)) (c : ComponentState F) → slice_get cs n ≡ Some c → last_after g (take (suc n) cs) ≡ c.index.head.to
ends_at g n [] c here = absurd (cc)
ends_at g zero (d ∷ cs) c here = ap (λ (x : ComponentState _). x.index.head.to) (same_Some d c here)
ends_at g (suc n) (d ∷ cs) c here = ends_at d.index.head.to n cs c here

-- the ends of a run, with which a header goes from the first on to the last
pub record HasEnds {F : Type 0} (number count : ℕ) (run : Run) (cs : List (ComponentState F)) : Type 0 where
  pub first : ComponentState F
  pub last : ComponentState F
  pub at_first : slice_get cs run.first ≡ Some first
  pub at_last : slice_get cs run.last ≡ Some last
  pub head : merged_head number count run cs ≡ record { number = number; count = count; from = first.index.head.from; to = last.index.head.to }

pub ends : {F : Type 0} (number count : ℕ) (run : Run) (cs : List (ComponentState F)) → LiesIn cs run → HasEnds number count run cs
ends number count run cs (several, within) =
    let first = listed_at cs run.first (omega (arith, several, within)) in
    let last = listed_at cs run.last within in
    let many : run.last + 1 - run.first ≡ suc (run.last - run.first) = omega (arith, several) in
    let first_here = slice_get-drop run.first 0 cs first.0 (subst (λ n. slice_get cs n ≡ Some first.0) (omega arith) first.1) in
    let last_here = slice_get-drop run.first (run.last - run.first) cs last.0 (subst (λ n. slice_get cs n ≡ Some last.0) (omega (arith, several)) last.1) in
    let from : first_of (in_run run cs) ≡ first.0.index.head.from = ap (λ n. first_of (take n (drop run.first cs))) many ∙ begins_at (run.last - run.first) (drop run.first cs) first.0 first_here in
    let to : last_of (in_run run cs) ≡ last.0.index.head.to = ap (λ n. last_of (take n (drop run.first cs))) many ∙ ends_at 0 (run.last - run.first) (drop run.first cs) last.0 last_here in
    record {
      first = first.0;
      last = last.0;
      at_first = first.1;
      at_last = last.1;
      head = ap (λ (n : ℕ). record { number = number; count = count; from = n; to = last_of (in_run run cs) }) from ∙ ap (λ (n : ℕ). record { number = number; count = count; from = first.0.index.head.from; to = n }) to;
    }

-- ---- contents

merge_of : (cs : List Content) → 0 < length cs → (c : Content) × IsMerge cs c
merge_of [] some = absurd (omega (arith, some))
merge_of (d ∷ cs) some = (
  record { part = d.part; from = d.from; to = contents.last_of (d ∷ cs); entries = merged_entries d.from (d ∷ cs); names = contents.names_of (d ∷ cs); schema = contents.schema_of (d ∷ cs) },
  record { first = d; others = cs; is = refl; part = refl; from = refl; to = refl; entries = refl; names = refl; schema = refl },
)

-- what two neighbours or more are merged into
pub merge_within : (run : Neighbours) (cs : List Content) → (2 ≤ run.length) × (run.first + run.length ≤ length cs) → (c : Content) × IsMerge (contents_in_run run cs) c
merge_within run cs (two, within) =
    merge_of (contents_in_run run cs) (omega (arith, length-take-le run.length (drop run.first cs) (omega (arith, length-drop run.first cs, within)), two))
