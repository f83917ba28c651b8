-- The generations of a merge lie in no content of the list that has its run.
use Rattle.std.proofs.Common.{◌≡◌, ◌≤◌, ◌+◌, ℕ, List, [], ◌∷◌, ◌++◌, length, refl, sym, ap, ◌∙◌, subst, arith, inl, inr}
use Rattle.std.specs.Prelude.{drop}
use Rattle.std.proofs.lemmas.List.{length-drop, length-take-le}
use Rattle.tc_plain_model.specs.Writes.{after_writes}
use Rattle.tc_lsm_model.specs.Contents.{Content, Partition}
use Rattle.tc_lsm_model.specs.Lists.{Covers, GoOn, IsList, held_over, last_after, last_of, live, names_of, newest_names}
use Rattle.tc_lsm_model.specs.Merges.{IsMerge, Run, before_run, behind_run, in_run}
use Rattle.tc_lsm_model.proofs.Covering.{Covers-either, covered_within}
use Rattle.tc_lsm_model.proofs.ListLaws.{GoOn-back, GoOn-front, last_after-grows}
use Rattle.tc_lsm_model.proofs.MergeLaws.{split_at_run}

-- ---- two neighbours or more

record HasTwo (cs : List Content) : Type 0 where
  first : Content
  second : Content
  others : List Content
  is : cs ≡ first ∷ second ∷ others

has_two : (cs : List Content) → 2 ≤ length cs → HasTwo cs
has_two [] two = absurd (omega (arith, two))
has_two (c ∷ []) two = absurd (omega (arith, two))
has_two (c ∷ d ∷ cs) two = record { first = c; second = d; others = cs; is = refl }

-- their generations lie in no content of the list
two_not_covered : (part : Partition) (xs : List Content) (first second : Content) (others ys : List Content) (from to : ℕ) → IsList part (xs ++ ((first ∷ second ∷ others) ++ ys))
    → from ≡ first.from → to ≡ last_after second.to others → Covers (xs ++ ((first ∷ second ∷ others) ++ ys)) from to → ⊥
two_not_covered part xs first second others ys from to all is_from is_to covered =
    let front : IsList part xs = GoOn-front part 0 [] [] xs ((first ∷ second ∷ others) ++ ys) all in
    let run : GoOn part (last_of xs) (live xs) (names_of xs) ((first ∷ second ∷ others) ++ ys) = GoOn-back part 0 [] [] xs ((first ∷ second ∷ others) ++ ys) all in
    let mid : GoOn part (last_of xs) (live xs) (names_of xs) (first ∷ second ∷ others) = GoOn-front part (last_of xs) (live xs) (names_of xs) (first ∷ second ∷ others) ys run in
    let back : GoOn part (last_after second.to others) (held_over (live xs) (first ∷ second ∷ others)) (newest_names second.names others) ys = GoOn-back part (last_of xs) (live xs) (names_of xs) (first ∷ second ∷ others) ys run in
    let grows : second.to ≤ last_after second.to others = last_after-grows part second.to (after_writes (after_writes (live xs) first.entries) second.entries) second.names others mid.1.1 in
    elim (Covers-either xs ((first ∷ second ∷ others) ++ ys) from to covered) [
      | inl before ↦ let w = covered_within part 0 [] [] xs from to front before in omega (arith, w.1, is_from, is_to, grows, mid.0.next, mid.0.content.order, mid.1.0.next, mid.1.0.content.order)
      | inr further ↦ elim (Covers-either (first ∷ second ∷ others) ys from to further) [
        | inl inside ↦ in_run_not mid grows inside
        | inr behind ↦ let w = covered_within part (last_after second.to others) (held_over (live xs) (first ∷ second ∷ others)) (newest_names second.names others) ys from to back behind in
            omega (arith, w.0, is_from, grows, mid.0.next, mid.0.content.order, mid.1.0.next, mid.1.0.content.order)
      ]
    ]
  where
    in_run_not : GoOn part (last_of xs) (live xs) (names_of xs) (first ∷ second ∷ others) → second.to ≤ last_after second.to others → Covers (first ∷ second ∷ others) from to → ⊥
    in_run_not mid grows (inl here) = omega (arith, here.1, is_to, grows, mid.1.0.next, mid.1.0.content.order)
    in_run_not mid grows (inr later) =
        let w = covered_within part first.to (after_writes (live xs) first.entries) first.names (second ∷ others) from to mid.1 later in
        omega (arith, w.0, is_from, mid.0.content.order)

-- nor do those of the merge of a run
pub merge_not_covered : (part : Partition) (run : Run) (cs : List Content) (c : Content) → IsList part cs → 2 ≤ run.length → run.first + run.length ≤ length cs → IsMerge (in_run run cs) c → Covers cs c.from c.to → ⊥
merge_not_covered part run cs c all two within is covered =
    let t : HasTwo (in_run run cs) = has_two (in_run run cs) (omega (arith, two, within, length-drop run.first cs, length-take-le run.length (drop run.first cs) (omega (arith, within, length-drop run.first cs)))) in
    let whole : before_run run cs ++ ((t.first ∷ t.second ∷ t.others) ++ behind_run run cs) ≡ cs = ap (λ (mid : List Content). before_run run cs ++ (mid ++ behind_run run cs)) (sym t.is) ∙ split_at_run run cs in
    two_not_covered part (before_run run cs) t.first t.second t.others (behind_run run cs) c.from c.to (subst (λ l. IsList part l) (sym whole) all)
    (is.from ∙ head_is is.first is.others t.first t.second t.others (sym is.is ∙ t.is))
    (is.to ∙ ap (λ l. last_of l) t.is) (subst (λ l. Covers l c.from c.to) (sym whole) covered)
  where
    head_is : (first : Content) (others : List Content) (a b : Content) (more : List Content) → first ∷ others ≡ a ∷ b ∷ more → (first.from ≡ a.from)
    head_is first others a b more e = cc
