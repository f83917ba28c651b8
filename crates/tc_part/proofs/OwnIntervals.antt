-- What lies within the intervals of components that follow each other, and where one is listed behind them or in place of a run.
use Rattle.std.proofs.Common.{◌≡◌, ◌<◌, ◌≤◌, ◌+◌, ℕ, zero, suc, List, [], ◌∷◌, ◌++◌, length, map, take, drop, refl, subst, arith, inl, inr, Option}
use Rattle.std.specs.Prelude.{◌⊎◌}
use Rattle.tc_component.specs.Loading.{ComponentState}
use Rattle.tc_list.specs.Intervals.{first_of, last_after, last_of}
use Rattle.tc_part.specs.OwnFiles.{BeginBy, EndFrom, FollowInOrder, LieWithin}
use Rattle.tc_part_model.specs.PartState.{ToldComponent, told_component}

-- ---- parts of a list

pub begin_in : (from n k : ℕ) (xs ys : List ToldComponent) → BeginBy from (take n (drop k xs)) → BeginBy from (take n (drop k (xs ++ ys)))
begin_in from zero k xs ys has = absurd has
begin_in from (suc n) zero [] ys has = absurd has
begin_in from (suc n) zero (c ∷ xs) ys (inl here) = inl here
begin_in from (suc n) zero (c ∷ xs) ys (inr there) = inr (begin_in from n zero xs ys there)
begin_in from (suc n) (suc k) [] ys has = absurd has
begin_in from (suc n) (suc k) (c ∷ xs) ys has = begin_in from (suc n) k xs ys has

pub end_in : (to n k : ℕ) (xs ys : List ToldComponent) → EndFrom to (take n (drop k xs)) → EndFrom to (take n (drop k (xs ++ ys)))
end_in to zero k xs ys has = absurd has
end_in to (suc n) zero [] ys has = absurd has
end_in to (suc n) zero (c ∷ xs) ys (inl here) = inl here
end_in to (suc n) zero (c ∷ xs) ys (inr there) = inr (end_in to n zero xs ys there)
end_in to (suc n) (suc k) [] ys has = absurd has
end_in to (suc n) (suc k) (c ∷ xs) ys has = end_in to (suc n) k xs ys has

pub end_whole : (to n k : ℕ) (xs : List ToldComponent) → EndFrom to (take n (drop k xs)) → EndFrom to xs
end_whole to zero k xs has = absurd has
end_whole to (suc n) zero [] has = absurd has
end_whole to (suc n) zero (c ∷ xs) (inl here) = inl here
end_whole to (suc n) zero (c ∷ xs) (inr there) = inr (end_whole to n zero xs there)
end_whole to (suc n) (suc k) [] has = absurd has
end_whole to (suc n) (suc k) (c ∷ xs) has = inr (end_whole to (suc n) k xs has)

pub within_front : (from to : ℕ) (xs ys : List ToldComponent) → LieWithin from to xs → LieWithin from to (xs ++ ys)
within_front from to [] ys has = absurd has
within_front from to (c ∷ xs) ys (inl here) = inl here
within_front from to (c ∷ xs) ys (inr there) = inr (within_front from to xs ys there)

pub within_at : (from to : ℕ) (xs ys : List ToldComponent) (c : ToldComponent) → c.index.head.from ≤ from → to ≤ c.index.head.to → LieWithin from to (xs ++ c ∷ ys)
within_at from to [] ys c first last = inl (first, last)
within_at from to (x ∷ xs) ys c first last = inr (within_at from to xs ys c first last)

module _ {F : Type 0} (content : F → Option (List ℕ)) where
  abbrev pub seen : List (ComponentState F) → List ToldComponent
  seen cs = map (told_component content) cs

  -- ---- what lies within a list

  pub ends_grow : (g : ℕ) (cs : List (ComponentState F)) → FollowInOrder g (seen cs) → g ≤ last_after g cs
  ends_grow g [] follow = omega arith
  ends_grow g (c ∷ cs) follow = omega (arith, follow.0, follow.1, ends_grow c.index.head.to cs follow.2)

  pub within_ends : (g from to : ℕ) (cs : List (ComponentState F)) → FollowInOrder g (seen cs) → LieWithin from to (seen cs) → (g < from) × (to ≤ last_after g cs)
  within_ends g from to [] follow has = absurd has
  within_ends g from to (c ∷ cs) follow (inl here) = (omega (arith, follow.0, here.0), omega (arith, here.1, ends_grow c.index.head.to cs follow.2))
  within_ends g from to (c ∷ cs) follow (inr there) = let w = within_ends c.index.head.to from to cs follow.2 there in (omega (arith, follow.0, follow.1, w.0), w.1)

  pub begins_above : (g from : ℕ) (cs : List (ComponentState F)) → FollowInOrder g (seen cs) → BeginBy from (seen cs) → g < from
  begins_above g from [] follow has = absurd has
  begins_above g from (c ∷ cs) follow (inl here) = omega (arith, follow.0, here)
  begins_above g from (c ∷ cs) follow (inr there) = omega (arith, follow.0, follow.1, begins_above c.index.head.to from cs follow.2 there)

  pub ends_below : (g to : ℕ) (cs : List (ComponentState F)) → FollowInOrder g (seen cs) → EndFrom to (seen cs) → to ≤ last_after g cs
  ends_below g to [] follow has = absurd has
  ends_below g to (c ∷ cs) follow (inl here) = omega (arith, here, ends_grow c.index.head.to cs follow.2)
  ends_below g to (c ∷ cs) follow (inr there) = ends_below c.index.head.to to cs follow.2 there

  -- ---- runs

  pub run_follows : (g n : ℕ) (cs : List (ComponentState F)) → FollowInOrder g (seen cs) → FollowInOrder g (seen (take n cs))
  run_follows g zero cs follow = tt
  run_follows g (suc n) [] follow = tt
  run_follows g (suc n) (c ∷ cs) follow = (follow.0, follow.1, run_follows c.index.head.to n cs follow.2)

  pub rest_follows : (g n : ℕ) (cs : List (ComponentState F)) → FollowInOrder g (seen cs) → FollowInOrder (last_after g (take n cs)) (seen (drop n cs))
  rest_follows g zero cs follow = follow
  rest_follows g (suc n) [] follow = tt
  rest_follows g (suc n) (c ∷ cs) follow = rest_follows c.index.head.to n cs follow.2

  -- the run of so many from the first one on
  front_ends : (g n : ℕ) (cs : List (ComponentState F)) → FollowInOrder g (seen cs) → 0 < n → n ≤ length cs → (first_of (take n cs) ≡ g + 1) × (first_of (take n cs) ≤ last_of (take n cs)) × (last_of (take n cs) ≡ last_after g (take n cs))
  front_ends g zero cs follow some within = absurd (omega (arith, some))
  front_ends g (suc n) [] follow some within = absurd (omega (arith, within))
  front_ends g (suc n) (c ∷ cs) follow some within = (follow.0, omega (arith, follow.1, ends_grow c.index.head.to (take n cs) (run_follows c.index.head.to n cs follow.2)), refl)

  run_above : (g k n : ℕ) (cs : List (ComponentState F)) → FollowInOrder g (seen cs) → 0 < n → k + n ≤ length cs → (g < first_of (take n (drop k cs))) × (first_of (take n (drop k cs)) ≤ last_of (take n (drop k cs)))
  run_above g zero n cs follow some within = let e = front_ends g n cs follow some (omega (arith, within)) in (omega (arith, e.0), e.1)
  run_above g (suc k) n [] follow some within = absurd (omega (arith, within, some))
  run_above g (suc k) n (c ∷ cs) follow some within = let e = run_above c.index.head.to k n cs follow.2 some (omega (arith, within)) in (omega (arith, follow.0, follow.1, e.0), e.1)

  pub run_long : (g k n : ℕ) (cs : List (ComponentState F)) → FollowInOrder g (seen cs) → 1 < n → k + n ≤ length cs → first_of (take n (drop k cs)) < last_of (take n (drop k cs))
  run_long g zero zero cs follow two within = absurd (omega (arith, two))
  run_long g zero (suc zero) cs follow two within = absurd (omega (arith, two))
  run_long g zero (suc (suc n)) [] follow two within = absurd (omega (arith, within))
  run_long g zero (suc (suc n)) (c ∷ []) follow two within = absurd (omega (arith, within))
  run_long g zero (suc (suc n)) (c ∷ d ∷ cs) follow two within =
      omega (arith, follow.1, follow.2.0, follow.2.1, ends_grow d.index.head.to (take n cs) (run_follows d.index.head.to n cs follow.2.2))
  run_long g (suc k) n [] follow two within = absurd (omega (arith, within, two))
  run_long g (suc k) n (c ∷ cs) follow two within = run_long c.index.head.to k n cs follow.2 two (omega (arith, within))

  last_ends : (c : ComponentState F) (cs : List (ComponentState F)) → EndFrom (last_after c.index.head.to cs) (seen (c ∷ cs))
  last_ends c [] = inl (omega arith)
  last_ends c (d ∷ cs) = inr (last_ends d cs)

  -- the first of them begins, and the last of them ends there
  pub run_between : (cs : List (ComponentState F)) → 0 < length cs → BeginBy (first_of cs) (seen cs) × EndFrom (last_of cs) (seen cs)
  run_between [] some = absurd (omega (arith, some))
  run_between (c ∷ cs) some = (inl (omega arith), last_ends c cs)

  -- what begins and ends with components of a run does so between the ends of the run
  front_between : (g n from to : ℕ) (cs : List (ComponentState F)) → FollowInOrder g (seen cs) → 0 < n → n ≤ length cs → BeginBy from (seen (take n cs)) → EndFrom to (seen (take n cs)) → (first_of (take n cs) ≤ from) × (to ≤ last_of (take n cs))
  front_between g n from to cs follow some within begins ends =
      let e = front_ends g n cs follow some within in
      let run = run_follows g n cs follow in
      (omega (arith, e.0, begins_above g from (take n cs) run begins), omega (arith, e.2, ends_below g to (take n cs) run ends))

  pub run_ends : (g k n from to : ℕ) (cs : List (ComponentState F)) → FollowInOrder g (seen cs) → 0 < n → k + n ≤ length cs → BeginBy from (seen (take n (drop k cs))) → EndFrom to (seen (take n (drop k cs)))
      → (first_of (take n (drop k cs)) ≤ from) × (to ≤ last_of (take n (drop k cs)))
  run_ends g zero n from to cs follow some within begins ends = front_between g n from to cs follow some (omega (arith, within)) begins ends
  run_ends g (suc k) n from to [] follow some within begins ends = absurd (omega (arith, within))
  run_ends g (suc k) n from to (c ∷ cs) follow some within begins ends = run_ends c.index.head.to k n from to cs follow.2 some (omega (arith, within)) begins ends

  -- of two components or more no one has all generations
  pub run_not_within : (g k n : ℕ) (cs : List (ComponentState F)) → FollowInOrder g (seen cs) → 1 < n → k + n ≤ length cs → LieWithin (first_of (take n (drop k cs))) (last_of (take n (drop k cs))) (seen cs) → ⊥
  run_not_within g k n [] follow two within has = absurd has
  run_not_within g zero zero (c ∷ cs) follow two within has = omega (arith, two)
  run_not_within g zero (suc zero) (c ∷ cs) follow two within has = omega (arith, two)
  run_not_within g zero (suc (suc n)) (c ∷ []) follow two within has = omega (arith, within)
  run_not_within g zero (suc (suc n)) (c ∷ d ∷ cs) follow two within (inl here) =
      omega (arith, here.1, follow.2.0, follow.2.1, ends_grow d.index.head.to (take n cs) (run_follows d.index.head.to n cs follow.2.2))
  run_not_within g zero (suc (suc n)) (c ∷ d ∷ cs) follow two within (inr there) =
      omega (arith, follow.1, (within_ends c.index.head.to c.index.head.from (last_after d.index.head.to (take n cs)) (d ∷ cs) follow.2 there).0)
  run_not_within g (suc k) n (c ∷ cs) follow two within (inl here) =
      let e = run_above c.index.head.to k n cs follow.2 (omega (arith, two)) (omega (arith, within)) in omega (arith, here.1, e.0, e.1)
  run_not_within g (suc k) n (c ∷ cs) follow two within (inr there) = run_not_within c.index.head.to k n cs follow.2 two (omega (arith, within)) there

  -- ---- a component behind the others

  pub follow_behind : (g : ℕ) (cs : List (ComponentState F)) (c : ToldComponent) → FollowInOrder g (seen cs) → c.index.head.from ≡ last_after g cs + 1 → c.index.head.from ≤ c.index.head.to → FollowInOrder g (seen cs ++ c ∷ [])
  follow_behind g [] c follow from order = (from, order, tt)
  follow_behind g (d ∷ cs) c follow from order = (follow.0, follow.1, follow_behind d.index.head.to cs c follow.2 from order)

  -- ---- a component in place of a run

  pub at_place : (from to : ℕ) (xs ys : List (ComponentState F)) (m : ComponentState F) → m.index.head.from ≤ from → to ≤ m.index.head.to → LieWithin from to (seen (xs ++ m ∷ ys))
  at_place from to [] ys m first last = inl (first, last)
  at_place from to (x ∷ xs) ys m first last = inr (at_place from to xs ys m first last)

  module _ (m : ComponentState F) where
    pub swapped_follow : (g k n : ℕ) (cs : List (ComponentState F)) → FollowInOrder g (seen cs) → 0 < n → k + n ≤ length cs → m.index.head.from ≡ first_of (take n (drop k cs)) → m.index.head.to ≡ last_of (take n (drop k cs))
        → FollowInOrder g (seen (take k cs ++ m ∷ drop n (drop k cs)))
    swapped_follow g zero n cs follow some within from to =
        let e = front_ends g n cs follow some (omega (arith, within)) in
        (omega (arith, from, e.0), omega (arith, from, to, e.1), subst (λ h. FollowInOrder h (seen (drop n cs))) (omega (arith, to, e.2)) (rest_follows g n cs follow))
    swapped_follow g (suc k) n [] follow some within from to = absurd (omega (arith, within))
    swapped_follow g (suc k) n (c ∷ cs) follow some within from to = (follow.0, follow.1, swapped_follow c.index.head.to k n cs follow.2 some (omega (arith, within)) from to)

    in_front : (g n from to : ℕ) (cs : List (ComponentState F)) → FollowInOrder g (seen cs) → LieWithin from to (seen cs) → ((g < from) × (to ≤ last_after g (take n cs))) ⊎ LieWithin from to (seen (drop n cs))
    in_front g zero from to cs follow has = inr has
    in_front g (suc n) from to [] follow has = absurd has
    in_front g (suc n) from to (c ∷ cs) follow (inl here) = inl (omega (arith, follow.0, here.0), omega (arith, here.1, ends_grow c.index.head.to (take n cs) (run_follows c.index.head.to n cs follow.2)))
    in_front g (suc n) from to (c ∷ cs) follow (inr there) = elim (in_front c.index.head.to n from to cs follow.2 there) [
      | inl front ↦ inl (omega (arith, follow.0, follow.1, front.0), front.1)
      | inr behind ↦ inr behind
    ]

    pub swapped_within : (g k n from to : ℕ) (cs : List (ComponentState F)) → FollowInOrder g (seen cs) → 0 < n → k + n ≤ length cs → m.index.head.from ≡ first_of (take n (drop k cs)) → m.index.head.to ≡ last_of (take n (drop k cs))
        → LieWithin from to (seen cs) → LieWithin from to (seen (take k cs ++ m ∷ drop n (drop k cs)))
    swapped_within g zero n from to cs follow some within first last has =
        let e = front_ends g n cs follow some (omega (arith, within)) in elim (in_front g n from to cs follow has) [
          | inl front ↦ inl (omega (arith, first, e.0, front.0), omega (arith, last, e.2, front.1))
          | inr behind ↦ inr behind
        ]
    swapped_within g (suc k) n from to [] follow some within first last has = absurd has
    swapped_within g (suc k) n from to (c ∷ cs) follow some within first last (inl here) = inl here
    swapped_within g (suc k) n from to (c ∷ cs) follow some within first last (inr there) = inr (swapped_within c.index.head.to k n from to cs follow.2 some (omega (arith, within)) first last there)
