-- Neighbours in a list, by the positions of the first and of the last of them.
use Rattle.std.specs.Prelude.{◌+◌, ◌-◌, List, ◌∷◌, ◌++◌, take, drop, slice_range}
use Rattle.tc_lsm_model.specs.Merges.{Run as Neighbours}
use Rattle.tc_list.specs.declared.run.Run.{Run}

abbrev pub in_run : {X : Type 0} → Run → List X → List X
in_run run xs = slice_range xs run.first (run.last + 1)

-- the list with one element in place of a run
abbrev pub swapped : {X : Type 0} → Run → X → List X → List X
swapped run x xs = take run.first xs ++ x ∷ drop (run.last + 1) xs

-- the same run, by the place of the first and how many they are
abbrev pub neighbours : Run → Neighbours
neighbours run = record { first = run.first; length = run.last + 1 - run.first }
