-- The headers of what the jobs of a part make.
use Rattle.std.specs.Prelude.{◌-◌, ℕ, List}
use Rattle.tc_component.specs.declared.head.Head.{Head}
use Rattle.tc_component.specs.Loading.{ComponentState}
use Rattle.tc_list.specs.Intervals.{first_of, last_of}
use Rattle.tc_list.specs.Runs.{in_run}
use Rattle.tc_list.specs.declared.run.Run.{Run}

-- of a merge: the generations of its run, in the partition of this number among so many
abbrev pub merged_head : {F : Type 0} → ℕ → ℕ → Run → List (ComponentState F) → Head
merged_head number count run list = record { number = number; count = count; from = first_of (in_run run list); to = last_of (in_run run list) }

-- of the flush of a sealed table, where this is the generation of the active one
abbrev pub flushed_head : ℕ → ℕ → ℕ → Head
flushed_head number count generation = record { number = number; count = count; from = generation - 1; to = generation - 1 }
