use Rattle.std.proofs.Common.{◌≡◌, ◌<◌, ◌^◌, length}
use Rattle.std.specs.List.{AllByRecursion}
use Rattle.tc_model.specs.Dictionary.{all_learned}
use Rattle.tc_compact.specs.Slots.{names_in}
use Rattle.tc_part.proofs.names.take_names.Given as goal

-- the names that are left, learned from here on, are all names learned
abbrev pub invariant-loop-name : goal.invariant-loop-name
invariant-loop-name l = record {
  left : all_learned l.taken l.names ≡ all_learned l.fn.taken (names_in l.of.tokens);
  short : AllByRecursion (λ name. length name < 2 ^ 32) l.names;
}

abbrev pub decreases-loop-name : goal.decreases-loop-name
decreases-loop-name l = length l.names
