use Rattle.std.proofs.Common.{◌≡◌, ◌<◌, ◌^◌, length}
use Rattle.std.specs.List.{AllByRecursion}
use Rattle.tc_model.specs.Dictionary.{Extends, all_learned}
use Rattle.tc_infer.specs.Levels.{names_told}
use Rattle.tc_infer.proofs.recording.learn_told.Given as goal

-- the names that are left, learned from here on, are all names learned
abbrev pub invariant-loop-token : goal.invariant-loop-token
invariant-loop-token l = record {
  left : all_learned l.names (names_told l.cursor) ≡ all_learned l.fn.names (names_told l.of.tokens);
  short : AllByRecursion (λ name. length name < 2 ^ 32) (names_told l.cursor);
  extends : Extends l.names l.fn.names;
}

abbrev pub decreases-loop-token : goal.decreases-loop-token
decreases-loop-token l = length l.cursor
