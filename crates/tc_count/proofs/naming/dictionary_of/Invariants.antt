use Rattle.std.proofs.Common.{◌≡◌, ◌<◌, ◌^◌, [], length, drop}
use Rattle.std.specs.List.{AllByRecursion}
use Rattle.tc_model.specs.Dictionary.{all_learned}
use Rattle.tc_count.proofs.naming.dictionary_of.Given as goal

-- what is left to learn leads to the whole
abbrev pub invariant-loop-name : goal.invariant-loop-name
invariant-loop-name l = record {
  left : all_learned l.dictionary (drop l.name-index l.names) ≡ all_learned [] l.names;
  short : AllByRecursion (λ name. length name < 2 ^ 32) (drop l.name-index l.names);
}
