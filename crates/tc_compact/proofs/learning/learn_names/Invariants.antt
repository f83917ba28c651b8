use Rattle.std.proofs.Common.{◌≡◌, ◌<◌, ◌^◌, ◌++◌, length, map}
use Rattle.tc_model.specs.Dictionary.{Extends, IsDictionary, all_learned, number as name_number}
use Rattle.tc_record.specs.Record.{joined}
use Rattle.tc_compact.specs.Slots.{names_in}
use Rattle.tc_compact.proofs.learning.learn_names.Given as goal

abbrev pub invariant-loop-token : goal.invariant-loop-token
invariant-loop-token l =
    let all = names_in l.from.tokens in
    let after = all_learned l.fn.names all in
    record {
      left : all_learned l.names (names_in l.cursor) ≡ after;
      numbers : l.numbers.items ++ map (name_number after) (names_in l.cursor) ≡ map (name_number after) all;
      short : length (joined (names_in l.cursor)) < 2 ^ 32;
      extends : Extends l.names l.fn.names;
      dictionary : IsDictionary l.names;
    }

abbrev pub decreases-loop-token : goal.decreases-loop-token
decreases-loop-token l = length l.cursor
