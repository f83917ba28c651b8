use Rattle.std.proofs.Common.{refl}
use Rattle.tc_model.proofs.DictionaryGrowth.{IsDictionary-nil}
use Rattle.tc_names.proofs.Found.{index-none}
use Rattle.tc_names.proofs.dictionary.Names.with_room.Goals as goal

pub invariant_of-result : goal.invariant_of-result
invariant_of-result c = rw (c.in_ok-with_room.ensures.empty, c.in_ok-with_places.ensures.heads, c.in_ok-with_places.ensures.links) (IsDictionary-nil, (index-none c.args.count, refl))
