use Rattle.std.proofs.Common.{refl}
use Rattle.tc_model.proofs.DictionaryGrowth.{IsDictionary-nil}
use Rattle.tc_names.proofs.Found.{index-none}
use Rattle.tc_names.proofs.dictionary.Names.new.Goals as goal

pub invariant_of-result : goal.invariant_of-result
invariant_of-result c = rw (c.new.ensures.empty, c.new-2.ensures.heads, c.new-2.ensures.links) (IsDictionary-nil, (index-none 0, refl))
