use Rattle.std.proofs.Common.{arith}
use Rattle.std.proofs.lemmas.List.Sorted.{IsPermutation-swap}
use Rattle.tc_doc_reader.proofs.members.Orders.exchange.Goals as goal

pub returns-then-from-count : goal.returns-then-from-count
returns-then-from-count c = IsPermutation-swap c.args.found.now.items c.swap.new.self.items c.args.at _ (grind arith) (grind arith) c.swap.ensures.items
