use Rattle.tc_recover.proofs.NameOrders.{names_ascend, all_listed}
use Rattle.tc_recover.proofs.listing.listed.Goals as goal

pub returns-clause-ascend : goal.returns-clause-ascend
returns-clause-ascend g c = names_ascend _ _ c.in_ok-sort.ensures.sorted c.dedup.ensures.filtered

pub returns-clause-exact : goal.returns-clause-exact
returns-clause-exact g c = all_listed _ _ _ _ c.in_ok-names.ensures.names c.in_ok-sort.ensures.permutation c.dedup.ensures.filtered
