-- What writes leave, one list after the other.
use Rattle.std.proofs.Common.{◌≡◌, List, ◌++◌}
use Rattle.std.proofs.lemmas.List.Sums.{fold-append}
use Rattle.tc_plain_model.specs.Writes.{Pairs, Write, after_write, after_writes}

-- writes in front of others
pub after_writes-append : (ps : Pairs) (us vs : List Write) → after_writes ps (us ++ vs) ≡ after_writes (after_writes ps us) vs
after_writes-append ps us vs = fold-append after_write ps us vs
