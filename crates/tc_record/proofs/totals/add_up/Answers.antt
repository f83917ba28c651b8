use Rattle.std.proofs.Common.{◌≡◌, ◌∙◌, [], sym, ap, arith}
use Rattle.tc_record.specs.NumbersLeft.{elements_from}
use Rattle.tc_record.proofs.Scans.{sum_end}
use Rattle.tc_record.proofs.totals.add_up.Goals as goal

pub returns-clause-all : goal.returns-clause-all
returns-clause-all c =
    let found = c.loop-found.found in
    let n = c.args.numbers in
    let empty : found.left ≡ 0 = omega arith in
    let none : elements_from n.width n.place found.left n.bytes.now ≡ [] = ap (λ k. elements_from n.width n.place k n.bytes.now) empty in
    sym (sum_end found.total (elements_from n.width n.place found.left n.bytes.now) found.small none) ∙ c.loop-found.invariant.all
