use Rattle.std.proofs.Common.{◌≡◌, length}
use Rattle.std.specs.Vec.Iter.{into_iter_items, into_iter_len}
use Rattle.tc_recover.proofs.Removals.{AreNeedlessLeft}
use Rattle.tc_recover.proofs.removing.remove_needless.Given as goal

abbrev pub invariant-loop-taken : goal.invariant-loop-taken
invariant-loop-taken g l =
    let name = g.S.Frozen.Frozen.name in
    let history = g.S.Store.history in
    let counts = g.S.Watch.Watch.counts in
    record {
      many : into_iter_len l.taken-iterator ≡ length (into_iter_items l.taken-iterator);
      needless : AreNeedlessLeft (λ file. name file) l.last l.fn.files.items (into_iter_items l.taken-iterator) l.logs.items (history l.fn.store) (history l.store) (counts l.fn.watch) (counts l.watch);
    }
