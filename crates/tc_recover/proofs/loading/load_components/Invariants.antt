use Rattle.std.proofs.Common.{◌≡◌, length}
use Rattle.std.specs.Vec.Iter.{into_iter_items, into_iter_len}
use Rattle.tc_recover.specs.Refusals.{asked}
use Rattle.tc_recover.proofs.LoadSteps.{AreTilesLeft}
use Rattle.tc_recover.proofs.loading.load_components.Given as goal

abbrev pub invariant-loop-file : goal.invariant-loop-file
invariant-loop-file g l =
    let content = g.F.Frozen.content in
    let counts = g.F.Watch.Watch.counts in
    record {
      many : into_iter_len l.file-iterator ≡ length (into_iter_items l.file-iterator);
      tiles : AreTilesLeft (λ file. content file) (asked l.part) l.fn.files.items (into_iter_items l.file-iterator) l.fn.tiles l.rest l.list l.left.items (counts l.fn.watch) (counts l.watch);
    }
