use Rattle.std.proofs.Common.{◌≡◌, length}
use Rattle.std.specs.Prelude.{fold}
use Rattle.std.specs.Vec.Iter.{into_iter_items, into_iter_len}
use Rattle.tc_model.specs.Keyed.{Ascends}
use Rattle.tc_route.specs.Gathered.{with_rendered}
use Rattle.tc_route.specs.Meaning.{rendered_in}
use Rattle.tc_route.specs.Merging.{merging}
use Rattle.tc_route.proofs.gathering.merge.Given as goal

abbrev pub invariant-loop-placed : goal.invariant-loop-placed
invariant-loop-placed l = record {
  counted : into_iter_len l.placed-iterator ≡ length (into_iter_items l.placed-iterator);
  left : Ascends (rendered_in l.left.items);
  more : Ascends (rendered_in (into_iter_items l.placed-iterator));
  whole : merging l.merged.items l.left.items (rendered_in (into_iter_items l.placed-iterator)) ≡ fold with_rendered (rendered_in l.fn.first.items) (rendered_in l.fn.part.items);
}
