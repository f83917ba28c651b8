use Rattle.std.proofs.Common.{◌≡◌, ◌++◌, List, map, drop, false}
use Rattle.tc_model.specs.Keyed.{values_in}
use Rattle.tc_request_model.specs.Rendered.{Rendered}
use Rattle.tc_run_model.specs.Kinds.{AreRenderedOfKinds}
use Rattle.tc_part_model.specs.Meaning.{IsPart, plain_of}
use Rattle.tc_part_model.specs.PartState.{told, AreTold}
use Rattle.tc_part_model.specs.PartView.{PartView}
use Rattle.tc_route.specs.Meaning.{rendered_in, routed_of}
use Rattle.tc_work.specs.Asked.{most_bytes, most_writes, requests_in}
use Rattle.tc_work.specs.Frames.{AreWithin}
use Rattle.tc_work.specs.Reads.{live_in, most_reads}
use Rattle.tc_work.specs.Windowed.{HasOnlyStaged}
use Rattle.tc_work.proofs.ReadCounts.{HaveRead}
use Rattle.tc_work.proofs.Underway.{IsUnderway}
use Rattle.tc_work.proofs.staging.answer_all.Given as goal

abbrev pub invariant-loop-routed : goal.invariant-loop-routed
invariant-loop-routed g l =
    let first = told g.S.Store.history g.S.Device.Device.history g.S.Frozen.Frozen.content l.fn.part in
    let now = told g.S.Store.history g.S.Device.Device.history g.S.Frozen.Frozen.content l.part in
    record {
      underway : (p : PartView) → IsPart first p
          → IsUnderway l.fn.part.limits (map routed_of l.list) (plain_of first p) p (AreTold first.components) (map routed_of (drop l.routed-index l.list)) (rendered_in l.replies.items) now;
      places : map (λ a. a.at) l.replies.items ++ map (λ r. r.at) (drop l.routed-index l.list) ≡ map (λ r. r.at) l.list;
      kinds : (more : List Rendered) → AreRenderedOfKinds (requests_in (drop l.routed-index l.list)) more → AreRenderedOfKinds (requests_in l.list) (values_in (rendered_in l.replies.items) ++ more);
      within : AreWithin (most_writes (requests_in l.list)) (most_bytes (requests_in l.list)) l.part.staged (requests_in (drop l.routed-index l.list));
      same : HasOnlyStaged l.fn.part l.part;
      sound : l.part.failed ≡ false;
      counted : HaveRead (most_reads (live_in l.fn.part) (requests_in l.list)) (most_reads (live_in l.part) (requests_in (drop l.routed-index l.list))) (g.S.Watch.Watch.counts l.fn.part.main) (g.S.Watch.Watch.counts l.part.main);
    }
