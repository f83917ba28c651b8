use Rattle.std.proofs.Common.{◌≡◌, ◌≤◌, ℕ, List}
use Rattle.tc_lsm_model.specs.Contents.{Partition, Content}
use Rattle.tc_lsm_model.specs.Lists.{live}
use Rattle.tc_component.specs.Cursors.{HoldsPart}
use Rattle.tc_audit.specs.Reasons.{AreRight}
use Rattle.tc_audit.specs.Waiting.{all_counted, IsSound}
use Rattle.tc_audit.specs.Walking.{HoldParts, IsCounting, IsUpTo, Tells}
use Rattle.tc_audit.proofs.walk.count_entries.Given as goal

abbrev pub invariant-loop-at : goal.invariant-loop-at
invariant-loop-at g l =
    let c = l.component.index in
    let counts = g.F.Watch.Watch.counts in
    record {
      of : HoldsPart (g.F.Frozen.content l.component.file) l.cursor;
      each : HoldParts g.F.Frozen.content l.older l.cursors.items;
      names : l.recount.names ≡ c.names;
      form : l.recount.shapes.form ≡ c.version;
      sound : IsSound l.recount;
      few : l.recount.gained ≤ l.at;
      counting : IsCounting c.names (all_counted l.recount) l.recount.gained;
      counted : (part : Partition) (cs : List Content) (whole : List ℕ) → AreRight (λ file. g.F.Frozen.content file) part l.older cs → Tells (λ file. g.F.Frozen.content file) l.component whole
          → IsUpTo c whole (live cs) 0 (all_counted l.fn.recount) 0 → IsUpTo c whole (live cs) l.at (all_counted l.recount) l.recount.gained;
      faults : (counts l.fn.watch).faults ≤ (counts l.watch).faults;
    }
