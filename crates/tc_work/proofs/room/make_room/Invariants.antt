use Rattle.std.proofs.Common.{◌≡◌, ◌≤◌, None, length}
use Rattle.std.specs.Prelude.{Ok}
use Rattle.tc_work.specs.Moving.{beside, eyes, ListsPicked, Moves}
use Rattle.tc_work.specs.Settling.{PicksNone}
use Rattle.tc_work.proofs.room.make_room.Given as goal

abbrev pub invariant-loop-alloc : goal.invariant-loop-alloc
invariant-loop-alloc g l =
    let e = eyes g.S.Store.history g.S.Device.Device.history g.S.Frozen.Frozen.content g.S.Device.Device.name g.S.Frozen.Frozen.size g.S.Watch.Watch.counts in
    record {
      moves : Moves e (Ok tt) (beside l.fn.part l.fn.jobs) (beside l.part l.jobs);
      lists : ListsPicked e l.policy (beside l.fn.part l.fn.jobs) (beside l.part l.jobs);
      merged : l.part ≡ record l.fn.part { store = l.part.store; main = l.part.main; merger = l.part.merger; list = l.part.list; merging = l.part.merging };
      flush : l.jobs.flush ≡ l.fn.jobs.flush;
      joined : l.fn.part.merging ≡ None → l.part.merging ≡ None;
      nothing : PicksNone l.policy l.fn.part.list → l.fn.jobs.merge ≡ None → (l.part ≡ l.fn.part) × (l.jobs ≡ l.fn.jobs);
      enough : length l.fn.part.list ≤ l.most → (l.part ≡ l.fn.part) × (l.jobs ≡ l.fn.jobs);
    }

abbrev pub decreases-loop-alloc : goal.decreases-loop-alloc
decreases-loop-alloc g l = length l.part.list
