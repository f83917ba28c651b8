use Rattle.std.proofs.Common.{◌≡◌, ◌≤◌, ℕ, [], length}
use Rattle.tc_work.specs.Moving.{eyes}
use Rattle.tc_server.specs.Kits.{AreOpened}
use Rattle.tc_server.proofs.opening.open_all.Given as goal

-- the partitions below a number were opened, and no kit was asked for but theirs
abbrev pub invariant-loop-number : goal.invariant-loop-number
invariant-loop-number g l = record {
  opened : AreOpened (eyes g.H.Store.Store.history g.H.Store.Device.Device.history g.H.Store.Frozen.Frozen.content g.H.Store.Device.Device.name g.H.Store.Frozen.Frozen.size g.H.Store.Watch.Watch.counts) l.options (g.H.Shelf.files l.fn.shelf) (g.H.Shelf.kit_faults l.fn.shelf) l.engines;
  many : length l.engines ≡ l.number;
  within : l.number ≤ l.options.partitions;
  others : (other : ℕ) → l.number ≤ other → (g.H.Shelf.files l.shelf other ≡ g.H.Shelf.files l.fn.shelf other) × (g.H.Shelf.kit_faults l.shelf other ≡ g.H.Shelf.kit_faults l.fn.shelf other);
  faults : g.H.Shelf.faults l.fn.shelf ≤ g.H.Shelf.faults l.shelf;
  same : l.engines ≡ [] → l.shelf ≡ l.fn.shelf;
}
