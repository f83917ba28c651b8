use Rattle.std.proofs.Common.{◌≡◌, length, take, drop}
use Rattle.tc_schema_model.specs.Counted.{IsCanonical}
use Rattle.tc_audit.specs.Waiting.{with_waiting, AreKnown, NoneWaits}
use Rattle.tc_audit.proofs.shapes.Shapes.settle.Given as goal

abbrev pub invariant-loop-at : goal.invariant-loop-at
invariant-loop-at l =
    let ss = l.self.known.items in
    record {
      form : l.self.form ≡ l.fn.self.form;
      long : length ss ≡ length l.fn.self.known.items;
      canonical : IsCanonical (length l.names) l.schema;
      known : AreKnown l.fn.self.form l.names ss;
      none : NoneWaits (take l.at ss);
      left : with_waiting l.names (drop l.at ss) l.schema ≡ with_waiting l.names l.fn.self.known.items l.fn.schema;
    }
