use Rattle.std.proofs.Common.{◌∙◌, arith, refl, ap, sym, subst, inl}
use Rattle.std.specs.Prelude.{Some}
use Rattle.tc_bytes.specs.Counts.{Rose}
use Rattle.tc_verdicts.specs.Kits.{HasEnded}
use Rattle.tc_verdicts.proofs.WrittenLines.{cause_of_write, ended_writing, lines_written, none_written}
use Rattle.tc_verdicts.proofs.auditing.check_all.Goals as goal

-- ---- no room for the kits

pub returns-in-Err-clause-written : goal.returns-in-Err-clause-written
returns-in-Err-clause-written g c = rw c.of.ensures.fault refl

pub returns-in-Err-clause-sink : goal.returns-in-Err-clause-sink
returns-in-Err-clause-sink g c = rw c.of.ensures.fault (omega arith, λ write. absurd write)

pub returns-in-Err-clause-ended : goal.returns-in-Err-clause-ended
returns-in-Err-clause-ended g c =
    let none = ap (λ kits. kits.items) c.of.ensures.kits ∙ c.new.ensures.items in
    rw (c.of.ensures.fault, none) (omega arith)

pub returns-in-Err-clause-given_back : goal.returns-in-Err-clause-given_back
returns-in-Err-clause-given_back g c =
    let none = ap (λ kits. kits.items) c.of.ensures.kits ∙ c.new.ensures.items in
    rw none (λ p. tt)

pub returns-in-Err-clause-shelf : goal.returns-in-Err-clause-shelf
returns-in-Err-clause-shelf g c = record { others = λ p lower. (refl, refl); next = inl (refl, refl); kept = omega arith }

-- ---- all lines are made

pub returns-in-Ok-check_kits-clause-written : goal.returns-in-Ok-check_kits-clause-written
returns-in-Ok-check_kits-clause-written g c =
    let said = c.in-Ok-check_kits.ensures.verdicts in
    rw c.of-in-Ok-check_kits.ensures.fault (lines_written g.H.Store.Frozen.Frozen.content g.O.Sink.taken c.args.partitions (g.H.Shelf.files c.args.shelf.now) said.0 c.as_slice.result.now c.write_lines.result c.args.sink.now c.write_lines.new.sink
    said.1 (c.as_slice.ensures.value ∙ said.2) c.write_lines.ensures.taken)

pub returns-in-Ok-check_kits-clause-sink : goal.returns-in-Ok-check_kits-clause-sink
returns-in-Ok-check_kits-clause-sink g c =
    rw c.of-in-Ok-check_kits.ensures.fault (c.write_lines.ensures.faults, cause_of_write c.write_lines.result (Rose (g.O.Sink.faults c.args.sink.now) (g.O.Sink.faults c.write_lines.new.sink)) c.write_lines.ensures.cause)

pub returns-in-Ok-check_kits-clause-ended : goal.returns-in-Ok-check_kits-clause-ended
returns-in-Ok-check_kits-clause-ended g c =
    let kits = ap (λ kits. kits.items) c.of-in-Ok-check_kits.ensures.kits in
    rw (c.of-in-Ok-check_kits.ensures.fault, kits) (ended_writing g.H.Store.Watch.Watch.counts c.args.partitions (g.H.Shelf.kit_faults c.args.shelf.now) (Rose (g.H.Shelf.faults c.args.shelf.now) (g.H.Shelf.faults c.check_kits.new.shelf))
    c.check_kits.new.kits.items c.as_slice.result.now c.write_lines.result (g.O.Sink.taken c.args.sink.now) (g.O.Sink.taken c.write_lines.new.sink) c.in-Ok-check_kits.ensures.all c.write_lines.ensures.taken)

pub returns-in-Ok-check_kits-clause-given_back : goal.returns-in-Ok-check_kits-clause-given_back
returns-in-Ok-check_kits-clause-given_back g c = let kits = ap (λ kits. kits.items) c.of-in-Ok-check_kits.ensures.kits in rw kits c.check_kits.ensures.given_back

pub returns-in-Ok-check_kits-clause-shelf : goal.returns-in-Ok-check_kits-clause-shelf
returns-in-Ok-check_kits-clause-shelf g c = let kits = ap (λ kits. kits.items) c.of-in-Ok-check_kits.ensures.kits in rw kits c.check_kits.ensures.shelf

pub returns-in-Ok-check_kits-clause-unasked : goal.returns-in-Ok-check_kits-clause-unasked
returns-in-Ok-check_kits-clause-unasked g c = let kits = ap (λ kits. kits.items) c.of-in-Ok-check_kits.ensures.kits in rw kits c.check_kits.ensures.unasked

-- ---- some partition has no verdict

pub returns-in-Err-check_kits-clause-written : goal.returns-in-Err-check_kits-clause-written
returns-in-Err-check_kits-clause-written g c =
    rw c.of-in-Err-check_kits.ensures.fault (none_written g.H.Store.Frozen.Frozen.content g.O.Sink.taken c.args.partitions (g.H.Shelf.files c.args.shelf.now) c.in-Err-check_kits.fault c.args.sink.now c.in-Err-check_kits.ensures.unwritten)

pub returns-in-Err-check_kits-clause-sink : goal.returns-in-Err-check_kits-clause-sink
returns-in-Err-check_kits-clause-sink g c = rw c.of-in-Err-check_kits.ensures.fault (omega arith, λ write. absurd (c.in-Err-check_kits.ensures.unwritten write))

pub returns-in-Err-check_kits-clause-ended : goal.returns-in-Err-check_kits-clause-ended
returns-in-Err-check_kits-clause-ended g c =
    let kits = ap (λ kits. kits.items) c.of-in-Err-check_kits.ensures.kits in
    let rose = Rose (g.H.Shelf.faults c.args.shelf.now) (g.H.Shelf.faults c.check_kits.new.shelf) in
    rw c.of-in-Err-check_kits.ensures.fault (subst (λ ks. HasEnded g.H.Store.Watch.Watch.counts c.args.partitions (g.H.Shelf.kit_faults c.args.shelf.now) rose ks (Some c.in-Err-check_kits.fault)) (sym kits) c.in-Err-check_kits.ensures.ended)

pub returns-in-Err-check_kits-clause-given_back : goal.returns-in-Err-check_kits-clause-given_back
returns-in-Err-check_kits-clause-given_back g c = let kits = ap (λ kits. kits.items) c.of-in-Err-check_kits.ensures.kits in rw kits c.check_kits.ensures.given_back

pub returns-in-Err-check_kits-clause-shelf : goal.returns-in-Err-check_kits-clause-shelf
returns-in-Err-check_kits-clause-shelf g c = let kits = ap (λ kits. kits.items) c.of-in-Err-check_kits.ensures.kits in rw kits c.check_kits.ensures.shelf

pub returns-in-Err-check_kits-clause-unasked : goal.returns-in-Err-check_kits-clause-unasked
returns-in-Err-check_kits-clause-unasked g c = let kits = ap (λ kits. kits.items) c.of-in-Err-check_kits.ensures.kits in rw kits c.check_kits.ensures.unasked
