use Rattle.std.proofs.Common.{◌≡◌, length, sym, subst, Err, ap}
use Rattle.std.specs.Prelude.{IfSome}
use Rattle.tc_component.specs.Fetching.{IsRecordWithin, record_at, record_place, length_at}
use Rattle.tc_audit.proofs.Outcomes.{both_damaged, read_position, read_watched, read_wrong}
use Rattle.tc_audit.proofs.older.read_again.Goals as goal

pub returns-in-Ok-clause-found : goal.returns-in-Ok-clause-found
returns-in-Ok-clause-found g c = c.in-Ok.ensures.found.1

pub returns-in-Ok-clause-read : goal.returns-in-Ok-clause-read
returns-in-Ok-clause-read g c = λ whole tells.
    let m = c.args.component.now in
    subst (λ o. IfSome o (λ bytes. c.in-Ok.bytes ≡ record_at m.index.slots c.args.place.at bytes)) tells c.in-Ok.ensures.read

pub returns-in-Err-clause-place : goal.returns-in-Err-clause-place
returns-in-Err-clause-place g c = read_position c.args.number c.in-Err.fault c.of_read.result c.of_read.ensures

-- damage is a record that is none of the file's form within the names
pub returns-in-Err-clause-harmed : goal.returns-in-Err-clause-harmed
returns-in-Err-clause-harmed g c =
    let m = c.args.component.now in
    let told = g.F.Frozen.content m.file in
    read_wrong c.args.number c.in-Err.fault c.of_read.result
    (λ at kept. IfSome told (λ bytes. kept ≡ record_at m.index.slots c.args.place.at bytes) × ((at ≡ record_place m.index.slots c.args.place.at) × (length kept ≡ length_at m.index.slots c.args.place.at) × (IsRecordWithin m.index.version (length m.index.names) kept → ⊥)))
    _ c.of_read.ensures (both_damaged _ _ c.in-Err.fault c.in-Err.ensures.told c.in-Err.ensures.damaged)
    (λ place bytes both whole tells within.
    let bytes_are : bytes ≡ record_at m.index.slots c.args.place.at whole = subst (λ o. IfSome o (λ all. bytes ≡ record_at m.index.slots c.args.place.at all)) tells both.0 in
    both.1.2 (subst (IsRecordWithin m.index.version (length m.index.names)) (sym bytes_are) within))

pub returns-in-Err-clause-watched : goal.returns-in-Err-clause-watched
returns-in-Err-clause-watched g c = read_watched c.args.number c.in-Err.fault c.of_read.result _ _ _ _ c.of_read.ensures c.in-Err.ensures.counted (λ is. ap Err is)
