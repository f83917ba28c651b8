use Rattle.std.proofs.Common.{◌≤◌, List, length, sym, subst}
use Rattle.std.proofs.lemmas.Result.{on_ok_weaker}
use Rattle.tc_lsm_model.specs.Lists.{live}
use Rattle.tc_model.specs.Document.{Name}
use Rattle.tc_model.specs.Keyed.{value_of}
use Rattle.tc_schema_model.specs.Counted.{total_at, IsCanonical}
use Rattle.tc_schema_model.specs.Occurrences.{Path}
use Rattle.tc_audit.specs.Waiting.{all_counted, NoneWaits}
use Rattle.tc_audit.specs.Walking.{IsCounting, IsLessBy}
use Rattle.tc_audit.specs.declared.shapes.Shapes.{Shapes}
use Rattle.tc_audit.proofs.Outcomes.{ok_and}
use Rattle.tc_audit.proofs.Rooms.{counting_less}
use Rattle.tc_audit.proofs.WaitingLaws.{all_settled}
use Rattle.tc_audit.proofs.walk.take_few.Goals as goal

pub returns-clause-counting : goal.returns-clause-counting
returns-clause-counting g c =
    let old = c.args.recount.now in
    let settled = c.settle.new.self in
    let new = c.take_off.new.recount in
    let told = c.in_ok-settle.ensures in
    let names = c.settle.ensures.names in
    let is = all_settled new (subst (λ (x : Shapes). NoneWaits x.known.items) (sym c.take_off.ensures.rest.0) (told.sound.settled told.none)) in
    ok_and c.take_off.result c.take_off.ensures.canonical c.take_off.ensures.room
    (λ canonical less. subst (λ d. IsCounting old.names d old.gained) (sym is)
    (counting_less old.names settled.schema new.schema old.gained (subst (λ d. IsCounting old.names d old.gained) (sym told.settled) c.requires.counting) (subst (λ (ns : List Name). IsCanonical (length ns) new.schema) names canonical)
    (subst (λ ns. (path : Path) → total_at ns new.schema path ≤ total_at ns settled.schema path) names less)))

pub returns-clause-taken : goal.returns-clause-taken
returns-clause-taken g c =
    let old = c.args.recount.now in
    let settled = c.settle.new.self in
    let new = c.take_off.new.recount in
    let told = c.in_ok-settle.ensures in
    let is = all_settled new (subst (λ (x : Shapes). NoneWaits x.known.items) (sym c.take_off.ensures.rest.0) (told.sound.settled told.none)) in
    on_ok_weaker c.take_off.result
    (λ taken part cs right few.
    let gone = value_of c.args.key (live cs) in
    subst (IsLessBy gone old.names (all_counted old)) (sym is) (subst (λ d. IsLessBy gone old.names d new.schema) told.settled (subst (λ ns. IsLessBy gone ns settled.schema new.schema) c.settle.ensures.names (taken part cs right))))
    c.take_off.ensures.taken
