use Rattle.std.proofs.Common.{◌+◌, length, inl, inr, refl, sym, subst, arith}
use Rattle.tc_lsm_model.specs.Lists.{live}
use Rattle.tc_lsm_model.proofs.ListLaws.{Ascends-live}
use Rattle.tc_component.specs.Fetching.{record_at}
use Rattle.tc_model.specs.Keyed.{value_of}
use Rattle.tc_audit.specs.Told.{document_in}
use Rattle.tc_component.specs.Spelling.{slot}
use Rattle.tc_audit.specs.Stored.{IsStoredIn}
use Rattle.tc_audit.specs.Waiting.{all_counted}
use Rattle.tc_audit.specs.Walking.{AreInFront, IsChangedBy, IsCounting, IsHarmAt, IsLessBy, IsNeverTold, IsUpTo}
use Rattle.tc_audit.proofs.CountedComponents.{as_many}
use Rattle.tc_audit.proofs.Outcomes.{ok_and, ok_both, wrong_then}
use Rattle.tc_audit.proofs.WalkSteps.{harm_behind, never_there, placed, unplaced, up_to_gone, up_to_live}
use Rattle.tc_audit.proofs.walk.count_entry.Goals as goal

pub count_place-requires-clause-place : goal.count_place-requires-clause-place
count_place-requires-clause-place g c = λ κs within. (placed c.args.component.now.index.slots c.args.at c.entry-entry.result c.in-Some.place c.entry-entry.ensures c.in-Some.is).place_is

pub take_few-requires-clause-counting : goal.take_few-requires-clause-counting
take_few-requires-clause-counting g c = λ κs within. subst (λ names. IsCounting names (all_counted c.args.recount.now) c.args.recount.now.gained) (sym c.requires.names) c.requires.counting

pub take_few-requires-clause-newer : goal.take_few-requires-clause-newer
take_few-requires-clause-newer g c = λ κs within. subst (AreInFront c.args.older.now) (sym c.requires.names) c.requires.newer

pub returns-in-None-clause-counted : goal.returns-in-None-clause-counted
returns-in-None-clause-counted g c =
    ok_and c.take_few.result c.take_few.ensures.counting c.take_few.ensures.taken
    (λ counts taken part cs whole right tells u.
    let m = c.args.component.now in
    let e = c.entry-entry.ensures in
    let counting = subst (λ names. IsCounting names (all_counted c.take_few.new.recount) c.args.recount.now.gained) c.requires.names counts in
    subst (IsUpTo m.index whole (live cs) (c.args.at + 1) (all_counted c.take_few.new.recount)) (sym c.take_few.ensures.gained)
    (up_to_gone m.index whole (live cs) (Ascends-live cs) c.file_len-lawful.ensures.lawful c.args.at c.args.recount.now.gained (slot c.entry-entry.result.key e.bytes) (all_counted c.args.recount.now) (all_counted c.take_few.new.recount) e.here
    (unplaced m.index.slots c.args.at c.entry-entry.result e c.in-None.is) counting.canonical
    (λ few. subst (λ names. IsLessBy (value_of c.entry-entry.result.key (live cs)) names (all_counted c.args.recount.now) (all_counted c.take_few.new.recount)) c.requires.names (taken part cs right few)) u))

-- taking off fits, since what is counted stands for what is live before the entry
pub returns-in-None-clause-wrong : goal.returns-in-None-clause-wrong
returns-in-None-clause-wrong g c =
    wrong_then c.take_few.result _ _
    (λ w none part cs whole right tells u.
    let m = c.args.component.now in
    let e = c.entry-entry.ensures in
    absurd (never_there m.index whole (live cs) (Ascends-live cs) c.file_len-lawful.ensures.lawful g.F.Frozen.content part c.args.older.now cs c.args.at c.args.recount.now.gained (slot c.entry-entry.result.key e.bytes) (all_counted c.args.recount.now) refl right e.here u
    (subst (λ names. IsNeverTold g.F.Frozen.content c.args.older.now c.entry-entry.result.key names (all_counted c.args.recount.now) c.args.recount.now.gained) c.requires.names none)))
    c.take_few.ensures.never

pub returns-in-None-clause-place : goal.returns-in-None-clause-place
returns-in-None-clause-place g c = wrong_then c.take_few.result _ _ (λ w less. omega (arith, less)) c.take_few.ensures.place

pub returns-in-Some-clause-counted : goal.returns-in-Some-clause-counted
returns-in-Some-clause-counted g c =
    let r = c.count_place.result in
    let told = c.count_place.ensures in
    ok_and r (ok_both r _ _ told.stored told.gained) (ok_both r _ _ told.counting told.counted)
    (λ found counts part cs whole right tells u.
    let m = c.args.component.now in
    let e = c.entry-entry.ensures in
    let p = placed m.index.slots c.args.at c.entry-entry.result c.in-Some.place e c.in-Some.is in
    let stored : IsStoredIn m.index.version m.index.names (record_at m.index.slots c.args.at whole) = subst (λ at. IsStoredIn m.index.version m.index.names (record_at m.index.slots at whole)) p.at_is (found.0 whole tells.0) in
    subst (IsUpTo m.index whole (live cs) (c.args.at + 1) (all_counted c.count_place.new.recount)) (sym found.1)
    (up_to_live m.index whole (live cs) (Ascends-live cs) c.file_len-lawful.ensures.lawful c.document_meant.ensures.read c.args.at c.args.recount.now.gained (slot c.entry-entry.result.key e.bytes) (all_counted c.args.recount.now)
    (all_counted c.count_place.new.recount) e.here p.some stored counts.0.canonical
    (λ few. subst (λ at. IsChangedBy (value_of c.entry-entry.result.key (live cs)) (document_in m.index.names (record_at m.index.slots at whole)) m.index.names (all_counted c.args.recount.now) (all_counted c.count_place.new.recount)) p.at_is
    (counts.1 whole part cs tells.0 right few)) u))

pub returns-in-Some-clause-wrong : goal.returns-in-Some-clause-wrong
returns-in-Some-clause-wrong g c =
    wrong_then c.count_place.result _ _
    (λ w either part cs whole right tells u.
    let m = c.args.component.now in
    let e = c.entry-entry.ensures in
    let s = slot c.entry-entry.result.key e.bytes in
    let p = placed m.index.slots c.args.at c.entry-entry.result c.in-Some.place e c.in-Some.is in
    elim either [
      | inl harmed ↦
          harm_behind g.F.Frozen.content cs m whole c.args.at (length c.args.older.now) s w tells (as_many g.F.Frozen.content c.args.older.now cs part right) e.here p.some u.stored
          (subst (λ at. IsHarmAt (length c.args.older.now) m.index at whole w) p.at_is (harmed whole tells.0))
      | inr none ↦ absurd (never_there m.index whole (live cs) (Ascends-live cs) c.file_len-lawful.ensures.lawful g.F.Frozen.content part c.args.older.now cs c.args.at c.args.recount.now.gained s (all_counted c.args.recount.now) refl right e.here u none)
    ])
    c.count_place.ensures.wrong
