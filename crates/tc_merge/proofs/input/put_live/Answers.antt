use Rattle.std.proofs.Common.{arith, ◌≡◌, ◌∙◌, ◌≤◌, ◌+◌, ◌++◌, ◌∷◌, [], Some, length, take, drop, sym, ap, subst}
use Rattle.std.specs.Prelude.{Err}
use Rattle.std.proofs.lemmas.Result.{on_ok_weaker, IfErr-weaker}
use Rattle.tc_store.specs.Judging.{IfDamaged}
use Rattle.tc_record.specs.Borrowed.{Record}
use Rattle.tc_component.specs.Building.{HasRows}
use Rattle.tc_component.specs.Cursors.{HoldsPart, part_held}
use Rattle.tc_component.specs.Fetching.{IsRecordWithin}
use Rattle.tc_component.specs.Layout.{directory_place}
use Rattle.tc_component.specs.Spelling.{name_of, sizes_in, written_version}
use Rattle.tc_component.proofs.Windows.{part_is}
use Rattle.tc_merge.specs.Faults.{IfHarmed, IsHarmless, IsHarmOf}
use Rattle.tc_merge.specs.Merging.{rewritten}
use Rattle.tc_merge.proofs.ReadsCounted.{one_read}
use Rattle.tc_merge.proofs.Harms.{harmed_then, no_harm, read_harm}
use Rattle.tc_merge.proofs.EntryRows.{if_read}
use Rattle.tc_merge.proofs.input.put_live.Goals as goal

pub hold-requires-clause-within : goal.hold-requires-clause-within
hold-requires-clause-within g c κs within =
    let e = c.args.entry in
    subst (λ m. e.begin + e.count ≤ directory_place (sizes_in m.index)) (sym c.deref.ensures) (subst (λ i. e.begin + e.count ≤ directory_place (sizes_in i.component.index)) (sym c.input.view_is) c.requires.entry.1.within)

pub returns-in-Err-clause-harmed : goal.returns-in-Err-clause-harmed
returns-in-Err-clause-harmed g c =
    no_harm c.in-Err.fault c.of_read.result c.file_name.result (λ file place bytes. IsHarmOf (λ f. g.S.Frozen.Frozen.content f) c.args.input.now.component file place bytes) c.in-Err.ensures.no_damage c.of_read.ensures.harmed

pub returns-in-Err-clause-reads : goal.returns-in-Err-clause-reads
returns-in-Err-clause-reads g c = one_read _ _ c.in-Err.ensures.counted.reads

pub put_record-requires-clause-found : goal.put_record-requires-clause-found
put_record-requires-clause-found g c κs within =
    let m = c.args.input.now.component in
    let e = c.args.entry in
    let held = part_held e.begin e.count c.hold.new.self in
    let of : c.deref-2.result.now ≡ m = c.deref-2.ensures ∙ ap (λ i. i.component) c.input.view_is in
    let same = c.in-Ok.ensures.same in
    let is = subst (λ k. IsRecordWithin k.index.version (length k.index.names) held) of c.in-Ok.ensures.found in
    (length m.index.names, subst (λ v. IsRecordWithin v (length m.index.names) c.in-Ok.found.bytes) (sym (same.1 ∙ ap (λ k. k.index.version) of)) (subst (IsRecordWithin m.index.version (length m.index.names)) (sym same.0) is))

pub returns-in-Ok-clause-pushed : goal.returns-in-Ok-clause-pushed
returns-in-Ok-clause-pushed g c =
    let m = c.args.input.now.component in
    let e = c.args.entry in
    let held = part_held e.begin e.count c.hold.new.self in
    let new = c.put_record.new.builder in
    let h = g.S.Device.Device.history in
    let read : c.deref.result.now ≡ m = c.deref.ensures ∙ ap (λ i. i.component) c.input.view_is in
    let told = c.in-Ok.ensures.same.1 ∙ ap (λ k. k.index.version) (c.deref-2.ensures ∙ ap (λ i. i.component) c.input.view_is) in
    on_ok_weaker c.put_record.result
    (λ pushed rows has. if_read (g.S.Frozen.Frozen.content m.file) c.in-Ok.found.bytes held (λ whole. take e.count (drop e.begin whole))
    (λ bs. HasRows (h new.device) new (rows ++ (e.key, Some (rewritten m.index.version bs)) ∷ []))
    c.in-Ok.ensures.same.0
    (part_is (g.S.Frozen.Frozen.content m.file) c.hold.new.self e.begin e.count (subst (λ k. HoldsPart (g.S.Frozen.Frozen.content k.file) c.hold.new.self) read c.hold.ensures.of) c.in_default.ensures.has)
    (subst (λ v. HasRows (h new.device) new (rows ++ (e.key, Some (rewritten v c.in-Ok.found.bytes)) ∷ [])) told (pushed rows has)))
    c.put_record.ensures.pushed

pub returns-in-Ok-clause-more : goal.returns-in-Ok-clause-more
returns-in-Ok-clause-more g c =
    on_ok_weaker c.put_record.result (λ pushed rows has. (rows ++ (c.args.entry.key, Some (rewritten c.in-Ok.found.form c.in-Ok.found.bytes)) ∷ [], pushed rows has)) c.put_record.ensures.pushed

pub returns-in-Ok-clause-judged : goal.returns-in-Ok-clause-judged
returns-in-Ok-clause-judged g c =
    let m = c.args.input.now.component in
    let e = c.args.entry in
    let limit = length m.index.names in
    let held = part_held e.begin e.count c.hold.new.self in
    let read : c.deref.result.now ≡ m = c.deref.ensures ∙ ap (λ i. i.component) c.input.view_is in
    let of : c.deref-2.result.now ≡ m = c.deref-2.ensures ∙ ap (λ i. i.component) c.input.view_is in
    let same = c.in-Ok.ensures.same in
    let told = same.1 ∙ ap (λ k. k.index.version) of in
    let is = subst (λ v. IsRecordWithin v limit c.in-Ok.found.bytes) (sym told) (subst (IsRecordWithin m.index.version limit) (sym same.0) (subst (λ k. IsRecordWithin k.index.version (length k.index.names) held) of c.in-Ok.ensures.found)) in
    on_ok_weaker c.put_record.result
    (λ judged. if_read (g.S.Frozen.Frozen.content m.file) c.in-Ok.found.bytes held (λ whole. take e.count (drop e.begin whole))
    (λ bs. IsRecordWithin written_version limit (rewritten m.index.version bs))
    same.0
    (part_is (g.S.Frozen.Frozen.content m.file) c.hold.new.self e.begin e.count (subst (λ k. HoldsPart (g.S.Frozen.Frozen.content k.file) c.hold.new.self) read c.hold.ensures.of) c.in_default.ensures.has)
    (subst (λ v. IsRecordWithin written_version limit (rewritten v c.in-Ok.found.bytes)) told (judged limit is)))
    c.put_record.ensures.judged

pub returns-in-Ok-clause-harmed : goal.returns-in-Ok-clause-harmed
returns-in-Ok-clause-harmed g c =
    IfErr-weaker c.put_record.result IsHarmless (λ fault. IfHarmed fault (λ file place bytes. IsHarmOf (λ f. g.S.Frozen.Frozen.content f) c.args.input.now.component file place bytes))
    (λ fault is. harmed_then fault (λ file place bytes. ⊥) (λ file place bytes. IsHarmOf (λ f. g.S.Frozen.Frozen.content f) c.args.input.now.component file place bytes) (λ file place bytes none. absurd none) is) c.put_record.ensures.harmed

pub returns-in-Ok-clause-reads : goal.returns-in-Ok-clause-reads
returns-in-Ok-clause-reads g c = let read = one_read _ _ c.in_default.ensures.counted.reads in omega (arith, read, c.put_record.ensures.watched.reads)

pub returns-in-Ok-clause-watched : goal.returns-in-Ok-clause-watched
returns-in-Ok-clause-watched g c =
    let read = c.in_default.ensures.counted in
    let pushed = c.put_record.ensures.watched in
    record {
      faults = omega (arith, read.faults, pushed.faults);
      cause = λ failed. omega (arith, read.faults, pushed.cause failed);
    }

pub returns-in-Err-judged-clause-harmed : goal.returns-in-Err-judged-clause-harmed
returns-in-Err-judged-clause-harmed g c =
    let m = c.args.input.now.component in
    let e = c.args.entry in
    let held = part_held e.begin e.count c.hold.new.self in
    let read : c.deref.result.now ≡ m = c.deref.ensures ∙ ap (λ i. i.component) c.input.view_is in
    let of : c.deref-2.result.now ≡ m = c.deref-2.ensures ∙ ap (λ i. i.component) c.input.view_is in
    let named : c.deref-in-Err-judged.result.now ≡ m = c.deref-in-Err-judged.ensures ∙ ap (λ i. i.component) c.input.view_is in
    read_harm (λ f. g.S.Frozen.Frozen.content f) m c.requires.entry.0 e held c.in-Err-judged.fault c.of_read-in-Err-judged.result c.file_name-in-Err-judged.result c.requires.entry.1 c.requires.live
    (c.file_name-in-Err-judged.ensures ∙ ap (λ k. name_of k.index.head) named)
    (part_is (g.S.Frozen.Frozen.content m.file) c.hold.new.self e.begin e.count (subst (λ k. HoldsPart (g.S.Frozen.Frozen.content k.file) c.hold.new.self) read c.hold.ensures.of) c.in_default.ensures.has)
    (subst (λ k. IfDamaged {X = Record} (Err c.in-Err-judged.fault) (λ at kept. (at ≡ e.begin) × (kept ≡ held) × (length kept ≡ e.count) × (IsRecordWithin k.index.version (length k.index.names) kept → ⊥))) of c.in-Err-judged.ensures.damaged)
    c.of_read-in-Err-judged.ensures.harmed

pub returns-in-Err-judged-clause-reads : goal.returns-in-Err-judged-clause-reads
returns-in-Err-judged-clause-reads g c = one_read _ _ c.in_default.ensures.counted.reads
