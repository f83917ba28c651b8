use Rattle.std.proofs.Common.{◌≡◌, ◌∙◌, ◌++◌, ◌∷◌, [], Some, sym, subst}
use Rattle.std.proofs.lemmas.Result.{on_ok_weaker}
use Rattle.tc_component.specs.Building.{HasRows, IsWrittenRecord}
use Rattle.tc_record.specs.Record.{IsNumberedRecordIn}
use Rattle.tc_merge.proofs.Rewritten.{first_rewritten, first_within, other_rewritten, other_within, other_written}
use Rattle.tc_merge.proofs.input.put_record.Goals as goal

pub push-requires-clause-written : goal.push-requires-clause-written
push-requires-clause-written g c κs within =
    let r = c.args.found in
    subst IsWrittenRecord (sym c.bytes.ensures.same) (other_written r.form c.requires.found.0 r.bytes (λ one. c.if-form-ne-NUMBERED_FORM.true (c.form-form.ensures ∙ one)) c.requires.found.1)

pub returns-then-form-ne-NUMBERED_FORM-clause-pushed : goal.returns-then-form-ne-NUMBERED_FORM-clause-pushed
returns-then-form-ne-NUMBERED_FORM-clause-pushed g c =
    let r = c.args.found in
    let new = c.push.new.builder in
    let h = g.D.Device.history in
    on_ok_weaker c.push.result
    (λ pushed rows has. subst (λ bs. HasRows (h new.device) new (rows ++ (c.args.key, Some bs) ∷ [])) (c.bytes.ensures.same ∙ other_rewritten r.form r.bytes (λ one. c.if-form-ne-NUMBERED_FORM.true (c.form-form.ensures ∙ one))) (pushed rows has))
    c.push.ensures.pushed

pub returns-then-form-ne-NUMBERED_FORM-clause-judged : goal.returns-then-form-ne-NUMBERED_FORM-clause-judged
returns-then-form-ne-NUMBERED_FORM-clause-judged g c =
    let r = c.args.found in
    on_ok_weaker c.push.result (λ pushed limit is. other_within r.form limit r.bytes (λ one. c.if-form-ne-NUMBERED_FORM.true (c.form-form.ensures ∙ one)) is) c.push.ensures.pushed

pub repack-requires : goal.repack-requires
repack-requires g c = sym c.form-form.ensures ∙ c.if-form-ne-NUMBERED_FORM.false

pub push-requires-in-Ok-clause-written : goal.push-requires-in-Ok-clause-written
push-requires-in-Ok-clause-written g c κs within =
    let r = c.args.found in
    let is = c.requires.found.1 in
    let one : r.form ≡ 1 = sym c.form-form.ensures ∙ c.if-form-ne-NUMBERED_FORM.false in
    subst IsWrittenRecord (sym c.as_slice.ensures.value) (is.tree, c.in-Ok.ensures.is_packed is.tree (subst (λ v. IsNumberedRecordIn v is.tree r.bytes) one is.is_record))

pub returns-in-Ok-clause-pushed : goal.returns-in-Ok-clause-pushed
returns-in-Ok-clause-pushed g c =
    let r = c.args.found in
    let new = c.push-in-Ok.new.builder in
    let h = g.D.Device.history in
    let one : r.form ≡ 1 = sym c.form-form.ensures ∙ c.if-form-ne-NUMBERED_FORM.false in
    on_ok_weaker c.push-in-Ok.result
    (λ pushed rows has. subst (λ bs. HasRows (h new.device) new (rows ++ (c.args.key, Some bs) ∷ []))
    (c.as_slice.ensures.value ∙ first_rewritten r.form r.bytes c.repack.new.out.items one c.in-Ok.ensures) (pushed rows has))
    c.push-in-Ok.ensures.pushed

pub returns-in-Ok-clause-judged : goal.returns-in-Ok-clause-judged
returns-in-Ok-clause-judged g c =
    let r = c.args.found in
    let one : r.form ≡ 1 = sym c.form-form.ensures ∙ c.if-form-ne-NUMBERED_FORM.false in
    on_ok_weaker c.push-in-Ok.result (λ pushed limit is. first_within r.form limit r.bytes c.repack.new.out.items one c.in-Ok.ensures is) c.push-in-Ok.ensures.pushed
