use Rattle.std.proofs.Common.{◌≡◌, ◌∙◌, ◌+◌, ◌-◌, length, take, drop, refl, sym, subst, arith}
use Rattle.tc_record.specs.Preorder.{tokens_of}
use Rattle.tc_record.specs.Record.{tags, labels, IsNumberedRecordIn}
use Rattle.tc_alike.proofs.AlikeBytes.{alike_by_bytes, equal_by, numbers_counted, tags_counted}
use Rattle.tc_alike.proofs.Forms.{tree_form}
use Rattle.tc_alike.proofs.alike.is_alike.Goals as goal

pub returns : goal.returns
returns c = λ same own form n m told is that.
    let r = c.args.of.now in
    let bytes = c.bytes-bytes.result.now in
    let other = c.args.other.now in
    let spells = c.bytes-bytes.ensures.spells in
    let many : c.token_count.result ≡ length (tags (tokens_of n)) = c.token_count.ensures ∙ tags_counted r own n spells told is in
    let numbers : c.member_count.result ≡ length (labels (tokens_of n)) = c.member_count.ensures ∙ numbers_counted r own n spells told is in
    let form_is = c.form.ensures ∙ tree_form r own n spells told is in
    let long : (23 + c.token_count.result) - 18 ≡ 5 + length (tags (tokens_of n)) = omega (arith, many) in
    alike_by_bytes own form n m bytes other (subst (IsNumberedRecordIn own n) (sym c.bytes-bytes.ensures.same) is) that
    (record {
      formed = equal_by _ _ (sym c.ne.ensures ∙ c.if-ne.false);
      tagged = subst (λ k. take k (drop 18 bytes) ≡ take k (drop 18 other)) long (equal_by _ _ (sym c.ne-2.ensures ∙ c.if-ne-2.false));
      ending = (c.in-Some.size, c.in-Some.ensures ∙ rw (numbers, form_is) refl, (c.ends_alike.ensures same).2);
    })
