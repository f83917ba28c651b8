use Rattle.std.proofs.Common.{◌≡◌, ◌∙◌, sym, ap, ◌&&◌, true}
use Rattle.tc_record.specs.StoredTest.{is_stored_read, is_stored, lacks_id}
use Rattle.tc_record.proofs.StoredRecords.{read_is, not_stored, few_tokens}
use Rattle.tc_record.proofs.stored.passes.Goals as goal

pub has_no_id-requires : goal.has_no_id-requires
has_no_id-requires c = few_tokens c.in-Some.found c.in-Some.ensures.spells (let is = c.if-named.true in let told = c.named.ensures in cc)

pub returns-then-named : goal.returns-then-named
returns-then-named c =
    let named : c.in-Some.found.named ≡ true = let is = c.if-named.true in let told = c.named.ensures in cc in
    c.has_no_id.ensures ∙ ap (λ b. b && lacks_id 0 c.in-Some.found.tokens) (sym named) ∙ sym (ap is_stored_read (read_is c.in-Some.found c.in-Some.ensures.spells))
    ∙ ap is_stored c.in-Some.ensures.bytes

pub returns-in-None : goal.returns-in-None
returns-in-None c = sym (not_stored c.args.bytes.now (λ i. (c.type_inv.bytes i).fits) c.in-None.ensures.none)
