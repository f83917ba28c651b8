use Rattle.std.proofs.Common.{◌≡◌, ◌∙◌, inl, inr, length, ap, sym, subst, arith}
use Rattle.std.proofs.lemmas.Bool.Decides.{nat_tests}
use Rattle.tc_query.proofs.KnownRecords.{lead_like}
use Rattle.tc_record.specs.Record.{IsNumberedRecordIn}
use Rattle.tc_query.proofs.known.KnownRecord.lead_like.Goals as goal

pub returns-clause-lead : goal.returns-clause-lead
returns-clause-lead c = λ hops knows. elim knows [
  | inl none ↦
      let short : length c.as_slice-known.result.now ≡ 0 = ap length (c.as_slice-known.ensures.value ∙ none) in
      let told = c.is_empty.ensures in
      let some = c.if-is_empty.false in
      absurd (grind (arith, nat_tests))
  | inr is ↦
      lead_like c.args.names.now hops c.args.self.now.bytes.items c.args.self.now.lead c.args.of.now c.bytes-bytes.ensures.spells c.requires.numbered
      (λ own form n m told one two. c.spells_like.ensures.alike c.if-not-spells_like.false own form n m told one (subst (IsNumberedRecordIn form m) (sym c.as_slice-known.ensures.value) two)) is
]
