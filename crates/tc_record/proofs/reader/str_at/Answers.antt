use Rattle.std.proofs.Common.{refl, sym}
use Rattle.tc_record.proofs.Utf8.{utf8_cut, utf8_uncut}
use Rattle.tc_record.proofs.reader.str_at.Goals as goal

pub returns-in-Some : goal.returns-in-Some
returns-in-Some c =
    let cut = c.in-Some.ensures in
    rw (cut.front, cut.back) (sym (utf8_cut c.args.count c.args.text.now c.utf8.text (cut.variant.0 refl)))

pub returns-in-None : goal.returns-in-None
returns-in-None c = sym (utf8_uncut c.args.count c.args.text.now c.utf8.text (λ ends. let some = c.in-None.ensures.variant.1 ends in cc))
