use Rattle.std.proofs.Common.{◌∙◌, ◌-◌, length, sym}
use Rattle.std.proofs.lemmas.List.{take_rest}
use Rattle.std.proofs.lemmas.Slice.Eq.{bytes_eq-Decides}
use Rattle.tc_alike.proofs.alike.ends_alike.Goals as goal

pub returns : goal.returns
returns c = λ same.
    let a = c.args.bytes.now in
    let b = c.args.other.now in
    (c.if-bytes-size.false, c.if-other-size.false, sym (take_rest a (length a - c.args.size)) ∙ (bytes_eq-Decides _ _).0 (sym c.eq.ensures ∙ same) ∙ take_rest b (length b - c.args.size))
