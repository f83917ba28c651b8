use Rattle.std.proofs.Common.{◌≡◌, ◌∙◌, ◌-◌, ◌<◌, suc, get_or, length, map, drop, refl, sym, ap, subst, Less, arith}
use Rattle.std.proofs.lemmas.List.{length-map}
use Rattle.tc_model.specs.Document.{name_cmp, IsAscending}
use Rattle.tc_value.specs.Meaning.{member_of}
use Rattle.tc_doc_reader.proofs.Ascending.{last_ascends, one_more_ascends}
use Rattle.tc_doc_reader.proofs.members.ascend.Goals as goal

pub names-init : goal.names-init
names-init c =
    let ms = c.args.found.now in
    (omega arith, last_ascends (map member_of ms) (length ms - 1) (omega (arith, length-map ms member_of)))

pub names-preserved : goal.names-preserved
names-preserved c =
    let ms = c.args.found.now in
    let at = c.names.at in
    let n = at - 1 - 1 in
    let some : 1 < at = grind arith in
    let up : at - 1 ≡ suc n = omega (arith, some) in
    let first = c.index-found-at.result in
    let second = c.index-found-at-in-names.result in
    let less : name_cmp (get_or ms n first).name (get_or ms (at - 1) second).name ≡ Less =
    ap (λ k. name_cmp k (get_or ms (at - 1) second).name) (sym c.as_str.ensures.bytes) ∙ ap (name_cmp c.as_str.result.now) (sym c.as_str-in-names.ensures.bytes) ∙ c.if-not-is_less.ensures refl in (
      omega (arith, c.names.invariant.0),
      one_more_ascends ms n first second (omega (arith, up, c.names.invariant.0, some))
          (subst (λ k. name_cmp (get_or ms n first).name (get_or ms k second).name ≡ Less) up less)
          (subst (λ k. IsAscending (drop k (map member_of ms))) up c.names.invariant.1),
    )
