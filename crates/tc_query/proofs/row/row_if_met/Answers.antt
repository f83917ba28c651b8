use Rattle.std.proofs.Common.{◌≡◌, ◌∙◌, true, false, map, option_map, ap, sym, subst}
use Rattle.std.proofs.lemmas.Result.{IfOk-weaker}
use Rattle.tc_value.specs.Meaning.{tree_of}
use Rattle.tc_compact.specs.Meant.{IsRecordUnder}
use Rattle.tc_request_model.specs.Paths.{reached}
use Rattle.tc_request_model.specs.Rows.{meets as meets_value}
use Rattle.tc_request_model.specs.Rendered.{row_text}
use Rattle.tc_query.proofs.PutRows.{met_row, left_out}
use Rattle.tc_query.proofs.row.row_if_met.Goals as goal

pub returns-then-not-met : goal.returns-then-not-met
returns-then-not-met c = λ d is told.
    let wanted = option_map tree_of c.args.ask.now.eq in
    let ds = reached c.args.ask.now.path d in
    let other : meets_value wanted ds ≡ false = let tested = c.if-not-met.true in cc in
    sym (ap (map row_text) (left_out wanted c.args.key ds other))

pub returns : goal.returns
returns c = λ d is told.
    let wanted = option_map tree_of c.args.ask.now.eq in
    let ds = reached c.args.ask.now.path d in
    let under = subst (λ r. IsRecordUnder c.args.names.now d r.bytes) (sym c.again.ensures) is in
    let met : meets_value wanted ds ≡ true = let tested = c.if-not-met.false in cc in
    IfOk-weaker c.row_of_path.result _ _ (λ row e. e ∙ sym (ap (map row_text) (met_row wanted c.args.key ds met))) (c.row_of_path.ensures d under)
