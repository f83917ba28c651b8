use Rattle.std.proofs.Common.{◌≡◌, ◌∙◌, ap, sym, map, ◌++◌, append-nil, []}
use Rattle.std.specs.Prelude.{fold}
use Rattle.tc_model.specs.Keyed.{on_value}
use Rattle.tc_command.specs.Rows.{row_of}
use Rattle.tc_route.specs.Gathered.{with_text}
use Rattle.tc_route.proofs.RepliesPut.{rows_read}
use Rattle.tc_route.proofs.rows.joined_rows.Goals as goal

pub returns : goal.returns
returns c =
    let entries = c.put_rows-2.new.all.entries in
    let first = c.args.first in
    let more = c.args.more in
    let all_yielded : c.loop-id.yielded ≡ entries =
    sym (append-nil c.loop-id.yielded) ∙ ap (λ left. c.loop-id.yielded ++ left) (sym c.in-None.ensures.steps.0) ∙ sym c.loop-id.invariant.0 ∙ c.into_iter-id-iterator.ensures.into_iter_gives.0 in
    let kept : map (on_value row_of) entries ≡ fold with_text (fold with_text [] first) more =
    c.in_ok-put_rows-2.ensures
    ∙ ap (λ all. fold with_text all (map row_of c.into_inner-2.result.items)) (c.in_ok-put_rows.ensures ∙ ap (λ es. fold with_text (map (on_value row_of) es) (map row_of c.into_inner.result.items)) c.new-all.ensures.empty ∙ ap (fold with_text []) c.into_inner.ensures)
    ∙ ap (fold with_text (fold with_text [] first)) c.into_inner-2.ensures in
    c.of.ensures ∙ ap (map row_of) c.loop-id.invariant.1 ∙ ap (λ es. map row_of (map (λ e. e.1) es)) all_yielded ∙ rows_read row_of entries first more kept
