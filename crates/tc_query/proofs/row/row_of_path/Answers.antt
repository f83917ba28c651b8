use Rattle.std.proofs.Common.{◌≡◌, ◌++◌, ◌∙◌, ℕ, [], List, None, length, map, ap, sym, arith}
use Rattle.std.proofs.lemmas.Bool.Decides.{nat_tests}
use Rattle.std.proofs.lemmas.List.{nil_from_length}
use Rattle.tc_request_model.specs.Paths.{reached}
use Rattle.tc_request_model.specs.Rows.{row_of}
use Rattle.tc_request_model.specs.Rendered.{row_text}
use Rattle.tc_record_text.specs.Listed.{row_texts}
use Rattle.tc_query.proofs.PutRows.{none_put, one_put}
use Rattle.tc_query.proofs.row.row_of_path.Goals as goal

pub returns-then-is_empty : goal.returns-then-is_empty
returns-then-is_empty c = λ d is.
    let ds = reached c.args.path.now d in
    let put = c.put_row.new.out.items in
    let whole : put ≡ row_texts (row_of None c.args.key ds) = c.in_ok-put_row.ensures d is ∙ ap (λ s. s ++ row_texts (row_of None c.args.key ds)) c.in_ok-text.ensures.items in
    let short : length c.as_slice.result.now ≡ 0 = let told = c.is_empty.ensures in let empty = c.if-is_empty.true in grind (arith, nat_tests) in
    let none : put ≡ [] = sym c.as_slice.ensures.value ∙ nil_from_length c.as_slice.result.now short in
    sym (ap (map row_text) (none_put c.args.key ds (sym whole ∙ none)))

pub returns : goal.returns
returns c = λ d is.
    let ds = reached c.args.path.now d in
    let put = c.put_row.new.out.items in
    let whole : put ≡ row_texts (row_of None c.args.key ds) = c.in_ok-put_row.ensures d is ∙ ap (λ s. s ++ row_texts (row_of None c.args.key ds)) c.in_ok-text.ensures.items in
    let kept : c.in_ok-kept.field-0 ≡ put = c.in_ok-kept.ensures ∙ c.as_slice-2.ensures.value in
    let some : c.in_ok-kept.field-0 ≡ [] → ⊥ = λ none.
    let short = ap (λ (bytes : List ℕ). length bytes) (c.as_slice.ensures.value ∙ sym kept ∙ none) in
    let told = c.is_empty.ensures in
    let empty = c.if-is_empty.false in
    absurd (grind (arith, nat_tests)) in
    one_put c.args.key ds c.in_ok-kept.field-0 (kept ∙ whole) some
