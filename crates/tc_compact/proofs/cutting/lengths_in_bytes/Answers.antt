use Rattle.std.proofs.Common.{◌≡◌, ◌∙◌, ◌<◌, length, map, take, sym, ap, arith, length-append}
use Rattle.std.proofs.lemmas.List.{length-map, take_at}
use Rattle.tc_record.specs.Record.{texts, greatest}
use Rattle.tc_compact.proofs.Cut.{numbers_first}
use Rattle.tc_compact.proofs.cutting.lengths_in_bytes.Goals as goal

pub split_at-requires : goal.split_at-requires
split_at-requires c =
    let r = c.args.of.now in
    let ns = map length (texts r.tokens) in
    let behind = c.behind_header.ensures.behind in
    let small : greatest ns < 256 = omega (arith, c.longest_text.ensures, c.if-longest_text-gt255.false) in
    let first = numbers_first r.form ns behind.0 _ (λ e. c.if-form-eq-PACKED_FORM.false (c.form.ensures ∙ e)) small behind.1 in
    omega (arith, ap length first, length-map (texts r.tokens) length, c.text_count.ensures, length-append ns behind.0)

pub returns : goal.returns
returns c =
    let r = c.args.of.now in
    let ns = map length (texts r.tokens) in
    let behind = c.behind_header.ensures.behind in
    let small : greatest ns < 256 = omega (arith, c.longest_text.ensures, c.if-longest_text-gt255.false) in
    let first = numbers_first r.form ns behind.0 _ (λ e. c.if-form-eq-PACKED_FORM.false (c.form.ensures ∙ e)) small behind.1 in
    let many : length ns ≡ c.text_count.result = length-map (texts r.tokens) length ∙ sym c.text_count.ensures in
    c.split_at.ensures.front ∙ ap (take c.text_count.result) first ∙ take_at ns behind.0 c.text_count.result many
