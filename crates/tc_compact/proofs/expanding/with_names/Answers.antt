use Rattle.std.proofs.Common.{◌≡◌, ◌∙◌, ◌+◌, ◌*◌, ◌^◌, ◌≤◌, ◌++◌, length, map, sym, ap, subst, arith, IfSome, IfNone, append_assoc}
use Rattle.std.proofs.lemmas.List.{length-map}
use Rattle.tc_record.specs.Record.{numbers, joined, width, in_bytes, labels}
use Rattle.tc_record.specs.Sections.{least_width}
use Rattle.tc_record.specs.Widths.{width_bytes}
use Rattle.tc_compact.specs.Slots.{numbers_in}
use Rattle.tc_compact.specs.Layout.{parts_of}
use Rattle.tc_compact.specs.Meant.{name_at}
use Rattle.tc_compact.proofs.Laid.{written_whole}
use Rattle.tc_compact.proofs.NamedSizes.{joined_short, numbers_few, slots_told, named_length, short_with_names, within}
use Rattle.tc_compact.proofs.NumberedTrees.{numbered_tree, expanded_laid}
use Rattle.tc_compact.proofs.expanding.with_names.Goals as goal

pub sum_of_names-sum-requires-clause-few : goal.sum_of_names-sum-requires-clause-few
sum_of_names-sum-requires-clause-few c = numbers_few c.args.from.now c.bytes-bytes.ensures.spells

pub sum_of_names-sum-requires-clause-short : goal.sum_of_names-sum-requires-clause-short
sum_of_names-sum-requires-clause-short c = joined_short c.args.names.now (numbers_in c.args.from.now.tokens) c.is_dictionary.ensures (numbers_few c.args.from.now c.bytes-bytes.ensures.spells)

pub len_with_names-requires : goal.len_with_names-requires
len_with_names-requires c = omega (arith, c.values_len-values.ensures.most, c.sum_of_names-sum.ensures.count, numbers_few c.args.from.now c.bytes-bytes.ensures.spells)

pub unreachable-requires : goal.unreachable-requires
unreachable-requires c =
    let sum = c.sum_of_names-sum.result in
    let values = c.values_len-values.result in
    let total = 23 + values + sum.count * least_width in_bytes sum.count sum.greatest + sum.name_bytes in
    let long : 2 ^ 32 ≤ total = subst (λ o. IfNone o (2 ^ 32 ≤ total)) c.in_default.is (within total c.len_with_names.result c.len_with_names.ensures).1 in
    let short = short_with_names c.args.names.now c.args.from.now sum.count sum.greatest sum.name_bytes values c.bytes-bytes.ensures.spells c.requires.numbered c.requires.room c.sum_of_names-sum.ensures.count c.sum_of_names-sum.ensures.greatest c.sum_of_names-sum.ensures.bytes c.values_len-values.ensures.len in
    absurd (omega (arith, long, short))

pub returns : goal.returns
returns c = λ n tokens.
    let r = c.args.from.now in
    let names = c.args.names.now in
    let sum = c.sum_of_names-sum.result in
    let values = c.values_len-values.result in
    let ns = map (name_at names) (numbers_in r.tokens) in
    let ls = map length ns in
    let w = width_bytes c.width-width.result in
    let begun = c.in_ok-out.out.items in
    let tree = numbered_tree r c.bytes-bytes.ensures.spells c.requires.numbered in
    let total = 23 + values + sum.count * least_width in_bytes sum.count sum.greatest + sum.name_bytes in
    let len_is : c.in-Some.len ≡ total = subst (λ o. IfSome o (λ len. len ≡ total)) c.in-Some.is (within total c.len_with_names.result c.len_with_names.ensures).0 in
    let laid = expanded_laid names n r.tokens tokens in
    let all = len_is ∙ named_length names r n sum.count sum.greatest sum.name_bytes values tokens c.sum_of_names-sum.ensures.count c.sum_of_names-sum.ensures.greatest c.sum_of_names-sum.ensures.bytes c.values_len-values.ensures.len ∙ ap length laid in
    let told = slots_told ns sum.count sum.greatest (c.sum_of_names-sum.ensures.count ∙ sym (length-map (numbers_in r.tokens) (name_at names))) c.sum_of_names-sum.ensures.greatest in
    let least : w ≡ width ls = c.width-width.ensures ∙ told.0 in
    let many : length (labels r.tokens) ≡ length ls = tree.members ∙ sym (length-map ns length ∙ length-map (numbers_in r.tokens) (name_at names)) in
    written_whole in_bytes 0 (parts_of r.tokens) ls (joined ns) begun _ _ _ _ all many (c.bytes.ensures ∙ least) c.in_ok-out.ensures
    (c.in_ok-put_names.ensures ∙ ap (λ bs. bs ++ joined ns) (c.in_ok-put_name_lengths.ensures ∙ ap (λ k. begun ++ numbers k ls) least) ∙ append_assoc begun (numbers (width ls) ls) (joined ns))
    ∙ sym laid
