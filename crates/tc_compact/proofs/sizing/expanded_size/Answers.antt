use Rattle.std.proofs.Common.{◌∙◌, ◌+◌, ◌*◌, ◌^◌, ◌≤◌, ℕ, Option, None, Some, IfNone, subst, arith}
use Rattle.std.specs.List.{AllByRecursion}
use Rattle.std.proofs.lemmas.Option.{IfSome_then}
use Rattle.tc_record.specs.Record.{in_bytes, labels}
use Rattle.tc_record.specs.Borrowed.{IsBelow}
use Rattle.tc_record.specs.Sections.{least_width}
use Rattle.tc_compact.specs.Slots.{numbers_in}
use Rattle.tc_compact.proofs.NamedSizes.{joined_short, numbers_few, named_length, within}
use Rattle.tc_compact.proofs.sizing.expanded_size.Goals as goal

IfNone_then : (o : Option ℕ) (P Q : Type 0) → IfNone o P → (P → Q) → IfNone o Q
IfNone_then None P Q holds gives = gives holds
IfNone_then (Some n) P Q holds gives = tt

pub sum_of_names-sum-requires-clause-few : goal.sum_of_names-sum-requires-clause-few
sum_of_names-sum-requires-clause-few c = numbers_few c.args.of c.bytes-bytes.ensures.spells

pub sum_of_names-sum-requires-clause-short : goal.sum_of_names-sum-requires-clause-short
sum_of_names-sum-requires-clause-short c = joined_short c.args.names.now (numbers_in c.args.of.tokens) c.is_dictionary.ensures (numbers_few c.args.of c.bytes-bytes.ensures.spells)

pub len_with_names-requires : goal.len_with_names-requires
len_with_names-requires c = omega (arith, c.values_len-values.ensures.most, c.sum_of_names-sum.ensures.count, numbers_few c.args.of c.bytes-bytes.ensures.spells)

pub returns-clause-known : goal.returns-clause-known
returns-clause-known c =
    let sum = c.sum_of_names-sum.result in
    let total = 23 + c.values_len-values.result + sum.count * least_width in_bytes sum.count sum.greatest + sum.name_bytes in
    IfSome_then c.len_with_names.result (within total c.len_with_names.result c.len_with_names.ensures).0
    (λ len is. subst (λ limit. AllByRecursion (IsBelow limit) (labels c.args.of.tokens)) c.len.ensures.count (c.numbers_below.ensures.0 c.if-not-numbers_below.false))

pub returns-clause-size : goal.returns-clause-size
returns-clause-size c =
    let sum = c.sum_of_names-sum.result in
    let values = c.values_len-values.result in
    IfSome_then c.len_with_names.result (within (23 + values + sum.count * least_width in_bytes sum.count sum.greatest + sum.name_bytes) c.len_with_names.result c.len_with_names.ensures).0
    (λ len is n tokens. is ∙ named_length c.args.names.now c.args.of n sum.count sum.greatest sum.name_bytes values tokens c.sum_of_names-sum.ensures.count c.sum_of_names-sum.ensures.greatest c.sum_of_names-sum.ensures.bytes c.values_len-values.ensures.len)

pub returns-clause-none : goal.returns-clause-none
returns-clause-none c =
    let sum = c.sum_of_names-sum.result in
    let values = c.values_len-values.result in
    IfNone_then c.len_with_names.result _ _ (within (23 + values + sum.count * least_width in_bytes sum.count sum.greatest + sum.name_bytes) c.len_with_names.result c.len_with_names.ensures).1
    (λ long known n tokens. subst (λ len. 2 ^ 32 ≤ len)
    (named_length c.args.names.now c.args.of n sum.count sum.greatest sum.name_bytes values tokens c.sum_of_names-sum.ensures.count c.sum_of_names-sum.ensures.greatest c.sum_of_names-sum.ensures.bytes c.values_len-values.ensures.len)
    long)
