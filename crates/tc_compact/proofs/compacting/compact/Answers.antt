use Rattle.std.proofs.Common.{◌∙◌, sym, ap, length, subst, arith}
use Rattle.std.proofs.lemmas.List.{length-map}
use Rattle.std.proofs.lemmas.Result.{IfOk-weaker}
use Rattle.tc_model.specs.KnownNames.{HasEach}
use Rattle.tc_model.specs.Dictionary.{number as name_number}
use Rattle.tc_model.proofs.LastingNumbers.{numbers-Extends}
use Rattle.tc_model.proofs.LearnedNames.{all_numbered}
use Rattle.tc_compact.specs.Slots.{names_in}
use Rattle.tc_compact.proofs.Compacts.{names_lie}
use Rattle.tc_compact.proofs.compacting.compact.Goals as goal

pub learn_names-requires-clause-short : goal.learn_names-requires-clause-short
learn_names-requires-clause-short c =
    let lie = names_lie c.args.from c.bytes-bytes.ensures.spells c.requires.named in
    omega (arith, lie.held, c.requires.short)

pub compact_numbered-requires-clause-members : goal.compact_numbered-requires-clause-members
compact_numbered-requires-clause-members c = ap length (c.as_slice.ensures.value ∙ c.in_ok-numbers.ensures.numbers) ∙ length-map (names_in c.args.from.tokens) (name_number c.learn_names.new.names)

pub returns-clause-compacted : goal.returns-clause-compacted
returns-clause-compacted c =
    let ns = names_in c.args.from.tokens in
    let names = c.learn_names.new.names in
    IfOk-weaker c.compact_numbered.result _ _
    (λ bytes made d is newer dictionary extends.
    let has = subst (λ known. HasEach known ns) (sym c.in_ok-numbers.ensures.learned) (all_numbered c.args.names.now ns) in
    let later = numbers-Extends newer names ns extends has in
    made d is newer dictionary later.0 (c.as_slice.ensures.value ∙ c.in_ok-numbers.ensures.numbers ∙ sym later.1))
    c.compact_numbered.ensures.compacted
