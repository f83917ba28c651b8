use Rattle.std.proofs.Common.{◌≡◌, ◌∙◌, ◌<◌, ◌+◌, ◌^◌, ◌++◌, length, sym, ap, subst}
use Rattle.std.specs.List.{AllByRecursion}
use Rattle.std.proofs.lemmas.List.Elements.{recursion_from_All}
use Rattle.tc_model.specs.Dictionary.{all_learned}
use Rattle.tc_model.specs.Document.{Document, document_shape}
use Rattle.tc_model.specs.ShapeNames.{names_within}
use Rattle.tc_record.specs.Record.{IsRecordOf}
use Rattle.tc_compact.specs.Slots.{names_in}
use Rattle.tc_plain_model.specs.Store.{names_with}
use Rattle.tc_part.proofs.Refusals.{counted, none_new}
use Rattle.tc_part.proofs.part.Part.new_names.Goals as goal

pub fresh_in-requires-clause-named : goal.fresh_in-requires-clause-named
fresh_in-requires-clause-named g c = (c.known.ensures.document c.requires.document c.requires.is_record).0

pub fresh_in-requires-clause-short : goal.fresh_in-requires-clause-short
fresh_in-requires-clause-short g c =
    let stored = c.requires in
    let d = stored.document in
    let order : names_in c.known.result.tokens ≡ names_within (document_shape d) = ap names_in (c.known.ensures.document d stored.is_record).1 ∙ c.names_agree.ensures.order d in
    subst (AllByRecursion (λ name. length name < 2 ^ 32)) (sym order)
    (recursion_from_All (λ name. length name < 2 ^ 32) (names_within (document_shape d)) (c.names_agree.ensures.short d c.args.bytes.now stored.is_record))

pub returns-clause-count : goal.returns-clause-count
returns-clause-count g c =
    let order : (d : Document) → IsRecordOf d c.args.bytes.now → names_in c.known.result.tokens ≡ names_within (document_shape d) = λ d is. ap names_in (c.known.ensures.document d is).1 ∙ c.names_agree.ensures.order d in
    let taken = c.args.self.now.taken in
    let fresh = c.in_ok-fresh.fresh in
    let whole : (d : Document) → IsRecordOf d c.args.bytes.now → taken ++ fresh ≡ names_with d taken = λ d is.
    subst (λ ns. ns ++ fresh ≡ names_with d ns) (ap (λ s. s.taken) c.self.view_is) (c.in_ok-fresh.ensures ∙ ap (all_learned c.self.inside.taken) (order d is)) in
    λ d is. counted taken fresh d (whole d is) ∙ ap (λ n. length taken + n) (sym c.len.ensures.count)

pub returns-clause-none : goal.returns-clause-none
returns-clause-none g c =
    let order : (d : Document) → IsRecordOf d c.args.bytes.now → names_in c.known.result.tokens ≡ names_within (document_shape d) = λ d is. ap names_in (c.known.ensures.document d is).1 ∙ c.names_agree.ensures.order d in
    let taken = c.args.self.now.taken in
    let fresh = c.in_ok-fresh.fresh in
    let whole : (d : Document) → IsRecordOf d c.args.bytes.now → taken ++ fresh ≡ names_with d taken = λ d is.
    subst (λ ns. ns ++ fresh ≡ names_with d ns) (ap (λ s. s.taken) c.self.view_is) (c.in_ok-fresh.ensures ∙ ap (all_learned c.self.inside.taken) (order d is)) in
    λ none d is. none_new taken fresh d (whole d is) (sym c.len.ensures.count ∙ none)
