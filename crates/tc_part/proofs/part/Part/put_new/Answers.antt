use Rattle.std.proofs.Common.{◌≡◌, ◌∙◌, ◌<◌, ◌^◌, length, sym, ap, subst}
use Rattle.std.specs.List.{AllByRecursion}
use Rattle.std.proofs.lemmas.List.Elements.{recursion_from_All}
use Rattle.tc_model.specs.Dictionary.{all_learned}
use Rattle.tc_model.specs.Document.{document_shape}
use Rattle.tc_model.specs.ShapeNames.{names_within}
use Rattle.tc_compact.specs.Slots.{names_in}
use Rattle.tc_plain_model.specs.Store.{names_with}
use Rattle.tc_part_model.specs.PartState.{PartState}
use Rattle.tc_part.proofs.part.Part.put_new.Goals as goal

pub take_names-requires-clause-named : goal.take_names-requires-clause-named
take_names-requires-clause-named g c =
    let stored = c.requires.record in
    (c.known.ensures.document stored.document (rw c.as_slice.ensures.same stored.is_record)).0

pub take_names-requires-clause-short : goal.take_names-requires-clause-short
take_names-requires-clause-short g c =
    let stored = c.requires.record in
    let d = stored.document in
    let bytes = c.as_slice.ensures.same in
    let order : names_in c.known.result.tokens ≡ names_within (document_shape d) = ap names_in (c.known.ensures.document d (rw bytes stored.is_record)).1 ∙ c.names_agree.ensures.order d in
    subst (AllByRecursion (λ name. length name < 2 ^ 32)) (sym order)
    (recursion_from_All (λ name. length name < 2 ^ 32) (names_within (document_shape d)) (c.names_agree.ensures.short d c.args.bytes stored.is_record))

pub take_names-requires-clause-room : goal.take_names-requires-clause-room
take_names-requires-clause-room g c =
    let stored = c.requires.record in
    let d = stored.document in
    let bytes = c.as_slice.ensures.same in
    let order : names_in c.known.result.tokens ≡ names_within (document_shape d) = ap names_in (c.known.ensures.document d (rw bytes stored.is_record)).1 ∙ c.names_agree.ensures.order d in
    subst (λ names. length (all_learned c.self.inside.taken names) < 2 ^ 32) (sym order)
    (subst (λ (part : PartState _ _ _ _). length (names_with d part.taken) < 2 ^ 32) (sym c.self.view_is) (c.requires.names d stored.is_record))
