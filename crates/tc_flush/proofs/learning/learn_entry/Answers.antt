use Rattle.std.proofs.Common.{◌≡◌, ◌≤◌, ◌<◌, ◌^◌, ◌∙◌, length, sym, ap, subst}
use Rattle.std.specs.List.{AllByRecursion}
use Rattle.std.proofs.lemmas.List.Elements.{recursion_from_All}
use Rattle.tc_model.specs.Dictionary.{all_learned}
use Rattle.tc_model.specs.Document.{Document, document_shape}
use Rattle.tc_model.specs.ShapeNames.{names_within}
use Rattle.tc_record.specs.Record.{IsRecordOf}
use Rattle.tc_compact.specs.Slots.{names_in}
use Rattle.tc_memory.specs.Meaning.{IsLawfulHeld, entry_of, held_of}
use Rattle.tc_flush.specs.Recounting.{names_with}
use Rattle.tc_flush.proofs.EntrySteps.{no_shapes, names_are}
use Rattle.tc_flush.proofs.Outcomes.{if_ok}
use Rattle.tc_flush.proofs.learning.learn_entry.Goals as goal

pub learn_record-requires : goal.learn_record-requires
learn_record-requires c =
    let stored = subst IsLawfulHeld c.in-Live.is c.requires in
    let d = stored.document in
    let order : names_in c.known.result.tokens ≡ names_within (document_shape d) =
    ap names_in (c.known.ensures.document d (subst (IsRecordOf d) (sym c.as_slice.ensures.same) stored.is_record)).1 ∙ c.names_agree.ensures.order d in
    subst (AllByRecursion (λ name. length name < 2 ^ 32)) (sym order)
    (recursion_from_All (λ name. length name < 2 ^ 32) (names_within (document_shape d)) (c.names_agree.ensures.short d c.in-Live.bytes.now stored.is_record))

pub returns-in-Gone-clause-learned : goal.returns-in-Gone-clause-learned
returns-in-Gone-clause-learned c = λ _ t of. ap (names_with c.args.known.now) (sym (no_shapes (entry_of c.args.entry) (ap held_of c.in-Gone.is) t of))

pub returns-in-Live-clause-learned : goal.returns-in-Live-clause-learned
returns-in-Live-clause-learned c =
    let stored = subst IsLawfulHeld c.in-Live.is c.requires in
    let order : (d : Document) → IsRecordOf d c.in-Live.bytes.now → names_in c.known.result.tokens ≡ names_within (document_shape d) = λ d is.
    ap names_in (c.known.ensures.document d (subst (IsRecordOf d) (sym c.as_slice.ensures.same) is)).1 ∙ c.names_agree.ensures.order d in
    if_ok c.learn_record.result _ _
    (λ yes learned all t of.
    names_are c.one_document.ensures (entry_of c.args.entry) c.in-Live.bytes.now (ap held_of c.in-Live.is) stored c.args.known.now c.learn_record.new.known
    (λ d is. learned all ∙ ap (all_learned c.args.known.now) (order d is)) t of)
    c.learn_record.ensures.learned

pub returns-in-Live-clause-full : goal.returns-in-Live-clause-full
returns-in-Live-clause-full c =
    let stored = subst IsLawfulHeld c.in-Live.is c.requires in
    let known = c.args.known.now in
    let order : (d : Document) → IsRecordOf d c.in-Live.bytes.now → names_in c.known.result.tokens ≡ names_within (document_shape d) = λ d is.
    ap names_in (c.known.ensures.document d (subst (IsRecordOf d) (sym c.as_slice.ensures.same) is)).1 ∙ c.names_agree.ensures.order d in
    if_ok c.learn_record.result _ _
    (λ yes full none t of.
    subst (λ names. 2 ^ 32 ≤ length names)
    (names_are c.one_document.ensures (entry_of c.args.entry) c.in-Live.bytes.now (ap held_of c.in-Live.is) stored known (all_learned known (names_in c.known.result.tokens))
    (λ d is. ap (all_learned known) (order d is)) t of)
    (full none))
    c.learn_record.ensures.full
