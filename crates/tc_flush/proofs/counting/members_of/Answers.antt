use Rattle.std.proofs.Common.{length, sym, ap, ◌∙◌, subst}
use Rattle.std.specs.Prelude.{flat_map}
use Rattle.tc_model.specs.ShapeNames.{names_within}
use Rattle.tc_record.specs.Record.{labels, IsRecordOf}
use Rattle.tc_memory.specs.Meaning.{IsLawfulHeld, entry_of, held_of}
use Rattle.tc_flush.proofs.CountedTables.{members_count}
use Rattle.tc_flush.proofs.EntrySteps.{no_shapes, members_are}
use Rattle.tc_flush.proofs.counting.members_of.Goals as goal

pub returns-in-Gone : goal.returns-in-Gone
returns-in-Gone c = λ t of. sym (ap (λ shapes. length (flat_map names_within shapes)) (no_shapes (entry_of c.args.entry) (ap held_of c.in-Gone.is) t of))

pub returns-in-Live : goal.returns-in-Live
returns-in-Live c =
    let stored = subst IsLawfulHeld c.in-Live.is c.requires in
    members_are c.one_document.ensures (entry_of c.args.entry) c.in-Live.bytes.now (ap held_of c.in-Live.is) stored c.from.result
    (λ d is.
    c.from.ensures ∙ c.member_count.ensures
    ∙ ap (λ ts. length (labels ts)) (c.known.ensures.document d (subst (IsRecordOf d) (sym c.as_slice.ensures.same) is)).1
    ∙ members_count d (c.names_agree.ensures.order d))
