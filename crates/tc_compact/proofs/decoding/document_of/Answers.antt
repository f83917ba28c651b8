use Rattle.std.proofs.Common.{rules, ◌≡◌, ◌∙◌, Some, IfSome, option_map, sym, ap, subst}
use Rattle.tc_value.specs.Meaning.{tree_of}
use Rattle.tc_record.specs.Building.{document_read, HoldDocuments}
use Rattle.tc_compact.specs.Meant.{tokens_meant, levels_meant, IsOrdered}
use Rattle.tc_compact.proofs.Meanings.{document_is, meant_holds, has_room, means}
use Rattle.tc_compact.proofs.decoding.document_of.Goals as goal

pub returns-then-not-has_room-clause-refused : goal.returns-then-not-has_room-clause-refused
returns-then-not-has_room-clause-refused c = λ refused d is.
    let none = c.has_room.ensures.none c.if-not-has_room.true in
    none.1 (has_room c.args.names.now c.args.of d c.bytes-bytes.ensures.spells none.0 is)

pub returns-in_err-doc-clause-refused : goal.returns-in_err-doc-clause-refused
returns-in_err-doc-clause-refused c = λ refused d is.
    c.in_err-doc.ensures.refused (search rules) (subst (λ ts. HoldDocuments (levels_meant c.args.names.now ts)) (sym c.cursor.ensures) (meant_holds c.args.names.now c.args.of d c.bytes-bytes.ensures.spells is))

pub returns-in-Some-clause-found : goal.returns-in-Some-clause-found
returns-in-Some-clause-found c =
    let names = c.args.names.now in
    let ordered : IsOrdered (tree_of c.in-Some.doc) = subst (λ doc. IfSome doc (λ d. IsOrdered (tree_of d))) c.in-Some.is c.in_ok-doc.ensures.ordered in
    let read : document_read (tokens_meant names c.args.of.tokens) ≡ Some (tree_of c.in-Some.doc) =
    sym (ap (λ ts. document_read (tokens_meant names ts)) c.cursor.ensures) ∙ sym c.in_ok-doc.ensures.read ∙ ap (option_map tree_of) c.in-Some.is in
    means names c.args.of (tree_of c.in-Some.doc) c.is_dictionary.ensures c.bytes-bytes.ensures.spells (c.has_room.ensures.room c.if-not-has_room.false) ordered read

pub returns-in-Some-clause-only : goal.returns-in-Some-clause-only
returns-in-Some-clause-only c = λ d is.
    let names = c.args.names.now in
    let read : document_read (tokens_meant names c.args.of.tokens) ≡ Some (tree_of c.in-Some.doc) =
    sym (ap (λ ts. document_read (tokens_meant names ts)) c.cursor.ensures) ∙ sym c.in_ok-doc.ensures.read ∙ ap (option_map tree_of) c.in-Some.is in
    sym (document_is names c.args.of d (tree_of c.in-Some.doc) c.bytes-bytes.ensures.spells is read)
