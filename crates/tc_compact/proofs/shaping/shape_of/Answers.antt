use Rattle.std.proofs.Common.{rules, ◌∙◌, IfSome, option_map, sym, ap, subst}
use Rattle.std.proofs.lemmas.Option.{same_Some}
use Rattle.tc_model.specs.Document.{document_shape}
use Rattle.tc_value.specs.ShapeMeaning.{shape_tree}
use Rattle.tc_record.specs.Building.{HoldDocuments}
use Rattle.tc_compact.specs.Meant.{levels_meant, shape_meant, IsOrdered}
use Rattle.tc_compact.proofs.Meanings.{shape_is, meant_holds, has_room, means_shape}
use Rattle.tc_compact.proofs.shaping.shape_of.Goals as goal

pub returns-then-not-has_room-clause-refused : goal.returns-then-not-has_room-clause-refused
returns-then-not-has_room-clause-refused c = λ refused d is.
    let none = c.has_room.ensures.none c.if-not-has_room.true in
    none.1 (has_room c.args.names.now c.args.of d c.bytes-bytes.ensures.spells none.0 is)

pub returns-in_err-shape-clause-refused : goal.returns-in_err-shape-clause-refused
returns-in_err-shape-clause-refused c = λ refused d is.
    c.in_err-shape.ensures.refused (search rules) (subst (λ ts. HoldDocuments (levels_meant c.args.names.now ts)) (sym c.cursor.ensures) (meant_holds c.args.names.now c.args.of d c.bytes-bytes.ensures.spells is))

pub returns-in-Some-clause-found : goal.returns-in-Some-clause-found
returns-in-Some-clause-found c =
    let ordered : IsOrdered (shape_tree c.in-Some.shape) = subst (λ shape. IfSome shape (λ s. IsOrdered (shape_tree s))) c.in-Some.is c.in_ok-shape.ensures.ordered in
    means_shape c.args.names.now c.args.of (shape_tree c.in-Some.shape) c.is_dictionary.ensures c.bytes-bytes.ensures.spells (c.has_room.ensures.room c.if-not-has_room.false) ordered
    (sym (ap (shape_meant c.args.names.now) c.cursor.ensures) ∙ sym c.in_ok-shape.ensures.read ∙ ap (option_map shape_tree) c.in-Some.is)

pub returns-in-Some-clause-only : goal.returns-in-Some-clause-only
returns-in-Some-clause-only c = λ d is.
    same_Some (shape_tree c.in-Some.shape) (document_shape d) (sym (ap (option_map shape_tree) c.in-Some.is) ∙ c.in_ok-shape.ensures.read ∙ ap (shape_meant c.args.names.now) c.cursor.ensures ∙ shape_is c.args.names.now c.args.of d c.bytes-bytes.ensures.spells is)
