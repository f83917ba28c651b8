use Rattle.std.proofs.Common.{◌∷◌, subst, arith, map}
use Rattle.tc_value.specs.Meaning.{member_of}
use Rattle.tc_record.specs.Preorder.{token, array_opened, object_opened}
use Rattle.tc_record.specs.WalkView.{key_of, piece_of}
use Rattle.tc_record.specs.Building.{levels_of, HoldDocuments}
use Rattle.tc_record.proofs.Built.{array_holds, object_holds, object_ascends}
use Rattle.tc_record.proofs.building.+build.Goals as goal

pub value_behind-items_behind-requires : goal.value_behind-items_behind-requires
value_behind-items_behind-requires t c =
    let label = key_of c.args.token.label in
    let here : HoldDocuments (levels_of (token label array_opened ∷ c.args.cursor.now)) = subst (λ v. HoldDocuments (levels_of (token label (piece_of v) ∷ c.args.cursor.now))) c.in-Array.is c.requires in
    (omega (arith, c.decreases), array_holds label c.args.cursor.now here)

pub value_behind-members_behind-requires : goal.value_behind-members_behind-requires
value_behind-members_behind-requires t c =
    let label = key_of c.args.token.label in
    let here : HoldDocuments (levels_of (token label object_opened ∷ c.args.cursor.now)) = subst (λ v. HoldDocuments (levels_of (token label (piece_of v) ∷ c.args.cursor.now))) c.in-Object.is c.requires in
    (omega (arith, c.decreases), object_holds label c.args.cursor.now here)

pub value_behind-of-requires-in-Object : goal.value_behind-of-requires-in-Object
value_behind-of-requires-in-Object t c =
    let label = key_of c.args.token.label in
    let here : HoldDocuments (levels_of (token label object_opened ∷ c.args.cursor.now)) = subst (λ v. HoldDocuments (levels_of (token label (piece_of v) ∷ c.args.cursor.now))) c.in-Object.is c.requires in
    object_ascends label c.args.cursor.now (map member_of c.in_ok-members_behind-in-Object.field-0.items) here c.in_ok-members_behind-in-Object.ensures.members
