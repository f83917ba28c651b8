use Rattle.std.proofs.Common.{◌≡◌, ◌≤◌, ◌∙◌, length, take, sym, subst, ap}
use Rattle.std.proofs.lemmas.List.{length-map, take-map}
use Rattle.tc_record.specs.Record.{labels}
use Rattle.tc_record.specs.Walk.{number}
use Rattle.tc_record.specs.WalkView.{numbers_of}
use Rattle.tc_record.proofs.LabelsLeft.{keys_of, labels_left}
use Rattle.tc_record.proofs.Placed.{length-elements_from}
use Rattle.tc_record.proofs.cursor.Cursor.labels_like.Goals as goal

pub returns : goal.returns
returns c like =
    let count = c.args.count in
    let one = c.self.inside in
    let two = c.other.inside in
    let slots = one.walk.columns.slots in
    let told = c.begin_like.ensures like in
    let mine : labels c.args.self.now ≡ keys_of (numbers_of slots) = ap labels (sym c.self.view_is) ∙ labels_left one.started one.tags.now one.walk c.if-self.false c.self.invariant in
    let theirs : labels c.args.other.now ≡ keys_of (numbers_of two.walk.columns.slots) =
    ap labels (sym c.other.view_is) ∙ labels_left two.started two.tags.now two.walk c.if-other.false c.other.invariant in
    let many : length (labels c.args.self.now) ≡ slots.left = ap length mine ∙ length-map (numbers_of slots) number ∙ length-elements_from slots.width slots.place slots.left slots.bytes.now in (
      subst (λ n. count ≤ n) (sym many) told.0,
      ap (take count) mine ∙ take-map number count (numbers_of slots) ∙ ap keys_of told.1 ∙ sym (take-map number count (numbers_of two.walk.columns.slots)) ∙ ap (take count) (sym theirs),
    )
