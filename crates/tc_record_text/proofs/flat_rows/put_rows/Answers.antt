use Rattle.std.proofs.Common.{◌≡◌, ◌∙◌, ◌≤◌, ◌++◌, ◌-◌, List, true, length, map, take, refl, sym, ap, subst, arith}
use Rattle.std.proofs.lemmas.List.{length-map, length-take-le}
use Rattle.serde_json.specs.Written.{items_text}
use Rattle.tc_model.specs.Document.{Scalar}
use Rattle.tc_model.specs.Json.{items_data}
use Rattle.tc_model.specs.Tree.{items_of}
use Rattle.tc_record.specs.Building.{innermost, value_in}
use Rattle.tc_record.specs.Preorder.{scalar, Token}
use Rattle.tc_record.specs.Record.{labels}
use Rattle.tc_record.specs.Walk.{Key}
use Rattle.tc_record.specs.WalkView.{piece_of}
use Rattle.tc_compact.specs.Meant.{levels_meant}
use Rattle.tc_record_text.specs.FlatRows.{label_in}
use Rattle.tc_record_text.specs.declared.staged.ShortText.{ShortText}
use Rattle.tc_record_text.specs.FlatTexts.{row_labels, row_text}
use Rattle.tc_record_text.proofs.FlatLaws.{items_from, outer_behind, shorter_behind, labels_first, one_row}
use Rattle.tc_record_text.proofs.flat_rows.put_rows.Goals as goal

pub loop-cursor-preserved : goal.loop-cursor-preserved
loop-cursor-preserved c =
    let names = c.args.names.now in
    let row = c.args.row.now in
    let before = c.loop-cursor.cursor in
    let behind = c.take_row.new.self in
    let taken = c.if-take_row.ensures.taken refl in
    let m = length row.labels.items in
    let as_told : m ≡ length row.tags.now - 2 = omega (arith, c.requires.told) in
    let pieces : map piece_of (take m c.take_row.new.room) ≡ map scalar taken.values = ap (λ k. map piece_of (take k c.take_row.new.room)) as_told ∙ taken.pieces_are in
    let fits : m ≤ length c.take_row.new.room = omega (arith, c.take_row.auto.room, c.requires.few) in
    let many : length taken.keys ≡ m =
    taken.as_many ∙ sym (length-map taken.values scalar) ∙ ap length (sym pieces) ∙ length-map (take m c.take_row.new.room) piece_of ∙ length-take-le m c.take_row.new.room fits in
    let some = c.requires.some in
    let own : take m (labels before) ≡ taken.keys = labels_first m taken.keys taken.values behind before taken.as_many many taken.tokens_are in
    let same : take m (labels before) ≡ take m (labels row.start) = subst (λ k. take k (labels before) ≡ take k (labels row.start)) (omega (arith, c.len-count.ensures, c.requires.few)) (c.loop-cursor-test.ensures refl).1 in
    let told : map label_in row.labels.items ≡ row_labels names taken.keys = c.requires.labels_are ∙ ap (row_labels names) (sym same ∙ own) in
    let put = c.in_ok-put_members_of.ensures taken.values (ap (λ (ls : List ShortText). map piece_of (take (length ls) c.take_row.new.room)) c.deref.ensures.value ∙ pieces) in
    let labels_put : row_text (map label_in c.deref.result.now) taken.values ≡ row_text (row_labels names taken.keys) taken.values = ap (λ (ls : List ShortText). row_text (map label_in ls) taken.values) c.deref.ensures.value ∙ ap (λ ls. row_text ls taken.values) told in
    let items = λ (ts : List (Token Key Scalar)). items_text true (items_data (items_of (map value_in (innermost (levels_meant names ts))))) in
    let whole : items before ≡ row_text (map label_in c.deref.result.now) taken.values ++ items behind =
    items_from names taken.keys taken.values behind before (omega (arith, some, many)) taken.as_many taken.tokens_are ∙ ap (λ t. t ++ items behind) (sym labels_put) in
    record {
      text =
          one_row c.loop-cursor.out.items c.loop-cursor.staged c.put_members_of.new.out.items c.put_members_of.new.staged (row_text (map label_in c.deref.result.now) taken.values) (items behind) (items before) put whole
          ∙ c.loop-cursor.invariant.text;
      outer = sym (outer_behind names taken.keys taken.values behind before taken.tokens_are) ∙ c.loop-cursor.invariant.outer;
      shorter = omega (arith, shorter_behind taken.keys taken.values behind before taken.tokens_are, c.loop-cursor.invariant.shorter);
    }
