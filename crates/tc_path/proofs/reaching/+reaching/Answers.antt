use Rattle.std.proofs.Common.{◌≡◌, ◌∙◌, true, false, map, option_map, ap, sym, refl, rules}
use Rattle.tc_value.specs.Meaning.{tree_of}
use Rattle.tc_command.specs.Asks.{hop_of}
use Rattle.tc_record.specs.WalkView.{key_of, piece_of}
use Rattle.tc_record.specs.Building.{value_read}
use Rattle.tc_compact.specs.Meant.{key_meant, levels_meant}
use Rattle.tc_path.specs.Reached.{is_reached}
use Rattle.tc_record_text.specs.Left.{items_left}
use Rattle.tc_record_text.specs.Skipped.{is_close}
use Rattle.tc_path.proofs.Among.{from_item, from_behind}
use Rattle.tc_path.proofs.reaching.+reaching.Goals as goal

pub reaches_in_each-returns-then-reaches_from-clause-found : goal.reaches_in_each-returns-then-reaches_from-clause-found
reaches_in_each-returns-then-reaches_from-clause-found t c =
    let names = c.args.names.now in
    let d = tree_of c.args.doc.now in
    let hops = map hop_of c.args.hops.now in
    let label = option_map (key_meant names) (key_of c.in-Some.token.label) in
    let found : c.reaches_from.result ≡ true = let is = c.if-reaches_from.true in cc in
    let at = from_item d hops label _ _ (sym c.reaches_from.ensures.found ∙ found) in
    sym (sym c.loop-token.invariant.found ∙ ap (λ ts. is_reached d hops (items_left (levels_meant names ts))) c.in-Some.ensures.taken ∙ at)

pub reaches_in_each-loop-token-preserved : goal.reaches_in_each-loop-token-preserved
reaches_in_each-loop-token-preserved t c =
    let names = c.args.names.now in
    let d = tree_of c.args.doc.now in
    let hops = map hop_of c.args.hops.now in
    let token = c.in-Some.token in
    let label = option_map (key_meant names) (key_of token.label) in
    let levels = levels_meant names c.next.new.self in
    let value : is_close (piece_of token.value) ≡ false = let is = c.if-closes.false in let told = c.closes.ensures in cc in
    let other : c.reaches_from.result ≡ false = let is = c.if-reaches_from.false in cc in
    let left : levels_meant names c.reaches_from.new.cursor ≡ (value_read (piece_of token.value) levels).1 = c.reaches_from.ensures.behind refl other in
    let at = from_behind d hops label (piece_of token.value) levels value (sym c.reaches_from.ensures.found ∙ other) in
    record {
      found = ap (λ ls. is_reached d hops (items_left ls)) left ∙ sym at ∙ sym (ap (λ ts. is_reached d hops (items_left (levels_meant names ts))) c.in-Some.ensures.taken) ∙ c.loop-token.invariant.found;
      behind = search rules;
      shorter = search rules;
    }
