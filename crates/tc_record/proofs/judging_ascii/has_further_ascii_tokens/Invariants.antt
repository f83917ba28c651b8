use Rattle.std.proofs.Common.{◌≡◌, ◌≤◌, ◌<◌, ◌∷◌, [], None, drop, is_some, length}
use Rattle.std.specs.List.{sum}
use Rattle.tc_record.specs.AsciiTexts.{uncut_of}
use Rattle.tc_record.specs.Walk.{walk, in_object}
use Rattle.tc_record.specs.WalkView.{columns_of, format_of, numbers_of}
use Rattle.tc_record.specs.Stack.{kinds_of}
use Rattle.tc_record.proofs.judging_ascii.has_further_ascii_tokens.Given as goal

abbrev pub invariant-loop-place : goal.invariant-loop-place
invariant-loop-place l = record {
  told : is_some (walk (format_of l.fn.format) (drop l.place l.fn.tags) (kinds_of l.kinds.arrays l.kinds.depth) (uncut_of l.left)) ≡ is_some (walk (format_of l.fn.format) l.fn.tags (in_object None ∷ []) (columns_of l.fn.columns));
  inside : 0 < l.kinds.depth;
  texts : l.left.texts.now ≡ l.fn.columns.texts.now;
  within : sum (numbers_of l.left.lengths) ≤ length l.left.texts.now;
}
