use Rattle.std.proofs.Common.{◌≡◌, ◌∷◌, [], None, drop, is_some}
use Rattle.tc_record.specs.Walk.{walk, in_object}
use Rattle.tc_record.specs.WalkView.{columns_of, format_of}
use Rattle.tc_record.specs.Stack.{kinds_of}
use Rattle.tc_record.proofs.judging_numbers.has_further_tokens.Given as goal

abbrev pub invariant-loop-tag : goal.invariant-loop-tag
invariant-loop-tag l = is_some (walk (format_of l.fn.format) (drop l.tag-index l.tags) (kinds_of l.kinds.arrays l.kinds.depth) (columns_of l.left)) ≡ is_some (walk (format_of l.fn.format) l.tags (in_object None ∷ []) (columns_of l.fn.columns))
