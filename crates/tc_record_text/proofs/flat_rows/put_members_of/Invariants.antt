use Rattle.std.proofs.Common.{◌≡◌, ◌++◌, List, length, map, take, drop}
use Rattle.tc_model.specs.Document.{Scalar}
use Rattle.tc_record.specs.Preorder.{scalar}
use Rattle.tc_record.specs.WalkView.{piece_of}
use Rattle.tc_record_text.specs.FlatTexts.{row_text}
use Rattle.tc_record_text.specs.FlatRows.{label_in}
use Rattle.tc_record_text.proofs.flat_rows.put_members_of.Given as goal

-- what was put, and before the end of the text what is left of the row, is the row
abbrev pub invariant-loop-place : goal.invariant-loop-place
invariant-loop-place l = (scalars : List Scalar) → map piece_of (take (length l.labels) l.values) ≡ map scalar scalars
    → l.out.items ++ (l.staged ++ row_text (drop l.place (map label_in l.labels)) (drop l.place scalars)) ≡ l.fn.out.items ++ (l.fn.staged ++ row_text (map label_in l.labels) scalars)
