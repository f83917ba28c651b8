-- What the columns of tokens add up to, part by part.
use Rattle.std.proofs.Common.{refl, [], ◌∷◌}
use Rattle.tc_model.specs.Tree.{leaf, array, object}
use Rattle.tc_record.specs.Measured.{with_label, with_piece, measured}
use Rattle.tc_record.proofs.Folds.{Appends, Labels}

pub measured-append : Appends measured
measured-append [] us m = refl
measured-append (t ∷ ts) us m = measured-append ts us (with_piece (with_label m t.label) t.piece)

pub measured-labelled : Labels measured with_label
measured-labelled m n (leaf s) = refl
measured-labelled m n (array xs) = refl
measured-labelled m n (object ms) = refl
