-- Reads that were made only where no whole line was at hand.
use Rattle.std.specs.Prelude.{◌≡◌, ℕ, List, [], ◌∷◌, ◌++◌, Option}
use Rattle.tc_edge.specs.Moments.{Moment, all_given, with_further}
use Rattle.tc_model.specs.Lines.{whole_lines}

-- Behind bytes that were held, each of these reads was asked for where all bytes so far had no whole line, and where
-- the sink had accepted this. So the whole lines given before it are those that were given out before.
abbrev pub AreNeeded : List ℕ → Option (List ℕ) → List Moment → Type 0
AreNeeded held accepted [] = Unit {0}
AreNeeded held accepted (moment ∷ before) =
    (whole_lines (held ++ all_given before) ≡ []) × (moment.accepted ≡ accepted) × AreNeeded held accepted before

-- The reads from those told before on to those told now gave this input, and each was needed.
pub record HasReadNeeded (held : List ℕ) (accepted : Option (List ℕ)) (input : List ℕ) (told told' : Option (List Moment)) : Type 0 where
  pub further : List Moment
  pub moments : told' ≡ with_further further told
  pub given : all_given further ≡ input
  pub needed : AreNeeded held accepted further
