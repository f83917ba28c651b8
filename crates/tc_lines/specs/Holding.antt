-- What a reader of lines has taken and not given out.
use Rattle.std.specs.Prelude.{◌≡◌, ℕ, Bool, List, [], ◌∷◌, ◌==◌, ◌+◌, take, drop, false}
use Rattle.tc_model.specs.Lines.{feed}

-- no byte is a line feed
abbrev pub IsOneLine : List ℕ → Type 0
IsOneLine [] = Unit {0}
IsOneLine (b ∷ bs) = ((b == feed) ≡ false) × IsOneLine bs

-- The bytes that earlier reads left of a line, those that the last read left, how many were read in all,
-- and whether the source told it of its end.
pub record Holding : Type 0 where
  pub front : List ℕ
  pub rest : List ℕ
  pub taken : ℕ
  pub ended : Bool

-- the last read has a line feed behind so many bytes
pub record HasFeedAt (bytes : List ℕ) (n : ℕ) : Type 0 where
  pub before : IsOneLine (take n bytes)
  pub at : drop n bytes ≡ feed ∷ drop (n + 1) bytes
