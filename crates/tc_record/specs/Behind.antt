-- The tokens behind what is open.
use Rattle.std.specs.Prelude.{ℕ, zero, suc, List, [], ◌∷◌}
use Rattle.tc_record.specs.Preorder.{Piece, scalar, array_opened, object_opened, closed, Token}

-- how many arrays and objects are open behind a piece, where one more than so many are open before it
abbrev pub still_open : {S : Type 0} → Piece S → ℕ → ℕ
still_open (scalar s) n = suc n
still_open array_opened n = suc (suc n)
still_open object_opened n = suc (suc n)
still_open closed n = n

-- the tokens behind the closes of the innermost so many that are open
abbrev pub behind_closes : {L S : Type 0} → ℕ → List (Token L S) → List (Token L S)
behind_closes zero ts = ts
behind_closes (suc n) [] = []
behind_closes (suc n) (t ∷ ts) = behind_closes (still_open t.piece n) ts

-- the tokens behind the close of the innermost one
abbrev pub behind_close : {L S : Type 0} → List (Token L S) → List (Token L S)
behind_close ts = behind_closes 1 ts
