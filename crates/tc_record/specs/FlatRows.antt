-- Items of an array that are objects of scalars.
use Rattle.std.specs.Prelude.{◌≡◌, List, [], ◌∷◌, ◌++◌, None, Some, length, map}
use Rattle.tc_model.specs.Document.{Scalar}
use Rattle.tc_record.specs.Preorder.{Piece, scalar, object_opened, closed, Token, token}
use Rattle.tc_record.specs.Walk.{Key}

-- scalars as members, each with its label
abbrev pub members_of : List Key → List Scalar → List (Token Key Scalar)
members_of [] values = []
members_of (k ∷ ks) [] = []
members_of (k ∷ ks) (v ∷ vs) = token (Some k) (scalar v) ∷ members_of ks vs

-- the tokens of an object of scalars
abbrev pub row_of : List Key → List Scalar → List (Token Key Scalar)
row_of ks vs = token None object_opened ∷ (members_of ks vs ++ token None closed ∷ [])

-- the first tokens are an object of scalars, which these pieces are; the others stand behind it
pub record IsRowBefore (behind : List (Token Key Scalar)) (pieces : List (Piece Scalar)) (tokens : List (Token Key Scalar)) : Type 0 where
  pub keys : List Key
  pub values : List Scalar
  pub as_many : length keys ≡ length values
  pub pieces_are : pieces ≡ map scalar values
  pub tokens_are : tokens ≡ row_of keys values ++ behind
