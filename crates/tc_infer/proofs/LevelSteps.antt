-- The levels of a walk before and behind a token.
use Rattle.std.proofs.Common.{◌≡◌, ◌∙◌, ◌+◌, List, [], ◌∷◌, ◌++◌, Option, None, Some, IfNone, option_map, option_to_list, length, sym, ap, arith}
use Rattle.tc_model.specs.Document.{Name, Scalar}
use Rattle.tc_model.specs.Kinds.{objects}
use Rattle.tc_record.specs.Preorder as model
use Rattle.tc_record.specs.Walk.{Key}
use Rattle.tc_record.specs.WalkView.{key_of, piece_of, token_of}
use Rattle.tc_record.specs.declared.token.Token.{Token}
use Rattle.tc_value.specs.Kinds.{kind_meant}
use Rattle.tc_value.specs.declared.names.Kind.{Kind}
use Rattle.tc_record.specs.Building.{name_told}
use Rattle.tc_compact.specs.Meant.{key_meant, tokens_meant}
use Rattle.tc_infer.specs.Levels.{begun, behind, piece_kind, with_shape, with_token, levels, levels_under, name_under, shape_under}

-- a value stands in front of what is left around it
level_next : (l : Option Key) (p : model.Piece Scalar) (rest : List (model.Token Key Scalar)) (kind : Option Kind) (k : Kind) → option_map kind_meant kind ≡ piece_kind p → kind ≡ Some k
    → levels (model.token l p ∷ rest) ≡ with_shape (name_told l) (begun (kind_meant k) (levels rest)) (behind (kind_meant k) (levels rest))
level_next l p rest kind k meant some = ap (λ o. with_token (name_told l) o (levels rest)) (sym meant ∙ ap (option_map kind_meant) some)

module _ (ts rest : List (model.Token Key Scalar)) (token : Token) (cut : ts ≡ token_of token ∷ rest) where
  pub one_less : length ts ≡ length rest + 1
  one_less = let whole = ap length cut in omega (arith, whole)

  pub value_next : (kind : Option Kind) (k : Kind) → option_map kind_meant kind ≡ piece_kind (piece_of token.value) → kind ≡ Some k
      → levels ts ≡ with_shape (name_told (key_of token.label)) (begun (kind_meant k) (levels rest)) (behind (kind_meant k) (levels rest))
  value_next kind k meant some = ap levels cut ∙ level_next (key_of token.label) (piece_of token.value) rest kind k meant some

  -- the same where numbers stand for names
  pub value_under : (names : List Name) (kind : Option Kind) (k : Kind) → option_map kind_meant kind ≡ piece_kind (piece_of token.value) → kind ≡ Some k
      → levels_under names ts ≡ with_shape (name_under names (key_of token.label)) (begun (kind_meant k) (levels_under names rest)) (behind (kind_meant k) (levels_under names rest))
  value_under names kind k meant some = ap (levels_under names) cut ∙ level_next (option_map (key_meant names) (key_of token.label)) (piece_of token.value) (tokens_meant names rest) kind k meant some

-- behind the first token of a record stands what its document holds
pub first_taken : (names : List Name) (ts rest : List (model.Token Key Scalar)) (first : Option Token) → ts ≡ option_to_list (option_map token_of first) ++ rest → IfNone first (ts ≡ []) → begun objects (levels_under names rest) ≡ shape_under names ts
first_taken names ts rest None cut end = ap (λ us. begun objects (levels_under names us)) (sym cut ∙ end) ∙ sym (ap (shape_under names) end)
first_taken names ts rest (Some token) cut end = sym (ap (shape_under names) cut)
