-- A record has no more bytes than a header and what its document weighs allow.
use Rattle.std.proofs.Common.{◌≡◌, ◌≤◌, ◌+◌, ◌*◌, ℕ, List, [], ◌∷◌, ◌++◌, length, map, Option, Some, None, option_to_list, arith, length-append}
use Rattle.tc_model.specs.Tree.{leaf, array, object, Items, no_items, item, Members, no_members, member}
use Rattle.tc_model.specs.Document.{Name, Document, Scalar, null, boolean, integer, text}
use Rattle.tc_model.specs.Weight.{weight, items_weight, members_weight}
use Rattle.tc_record.specs.Preorder.{closed, Token, token, tokens_of, preorder, items_preorder, members_preorder}
use Rattle.tc_record.specs.Record.{piece_fixed, piece_text, tags, fixed, texts, labels, joined, header_size, record_of}
use Rattle.tc_record.proofs.NumberLengths.{bytes_most}
use Rattle.tc_record.proofs.Lengths.{length-record_of}

-- ---- what the tokens of a document take in the columns, where each number of a column has its greatest width

abbrev texts_cost : List (List ℕ) → ℕ
texts_cost [] = 0
texts_cost (x ∷ xs) = 4 + length x + texts_cost xs

abbrev token_cost : Token Name Scalar → ℕ
token_cost t = 1 + length (piece_fixed t.piece) + texts_cost (piece_text t.piece) + texts_cost (option_to_list t.label)

abbrev cost : List (Token Name Scalar) → ℕ
cost [] = 0
cost (t ∷ ts) = token_cost t + cost ts

cost-append : (ts us : List (Token Name Scalar)) → cost (ts ++ us) ≡ cost ts + cost us
cost-append [] us = omega arith
cost-append (t ∷ ts) us = omega (arith, cost-append ts us)

texts_cost-append : (xs ys : List (List ℕ)) → texts_cost (xs ++ ys) ≡ texts_cost xs + texts_cost ys
texts_cost-append [] ys = omega arith
texts_cost-append (x ∷ xs) ys = omega (arith, texts_cost-append xs ys)

-- a column of texts: their lengths, and the texts
texts_within : (xs : List (List ℕ)) → length (map length xs) * 4 + length (joined xs) ≡ texts_cost xs
texts_within [] = omega arith
texts_within (x ∷ xs) = omega (arith, length-append x (joined xs), texts_within xs)

columns_cost : (ts : List (Token Name Scalar)) → length (tags ts) + length (fixed ts) + texts_cost (texts ts) + texts_cost (labels ts) ≡ cost ts
columns_cost [] = omega arith
columns_cost (t ∷ ts) =
    omega (arith, length-append (piece_fixed t.piece) (fixed ts), texts_cost-append (piece_text t.piece) (texts ts), texts_cost-append (option_to_list t.label) (labels ts), columns_cost ts)

-- ---- what a document weighs

mutual
  tree_cost : (l : Option Name) (d : Document) → cost (preorder l d) + 5 ≤ texts_cost (option_to_list l) + 14 * weight d
  tree_cost l (leaf null) = omega arith
  tree_cost l (leaf (boolean b)) = omega arith
  tree_cost l (leaf (integer z)) = omega arith
  tree_cost l (leaf (text s)) = omega arith
  tree_cost l (array xs) = omega (arith, cost-append (items_preorder xs) (token None closed ∷ []), items_cost xs)
  tree_cost l (object ms) = omega (arith, cost-append (members_preorder ms) (token None closed ∷ []), members_cost ms)

  items_cost : (xs : Items Name Scalar) → cost (items_preorder xs) ≤ 14 * items_weight xs
  items_cost no_items = omega arith
  items_cost (item d xs) = omega (arith, cost-append (preorder None d) (items_preorder xs), tree_cost None d, items_cost xs)

  members_cost : (ms : Members Name Scalar) → cost (members_preorder ms) ≤ 14 * members_weight ms
  members_cost no_members = omega arith
  members_cost (member name d ms) = omega (arith, cost-append (preorder (Some name) d) (members_preorder ms), tree_cost (Some name) d, members_cost ms)

pub record_within : (d : Document) → length (record_of d) ≤ header_size + 14 * weight d
record_within d =
    let ts = tokens_of d in
    omega (arith, length-record_of ts, bytes_most (map length (texts ts)), bytes_most (map length (labels ts)), texts_within (texts ts), texts_within (labels ts), columns_cost ts, tree_cost None d)
