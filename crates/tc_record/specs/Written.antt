-- What stands in the columns of a record while they are written, token by token.
use Rattle.std.specs.Prelude.{ℕ, List, [], ◌∷◌, ◌++◌, length, map, Option, None, Some}
use Rattle.std.specs.Int.{bytes_high_first}
use Rattle.tc_model.specs.Document.{Name, Scalar}
use Rattle.tc_record.specs.Preorder.{Piece, Token}
use Rattle.tc_record.specs.Record.{piece_tag, piece_fixed, piece_text, numbers, joined}
use Rattle.tc_record.specs.Widths.{width_bytes}
use Rattle.tc_record.specs.declared.columns.Columns.{Columns}

-- the columns, and how many bytes the length of a text and that of a name take
pub record Written : Type 0 where
  pub text_width : ℕ
  pub name_width : ℕ
  pub tags : List ℕ
  pub fixed : List ℕ
  pub text_lengths : List ℕ
  pub texts : List ℕ
  pub name_lengths : List ℕ
  pub names : List ℕ

abbrev pub written : Columns → Written
written c =
    record {
      text_width = width_bytes c.text_width;
      name_width = width_bytes c.name_width;
      tags = c.tags.items;
      fixed = c.fixed.items;
      text_lengths = c.text_lengths.items;
      texts = c.texts.items;
      name_lengths = c.name_lengths.items;
      names = c.names.items;
    }

-- a header alone, before the column of tags
abbrev pub begun : ℕ → ℕ → List ℕ → Written
begun text_width name_width header =
    record { text_width = text_width; name_width = name_width; tags = header; fixed = []; text_lengths = []; texts = []; name_lengths = []; names = [] }

-- with a tag, and the fixed bytes and the texts behind it
abbrev pub with_value : Written → ℕ → List ℕ → List (List ℕ) → Written
with_value w tag fixed texts =
    record w {
      tags = w.tags ++ tag ∷ [];
      fixed = w.fixed ++ fixed;
      text_lengths = w.text_lengths ++ numbers w.text_width (map length texts);
      texts = w.texts ++ joined texts;
    }

abbrev pub with_piece : Written → Piece Scalar → Written
with_piece w p = with_value w (piece_tag p) (piece_fixed p) (piece_text p)

abbrev pub with_label : Written → Option Name → Written
with_label w None = w
with_label w (Some n) = record w { name_lengths = w.name_lengths ++ bytes_high_first w.name_width (length n); names = w.names ++ n }

-- with each of the tokens
abbrev pub with_tokens : Written → List (Token Name Scalar) → Written
with_tokens w [] = w
with_tokens w (t ∷ ts) = with_tokens (with_piece (with_label w t.label) t.piece) ts

-- the columns, one behind the other
abbrev pub in_a_row : Written → List ℕ
in_a_row w = w.tags ++ (w.fixed ++ (w.text_lengths ++ (w.texts ++ (w.name_lengths ++ w.names))))
