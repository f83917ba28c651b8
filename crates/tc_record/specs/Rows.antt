-- Three documents and their records in each form.
use Rattle.std.specs.Prelude.{ℕ, pos, codes, true, List, [], ◌∷◌}
use Rattle.tc_model.specs.Tree.{leaf, array, object, no_items, item, no_members, member}
use Rattle.tc_model.specs.Document.{Document, null, boolean, integer, text}
use Rattle.tc_record.specs.Record.{NumberedTree}

-- `{"a":true}`
abbrev pub flag : Document
flag = object (member (codes "a") (leaf (boolean true)) no_members)

abbrev pub numbered_flag : NumberedTree
numbered_flag = object (member 0 (leaf (boolean true)) no_members)

abbrev pub flag_record : List ℕ
flag_record = 0 ∷ 0 ∷ 0 ∷ 0x1d ∷ 0 ∷ 0 ∷ 0 ∷ 0 ∷ 3 ∷ 0 ∷ 0 ∷ 0 ∷ 1 ∷ 0 ∷ 0 ∷ 0 ∷ 0 ∷ 0 ∷ 0 ∷ 0 ∷ 0 ∷ 1 ∷ 1 ∷ 6 ∷ 2 ∷ 7 ∷ 1 ∷ 1 ∷ 0x61 ∷ []

abbrev pub numbered_flag_record : List ℕ
numbered_flag_record = 0 ∷ 0 ∷ 0 ∷ 0x1c ∷ 1 ∷ 0 ∷ 0 ∷ 0 ∷ 3 ∷ 0 ∷ 0 ∷ 0 ∷ 1 ∷ 0 ∷ 0 ∷ 0 ∷ 0 ∷ 0 ∷ 0 ∷ 0 ∷ 0 ∷ 1 ∷ 1 ∷ 6 ∷ 2 ∷ 7 ∷ 1 ∷ 0 ∷ []

abbrev pub packed_flag_record : List ℕ
packed_flag_record = 0 ∷ 0 ∷ 0 ∷ 0x1c ∷ 2 ∷ 0 ∷ 0 ∷ 0 ∷ 3 ∷ 0 ∷ 0 ∷ 0 ∷ 1 ∷ 0 ∷ 0 ∷ 0 ∷ 0 ∷ 0 ∷ 0 ∷ 0 ∷ 0 ∷ 1 ∷ 1 ∷ 6 ∷ 2 ∷ 7 ∷ 1 ∷ 0 ∷ []

-- `{}`
abbrev pub nothing : Document
nothing = object no_members

abbrev pub nothing_record : List ℕ
nothing_record = 0 ∷ 0 ∷ 0 ∷ 0x19 ∷ 0 ∷ 0 ∷ 0 ∷ 0 ∷ 2 ∷ 0 ∷ 0 ∷ 0 ∷ 0 ∷ 0 ∷ 0 ∷ 0 ∷ 0 ∷ 0 ∷ 0 ∷ 0 ∷ 0 ∷ 0 ∷ 0 ∷ 6 ∷ 7 ∷ []

-- `{"v":[1,"x",[],{"b":null}]}`
abbrev pub mixed : Document
mixed =
    object (member (codes "v") (array (item (leaf (integer (pos 1))) (item (leaf (text (codes "x"))) (item (array no_items) (item (object (member (codes "b") (leaf null) no_members)) no_items))))) no_members)

abbrev pub numbered_mixed : NumberedTree
numbered_mixed =
    object (member 0 (array (item (leaf (integer (pos 1))) (item (leaf (text (codes "x"))) (item (array no_items) (item (object (member 1 (leaf null) no_members)) no_items))))) no_members)

-- tags, then the integer, then the text behind its length
abbrev pub mixed_columns : List ℕ → List ℕ
mixed_columns labels =
    6 ∷ 5 ∷ 3 ∷ 4 ∷ 5 ∷ 7 ∷ 6 ∷ 1 ∷ 7 ∷ 7 ∷ 7 ∷ 0 ∷ 0 ∷ 0 ∷ 0 ∷ 0 ∷ 0 ∷ 0 ∷ 1 ∷ 1 ∷ 0x78 ∷ labels

abbrev pub mixed_record : List ℕ
mixed_record = 0 ∷ 0 ∷ 0 ∷ 0x30 ∷ 0 ∷ 0 ∷ 0 ∷ 0 ∷ 0x0b ∷ 0 ∷ 0 ∷ 0 ∷ 8 ∷ 0 ∷ 0 ∷ 0 ∷ 1 ∷ 1 ∷ 0 ∷ 0 ∷ 0 ∷ 2 ∷ 1 ∷ mixed_columns (1 ∷ 1 ∷ 0x76 ∷ 0x62 ∷ [])

abbrev pub numbered_mixed_record : List ℕ
numbered_mixed_record = 0 ∷ 0 ∷ 0 ∷ 0x2e ∷ 1 ∷ 0 ∷ 0 ∷ 0 ∷ 0x0b ∷ 0 ∷ 0 ∷ 0 ∷ 8 ∷ 0 ∷ 0 ∷ 0 ∷ 1 ∷ 1 ∷ 0 ∷ 0 ∷ 0 ∷ 2 ∷ 1 ∷ mixed_columns (0 ∷ 1 ∷ [])

-- a length of 1 is the bit 1, and the numbers 0 and 1 are the bits 01
abbrev pub packed_mixed_record : List ℕ
packed_mixed_record =
    0 ∷ 0 ∷ 0 ∷ 0x2d ∷ 2 ∷ 0 ∷ 0 ∷ 0 ∷ 0x0b ∷ 0 ∷ 0 ∷ 0 ∷ 8 ∷ 0 ∷ 0 ∷ 0 ∷ 1 ∷ 1 ∷ 0 ∷ 0 ∷ 0 ∷ 2 ∷ 1 ∷ 6 ∷ 5 ∷ 3 ∷ 4 ∷ 5 ∷ 7 ∷ 6 ∷ 1 ∷ 7 ∷ 7 ∷ 7 ∷ 0 ∷ 0 ∷ 0 ∷ 0 ∷ 0 ∷ 0 ∷ 0 ∷ 1 ∷ 0x80 ∷ 0x78 ∷ 0x40 ∷ []
