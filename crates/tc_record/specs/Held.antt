-- What a borrowed record and a cursor are seen as.
use Rattle.std.specs.Prelude.{◌≡◌, ℕ, ◌==◌, Bool, true, false, if◌then◌else◌, List, [], ◌∷◌, Option, None, Some, length}
use Rattle.std.specs.List.{sum}
use Rattle.tc_bytes.specs.Reading.{◌>>=◌}
use Rattle.tc_model.specs.Document.{Scalar}
use Rattle.tc_model.specs.Kinds.{tag as kind_tag, objects}
use Rattle.tc_record.specs.Preorder.{Token, token, object_opened}
use Rattle.tc_record.specs.Walk as walk
use Rattle.tc_record.specs.WalkView.{numbers_of, columns_of, format_of}
use Rattle.tc_record.specs.SectionsView.{cut_columns_of}
use Rattle.tc_record.specs.Record.{greatest}
use Rattle.tc_record.specs.Stack.{kinds_of}
use Rattle.tc_record.specs.declared.sections.Sections.{Sections}
use Rattle.tc_record.specs.declared.walking.Walk.{Walk}

-- the tokens that the columns spell
abbrev pub tokens_held : Sections → Option (List (Token walk.Key Scalar))
tokens_held s = walk.tokens_read (format_of s.format) s.tags.now (cut_columns_of s.columns)

-- the greatest of the slots is told, and the greatest of the lengths of texts
abbrev pub TellsGreatest : Sections → Type 0
TellsGreatest s = (s.greatest_slot ≡ greatest (numbers_of s.columns.slots)) × (s.greatest_length ≡ greatest (numbers_of s.columns.lengths))

-- the texts together are as long as their lengths say
abbrev pub TextsAddUp : Sections → Type 0
TextsAddUp s = sum (numbers_of s.columns.lengths) ≡ length s.columns.texts.now

-- the tokens that are left, where the first one was taken, and where it was not
abbrev pub tokens_left : Bool → List ℕ → Walk → Option (List (Token walk.Key Scalar))
tokens_left true tags w = walk.known_walk (format_of w.format) tags (kinds_of w.kinds.arrays w.kinds.depth) (columns_of w.columns)
tokens_left false [] w = None
tokens_left false (tag ∷ tags) w =
    if tag == kind_tag objects then (walk.known_walk (format_of w.format) tags (kinds_of w.kinds.arrays w.kinds.depth) (columns_of w.columns) >>= λ ts. Some (token None object_opened ∷ ts)) else None
