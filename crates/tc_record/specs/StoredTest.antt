-- Whether bytes are a record that tables and logs keep, by its tokens.
use Rattle.std.specs.Prelude.{ℕ, ◌+◌, ◌-◌, ◌==◌, ◌&&◌, Bool, true, false, if◌then◌else◌, List, [], ◌∷◌, Option, None, Some, codes, bytes_eq}
use Rattle.tc_model.specs.Document.{Scalar}
use Rattle.tc_record.specs.Preorder.{Piece, scalar, array_opened, object_opened, closed, Token}
use Rattle.tc_record.specs.Sections.{record_read}
use Rattle.tc_record.specs.Walk.{Key, name, number, Format}

abbrev pub is_id : Option Key → Bool
is_id None = false
is_id (Some (name n)) = bytes_eq n (codes "id")
is_id (Some (number k)) = false

-- how many arrays and objects are open behind a piece
abbrev pub depth_behind : Piece Scalar → ℕ → ℕ
depth_behind (scalar s) depth = depth
depth_behind array_opened depth = depth + 1
depth_behind object_opened depth = depth + 1
depth_behind closed depth = depth - 1

-- no token labelled `id` stands where only one object is open
abbrev pub lacks_id : ℕ → List (Token Key Scalar) → Bool
lacks_id depth [] = true
lacks_id depth (t ∷ ts) = if (depth == 1) && is_id t.label then false else lacks_id (depth_behind t.piece depth) ts

abbrev pub is_stored_read : Option (Format × List (Token Key Scalar)) → Bool
is_stored_read None = false
is_stored_read (Some r) = r.0.named && lacks_id 0 r.1

-- a record with names, whose object has no member `id`
abbrev pub is_stored : List ℕ → Bool
is_stored bytes = is_stored_read (record_read bytes)
