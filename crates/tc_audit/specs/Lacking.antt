-- Whether no member of a record's object carries a number in place of its name.
use Rattle.std.specs.Prelude.{ℕ, ◌==◌, ◌&&◌, Bool, true, false, if◌then◌else◌, List, [], ◌∷◌, Option, Some, None, codes}
use Rattle.tc_model.specs.Dictionary.{number_of}
use Rattle.tc_model.specs.Document.{Name, Scalar}
use Rattle.tc_record.specs.Preorder.{Token}
use Rattle.tc_record.specs.StoredTest.{depth_behind}
use Rattle.tc_record.specs.Walk.{Key, name, number, is_above}
use Rattle.tc_compact.specs.Meant.{name_at}

abbrev pub is_numbered : ℕ → Option Key → Bool
is_numbered k None = false
is_numbered k (Some (name n)) = false
is_numbered k (Some (number j)) = j == k

-- no token whose label passes a test stands where only one object is open
abbrev pub lacks : (Option Key → Bool) → ℕ → List (Token Key Scalar) → Bool
lacks test depth [] = true
lacks test depth (t ∷ ts) = if (depth == 1) && test t.label then false else lacks test (depth_behind t.piece depth) ts

-- none that carries this number, if there is one
abbrev pub lacks_number : Option ℕ → List (Token Key Scalar) → Bool
lacks_number None ts = true
lacks_number (Some k) ts = lacks (is_numbered k) 0 ts

-- none that carries the number of the name `id`
abbrev pub lacks_id : List Name → List (Token Key Scalar) → Bool
lacks_id names ts = lacks_number (number_of names (codes "id")) ts

-- the first of some numbers stands for a name behind `id`
abbrev pub begins_behind : List Name → List ℕ → Bool
begins_behind names [] = false
begins_behind names (k ∷ ks) = is_above (Some (codes "id")) (name_at names k)
