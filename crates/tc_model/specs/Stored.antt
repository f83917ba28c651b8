-- A document as it is stored: its key stands beside it, and not in it.
use Rattle.std.specs.Prelude.{◌≡◌, ◌≤◌, codes, None}
use Rattle.tc_model.specs.Tree.{Tree, leaf, array, object, depth}
use Rattle.tc_model.specs.Document.{Document, member_at}
use Rattle.tc_model.specs.Limits.{max_depth}

-- an object
abbrev pub IsObject : {L S : Type 0} → Tree L S → Type 0
IsObject (leaf s) = ⊥
IsObject (array xs) = ⊥
IsObject (object ms) = Unit {0}

-- an object without a member `id`
abbrev pub IsKeyless : Document → Type 0
IsKeyless (leaf s) = ⊥
IsKeyless (array xs) = ⊥
IsKeyless (object ms) = member_at (codes "id") ms ≡ None

-- the same, within the depth
abbrev pub IsStorable : Document → Type 0
IsStorable d = (depth d ≤ max_depth) × IsKeyless d
