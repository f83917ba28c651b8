-- Calls on a memory table, one after the other.
use Rattle.std.specs.Prelude.{◌≡◌, ◌==◌, if◌then◌else◌, ℕ, List, [], ◌∷◌, Option, Some, None, option_map, IsSome, IfSome}
use Rattle.std.specs.List.Sorted.{IsStrictlySortedBy}
use Rattle.std.specs.Map.{keys_of}
use Rattle.std.specs.Ordering.{nat_cmp}
use Rattle.tc_model.specs.Document.{ShapeTree}
use Rattle.tc_model.specs.Keyed.{value_of}
use Rattle.tc_memory.specs.Table.{Table, Kept, live, gone_over, below_at, upserted, deleted}

-- a call with its key, and the shape that it hands in
pub data TableCall : Type 0 where
  upsert : ℕ → List ℕ → Option ShapeTree → TableCall
  delete : ℕ → Option ShapeTree → TableCall

abbrev pub key_of : TableCall → ℕ
key_of (upsert n bytes handed) = n
key_of (delete n handed) = n

abbrev pub shape_handed : TableCall → Option ShapeTree
shape_handed (upsert n bytes handed) = handed
shape_handed (delete n handed) = handed

abbrev pub after_call : TableCall → Table → Table
after_call (upsert n bytes handed) t = upserted n bytes handed t
after_call (delete n handed) t = deleted n handed t

-- the table after these calls
abbrev pub after_calls : List TableCall → Table → Table
after_calls [] t = t
after_calls (c ∷ cs) t = after_calls cs (after_call c t)

abbrev pub Ascends : Table → Type 0
Ascends t = IsStrictlySortedBy nat_cmp (keys_of t)

-- ---- one key

-- what a call leaves of its key
abbrev pub entry_left : TableCall → Table → Option Kept
entry_left (upsert n bytes handed) t = Some (record { held = live bytes; below = below_at n handed t })
entry_left (delete n handed) t = option_map gone_over (below_at n handed t)

-- a call leaves every other key as it was
abbrev pub CallsChangeOneKey : Type 0
CallsChangeOneKey = (c : TableCall) (t : Table) (n : ℕ) → Ascends t
    → Ascends (after_call c t) × (value_of n (after_call c t) ≡ (if n == key_of c then entry_left c t else value_of n t))

-- ---- the first shape

-- the shape that the entry of a key keeps
abbrev pub shape_at : ℕ → Table → Option (Option ShapeTree)
shape_at n t = option_map (λ k. k.below) (value_of n t)

-- the key has an entry after each of the calls
abbrev pub HasEntryThroughout : ℕ → List TableCall → Table → Type 0
HasEntryThroughout n [] t = Unit {0}
HasEntryThroughout n (c ∷ cs) t = IsSome (value_of n (after_call c t)) × HasEntryThroughout n cs (after_call c t)

-- as long as a key has an entry, no call changes the shape that the entry keeps
abbrev pub CallsKeepFirstShapes : Type 0
CallsKeepFirstShapes = (cs : List TableCall) (t : Table) (n : ℕ)
    → Ascends t → IsSome (value_of n t) → HasEntryThroughout n cs t → shape_at n (after_calls cs t) ≡ shape_at n t

-- ---- the shapes of what is below

-- each entry keeps the shape of what its key has below
abbrev pub KeepsShapesOf : (ℕ → Option ShapeTree) → Table → Type 0
KeepsShapesOf below t = (n : ℕ) → IfSome (value_of n t) (λ k. k.below ≡ below n)

-- where its key has no entry yet, the call hands in the shape of what the key has below
abbrev pub HandsShapeOf : (ℕ → Option ShapeTree) → TableCall → Table → Type 0
HandsShapeOf below c t = value_of (key_of c) t ≡ None → shape_handed c ≡ below (key_of c)

abbrev pub CallsKeepShapesBelow : Type 0
CallsKeepShapesBelow = (below : ℕ → Option ShapeTree) (c : TableCall) (t : Table)
    → Ascends t → HandsShapeOf below c t → KeepsShapesOf below t → KeepsShapesOf below (after_call c t)
