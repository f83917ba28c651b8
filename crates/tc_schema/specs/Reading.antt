-- Reading a place from the front of bytes, part by part, where no more than so many levels nest.
use Rattle.std.specs.Prelude.{◌≡◌, ◌<◌, ◌≤◌, ℕ, zero, suc, ◌+◌, ◌-◌, ◌^◌, ◌==◌, ◌&&◌, nat_lt, Bool, false, List, [], ◌∷◌, drop, Option, Some, None, if◌then◌else◌}
use Rattle.std.specs.Int.{w32, w64}
use Rattle.tc_bytes.specs.Reading.{Reader, ◌>>=◌, byte_at, number_at, whole}
use Rattle.tc_model.specs.Document.{null_kind, boolean_kind, integer_kind, text_kind}
use Rattle.tc_model.specs.Kinds.{arrays, objects, scalar_tag, tag}
use Rattle.tc_schema_model.specs.Counted.{Counters, no_counters, total, Counted, counted, Below, no_item, an_item, Fields, no_fields, a_field, nothing, documents_of, counters_of}
use Rattle.tc_schema_model.specs.Levels.{max_levels}
use Rattle.tc_schema_model.specs.SchemaTree.{union_tag}
use Rattle.tc_schema.specs.Writing.{one_if_some}

-- whether a kind of this tag stands here, where so many kinds are to come
abbrev pub starts : ℕ → ℕ → List ℕ → Bool
starts t left [] = false
starts t left (b ∷ bytes) = nat_lt 0 left && b == t

-- a counter, which is not 0
abbrev pub counter_at : Reader ℕ
counter_at bytes = number_at w64 bytes >>= λ n. if n.0 == 0 then None else Some n

-- the counter of a scalar kind, or 0
abbrev pub scalar_at : ℕ → ℕ → Reader ℕ
scalar_at t left bytes = if starts t left bytes then counter_at (drop 1 bytes) else Some (0, bytes)

-- the items of an array
abbrev pub item_at : Reader Counted → Reader Below
item_at read bytes =
    byte_at bytes >>= λ flag. if flag.0 == 0 then Some (no_item, flag.1) else (if flag.0 == 1 then (read flag.1 >>= λ d. Some (an_item d.0, d.1)) else None)

-- the counter of arrays with their items, or 0
abbrev pub array_at : Reader Counted → ℕ → Reader (ℕ × Below)
array_at read left bytes =
    if starts (tag arrays) left bytes then (counter_at (drop 1 bytes) >>= λ n. item_at read n.1 >>= λ b. Some ((n.0, b.0), b.1)) else Some ((0, no_item), bytes)

-- so many fields whose numbers ascend from this one on, below the limit
abbrev pub fields_at : Reader Counted → ℕ → ℕ → ℕ → Reader Fields
fields_at read limit zero low bytes = Some (no_fields, bytes)
fields_at read limit (suc left) low bytes =
    number_at w32 bytes >>= λ n. if nat_lt n.0 low then None else (if nat_lt n.0 limit then (read n.1 >>= λ d. fields_at read limit left (n.0 + 1) d.1 >>= λ fs. Some (a_field n.0 d.0 fs.0, fs.1)) else None)

-- the counter of objects with their fields, or 0
abbrev pub object_at : Reader Counted → ℕ → ℕ → Reader (ℕ × Fields)
object_at read limit left bytes =
    if starts (tag objects) left bytes then (counter_at (drop 1 bytes) >>= λ n. number_at w32 n.1 >>= λ many. fields_at read limit many.0 0 many.1 >>= λ fs. Some ((n.0, fs.0), fs.1)) else Some ((0, no_fields), bytes)

-- what was read of a place, where no further kind is to come and its values are fewer than 2^64
abbrev pub place_ended : ℕ → ℕ → Counters → Below → Fields → List ℕ → Option (Counted × List ℕ)
place_ended left n c b fs bytes = if left - one_if_some n == 0 && nat_lt (total c) (2 ^ 64) then Some (counted c b fs, bytes) else None

-- So many kinds by ascending tag, which together are fewer than 2^64: each kind after those before it.
abbrev pub objects_at : Reader Counted → ℕ → ℕ → Counters → Below → Reader Counted
objects_at read limit left c b bytes = object_at read limit left bytes >>= λ f. place_ended left f.0.0 (record c { objects = f.0.0 }) b f.0.1 f.1

abbrev pub arrays_at : Reader Counted → ℕ → ℕ → Counters → Reader Counted
arrays_at read limit left c bytes = array_at read left bytes >>= λ e. objects_at read limit (left - one_if_some e.0.0) (record c { arrays = e.0.0 }) e.0.1 e.1

abbrev pub texts_at : Reader Counted → ℕ → ℕ → Counters → Reader Counted
texts_at read limit left c bytes = scalar_at (scalar_tag text_kind) left bytes >>= λ d. arrays_at read limit (left - one_if_some d.0) (record c { texts = d.0 }) d.1

abbrev pub integers_at : Reader Counted → ℕ → ℕ → Counters → Reader Counted
integers_at read limit left c bytes = scalar_at (scalar_tag integer_kind) left bytes >>= λ d. texts_at read limit (left - one_if_some d.0) (record c { integers = d.0 }) d.1

abbrev pub booleans_at : Reader Counted → ℕ → ℕ → Counters → Reader Counted
booleans_at read limit left c bytes = scalar_at (scalar_tag boolean_kind) left bytes >>= λ d. integers_at read limit (left - one_if_some d.0) (record c { booleans = d.0 }) d.1

abbrev pub kinds_at : Reader Counted → ℕ → ℕ → Reader Counted
kinds_at read limit left bytes = scalar_at (scalar_tag null_kind) left bytes >>= λ d. booleans_at read limit (left - one_if_some d.0) (record no_counters { nulls = d.0 }) d.1

-- a union has at least two kinds and their sum as its counter
abbrev pub union_at : Reader Counted → ℕ → Reader Counted
union_at read limit bytes =
    number_at w64 bytes >>= λ n. byte_at n.1 >>= λ many. if nat_lt many.0 2 then None else kinds_at read limit many.0 many.1 >>= λ d. if documents_of d.0 == n.0 then Some d else None

-- a place, where no more than so many levels nest
abbrev pub place_at : ℕ → ℕ → Reader Counted
place_at limit zero bytes = None
place_at limit (suc levels) bytes = if starts union_tag 1 bytes then union_at (place_at limit levels) limit (drop 1 bytes) else kinds_at (place_at limit levels) limit 1 bytes

-- a schema, which is empty or of objects
abbrev pub root_at : ℕ → ℕ → Reader Counted
root_at limit levels bytes =
    if starts 0 1 bytes then Some (nothing, drop 1 bytes) else (place_at limit levels bytes >>= λ d. if documents_of d.0 == (counters_of d.0).objects then Some d else None)

-- the schema that all of the bytes spell; no proof unfolds it unasked, since it would go through every level
unfoldable pub read_schema : ℕ → List ℕ → Option Counted
read_schema limit bytes = whole (root_at limit max_levels) bytes

-- ---- the places that are spelled so

abbrev pub BelowFits : (Counted → Type 0) → Below → Type 0
BelowFits P no_item = Unit {0}
BelowFits P (an_item d) = P d

-- the first number is at least this low
abbrev pub FieldsFit : (Counted → Type 0) → ℕ → ℕ → Fields → Type 0
FieldsFit P limit low no_fields = Unit {0}
FieldsFit P limit low (a_field n d fs) = (low ≤ n) × (n < limit) × P d × FieldsFit P limit (n + 1) fs

pub record PlaceParts (P : Counted → Type 0) (limit : ℕ) (c : Counters) (b : Below) (fs : Fields) : Type 0 where
  pub some : 0 < total c
  pub small : total c < 2 ^ 64
  pub no_items : c.arrays ≡ 0 → b ≡ no_item
  pub no_members : c.objects ≡ 0 → fs ≡ no_fields
  pub below : BelowFits P b
  pub fields : FieldsFit P limit 0 fs

abbrev pub PlaceFits : ℕ → ℕ → Counted → Type 0
PlaceFits limit zero d = ⊥
PlaceFits limit (suc levels) (counted c b fs) = PlaceParts (PlaceFits limit levels) limit c b fs
