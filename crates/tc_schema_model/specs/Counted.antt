-- What a schema counts: at each place how many values of each kind stand there, what the items of its arrays are, and
-- what the members of its objects are, by the numbers of their names. A place with several kinds is a union.
use Rattle.std.specs.Prelude.{◌≡◌, ℕ, ◌+◌, ◌^◌, ◌<◌, ◌≤◌, ◌==◌, nat_lt, List, [], ◌∷◌, Option, Some, None, if◌then◌else◌}
use Rattle.tc_model.specs.Document.{Name, null_kind, boolean_kind, integer_kind, text_kind}
use Rattle.tc_model.specs.Dictionary.{number_of}
use Rattle.tc_schema_model.specs.Occurrences.{field, each_item, Path}
use Rattle.tc_model.specs.Kinds.{Kind, scalar, arrays, objects}

-- how many values of each kind
pub record Counters : Type 0 where
  pub nulls : ℕ
  pub booleans : ℕ
  pub integers : ℕ
  pub texts : ℕ
  pub arrays : ℕ
  pub objects : ℕ

mutual
  -- one place
  pub data Counted : Type 0 where
    counted : Counters → Below → Fields → Counted

  -- the place of the items
  pub data Below : Type 0 where
    no_item : Below
    an_item : Counted → Below

  -- the places of the members
  pub data Fields : Type 0 where
    no_fields : Fields
    a_field : ℕ → Counted → Fields → Fields

-- nothing counted
abbrev pub no_counters : Counters
no_counters = record { nulls = 0; booleans = 0; integers = 0; texts = 0; arrays = 0; objects = 0 }

abbrev pub nothing : Counted
nothing = counted no_counters no_item no_fields

-- the counter of a kind
abbrev pub counter : Counters → Kind → ℕ
counter c (scalar null_kind) = c.nulls
counter c (scalar boolean_kind) = c.booleans
counter c (scalar integer_kind) = c.integers
counter c (scalar text_kind) = c.texts
counter c arrays = c.arrays
counter c objects = c.objects

-- how many values there are together
abbrev pub total : Counters → ℕ
total c = c.nulls + c.booleans + c.integers + c.texts + c.arrays + c.objects

-- the parts of a place
abbrev pub counters_of : Counted → Counters
counters_of (counted c b fs) = c

abbrev pub below_of : Counted → Below
below_of (counted c b fs) = b

abbrev pub fields_of : Counted → Fields
fields_of (counted c b fs) = fs

-- the place of the items, and the place of the members of a number
abbrev pub held : Below → Counted
held no_item = nothing
held (an_item d) = d

abbrev pub field_at : ℕ → Fields → Counted
field_at n no_fields = nothing
field_at n (a_field m d fs) = if nat_lt n m then nothing else (if m == n then d else field_at n fs)

-- the place of the members of a name, of which there are none where the name has no number
abbrev pub numbered_field : Option ℕ → Fields → Counted
numbered_field None fs = nothing
numbered_field (Some n) fs = field_at n fs

-- the place at a path, where the names give the members their numbers
abbrev pub place_at : List Name → Counted → Path → Counted
place_at names d [] = d
place_at names d (each_item ∷ path) = place_at names (held (below_of d)) path
place_at names d (field name ∷ path) = place_at names (numbered_field (number_of names name) (fields_of d)) path

-- the counter at a path for a kind, and all counters at a path together
abbrev pub shows : List Name → Counted → Path → Kind → ℕ
shows names d path t = counter (counters_of (place_at names d path)) t

abbrev pub total_at : List Name → Counted → Path → ℕ
total_at names d path = total (counters_of (place_at names d path))

-- the number of documents that are counted
abbrev pub documents_of : Counted → ℕ
documents_of d = total (counters_of d)

-- The one form of what is counted: nothing is kept that counts nothing, no items where there is no array, no fields
-- where there is no object, and fields ascend by number, below the limit.
abbrev mutual
  pub IsCanonical : ℕ → Counted → Type 0
  IsCanonical limit (counted c b fs) = (c.arrays ≡ 0 → b ≡ no_item) × (c.objects ≡ 0 → fs ≡ no_fields) × IsBelowCanonical limit b × AreFieldsCanonical limit 0 fs

  pub IsBelowCanonical : ℕ → Below → Type 0
  IsBelowCanonical limit no_item = Unit {0}
  IsBelowCanonical limit (an_item d) = (0 < documents_of d) × IsCanonical limit d

  -- the first number is at least this low
  pub AreFieldsCanonical : ℕ → ℕ → Fields → Type 0
  AreFieldsCanonical limit low no_fields = Unit {0}
  AreFieldsCanonical limit low (a_field n d fs) = (low ≤ n) × (n < limit) × (0 < documents_of d) × IsCanonical limit d × AreFieldsCanonical limit (n + 1) fs

-- what is counted are objects alone
abbrev pub CountsObjects : Counted → Type 0
CountsObjects d = documents_of d ≡ (counters_of d).objects

-- each place counts fewer than 2^64 values
abbrev mutual
  pub HasSmallCounters : Counted → Type 0
  HasSmallCounters (counted c b fs) = (total c < 2 ^ 64) × BelowHasSmallCounters b × FieldsHaveSmallCounters fs

  pub BelowHasSmallCounters : Below → Type 0
  BelowHasSmallCounters no_item = Unit {0}
  BelowHasSmallCounters (an_item d) = HasSmallCounters d

  pub FieldsHaveSmallCounters : Fields → Type 0
  FieldsHaveSmallCounters no_fields = Unit {0}
  FieldsHaveSmallCounters (a_field n d fs) = HasSmallCounters d × FieldsHaveSmallCounters fs

-- fields ascend by number, at every place
abbrev mutual
  pub IsOrdered : Counted → Type 0
  IsOrdered (counted c b fs) = IsBelowOrdered b × AreFieldsOrdered 0 fs

  pub IsBelowOrdered : Below → Type 0
  IsBelowOrdered no_item = Unit {0}
  IsBelowOrdered (an_item d) = IsOrdered d

  -- the first number is at least this low
  pub AreFieldsOrdered : ℕ → Fields → Type 0
  AreFieldsOrdered low no_fields = Unit {0}
  AreFieldsOrdered low (a_field n d fs) = (low ≤ n) × IsOrdered d × AreFieldsOrdered (n + 1) fs
