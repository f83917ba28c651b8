-- How the bytes of a file are judged, and what a reader of them answers. Of want of memory nothing is said here, and of a
-- fault of the disk elsewhere.
use Rattle.std.specs.Prelude.{◌≡◌, ℕ, List, Option, None, Some, Result, Ok, Err}
use Rattle.tc_store.specs.declared.damage.ReadFault.{ReadFault}
use Rattle.tc_store.specs.declared.damage.ReadFault.TheVariants.{Disk, Damaged, Memory}

-- ---- judging

-- bytes that break the rules, and their place in the file
pub record Damage : Type 0 where
  pub place : ℕ
  pub bytes : List ℕ

abbrev pub damage : ℕ → List ℕ → Damage
damage place bytes = record { place = place; bytes = bytes }

abbrev pub or_damage : {A : Type 0} → Option A → Damage → Result A Damage
or_damage (Some x) d = Ok x
or_damage None d = Err d

abbrev pub judged_then : {A B : Type 0} → Result A Damage → (A → Result B Damage) → Result B Damage
judged_then (Ok x) f = f x
judged_then (Err d) f = Err d

-- ---- answering

-- what is answered, seen by view, is what is judged
abbrev pub Judges : {X Y : Type 0} → (X → Y) → Result X ReadFault → Result Y Damage → Type 0
Judges view (Ok x) judged = judged ≡ Ok (view x)
Judges view (Err (Damaged place bytes)) judged = judged ≡ Err (damage place bytes)
Judges _ _ _ = Unit {0}

-- of damage this holds, by its place and the bytes there
abbrev pub IfDamaged : {X : Type 0} → Result X ReadFault → (ℕ → List ℕ → Type 0) → Type 0
IfDamaged (Err (Damaged place bytes)) P = P place bytes
IfDamaged _ _ = Unit {0}

-- the disk is not at fault
abbrev pub IsNoDisk : {X : Type 0} → Result X ReadFault → Type 0
IsNoDisk (Err Disk) = ⊥
IsNoDisk _ = Unit {0}

-- the bytes are not at fault
abbrev pub IsNoDamage : {X : Type 0} → Result X ReadFault → Type 0
IsNoDamage (Err (Damaged place bytes)) = ⊥
IsNoDamage _ = Unit {0}

-- this damage, or want of memory
abbrev pub IsDamageOr : ℕ → List ℕ → ReadFault → Type 0
IsDamageOr place bytes (Damaged at kept) = (at ≡ place) × (kept ≡ bytes)
IsDamageOr place bytes Disk = ⊥
IsDamageOr place bytes Memory = Unit {0}
