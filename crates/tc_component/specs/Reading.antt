-- How the bytes of a component are judged: what it has beside its records, or a place and the bytes there that break the
-- rules.
use Rattle.std.specs.Prelude.{ℕ, ◌+◌, ◌-◌, ◌*◌, ◌==◌, ◌&&◌, ◌||◌, nat_lt, nat_le, Bool, false, if◌then◌else◌, List, [], ◌∷◌, length, take, drop, get_or, Option, None, Some, Result, Ok}
use Rattle.std.specs.Int.{w32, w64}
use Rattle.tc_bytes.specs.Reading.{Reader, ◌>>=◌, number_at, mapped_at, passing_at, pair_at, elements_at, ended}
use Rattle.tc_names.specs.Section.{read_section}
use Rattle.tc_record.specs.Record.{numbered_form, packed_form}
use Rattle.tc_schema.specs.Reading.{read_schema}
use Rattle.tc_store.specs.Judging.{Damage, damage, or_damage, judged_then}
use Rattle.tc_store.specs.declared.file_name.FileName.{FileName}
use Rattle.tc_store.specs.declared.file_name.FileName.TheVariants.{Component, Log}
use Rattle.tc_component.specs.declared.head.Head.{Head}
use Rattle.tc_component.specs.declared.head.Sizes.{Sizes}
use Rattle.tc_component.specs.declared.slot.Slot.{Slot}
use Rattle.tc_component.specs.Layout.{number_end, head_place, records_place, slot_size, least_record, directory_place, names_place, schema_place, file_size}
use Rattle.tc_component.specs.Spelling.{magic_of, slot, lengths_of, Index}

-- ---- the header

-- the version that the fourth byte tells, whatever stands before it
abbrev pub version_told : List ℕ → ℕ
version_told front = if nat_lt 3 (length front) && get_or front 3 0 == 0x32 then packed_form else numbered_form

abbrev pub is_magic : ℕ → ℕ → Bool
is_magic version n = n == magic_of version

abbrev pub is_interval : ℕ × ℕ → Bool
is_interval i = nat_lt 0 i.0 && (nat_le i.0 i.1 && nat_lt i.1 number_end)

abbrev pub interval_at : Reader (ℕ × ℕ)
interval_at = passing_at is_interval (pair_at (number_at w64) (λ from. number_at w64))

abbrev pub sizes_at : Reader Sizes
sizes_at bytes =
    number_at w64 bytes >>= λ r. number_at w64 r.1 >>= λ e. number_at w64 e.1 >>= λ n. number_at w64 n.1 >>= λ s.
    Some (record { records = r.0; entries = e.0; names = n.0; schema = s.0 }, s.1)

abbrev pub head_at : ℕ → Reader (Head × Sizes)
head_at version bytes =
    passing_at (is_magic version) (number_at w32) bytes >>= λ m. number_at w32 m.1 >>= λ n. number_at w32 n.1 >>= λ c. interval_at c.1 >>= λ i. sizes_at i.1 >>= λ s.
    Some ((record { number = n.0; count = c.0; from = i.0.0; to = i.0.1 }, s.0), s.1)

abbrev pub is_named : FileName → Head → Bool
is_named (Component from to) head = head.from == from && head.to == to
is_named (Log generation) head = false

-- the header is the one of a file of this name, and its lengths add up to the file's length
abbrev pub is_header_of : FileName → ℕ → Head × Sizes → Bool
is_header_of name size h = is_named name h.0 && file_size h.1 == size

-- what stands between the gate and the records: as many bytes, or as many as there are
abbrev pub front_of : List ℕ → List ℕ
front_of bytes = take (records_place - head_place) (drop head_place bytes)

-- the version that a file tells, which is the form of its records
abbrev pub version_of : List ℕ → ℕ
version_of bytes = version_told (front_of bytes)

-- these bytes as the header of a component of this name, in a file of this length
abbrev pub front_judged : FileName → ℕ → List ℕ → Result (Head × Sizes) Damage
front_judged name size front = judged_then (or_damage (passing_at (is_header_of name size) (head_at (version_told front)) front) (damage head_place front)) λ h. Ok h.0

-- ---- the directory

abbrev pub is_key : ℕ → Bool
is_key n = nat_lt n number_end

abbrev pub is_length : ℕ → Bool
is_length n = n == 0 || nat_le least_record n

abbrev pub slot_at : Reader Slot
slot_at = mapped_at (λ x. slot x.0 x.1) (pair_at (passing_at is_key (number_at w64)) (λ key. passing_at is_length (number_at w32)))

-- the least key that may follow
abbrev pub next_key : List Slot → ℕ
next_key [] = 0
next_key (s ∷ []) = s.key + 1
next_key (s ∷ t ∷ slots) = next_key (t ∷ slots)

-- keys ascend, and the records have no more than so many bytes
abbrev pub follows : ℕ → List Slot → Slot → Bool
follows records before s = nat_le (next_key before) s.key && nat_le (lengths_of before + s.length) records

abbrev pub is_total : ℕ → List Slot → Bool
is_total records slots = lengths_of slots == records

-- the slots behind those before, so many of them, where all records have so many bytes together
abbrev pub directory_read : ℕ → ℕ → List Slot → List ℕ → Option (List Slot)
directory_read count records before bytes =
    elements_at (follows records) slot_at count before bytes >>= ended >>= λ slots. if is_total records slots then Some slots else None

-- ---- judging

-- what stands behind the records
abbrev pub rest_judged : ℕ → Head × Sizes → List ℕ → Result Index Damage
rest_judged version h rest =
    let slots_end = h.1.entries * slot_size in
    let own = take slots_end rest in
    let named = take h.1.names (drop slots_end rest) in
    let counted = drop (slots_end + h.1.names) rest in
    judged_then (or_damage (directory_read h.1.entries h.1.records [] own) (damage (directory_place h.1) own)) λ slots.
    judged_then (or_damage (read_section named) (damage (names_place h.1) named)) λ names.
    judged_then (or_damage (read_schema (length names) counted) (damage (schema_place h.1) counted)) λ schema.
    Ok (record { version = version; head = h.0; slots = slots; names = names; schema = schema })

-- a whole file of this name, of which the gate is open
abbrev pub file_judged : FileName → List ℕ → Result Index Damage
file_judged name bytes = judged_then (front_judged name (length bytes) (front_of bytes)) λ h. rest_judged (version_of bytes) h (drop (directory_place h.1) bytes)

-- the header alone
abbrev pub head_judged : FileName → List ℕ → Result Head Damage
head_judged name bytes = judged_then (front_judged name (length bytes) (front_of bytes)) λ h. Ok h.0
