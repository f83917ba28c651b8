-- How the bytes of a log are judged: the header and the writes up to the first gate that is not open, or a place and
-- the bytes there that break the rules.
use Rattle.std.specs.Prelude.{ℕ, zero, suc, ◌-◌, ◌==◌, ◌&&◌, nat_lt, Bool, false, if◌then◌else◌, List, [], ◌∷◌, length, take, drop, Option, None, Some, Result, Ok}
use Rattle.std.specs.Int.{w32, w64}
use Rattle.tc_bytes.specs.Codec.{any_order}
use Rattle.tc_bytes.specs.Reading.{Reader, ◌>>=◌, byte_at, number_at, bytes_at, counted_bytes_at, mapped_at, passing_at, pair_at, elements_at, ended}
use Rattle.tc_store.specs.Judging.{Damage, damage, or_damage, judged_then}
use Rattle.tc_log.specs.declared.head.LogHead.{LogHead}
use Rattle.tc_log.specs.declared.write.Write.{Write}
use Rattle.tc_log.specs.Layout.{number_end, upsert_tag, delete_tag, head_place, head_size, leading_size}
use Rattle.tc_log.specs.Spelling.{magic}
use Rattle.tc_record.specs.StoredTest.{is_stored}
use Rattle.tc_log.specs.Writes.{write_of}

-- ---- the header

abbrev pub is_magic : ℕ → Bool
is_magic n = n == magic

abbrev pub is_generation : ℕ → Bool
is_generation n = nat_lt 0 n && nat_lt n number_end

abbrev pub head_at : Reader LogHead
head_at bytes =
    passing_at is_magic (number_at w32) bytes >>= λ m. number_at w32 m.1 >>= λ n. number_at w32 n.1 >>= λ c. passing_at is_generation (number_at w64) c.1 >>= λ g.
    Some (record { number = n.0; count = c.0; generation = g.0 }, g.1)

-- ---- entries

-- a record behind its length, which is its first field
abbrev pub record_at : Reader (List ℕ)
record_at bytes = number_at w32 bytes >>= λ total. passing_at is_stored (bytes_at total.0) bytes

abbrev pub held_at : Reader (Option (List ℕ))
held_at bytes =
    byte_at bytes >>= λ kind. if kind.0 == upsert_tag then mapped_at Some record_at kind.1 else (if kind.0 == delete_tag then Some (None, kind.1) else None)

abbrev pub is_key : ℕ → Bool
is_key n = nat_lt n number_end

abbrev pub fields_at : Reader (ℕ × Option (List ℕ))
fields_at = pair_at (passing_at is_key (number_at w64)) (λ key. held_at)

abbrev pub entry_at : Reader Write
entry_at = mapped_at write_of fields_at

-- the writes before, and so many more that the body spells
abbrev pub body_read : ℕ → List Write → List ℕ → Option (List Write)
body_read count before body = elements_at any_order entry_at count before body >>= ended

-- ---- frames

abbrev pub is_some_number : ℕ → Bool
is_some_number n = nat_lt 0 n

-- the number of writes, and the body, where it fits into the bytes
abbrev pub frame_at : Reader (ℕ × List ℕ)
frame_at = pair_at (passing_at is_some_number (number_at w32)) (λ n. counted_bytes_at)

-- ---- judging

-- One frame from its gate on, in a file that ends at a place: the writes before with those of the frame, and what
-- stands behind. Damage is the leading bytes, or else the body.
abbrev pub frame_judged : ℕ → List Write → List ℕ → Result (List Write × List ℕ) Damage
frame_judged end before bytes =
    judged_then (or_damage (frame_at (drop 1 bytes)) (damage (end - length bytes) (take leading_size bytes))) λ f.
    judged_then (or_damage (body_read f.0.0 before f.0.1) (damage (end - length f.1 - length f.0.1) f.0.1)) λ writes. Ok (writes, f.1)

abbrev pub is_gate_open : List ℕ → Bool
is_gate_open [] = false
is_gate_open (gate ∷ rest) = gate == 1

-- the writes before, and those of at most so many frames
abbrev pub frames_judged : ℕ → ℕ → List Write → List ℕ → Result (List Write) Damage
frames_judged zero end before bytes = Ok before
frames_judged (suc n) end before bytes =
    if is_gate_open bytes then judged_then (frame_judged end before bytes) (λ f. frames_judged n end f.0 f.1) else Ok before

abbrev pub head_judged : List ℕ → Result (LogHead × List ℕ) Damage
head_judged bytes = or_damage (head_at (drop head_place bytes)) (damage head_place (take head_size (drop head_place bytes)))

-- a whole file, of which the gate is open
abbrev pub log_judged : List ℕ → Result (LogHead × List Write) Damage
log_judged bytes = judged_then (head_judged bytes) λ h. judged_then (frames_judged (length h.1) (length bytes) [] h.1) λ writes. Ok (h.0, writes)

-- what stands where the header of a file has its place: as many bytes, or as many as there are
abbrev pub front_of : List ℕ → List ℕ
front_of bytes = take head_size (drop head_place bytes)

abbrev pub is_of : ℕ → LogHead → Bool
is_of generation head = head.generation == generation

-- these bytes as the header of a log of this generation
abbrev pub front_judged : ℕ → List ℕ → Result LogHead Damage
front_judged generation front = judged_then (or_damage (passing_at (is_of generation) head_at front) (damage head_place front)) λ h. Ok h.0
