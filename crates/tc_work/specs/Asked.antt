-- The windows that an engine runs: of which requests they are, and how much they write at most.
use Rattle.std.specs.Prelude.{◌<◌, ◌≤◌, ◌+◌, ◌^◌, ℕ, List, [], ◌∷◌, length, map, All}
use Rattle.tc_model.specs.Keyed.{values_in}
use Rattle.tc_request_model.specs.Request.{Request, upsert, delete, get, query, flush, schema, scan, collect, refused}
use Rattle.tc_model.specs.Stored.{IsStorable}
use Rattle.tc_record.specs.Record.{record_of}
use Rattle.tc_command.specs.Commands.{request_of_command}
use Rattle.tc_route.specs.declared.placed.Routed.{Routed}
use Rattle.tc_route.specs.Meaning.{routed_of}

abbrev pub requests_in : List Routed → List Request
requests_in list = values_in (map routed_of list)

-- It is for a partition: a query, or for one key below 2^63. A document may be stored, and its record is short enough to be
-- compacted.
abbrev pub IsForPart : Request → Type 0
IsForPart (upsert n d) = (n < 2 ^ 63) × IsStorable d × (length (record_of d) < 2 ^ 30)
IsForPart (delete n) = n < 2 ^ 63
IsForPart (get n) = n < 2 ^ 63
IsForPart (query ask) = Unit {0}
IsForPart flush = ⊥
IsForPart schema = ⊥
IsForPart (scan ask) = ⊥
IsForPart collect = ⊥
IsForPart (refused r) = ⊥

-- the most writes that a request makes
abbrev pub writes_for : Request → ℕ
writes_for (upsert n d) = 1
writes_for (delete n) = 1
writes_for (get n) = 0
writes_for (query ask) = 0
writes_for flush = 0
writes_for schema = 0
writes_for (scan ask) = 0
writes_for collect = 0
writes_for (refused r) = 0

-- the bytes that they take in a frame: a key, a tag, and the record of a document
abbrev pub bytes_for : Request → ℕ
bytes_for (upsert n d) = 9 + length (record_of d)
bytes_for (delete n) = 9
bytes_for (get n) = 0
bytes_for (query ask) = 0
bytes_for flush = 0
bytes_for schema = 0
bytes_for (scan ask) = 0
bytes_for collect = 0
bytes_for (refused r) = 0

abbrev pub most_writes : List Request → ℕ
most_writes [] = 0
most_writes (r ∷ rs) = writes_for r + most_writes rs

abbrev pub most_bytes : List Request → ℕ
most_bytes [] = 0
most_bytes (r ∷ rs) = bytes_for r + most_bytes rs

-- a window whose writes one frame can hold
pub record IsWindow (list : List Routed) : Type 0 where
  pub few : length list ≤ 4096
  pub each : All (λ r. IsForPart (request_of_command r.command)) list
  pub short : most_bytes (requests_in list) < 2 ^ 32
