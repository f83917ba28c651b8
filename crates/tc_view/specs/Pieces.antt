-- The writes whose records lie in one list of bytes.
use Rattle.std.specs.Prelude.{◌≤◌, ◌-◌, ℕ, List, length, take, drop, option_map, IfSome}
use Rattle.tc_log.specs.declared.write.Write.{Write}
use Rattle.tc_log.specs.Writes.{write_of}
use Rattle.tc_view.specs.declared.piece.Piece.{Piece}
use Rattle.tc_view.specs.declared.piece.Span.{Span}

-- the bytes from where a record begins to where it ends
abbrev pub record_in : List ℕ → Span → List ℕ
record_in bytes span = take (span.end - span.begin) (drop span.begin bytes)

abbrev pub write_in : List ℕ → Piece → Write
write_in bytes piece = write_of (piece.key, option_map (record_in bytes) piece.record)

pub record IsWithin (bytes : List ℕ) (span : Span) : Type 0 where
  pub ordered : span.begin ≤ span.end
  pub inside : span.end ≤ length bytes

-- the record of the write is among the bytes, if it has one
abbrev pub LiesIn : List ℕ → Piece → Type 0
LiesIn bytes piece = IfSome piece.record (IsWithin bytes)
