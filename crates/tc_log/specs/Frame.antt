-- The bytes that a frame is kept as until it is written: what stands behind its gate, and the closed gate behind it.
use Rattle.std.specs.Prelude.{◌≡◌, ℕ, List, [], ◌∷◌, ◌++◌, unwrap_or}
use Rattle.tc_bytes.specs.Reading.{◌>>=◌}
use Rattle.tc_log.specs.declared.write.Write.{Write}
use Rattle.tc_log.specs.Reading.{frame_at, body_read}
use Rattle.tc_log.specs.Spelling.{frame_fields, IsFrame}

abbrev pub with_closed_gate : List Write → List ℕ
with_closed_gate writes = frame_fields writes ++ 0 ∷ []

-- the writes of a frame
abbrev pub frame_writes : List ℕ → List Write
frame_writes bytes = unwrap_or (frame_at bytes >>= λ f. body_read f.0.0 [] f.0.1) []

pub record IsFrameKept (writes : List Write) (bytes : List ℕ) : Type 0 where
  pub is : IsFrame writes
  pub spelled : bytes ≡ with_closed_gate writes
