-- Frames that are made before they are written.
use Rattle.std.proofs.Common.{◌≡◌, ◌∙◌, ◌<◌, ◌≤◌, ◌+◌, ℕ, List, [], ◌∷◌, ◌++◌, length, get_or, take, drop, refl, sym, ap, subst, arith, length-append, append-nil}
use Rattle.std.proofs.lemmas.List.{take_more, take-append-drop}
use Rattle.std.proofs.lemmas.List.Concat.{flat_map-append}
use Rattle.tc_log.specs.declared.write.Write.{Write}
use Rattle.tc_log.specs.Frame.{with_closed_gate, frame_writes, IsFrameKept}
use Rattle.tc_log.specs.Spelling.{entry_bytes, body_bytes, IsFrame}
use Rattle.tc_log.proofs.Entries.{body_again}
use Rattle.tc_log.proofs.Frames.{fields_again}

-- the entries before one, and that one, are within the body
pub entry_within : (writes : List Write) (i : ℕ) (x : Write) → i < length writes → x ≡ get_or writes i x → length (body_bytes (take i writes)) + length (entry_bytes x) ≤ length (body_bytes writes)
entry_within writes i x within is =
    let next : take (i + 1) writes ≡ take i writes ++ x ∷ [] = take_more writes i x within ∙ ap (λ (y : Write). take i writes ++ y ∷ []) (sym is) in
    let front : body_bytes (take (i + 1) writes) ≡ body_bytes (take i writes) ++ entry_bytes x =
    ap body_bytes next ∙ flat_map-append entry_bytes (take i writes) (x ∷ []) ∙ ap (λ (bytes : List ℕ). body_bytes (take i writes) ++ bytes) (append-nil (entry_bytes x)) in
    let whole : body_bytes writes ≡ body_bytes (take (i + 1) writes) ++ body_bytes (drop (i + 1) writes) =
    ap body_bytes (sym (take-append-drop (i + 1) writes)) ∙ flat_map-append entry_bytes (take (i + 1) writes) (drop (i + 1) writes) in
    omega (
      arith,
      ap length front,
      ap length whole,
      length-append (body_bytes (take i writes)) (entry_bytes x),
      length-append (body_bytes (take (i + 1) writes)) (body_bytes (drop (i + 1) writes)),
    )

-- the writes of a frame are those that it was made of
pub kept_writes : (writes : List Write) → IsFrame writes → frame_writes (with_closed_gate writes) ≡ writes
kept_writes writes is = rw (fields_again writes (0 ∷ []) is, body_again [] writes is.each) refl

pub kept : (writes : List Write) (bytes : List ℕ) → IsFrame writes → bytes ≡ with_closed_gate writes → IsFrameKept (frame_writes bytes) bytes
kept writes bytes is spelled =
    subst (λ (ws : List Write). IsFrameKept ws bytes) (sym (ap frame_writes spelled ∙ kept_writes writes is)) (record { is = is; spelled = spelled })
