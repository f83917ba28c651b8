-- What is staged grows by the write of a request at most.
use Rattle.std.proofs.Common.{◌≡◌, ◌∙◌, ◌<◌, ◌≤◌, ◌+◌, ℕ, List, [], ◌∷◌, ◌++◌, length, inl, inr, sym, ap, subst, arith, length-append, append-nil}
use Rattle.std.specs.Prelude.{◌⊎◌, ◌^◌}
use Rattle.std.specs.List.{AllByRecursion}
use Rattle.std.proofs.lemmas.List.Concat.{flat_map-append}
use Rattle.tc_log.specs.declared.write.Write.{Write}
use Rattle.tc_log.specs.Spelling.{body_bytes, entry_bytes}
use Rattle.tc_log.specs.Writes.{IsWrite}
use Rattle.tc_request_model.specs.Request.{Request}
use Rattle.tc_part_model.specs.PartState.{AreForFrame}
use Rattle.tc_work.specs.Asked.{writes_for, bytes_for}
use Rattle.tc_work.specs.Frames.{HasRoomFor, HasGrown, AreWithin}

one_more : (ws : List Write) (w : Write) → AllByRecursion IsWrite ws → IsWrite w → AllByRecursion IsWrite (ws ++ w ∷ [])
one_more [] w each is = (is, tt)
one_more (x ∷ xs) w each is = (each.0, one_more xs w each.1 is)

longer : (ws : List Write) (w : Write) → length (body_bytes (ws ++ w ∷ [])) ≡ length (body_bytes ws) + length (entry_bytes w)
longer ws w =
    ap length (flat_map-append entry_bytes ws (w ∷ []) ∙ ap (λ (bytes : List ℕ). body_bytes ws ++ bytes) (append-nil (entry_bytes w)))
    ∙ length-append (body_bytes ws) (entry_bytes w)

more : (ws : List Write) (w : Write) → length (ws ++ w ∷ []) ≡ length ws + 1
more ws w = length-append ws (w ∷ [])

-- the write of a request, and the bytes that it takes
pub record IsWriteFor (r : Request) (w : Write) : Type 0 where
  pub lawful : IsWrite w
  pub one : writes_for r ≡ 1
  pub bytes : length (entry_bytes w) ≡ bytes_for r

pub goes_in : (r : Request) (w : Write) (ws : List Write) → IsWriteFor r w → HasRoomFor r ws → AreForFrame (ws ++ w ∷ [])
goes_in r w ws is room = record {
  few = omega (arith, more ws w, is.one, room.few);
  each = one_more ws w room.each is.lawful;
  short = omega (arith, longer ws w, is.bytes, room.short);
}

pub not_grown : (r : Request) (old new : List Write) → AllByRecursion IsWrite old → new ≡ old → HasGrown r old new
not_grown r old new each same = record {
  each = subst (AllByRecursion IsWrite) (sym same) each;
  few = omega (arith, ap length same);
  short = omega (arith, ap (λ (ws : List Write). length (body_bytes ws)) same);
}

pub grown : (r : Request) (w : Write) (old new : List Write) → IsWriteFor r w → AllByRecursion IsWrite old → (new ≡ old ++ w ∷ []) ⊎ (new ≡ old) → HasGrown r old new
grown r w old new is each (inl put) = record {
  each = subst (AllByRecursion IsWrite) (sym put) (one_more old w each is.lawful);
  few = omega (arith, ap length put, more old w, is.one);
  short = omega (arith, ap (λ (ws : List Write). length (body_bytes ws)) put, longer old w, is.bytes);
}
grown r w old new is each (inr same) = not_grown r old new each same

-- ---- over a window

pub room_for_next : (count bytes : ℕ) (r : Request) (ws : List Write) (left : List Request) → count ≤ 4096 → bytes < 2 ^ 32 → AreWithin count bytes ws (r ∷ left) → HasRoomFor r ws
room_for_next count bytes r ws left few short within = record {
  each = within.each;
  few = omega (arith, few, within.few);
  short = omega (arith, short, within.short);
}

pub still_within : (count bytes : ℕ) (r : Request) (old new : List Write) (left : List Request) → AreWithin count bytes old (r ∷ left) → HasGrown r old new → AreWithin count bytes new left
still_within count bytes r old new left within grown = record {
  each = grown.each;
  few = omega (arith, within.few, grown.few);
  short = omega (arith, within.short, grown.short);
}
