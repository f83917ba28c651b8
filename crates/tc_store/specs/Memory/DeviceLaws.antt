-- Why a device in memory keeps the laws of a device.
use Rattle.std.proofs.Common.{◌≡◌, ◌<◌, ◌≤◌, ℕ, ◌+◌, List, [], ◌∷◌, length, Option, slice_index, refl, inl, inr, ◌∙◌, arith}
use Rattle.std.specs.Prelude.{◌⊎◌}
use Rattle.std.proofs.lemmas.List.{places}
use Rattle.std.proofs.lemmas.List.Elements.{All-head, All-tail}
use Rattle.std.proofs.lemmas.Bool.{cases_lt}
use Rattle.tc_store.specs.declared.mem.device.DeviceCall.{DeviceCall}
use Rattle.tc_store.specs.declared.mem.device.DeviceCall.TheVariants.{Written, Tried, Synced}
use Rattle.tc_store.specs.Memory.DeviceCalls.{file_after}
use Rattle.tc_store.specs.DiskFile.{DiskFile, Range, empty_file, settled_file, overlaid, written}
use Rattle.tc_store.specs.Images.{IsImageOf, IsUntouched, IsWithin, furthest_end}

pub furthest_end-le : (size : ℕ) (ranges : List Range) → size ≤ furthest_end size ranges
furthest_end-le size [] = omega arith
furthest_end-le size (range ∷ ranges) = omega (arith, furthest_end-le size ranges)

-- the bytes outside of those that are laid over a content stay
pub overlaid_keeps : (at : ℕ) (bytes old : List ℕ) (position : ℕ) → position < length old
    → (position < at) ⊎ (at + length bytes ≤ position) → slice_index (overlaid at bytes old) position ≡ slice_index old position
overlaid_keeps at bytes old position within outside = grind (arith, places)

pub length-overlaid : (at : ℕ) (bytes old : List ℕ) → length old ≤ length (overlaid at bytes old)
length-overlaid at bytes old = grind (arith, places)

-- a position that is not within a range is before or behind it
pub not_within : (position : ℕ) (range : Range) → (IsWithin position range → ⊥) → (position < range.0) ⊎ (range.0 + range.1 ≤ position)
not_within position range outside = elim (cases_lt position range.0) [
  | inl before ↦ inl before
  | inr from ↦ elim (cases_lt position (range.0 + range.1)) [
    | inl within ↦ absurd (outside (from, within))
    | inr behind ↦ inr behind
  ]
]

-- a settled file may stay as it is
pub settled_may_stay : (bytes : List ℕ) → IsImageOf (settled_file bytes) bytes
settled_may_stay bytes = record { no_longer = omega arith; untouched = λ position is. (is.synced, refl) }

pub empty_may_stay : (before : Option (List ℕ)) → IsImageOf (empty_file before) []
empty_may_stay before = record { no_longer = omega arith; untouched = λ position is. absurd (omega (arith, is.synced)) }

-- after one more range was tried, fewer positions are untouched
pub untouched_before : (f : DiskFile) (content : List ℕ) (range : Range) (position : ℕ)
    → IsUntouched (record f { content = content; tried = range ∷ f.tried }) position → IsUntouched f position
untouched_before f content range position is = record { synced = is.synced; not_tried = All-tail (λ range. IsWithin position range → ⊥) range f.tried is.not_tried }

pub written_may_stay : (at : ℕ) (bytes : List ℕ) (f : DiskFile) → IsImageOf f f.content
    → IsImageOf (written at bytes f) (overlaid at bytes f.content)
written_may_stay at bytes f stays = record {
  no_longer = furthest_end-le (length (overlaid at bytes f.content)) ((at, length bytes) ∷ f.tried);
  untouched = λ position is.
      let was = stays.untouched position (untouched_before f (overlaid at bytes f.content) (at, length bytes) position is) in
      let outside = not_within position (at, length bytes) (All-head (λ range. IsWithin position range → ⊥) (at, length bytes) f.tried is.not_tried) in
      (omega (arith, was.0, length-overlaid at bytes f.content), overlaid_keeps at bytes f.content position was.0 outside ∙ was.1);
}

pub tried_may_stay : (at count : ℕ) (f : DiskFile) → IsImageOf f f.content
    → IsImageOf (record f { tried = (at, count) ∷ f.tried }) f.content
tried_may_stay at count f stays = record {
  no_longer = furthest_end-le (length f.content) ((at, count) ∷ f.tried);
  untouched = λ position is. stays.untouched position (untouched_before f f.content (at, count) position is);
}

-- the content may stay as it is after any calls
pub may_stay_after : (before : Option (List ℕ)) (calls : List DeviceCall) → IsImageOf (file_after before calls) (file_after before calls).content
may_stay_after before [] = empty_may_stay before
may_stay_after before (Written at bytes ∷ earlier) = written_may_stay at bytes.items (file_after before earlier) (may_stay_after before earlier)
may_stay_after before (Tried at count ∷ earlier) = tried_may_stay at count (file_after before earlier) (may_stay_after before earlier)
may_stay_after before (Synced ∷ earlier) = settled_may_stay (file_after before earlier).content
