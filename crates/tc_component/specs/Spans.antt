-- Entries, each with where its record lies.
use Rattle.std.specs.Prelude.{◌≡◌, ◌<◌, ◌≤◌, ◌+◌, ℕ, List, slice_get, Some}
use Rattle.tc_component.specs.declared.found.Span.{Span}
use Rattle.tc_component.specs.declared.slot.Slot.{Slot}
use Rattle.tc_component.specs.Fetching.{record_place}
use Rattle.tc_component.specs.Layout.{number_end, records_place}
use Rattle.tc_component.specs.Spelling.{slot, lengths_of}

-- the entry at a position, whose record lies among the others
pub record IsSpan (slots : List Slot) (at : ℕ) (span : Span) : Type 0 where
  pub here : slice_get slots at ≡ Some (slot span.key span.count)
  pub key : span.key < number_end
  pub begin : span.begin ≡ record_place slots at
  pub within : span.begin + span.count ≤ records_place + lengths_of slots

-- the entries from a position on
abbrev pub AreSpans : List Slot → ℕ → List Span → Type 0
AreSpans slots at spans = (n : ℕ) (span : Span) → slice_get spans n ≡ Some span → IsSpan slots (at + n) span
