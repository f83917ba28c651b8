-- What an input has looked up.
use Rattle.std.proofs.Common.{◌≡◌, ◌∙◌, ◌<◌, ◌≤◌, ◌+◌, ◌-◌, ℕ, false, List, None, Some, length, take, get_or, slice_get, sym, ap, arith}
use Rattle.std.specs.Prelude.{◌==◌, if◌then◌else◌, min, option_map, slice_index_or}
use Rattle.std.proofs.lemmas.Bool.Decides.{nat_tests}
use Rattle.std.proofs.lemmas.List.{get_or-take, length-take-le}
use Rattle.std.proofs.lemmas.Option.{slice_get-get_or, slice_get_past}
use Rattle.tc_component.specs.declared.found.Span.{Span}
use Rattle.tc_component.specs.declared.slot.Slot.{Slot}
use Rattle.tc_component.specs.Layout.{number_end}
use Rattle.tc_component.specs.Spans.{IsSpan, AreSpans}
use Rattle.tc_component.specs.Spelling.{Index}
use Rattle.tc_merge.specs.Inputs.{IsNear, key_in, near_size, no_key}
use Rattle.tc_merge.proofs.UpTo.{some_slot}

-- a key of an entry is less than what stands where none is left
pub is_key : (key : ℕ) → key < number_end → key_in key ≡ Some key
is_key key small = let other : (key == no_key) ≡ false = grind (arith, nat_tests) in ap (λ b. if b then None else Some key) other

pub span_at : (slots : List Slot) (base : ℕ) (near : List Span) (held n : ℕ) (d : Span) → AreSpans slots base (take held near) → held ≤ length near → n < held → IsSpan slots (base + n) (slice_index_or near n d)
span_at slots base near held n d spans room less =
    let there : n < length (take held near) = omega (arith, length-take-le held near room, less) in
    spans n (get_or near n d) (slice_get-get_or (take held near) n d there ∙ ap Some (get_or-take held near n d less))

-- the key of an entry is that of its slot
key_there : (slots : List Slot) (at : ℕ) (span : Span) → IsSpan slots at span → key_in span.key ≡ option_map (λ (s : Slot). s.key) (slice_get slots at)
key_there slots at span is = is_key span.key is.key ∙ sym (ap (option_map (λ (s : Slot). s.key)) is.here)

module _ (c : Index) (at : ℕ) (near : List Span) (held : ℕ) where
  pub looked_up_none : at ≤ length c.slots → AreSpans c.slots at (take held near) → length near ≡ near_size → held ≡ min near_size (length c.slots - at) → held ≡ 0 → IsNear c at near held 0 no_key
  looked_up_none within spans long count none =
      let past : length c.slots ≤ at = omega (arith, within, count, none) in
      record {
        within = omega (arith, within);
        spans = spans;
        long = long;
        room = omega (arith, none);
        some = λ more. omega (arith, past, more);
        ahead = sym (ap (option_map (λ (s : Slot). s.key)) (slice_get_past c.slots (at + 0) (omega (arith, past))));
      }

  pub looked_up : (d : Span) → at ≤ length c.slots → AreSpans c.slots at (take held near) → length near ≡ near_size → held ≡ min near_size (length c.slots - at) → 0 < held → IsNear c at near held 0 (slice_index_or near 0 d).key
  looked_up d within spans long count some =
      let room : held ≤ near_size = omega (arith, count) in
      record {
        within = omega (arith, within);
        spans = spans;
        long = long;
        room = room;
        some = λ more. some;
        ahead = key_there c.slots (at + 0) (slice_index_or near 0 d) (span_at c.slots at near held 0 d spans (omega (arith, room, long)) some);
      }

module _ (c : Index) (base : ℕ) (near : List Span) (held step key : ℕ) (is : IsNear c base near held step key) where
  -- the entry that is ahead, where one is left
  pub span_ahead : (d : Span) → base + step < length c.slots → IsSpan c.slots (base + step) (slice_index_or near step d)
  span_ahead d more = span_at c.slots base near held step d is.spans (omega (arith, is.room, is.long)) (is.some more)

  -- one more is behind
  pub passed_one : (d : Span) → base + step < length c.slots → step + 1 < held → IsNear c base near held (step + 1) (slice_index_or near (step + 1) d).key
  passed_one d more less = record {
    within = omega (arith, more);
    spans = is.spans;
    long = is.long;
    room = is.room;
    some = λ further. less;
    ahead = key_there c.slots (base + (step + 1)) (slice_index_or near (step + 1) d) (span_at c.slots base near held (step + 1) d is.spans (omega (arith, is.room, is.long)) less);
  }

  -- where the key that is ahead is one, an entry is left
  pub some_left : (of : ℕ) → key ≡ of → key_in of ≡ Some of → base + step < length c.slots
  some_left of same some =
      let ahead : option_map (λ (s : Slot). s.key) (slice_get c.slots (base + step)) ≡ Some of = sym is.ahead ∙ ap key_in same ∙ some in
      some_slot c.slots (base + step) of ahead
