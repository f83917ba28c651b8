-- Reads of windows, counted component by component.
use Rattle.std.proofs.Common.{◌≡◌, ◌<◌, ◌≤◌, ◌+◌, ◌-◌, ◌*◌, ◌/◌, ◌⊎◌, ℕ, zero, suc, List, [], ◌∷◌, ◌++◌, Option, Some, None, length, map, get_or, set, take, replicate, refl, sym, ap, ◌∙◌, subst, arith, inl, inr, Less}
use Rattle.std.specs.Prelude.{min, slice_get, option_map, unwrap_or, sum_by}
use Rattle.std.specs.List.{AllByRecursion}
use Rattle.std.specs.Ordering.{nat_cmp}
use Rattle.std.specs.declared.alloc.Global.{Global}
use Rattle.std.specs.declared.vec.Vec.{Vec}
use Rattle.std.proofs.Math.Nat.{min-eq_left, min-eq_right, le-div_iff_mul-le}
use Rattle.std.proofs.lemmas.Bool.{cases_lt}
use Rattle.std.proofs.lemmas.Bool.Decides.{nat_tests}
use Rattle.std.proofs.lemmas.List.{length-replicate, length-set}
use Rattle.std.proofs.lemmas.List.Elements.{All-nil}
use Rattle.std.proofs.lemmas.List.Sums.{sum_by-cons, sum_by-set, sum_by-take-le}
use Rattle.std.proofs.lemmas.Map.Keys.{sorted_head, sorted_tail}
use Rattle.std.proofs.lemmas.Option.{same_Some, slice_get-get_or, slice_get_within}
use Rattle.tc_bytes.specs.Counts.{next_count}
use Rattle.tc_component.specs.Columns.{IsFound}
use Rattle.tc_component.specs.Cursors.{CursorState, holds_nothing, HoldsPart, HasRecord, BeginsAtRecord}
use Rattle.tc_component.specs.Fetching.{record_place, length_at}
use Rattle.tc_component.specs.Layout.{records_place, window_size}
use Rattle.tc_component.specs.Loading.{ComponentState}
use Rattle.tc_component.specs.Spelling.{Index, slot, Ascend, lengths_of}
use Rattle.tc_component.specs.declared.found.Found.TheVariants.{At}
use Rattle.tc_component.specs.declared.found.Place.{Place}
use Rattle.tc_component.specs.declared.slot.Slot.{Slot}
use Rattle.tc_query.proofs.WalkSteps.{get_set, get_zeros}
use Rattle.tc_query.specs.Readers.{hops_in, AreHopsIf, IsKnownOrNone, reads_nothing, IsReaderOf, AreReaders}
use Rattle.tc_query.specs.Windows.{record_bytes, most_windows, IsRead, AreRead}
use Rattle.tc_query.specs.declared.reader.Reader.{Reader}
use Rattle.tc_request_model.specs.Request.{Hop}
use Rattle.tc_store.specs.Counted.{Counts}

-- ---- the bytes before an entry

abbrev before : List Slot → ℕ → ℕ
before slots n = lengths_of (take n slots)

first_more : (s : Slot) (slots : List Slot) (n : ℕ) → before (s ∷ slots) (suc n) ≡ s.length + before slots n
first_more s slots n = sum_by-cons (λ (t : Slot). t.length) s (take n slots)

before_grows : (slots : List Slot) (m n : ℕ) → m ≤ n → before slots m ≤ before slots n
before_grows slots zero n order = omega arith
before_grows [] (suc m) n order = omega arith
before_grows (s ∷ slots) (suc m) zero order = absurd (omega (arith, order))
before_grows (s ∷ slots) (suc m) (suc n) order =
    let rest = before_grows slots m n (omega (arith, order)) in
    let here = first_more s slots m in
    let there = first_more s slots n in
    omega (arith, rest, here, there)

before_all : (slots : List Slot) (n : ℕ) → before slots n ≤ lengths_of slots
before_all slots n = sum_by-take-le (λ (t : Slot). t.length) slots n

before_next : (slots : List Slot) (at : ℕ) (s : Slot) → slice_get slots at ≡ Some s → before slots (at + 1) ≡ before slots at + s.length
before_next [] at s here = absurd (cc)
before_next (t ∷ slots) zero s here =
    let same : t ≡ s = same_Some t s here in
    let long : t.length ≡ s.length = ap (λ (u : Slot). u.length) same in
    let one = first_more t slots 0 in
    let none : before slots 0 ≡ 0 = refl in
    omega (arith, one, none, long)
before_next (t ∷ slots) (suc at) s here =
    let rest = before_next slots at s here in
    let one = first_more t slots at in
    let two = first_more t slots (at + 1) in
    let further : suc at + 1 ≡ suc (at + 1) = omega arith in
    let three : before (t ∷ slots) (suc at + 1) ≡ before (t ∷ slots) (suc (at + 1)) = ap (before (t ∷ slots)) further in
    omega (arith, rest, one, two, three)

-- ---- keys before an entry

each_less : (k : ℕ) (slots : List Slot) (at : ℕ) (t : Slot) → AllByRecursion (λ y. nat_cmp k y ≡ Less) (map (λ s. s.key) slots) → slice_get slots at ≡ Some t → k < t.key
each_less k [] at t all here = absurd (cc)
each_less k (u ∷ slots) zero t all here = let less = all.0 in let same : u.key ≡ t.key = ap (λ (v : Slot). v.key) (same_Some u t here) in subst (λ n. k < n) same (grind (arith, nat_tests))
each_less k (u ∷ slots) (suc at) t all here = each_less k slots at t all.1 here

at_most : (slots : List Slot) (n at : ℕ) (s t : Slot) → Ascend slots → slice_get slots n ≡ Some s → slice_get slots at ≡ Some t → n < at + 1 → s.key ≤ t.key
at_most [] n at s t up one two order = absurd (cc)
at_most (u ∷ slots) zero zero s t up one two order =
    let same : s.key ≡ t.key = ap (λ (v : Slot). v.key) (same_Some s t (sym one ∙ two)) in
    omega (arith, same)
at_most (u ∷ slots) zero (suc at) s t up one two order =
    let same : u.key ≡ s.key = ap (λ (v : Slot). v.key) (same_Some u s one) in
    let less = each_less u.key slots at t (sorted_head nat_cmp u.key (map (λ v. v.key) slots) up) two in
    omega (arith, same, less)
at_most (u ∷ slots) (suc n) zero s t up one two order = absurd (omega (arith, order))
at_most (u ∷ slots) (suc n) (suc at) s t up one two order = at_most slots n at s t (sorted_tail nat_cmp u.key (map (λ v. v.key) slots) up) one two (omega (arith, order))

-- ---- reads of one component

pub later_read : (low high : ℕ) (slots : List Slot) (k : CursorState) (r : ℕ) → low ≤ high → IsRead low slots k r → IsRead high slots k r
later_read low high slots k r order (inl none) = inl none
later_read low high slots k r order (inr h) = inr (record {
  passed = h.passed;
  lesser = λ n s within here. let less = h.lesser n s within here in omega (arith, less, order);
  begin = h.begin;
  from = h.from;
  order = h.order;
  full = h.full;
  few = h.few;
})

-- no more than two for each window, and one
abbrev IsFew : List Slot → ℕ → Type 0
IsFew slots r = r * window_size ≤ 2 * lengths_of slots + window_size

few_read : (low : ℕ) (slots : List Slot) (k : CursorState) (r : ℕ) → IsRead low slots k r → IsFew slots r
few_read low slots k r (inl none) = omega (arith, none)
few_read low slots k r (inr h) =
    let few = h.few in
    let order = h.order in
    let all = before_all slots h.passed in
    omega (arith, few, order, all)

-- one more, of the record of an entry that was not held
more_few : (slots : List Slot) (low key at : ℕ) (s : Slot) (k : CursorState) (r : ℕ) → slice_get slots at ≡ Some s → s.key ≡ key → low ≤ key
    → ((k.from ≤ records_place + before slots at) × (records_place + before slots at + s.length ≤ k.from + length k.held) → ⊥) → IsRead low slots k r
    → (r + 1) * window_size ≤ before slots (at + 1) + (before slots at + window_size)
more_few slots low key at s k r here key_is order apart (inl none) = omega (arith, none)
more_few slots low key at s k r here key_is order apart (inr h) = elim (cases_lt at h.passed) [
  | inl less ↦ let lesser = h.lesser at s less here in absurd (omega (arith, lesser, key_is, order))
  | inr passed ↦ elim (cases_lt (k.from + length k.held) (records_place + before slots at + s.length)) [
    | inl beyond ↦ further (before_grows slots h.passed at passed) beyond h.full
    | inr within ↦ absurd (apart (let grows = before_grows slots h.passed at passed in let from = h.from in let begins = h.order in omega (arith, grows, from, begins), within))
  ]
]
  where
    further : before slots h.passed ≤ before slots at → k.from + length k.held < records_place + before slots at + s.length → (window_size ≤ length k.held) ⊎ (lengths_of slots ≤ h.begin + length k.held)
        → (r + 1) * window_size ≤ before slots (at + 1) + (before slots at + window_size)
    further grows beyond (inl full) =
        let next = before_next slots at s here in
        let from = h.from in
        let few = h.few in
        omega (arith, grows, beyond, full, next, from, few)
    further grows beyond (inr whole) =
        let next = before_next slots at s here in
        let all = before_all slots (at + 1) in
        let from = h.from in
        absurd (omega (arith, beyond, whole, next, all, from))

length_there : (slots : List Slot) (at : ℕ) (s : Slot) → slice_get slots at ≡ Some s → length_at slots at ≡ s.length
length_there slots at s here = ap (λ o. unwrap_or (option_map (λ (t : Slot). t.length) o) 0) here

not_held : (c : Index) (at : ℕ) (s : Slot) (k : CursorState) → slice_get c.slots at ≡ Some s → (HasRecord c at k → ⊥) → (k.from ≤ records_place + before c.slots at) × (records_place + before c.slots at + s.length ≤ k.from + length k.held) → ⊥
not_held c at s k here apart held = apart (held.0, subst (λ n. record_place c.slots at + n ≤ k.from + length k.held) (sym (length_there c.slots at s here)) held.1)

pub one_few : (c : Index) (low key at : ℕ) (s : Slot) (k : CursorState) (r : ℕ) → slice_get c.slots at ≡ Some s → s.key ≡ key → low ≤ key → (HasRecord c at k → ⊥) → IsRead low c.slots k r → IsFew c.slots (r + 1)
one_few c low key at s k r here key_is order apart read =
    let few = more_few c.slots low key at s k r here key_is order (not_held c at s k here apart) read in
    let one = before_all c.slots at in
    let two = before_all c.slots (at + 1) in
    omega (arith, few, one, two)

pub one_more : (c : Index) (low key at : ℕ) (s : Slot) (k new : CursorState) (r : ℕ) → Ascend c.slots → slice_get c.slots at ≡ Some s → s.key ≡ key → low ≤ key → (HasRecord c at k → ⊥) → BeginsAtRecord c at new → IsRead low c.slots k r
    → IsRead (key + 1) c.slots new (r + 1)
one_more c low key at s k new r up here key_is order apart begins read = inr (record {
  passed = at + 1;
  lesser = λ n t within there. let most = at_most c.slots n at t s up there here within in omega (arith, most, key_is);
  begin = before c.slots at;
  from = begins.begins;
  order = let next = before_next c.slots at s here in omega (arith, next);
  full = filled;
  few = more_few c.slots low key at s k r here key_is order (not_held c at s k here apart) read;
})
  where
    left : records_place + lengths_of c.slots - (records_place + before c.slots at) ≡ lengths_of c.slots - before c.slots at
    left = omega arith

    filled : (window_size ≤ length new.held) ⊎ (lengths_of c.slots ≤ before c.slots at + length new.held)
    filled =
        let full : min (lengths_of c.slots - before c.slots at) window_size ≤ length new.held = subst (λ n. min n window_size ≤ length new.held) left begins.full in
        elim (cases_lt (lengths_of c.slots - before c.slots at) window_size) [
          | inl less ↦ let all : lengths_of c.slots - before c.slots at ≤ length new.held = subst (λ n. n ≤ length new.held) (min-eq_left (let l = less in omega (arith, l))) full in inr (omega (arith, all))
          | inr more ↦ inl (subst (λ n. n ≤ length new.held) (min-eq_right more) full)
        ]

-- ---- reads of all components

total_few : {F : Type 0} (cs : List (ComponentState F)) (reads : List ℕ) → length reads ≡ length cs → ((n r : ℕ) (c : ComponentState F) → slice_get cs n ≡ Some c → slice_get reads n ≡ Some r → IsFew c.index.slots r)
    → sum_by (λ r. r) reads * window_size ≤ 2 * record_bytes cs + length cs * window_size
total_few [] [] many each = omega arith
total_few [] (r ∷ reads) many each = absurd (cc)
total_few (c ∷ cs) [] many each = absurd (cc)
total_few {F} (c ∷ cs) (r ∷ reads) many each =
    let first = each 0 r c refl refl in
    let rest = total_few cs reads (let m : suc (length reads) ≡ suc (length cs) = many in omega (arith, m)) (λ n q d one two. each (suc n) q d one two) in
    let sums = sum_by-cons (λ (n : ℕ). n) r reads in
    let bytes = sum_by-cons (λ (d : ComponentState F). lengths_of d.index.slots) c cs in
    omega (arith, first, rest, sums, bytes)

within_windows : {F : Type 0} (cs : List (ComponentState F)) (reads : List ℕ) → sum_by (λ r. r) reads * window_size ≤ 2 * record_bytes cs + length cs * window_size → sum_by (λ r. r) reads ≤ most_windows cs
within_windows cs reads few = elim (cases_lt (sum_by (λ r. r) reads) (length cs)) [
  | inl less ↦ omega (arith, less)
  | inr at_least ↦
      let over = sum_by (λ r. r) reads - length cs in
      let part : over * window_size ≤ 2 * record_bytes cs = omega (arith, at_least, few) in
      let parts : over ≤ 2 * record_bytes cs / window_size = (le-div_iff_mul-le {k = window_size} {x = over} {y = 2 * record_bytes cs} (omega arith)).1 part in
      omega (arith, parts, at_least)
]

pub start_read : {F : Type 0} (cs : List (ComponentState F)) (readers : List Reader) (first : ℕ) → AreRead 0 cs readers first first
start_read cs readers first = record {
  reads = replicate (length cs) 0;
  many = length-replicate (length cs) 0;
  each = λ n r c k one two three. inl (get_zeros (length cs) n r three);
  together = omega arith;
}

pub later_reads : {F : Type 0} (low high : ℕ) (cs : List (ComponentState F)) (readers : List Reader) (first now : ℕ) → low ≤ high → AreRead low cs readers first now → AreRead high cs readers first now
later_reads low high cs readers first now order a = record {
  reads = a.reads;
  many = a.many;
  each = λ n r c k one two three. later_read low high c.index.slots k.cursor r order (a.each n r c k one two three);
  together = a.together;
}

pub reads_few : {F : Type 0} (low : ℕ) (cs : List (ComponentState F)) (readers : List Reader) (first now : ℕ) → length readers ≡ length cs → AreRead low cs readers first now → now ≤ first + most_windows cs
reads_few low cs readers first now many a =
    let few = within_windows cs a.reads (total_few cs a.reads a.many (λ n r c one two.
    let k = get_or readers n (reads_nothing None) in
    few_read low c.index.slots k.cursor r (a.each n r c k one (slice_get-get_or readers n (reads_nothing None) (subst (λ m. n < m) (sym many) (slice_get_within cs n c one))) two))) in
    let together = a.together in
    omega (arith, few, together)

module _ {F : Type 0} (low high : ℕ) (cs : List (ComponentState F)) (readers : List Reader) (first now after at more : ℕ) (c : ComponentState F) (k new : Reader) (here : slice_get cs at ≡ Some c) (there : slice_get readers at ≡ Some k)
    (counted : after ≤ now + more) (a : AreRead low cs readers first now) where
  abbrev one : ℕ
  one = get_or a.reads at 0

  within : at < length a.reads
  within = subst (λ n. at < n) (sym a.many) (slice_get_within cs at c here)

  was : slice_get a.reads at ≡ Some one
  was = slice_get-get_or a.reads at 0 within

  together_more : after ≤ first + sum_by (λ r. r) (set a.reads at (one + more))
  together_more =
      let sums : sum_by (λ (r : ℕ). r) (set a.reads at (one + more)) + one ≡ sum_by (λ r. r) a.reads + (one + more) = sum_by-set (λ (r : ℕ). r) a.reads at (one + more) 0 within in
      let together = a.together in
      omega (arith, sums, together, counted)

  -- the reads of one component and its reader go on
  reads_step : low ≤ high → ((r : ℕ) → IsRead low c.index.slots k.cursor r → IsRead high c.index.slots new.cursor (r + more)) → AreRead high cs (set readers at new) first after
  reads_step order goes = record {
    reads = set a.reads at (one + more);
    many = length-set a.reads at (one + more) ∙ a.many;
    each = λ n r d l one_is two_is three_is. elim (get_set a.reads at n (one + more) r three_is) [
      | inl same ↦ elim (get_set readers at n new l two_is) [
        | inl reader ↦
            let d_is : c ≡ d = same_Some c d (sym here ∙ ap (slice_get cs) (sym same.0) ∙ one_is) in
            subst (λ x. IsRead high d.index.slots l.cursor x) same.1
            (subst (λ (x : Reader). IsRead high d.index.slots x.cursor (one + more)) reader.1 (subst (λ (x : ComponentState F). IsRead high x.index.slots new.cursor (one + more)) d_is (goes one (a.each at one c k here there was))))
        | inr old ↦ absurd (old.0 same.0)
      ]
      | inr kept ↦ elim (get_set readers at n new l two_is) [
        | inl reader ↦ absurd (kept.0 reader.0)
        | inr old ↦ later_read low high d.index.slots l.cursor r order (a.each n r d l one_is old.1 kept.1)
      ]
    ];
    together = together_more;
  }

  -- and are few
  reads_bound : length readers ≡ length cs → ((r : ℕ) → IsRead low c.index.slots k.cursor r → IsFew c.index.slots (r + more)) → after ≤ first + most_windows cs
  reads_bound many goes =
      let reads = set a.reads at (one + more) in
      let few = within_windows cs reads (total_few cs reads (length-set a.reads at (one + more) ∙ a.many) (λ n r d one_is three_is. elim (get_set a.reads at n (one + more) r three_is) [
        | inl same ↦
            let d_is : c ≡ d = same_Some c d (sym here ∙ ap (slice_get cs) (sym same.0) ∙ one_is) in
            subst (λ x. IsFew d.index.slots x) same.1 (subst (λ (x : ComponentState F). IsFew x.index.slots (one + more)) d_is (goes one (a.each at one c k here there was)))
        | inr kept ↦
            let l = get_or readers n (reads_nothing None) in
            few_read low d.index.slots l.cursor r (a.each n r d l one_is (slice_get-get_or readers n (reads_nothing None) (subst (λ m. n < m) (sym many) (slice_get_within cs n d one_is))) kept.1)
      ])) in
      let together = together_more in
      omega (arith, few, together)

-- ---- the record of a key

has_or_not : (c : Index) (at : ℕ) (k : CursorState) → HasRecord c at k ⊎ (HasRecord c at k → ⊥)
has_or_not c at k = elim (cases_lt (record_place c.slots at) k.from) [
  | inl less ↦ inr (λ has. let from = has.0 in omega (arith, less, from))
  | inr from ↦ elim (cases_lt (k.from + length k.held) (record_place c.slots at + length_at c.slots at)) [
    | inl less ↦ inr (λ has. let to = has.1 in omega (arith, less, to))
    | inr to ↦ inl (from, to)
  ]
]

module _ {F : Type 0} (cs : List (ComponentState F)) (readers : List Reader) (key n : ℕ) (c : ComponentState F) (place : Place) (k new : Reader) (old now : Counts) (up : Ascend c.index.slots) (is_at : IsFound c.index.slots key (At place))
    (here : slice_get cs n ≡ Some c) (there : slice_get readers n ≡ Some k) (held : HasRecord c.index place.at k.cursor → (new.cursor ≡ k.cursor) × (now ≡ old)) (counted : (now.reads ≡ old.reads) ⊎ (now.reads ≡ next_count old.reads)) where
  same_reads : now ≡ old → now.reads ≤ old.reads + 0
  same_reads same = let reads : now.reads ≡ old.reads = ap (λ (x : Counts). x.reads) same in omega (arith, reads)

  once : now.reads ≤ old.reads + 1
  once = elim counted [
    | inl same ↦ omega (arith, same)
    | inr next ↦ omega (arith, next)
  ]

  no_more : (r : ℕ) → r ≡ r + 0
  no_more r = omega arith

  pub record_read : ((HasRecord c.index place.at k.cursor → ⊥) → BeginsAtRecord c.index place.at new.cursor) → (low first : ℕ) → low ≤ key → AreRead low cs readers first old.reads → AreRead (key + 1) cs (set readers n new) first now.reads
  record_read begins low first order a = elim (has_or_not c.index place.at k.cursor) [
    | inl has ↦
        let same = held has in
        reads_step low (key + 1) cs readers first old.reads now.reads n 0 c k new here there (same_reads same.1) a (omega (arith, order))
        (λ r read. subst (λ x. IsRead (key + 1) c.index.slots new.cursor x) (no_more r) (later_read low (key + 1) c.index.slots new.cursor r (omega (arith, order)) (subst (λ x. IsRead low c.index.slots x r) (sym same.0) read)))
    | inr apart ↦
        reads_step low (key + 1) cs readers first old.reads now.reads n 1 c k new here there once a (omega (arith, order))
        (λ r read. one_more c.index low key place.at (slot key is_at.0) k.cursor new.cursor r up is_at.1 refl order apart (begins apart) read)
  ]

  pub record_few : length readers ≡ length cs → (low first : ℕ) → low ≤ key → AreRead low cs readers first old.reads → now.reads ≤ first + most_windows cs
  record_few many low first order a = elim (has_or_not c.index place.at k.cursor) [
    | inl has ↦
        reads_bound low (key + 1) cs readers first old.reads now.reads n 0 c k new here there (same_reads (held has).1) a many (λ r read. subst (λ x. IsFew c.index.slots x) (no_more r) (few_read low c.index.slots k.cursor r read))
    | inr apart ↦
        reads_bound low (key + 1) cs readers first old.reads now.reads n 1 c k new here there once a many (λ r read. one_few c.index low key place.at (slot key is_at.0) k.cursor r is_at.1 refl order apart read)
  ]

-- ---- readers

-- one that holds no byte and knows no record, with the hops of the path
pub new_reader : {F : Type 0} (told : F → Option (List ℕ)) (path : List Hop) (c : ComponentState F) (hops : Option (Vec ℕ Global)) → AreHopsIf c.index.names path (hops_in hops) → IsReaderOf told path c (reads_nothing hops)
new_reader told path c hops are = record { holds = nothing (told c.file); hops = are; knows = All-nil (IsKnownOrNone c.index.names (hops_in hops)) }
  where
    nothing : (content : Option (List ℕ)) → HoldsPart content holds_nothing
    nothing None = tt
    nothing (Some bytes) = refl

module _ {F : Type 0} (told : F → Option (List ℕ)) (path : List Hop) where
  -- of the first components
  abbrev pub AreFirstReaders : List (ComponentState F) → List Reader → Type 0
  AreFirstReaders cs readers = (n : ℕ) (c : ComponentState F) (k : Reader) → slice_get cs n ≡ Some c → slice_get readers n ≡ Some k → IsReaderOf told path c k

  -- and of one more
  pub pushed_reader : (cs : List (ComponentState F)) (readers : List Reader) (c : ComponentState F) (k : Reader) → AreFirstReaders cs readers → slice_get cs (length readers) ≡ Some c → IsReaderOf told path c k → AreFirstReaders cs (readers ++ k ∷ [])
  pushed_reader [] readers c k are here is n d l one two = absurd (cc)
  pushed_reader (m ∷ cs) [] c k are here is zero d l one two = subst (λ x. IsReaderOf told path x l) (same_Some c d (sym here ∙ one)) (subst (IsReaderOf told path c) (same_Some k l two) is)
  pushed_reader (m ∷ cs) [] c k are here is (suc n) d l one two = absurd (cc)
  pushed_reader (m ∷ cs) (j ∷ readers) c k are here is zero d l one two = are 0 d l one two
  pushed_reader (m ∷ cs) (j ∷ readers) c k are here is (suc n) d l one two = pushed_reader cs readers c k (λ i x y here there. are (suc i) x y here there) here is n d l one two

pub set_readers : {F : Type 0} (told : F → Option (List ℕ)) (path : List Hop) (cs : List (ComponentState F)) (readers : List Reader) (at : ℕ) (c : ComponentState F) (new : Reader) → AreReaders told path cs readers → slice_get cs at ≡ Some c
    → IsReaderOf told path c new → AreReaders told path cs (set readers at new)
set_readers {F} told path cs readers at c new are here holds = record {
  many = length-set readers at new ∙ are.many;
  each = λ n d k one two. elim (get_set readers at n new k two) [
    | inl same ↦
        let d_is : c ≡ d = same_Some c d (sym here ∙ ap (slice_get cs) (sym same.0) ∙ one) in
        subst (λ (x : ComponentState F). IsReaderOf told path x k) d_is (subst (IsReaderOf told path c) same.1 holds)
    | inr old ↦ are.each n d k one old.1
  ];
}
