-- What the entries of a merge leave: what those of its run leave, one after the other.
use Rattle.std.proofs.Common.{◌≡◌, ℕ, Bool, true, false, List, [], ◌∷◌, refl, sym, ap, ◌∙◌, Option, Some, None, filter}
use Rattle.std.specs.Prelude.{◌==◌, if◌then◌else◌, cond, is_some, unwrap_or, fold, All}
use Rattle.std.specs.Option.{option_or}
use Rattle.std.specs.Ordering.{nat_cmp}
use Rattle.std.specs.Map.{keys_of}
use Rattle.std.proofs.lemmas.Bool.{eqb-true}
use Rattle.std.proofs.lemmas.List.Elements.{All-head, All-tail}
use Rattle.std.proofs.lemmas.Map.Keys.{sorted_head, sorted_tail}
use Rattle.tc_model.specs.Document.{Document}
use Rattle.tc_model.specs.Keyed.{Keyed, Ascends, value_of, with_value}
use Rattle.tc_model.proofs.KeyedOrder.{AreAbove, sorted_nil, sorted_cons, sorted-with_value}
use Rattle.tc_model.proofs.KeyedLookups.{value_of-with_value, value_of-above}
use Rattle.tc_model.proofs.KeyedEquality.{same_keyed}
use Rattle.tc_plain_model.specs.Writes.{Pairs, Write, after_writes}
use Rattle.tc_plain_model.proofs.WriteLookups.{last_write, last_write-append, last_write-ascending, or_none, Ascends-after_writes, value_of-after_writes, value_of-after_ascending}
use Rattle.tc_lsm_model.specs.Contents.{Content}
use Rattle.tc_lsm_model.specs.Lists.{held_over, newest_entry}
use Rattle.tc_lsm_model.specs.Merges.{entries_of, last_entries, merged_entries}
use Rattle.tc_lsm_model.proofs.ListLaws.{held_over-entries}

-- ---- the last entry of each key

-- entries put in one after the other
abbrev put_all : Keyed (Option Document) → List Write → Keyed (Option Document)
put_all es ws = fold (λ entries w. with_value w.0 w.1 entries) es ws

Ascends-put_all : (es : Keyed (Option Document)) (ws : List Write) → Ascends es → Ascends (put_all es ws)
Ascends-put_all es [] up = up
Ascends-put_all es (w ∷ ws) up = Ascends-put_all (with_value w.0 w.1 es) ws (sorted-with_value w.0 w.1 es up)

pub Ascends-last_entries : (ws : List Write) → Ascends (last_entries ws)
Ascends-last_entries ws = Ascends-put_all [] ws sorted_nil

value_of-put_all : (k : ℕ) (es : Keyed (Option Document)) (ws : List Write) → value_of k (put_all es ws) ≡ option_or (last_write k ws) (value_of k es)
value_of-put_all k es [] = refl
value_of-put_all k es (w ∷ ws) =
    value_of-put_all k (with_value w.0 w.1 es) ws
    ∙ step (k == w.0) (last_write k ws) (value_of k (with_value w.0 w.1 es)) (value_of-with_value k w.0 w.1 es)
  where
    step : (b : Bool) (last now : Option (Option Document)) → now ≡ (if b then Some w.1 else value_of k es) → option_or last now ≡ option_or (option_or last (if b then Some w.1 else None)) (value_of k es)
    step true None now is = is
    step true (Some x) now is = refl
    step false None now is = is
    step false (Some x) now is = refl

pub value_of-last_entries : (k : ℕ) (ws : List Write) → value_of k (last_entries ws) ≡ last_write k ws
value_of-last_entries k ws = value_of-put_all k [] ws ∙ or_none (last_write k ws)

-- which of contents is the newest entry of the key
newest-last_write : (k : ℕ) (cs : List Content) → All (λ c. Ascends c.entries) cs → last_write k (entries_of cs) ≡ newest_entry k cs
newest-last_write k [] up = refl
newest-last_write k (c ∷ cs) up =
    last_write-append k c.entries (entries_of cs)
    ∙ ap (λ newer. option_or newer (last_write k c.entries)) (newest-last_write k cs (All-tail (λ c. Ascends c.entries) c cs up))
    ∙ ap (option_or (newest_entry k cs)) (last_write-ascending k c.entries (All-head (λ c. Ascends c.entries) c cs up))

-- entries in ascending key that are the newest of their keys are these
pub newest_are_last : (cs : List Content) (entries : List Write) → All (λ c. Ascends c.entries) cs → Ascends entries → ((k : ℕ) → value_of k entries ≡ newest_entry k cs) → entries ≡ last_entries (entries_of cs)
newest_are_last cs entries up ascends newest =
    same_keyed entries (last_entries (entries_of cs)) ascends (Ascends-last_entries (entries_of cs)) (λ k. newest k ∙ sym (value_of-last_entries k (entries_of cs) ∙ newest-last_write k cs up))

-- the last entries leave what all leave
after-last_entries : (p : Pairs) (ws : List Write) → Ascends p → after_writes p (last_entries ws) ≡ after_writes p ws
after-last_entries p ws up = same_keyed (after_writes p (last_entries ws)) (after_writes p ws) (Ascends-after_writes p (last_entries ws) up) (Ascends-after_writes p ws up)
    (λ k. value_of-after_ascending k p (last_entries ws) up (Ascends-last_entries ws)
    ∙ ap (λ last. unwrap_or last (value_of k p)) (value_of-last_entries k ws)
    ∙ sym (value_of-after_writes k p ws up))

-- ---- without what is gone

abbrev pub is_live : Write → Bool
is_live w = is_some w.1

above-live : (n : ℕ) (ws : List Write) → AreAbove n (keys_of ws) → AreAbove n (keys_of (filter is_live ws))
above-live n [] above = tt
above-live n (w ∷ ws) above = left (is_some w.1) (above-live n ws above.1)
  where
    left : (b : Bool) → AreAbove n (keys_of (filter is_live ws)) → AreAbove n (keys_of (cond b (w ∷ filter is_live ws) (filter is_live ws)))
    left true more = (above.0, more)
    left false more = more

Ascends-live_entries : (ws : List Write) → Ascends ws → Ascends (filter is_live ws)
Ascends-live_entries [] up = up
Ascends-live_entries (w ∷ ws) up =
    left (is_some w.1) (above-live w.0 ws (sorted_head nat_cmp w.0 (keys_of ws) up)) (Ascends-live_entries ws (sorted_tail nat_cmp w.0 (keys_of ws) up))
  where
    left : (b : Bool) → AreAbove w.0 (keys_of (filter is_live ws)) → Ascends (filter is_live ws) → Ascends (cond b (w ∷ filter is_live ws) (filter is_live ws))
    left true above more = sorted_cons w.0 (keys_of (filter is_live ws)) above more
    left false above more = more

-- over nothing an entry that is gone shows what no entry shows
shown-live : (k : ℕ) (ws : List Write) → Ascends ws → unwrap_or (value_of k (filter is_live ws)) None ≡ unwrap_or (value_of k ws) None
shown-live k [] up = refl
shown-live k ((n, v) ∷ ws) up =
    step v (k == n) refl (shown-live k ws (sorted_tail nat_cmp n (keys_of ws) up)) (λ here. rw (eqb-true k n here) (value_of-above n ws (sorted_head nat_cmp n (keys_of ws) up)))
  where
    step : (v : Option Document) (b : Bool) → (k == n) ≡ b → unwrap_or (value_of k (filter is_live ws)) None ≡ unwrap_or (value_of k ws) None → (b ≡ true → value_of k ws ≡ None)
        → unwrap_or (value_of k (cond (is_some v) ((n, v) ∷ filter is_live ws) (filter is_live ws))) None ≡ unwrap_or (if b then Some v else value_of k ws) None
    step None true here same none = same ∙ ap (λ o. unwrap_or o None) (none refl)
    step (Some d) true here same none = rw here refl
    step None false here same none = same
    step (Some d) false here same none = rw here same

after-live_entries : (ws : List Write) → after_writes [] (filter is_live (last_entries ws)) ≡ after_writes [] ws
after-live_entries ws =
    let up : Ascends {V = Document} [] = sorted_nil in
    let sorted : Ascends (last_entries ws) = Ascends-last_entries ws in
    same_keyed (after_writes [] (filter is_live (last_entries ws))) (after_writes [] ws) (Ascends-after_writes [] (filter is_live (last_entries ws)) up) (Ascends-after_writes [] ws up)
    (λ k. value_of-after_ascending k [] (filter is_live (last_entries ws)) up (Ascends-live_entries (last_entries ws) sorted)
    ∙ shown-live k (last_entries ws) sorted
    ∙ ap (λ last. unwrap_or last None) (value_of-last_entries k ws)
    ∙ sym (value_of-after_writes k [] ws up))

-- ---- a merge

pub Ascends-merged : (from : ℕ) (cs : List Content) → Ascends (merged_entries from cs)
Ascends-merged from cs = cases (from == 1)
  where
    cases : (b : Bool) → Ascends (if b then filter is_live (last_entries (entries_of cs)) else last_entries (entries_of cs))
    cases true = Ascends-live_entries (last_entries (entries_of cs)) (Ascends-last_entries (entries_of cs))
    cases false = Ascends-last_entries (entries_of cs)

-- a merge leaves what its run leaves, where nothing is older than generation 1
pub after-merged : (p : Pairs) (from : ℕ) (cs : List Content) → Ascends p → (from ≡ 1 → p ≡ []) → after_writes p (merged_entries from cs) ≡ held_over p cs
after-merged p from cs up none = cases (from == 1) (λ one. none (eqb-true from 1 one)) ∙ sym (held_over-entries p cs)
  where
    cases : (b : Bool) → (b ≡ true → p ≡ []) → after_writes p (if b then filter is_live (last_entries (entries_of cs)) else last_entries (entries_of cs)) ≡ after_writes p (entries_of cs)
    cases true nothing = rw (nothing refl) (after-live_entries (entries_of cs))
    cases false nothing = after-last_entries p (entries_of cs) up
