-- How many keys have a document as directories and tables show: at most one more where the active table changed at one key.
use Rattle.std.proofs.Common.{◌≡◌, ◌≤◌, ◌+◌, ◌++◌, ◌∙◌, ℕ, Bool, true, false, List, [], ◌∷◌, Option, Some, None, length, refl, sym, ap, arith}
use Rattle.std.specs.Prelude.{◌==◌, nat_lt, is_some, if◌then◌else◌, unwrap_or}
use Rattle.std.specs.Option.{option_or}
use Rattle.std.proofs.lemmas.Bool.{eqb-true}
use Rattle.tc_component.specs.Loading.{ComponentState}
use Rattle.tc_memory.specs.Table.{Held, gone, live, Table, below_at, holding, upserted, deleted}
use Rattle.tc_model.proofs.KeyedEquality.{same_keyed}
use Rattle.tc_model.proofs.KeyedLookups.{value_of-without_key}
use Rattle.tc_model.proofs.KeyedOrder.{sorted_nil, sorted-without_key}
use Rattle.tc_model.proofs.ReadValues.{map-with_value, map-without_key}
use Rattle.tc_model.specs.Document.{Document, ShapeTree}
use Rattle.tc_model.specs.Keyed.{Keyed, Ascends, value_of, with_value, without_key}
use Rattle.tc_plain_model.proofs.WriteLookups.{last_write, last_write-append, or_none, value_of-after_writes, Ascends-after_writes}
use Rattle.tc_plain_model.specs.Writes.{Pairs, Write, after_writes}
use Rattle.tc_query.specs.Shown.{live_keys, shown_held, shown_listed, shown_sealed, shown_table}

-- ---- writes that differ at one key

at_key : (k n m : ℕ) → (k == n) ≡ false → (n == m) ≡ true → (k == m) ≡ false
at_key k n m other same = rw (← eqb-true n m same) other

-- a write in front of others counts for its key alone
in_front : (k n : ℕ) (v : Option Document) (ws : List Write) → (k == n) ≡ false → last_write k ((n, v) ∷ ws) ≡ last_write k ws
in_front k n v ws other = rw other (or_none (last_write k ws))

last_write-with_value : (k n : ℕ) (v : Option Document) (es : Keyed (Option Document)) → (k == n) ≡ false → last_write k (with_value n v es) ≡ last_write k es
last_write-with_value k n v [] other = in_front k n v [] other
last_write-with_value k n v (e ∷ es) other = cases (nat_lt n e.0) (n == e.0) refl (last_write-with_value k n v es other)
  where
    cases : (first same : Bool) → (n == e.0) ≡ same → last_write k (with_value n v es) ≡ last_write k es
        → last_write k (if first then (n, v) ∷ e ∷ es else (if same then (e.0, v) ∷ es else e ∷ with_value n v es)) ≡ last_write k (e ∷ es)
    cases true same is more = in_front k n v (e ∷ es) other
    cases false true is more = in_front k e.0 v es (at_key k n e.0 other is) ∙ sym (in_front k e.0 e.1 es (at_key k n e.0 other is))
    cases false false is more = ap (λ last. option_or last (if k == e.0 then Some e.1 else None)) more

last_write-without_key : (k n : ℕ) (es : Keyed (Option Document)) → (k == n) ≡ false → last_write k (without_key n es) ≡ last_write k es
last_write-without_key k n [] other = refl
last_write-without_key k n (e ∷ es) other = cases (n == e.0) refl (last_write-without_key k n es other)
  where
    cases : (same : Bool) → (n == e.0) ≡ same → last_write k (without_key n es) ≡ last_write k es → last_write k (if same then es else e ∷ without_key n es) ≡ last_write k (e ∷ es)
    cases true is more = sym (in_front k e.0 e.1 es (at_key k n e.0 other is))
    cases false is more = ap (λ last. option_or last (if k == e.0 then Some e.1 else None)) more

fewer_without : {V : Type 0} (n : ℕ) (es : Keyed V) → length (without_key n es) ≤ length es
fewer_without n [] = omega arith
fewer_without n (e ∷ es) = cases (n == e.0) (fewer_without n es)
  where
    cases : (same : Bool) → length (without_key n es) ≤ length es → length (if same then es else e ∷ without_key n es) ≤ length (e ∷ es)
    cases true more = omega arith
    cases false more = omega (arith, more)

one_without : {V : Type 0} (n : ℕ) (es : Keyed V) → length es ≤ length (without_key n es) + 1
one_without n [] = omega arith
one_without n (e ∷ es) = cases (n == e.0) (one_without n es)
  where
    cases : (same : Bool) → length es ≤ length (without_key n es) + 1 → length (e ∷ es) ≤ length (if same then es else e ∷ without_key n es) + 1
    cases true more = omega arith
    cases false more = omega (arith, more)

same_without : (n : ℕ) (ps qs : Pairs) → Ascends ps → Ascends qs → ((k : ℕ) → (k == n) ≡ false → value_of k ps ≡ value_of k qs) → without_key n ps ≡ without_key n qs
same_without n ps qs up down same =
    same_keyed (without_key n ps) (without_key n qs) (sorted-without_key n ps up) (sorted-without_key n qs down)
    (λ k. value_of-without_key k n ps up ∙ at k (k == n) refl ∙ sym (value_of-without_key k n qs down))
  where
    at : (k : ℕ) (b : Bool) → (k == n) ≡ b → (if b then None else value_of k ps) ≡ (if b then None else value_of k qs)
    at k true is = refl
    at k false is = same k is

-- what they leave of nothing differs by one document at most
one_changed : (n : ℕ) (us vs : List Write) → ((k : ℕ) → (k == n) ≡ false → last_write k us ≡ last_write k vs) → length (after_writes [] us) ≤ length (after_writes [] vs) + 1
one_changed n us vs same =
    let up = Ascends-after_writes [] us sorted_nil in
    let down = Ascends-after_writes [] vs sorted_nil in
    let alike : (k : ℕ) → (k == n) ≡ false → value_of k (after_writes [] us) ≡ value_of k (after_writes [] vs) = λ k other.
    value_of-after_writes k [] us sorted_nil ∙ ap (λ last. unwrap_or last None) (same k other) ∙ sym (value_of-after_writes k [] vs sorted_nil) in
    let rest = ap (λ (ps : Pairs). length ps) (same_without n (after_writes [] us) (after_writes [] vs) up down alike) in
    omega (arith, one_without n (after_writes [] us), rest, fewer_without n (after_writes [] vs))

-- ---- tables

module _ {F : Type 0} (cs : List (ComponentState F)) (sealed : Option Table) where
  one_more : (n : ℕ) (old new : Table) → ((k : ℕ) → (k == n) ≡ false → last_write k (shown_table new) ≡ last_write k (shown_table old)) → live_keys cs sealed new ≤ live_keys cs sealed old + 1
  one_more n old new same = one_changed n (shown_listed cs ++ (shown_sealed sealed ++ shown_table new)) (shown_listed cs ++ (shown_sealed sealed ++ shown_table old))
      (λ k other.
      behind k (shown_table new) ∙ ap (λ last. option_or (option_or last (last_write k (shown_sealed sealed))) (last_write k (shown_listed cs))) (same k other) ∙ sym (behind k (shown_table old)))
    where
      behind : (k : ℕ) (ws : List Write) → last_write k (shown_listed cs ++ (shown_sealed sealed ++ ws)) ≡ option_or (option_or (last_write k ws) (last_write k (shown_sealed sealed))) (last_write k (shown_listed cs))
      behind k ws = last_write-append k (shown_listed cs) (shown_sealed sealed ++ ws) ∙ ap (λ last. option_or last (last_write k (shown_listed cs))) (last_write-append k (shown_sealed sealed) ws)

  one_more_held : (n : ℕ) (held : Held) (handed : Option ShapeTree) (active : Table) → live_keys cs sealed (holding n held handed active) ≤ live_keys cs sealed active + 1
  one_more_held n held handed active = one_more n active (holding n held handed active)
      (λ k other. ap (last_write k) (map-with_value (λ kept. shown_held kept.held) n (record { held = held; below = below_at n handed active }) active)
      ∙ last_write-with_value k n (shown_held held) (shown_table active) other)

  -- a key's document is set, or taken out
  pub one_more_upserted : (n : ℕ) (bytes : List ℕ) (handed : Option ShapeTree) (active : Table) → live_keys cs sealed (upserted n bytes handed active) ≤ live_keys cs sealed active + 1
  one_more_upserted n bytes handed active = one_more_held n (live bytes) handed active

  pub one_more_deleted : (n : ℕ) (handed : Option ShapeTree) (active : Table) → live_keys cs sealed (deleted n handed active) ≤ live_keys cs sealed active + 1
  one_more_deleted n handed active = at (is_some (below_at n handed active))
    where
      at : (b : Bool) → live_keys cs sealed (if b then holding n gone handed active else without_key n active) ≤ live_keys cs sealed active + 1
      at true = one_more_held n gone handed active
      at false = one_more n active (without_key n active)
          (λ k other. ap (last_write k) (map-without_key (λ kept. shown_held kept.held) n active) ∙ last_write-without_key k n (shown_table active) other)
