-- What directories and tables show of one key.
use Rattle.std.proofs.Common.{◌≡◌, ◌≤◌, ◌+◌, ℕ, zero, suc, Bool, true, false, List, [], ◌∷◌, ◌++◌, Option, Some, None, map, drop, length, refl, sym, ap, ◌∙◌, subst, arith}
use Rattle.std.specs.Prelude.{◌==◌, nat_lt, All, if◌then◌else◌, option_map, unwrap_or}
use Rattle.std.specs.Option.{option_or}
use Rattle.std.proofs.lemmas.Bool.{eqb-true, lt-ltb}
use Rattle.std.proofs.lemmas.List.Elements.{All-head, All-tail}
use Rattle.std.proofs.lemmas.List.Sums.{length-filter, count_by-le-length}
use Rattle.std.proofs.lemmas.Option.{same_Some, slice_get-map}
use Rattle.tc_component.specs.Columns.{IsFound}
use Rattle.tc_component.specs.Loading.{ComponentState}
use Rattle.tc_component.specs.Spelling.{IsIndex, Ascend}
use Rattle.tc_component.specs.declared.found.Found.TheVariants.{Absent, At}
use Rattle.tc_component.specs.declared.found.Place.{Place}
use Rattle.tc_component.specs.declared.slot.Slot.{Slot}
use Rattle.tc_list.proofs.KeyedPlaces.{value_of-at}
use Rattle.tc_list.specs.Lookups.{HaveNone, IsNewest}
use Rattle.tc_memory.specs.Table.{Table}
use Rattle.tc_model.proofs.KeyedOrder.{sorted_nil}
use Rattle.tc_model.specs.Keyed.{Ascends, value_of}
use Rattle.tc_plain_model.proofs.WriteLookups.{last_write, last_write-append, last_write-ascending, value_of-after_writes, Ascends-after_writes}
use Rattle.tc_plain_model.specs.Writes.{Pairs}
use Rattle.tc_query.proofs.AheadKeys.{Ascends-slots}
use Rattle.tc_query.specs.Rows.{below}
use Rattle.tc_query.specs.Shown.{held_in, held_sealed, held_newest, IsListed, unread, shown_slot, shown_held, shown_listed, shown_table, shown_sealed, shown}

pub Ascends-shown : {F : Type 0} (cs : List (ComponentState F)) (sealed : Option Table) (active : Table) → Ascends (shown cs sealed active)
Ascends-shown cs sealed active = Ascends-after_writes [] (shown_listed cs ++ (shown_sealed sealed ++ shown_table active)) sorted_nil

-- ---- tables

none_tabled : (t : Table) (key : ℕ) → held_in key t ≡ None → last_write key (shown_table t) ≡ None
none_tabled [] key none = refl
none_tabled (e ∷ t) key none = cases (key == e.0) none (none_tabled t key)
  where
    cases : (b : Bool) → option_map (λ k. k.held) (if b then Some e.1 else value_of key t) ≡ None → (held_in key t ≡ None → last_write key (shown_table t) ≡ None)
        → option_or (last_write key (shown_table t)) (if b then Some (shown_held e.1.held) else None) ≡ None
    cases true is rest = cc
    cases false is rest = rw (rest is) refl

none_sealed : (sealed : Option Table) (key : ℕ) → held_sealed key sealed ≡ None → last_write key (shown_sealed sealed) ≡ None
none_sealed None key none = refl
none_sealed (Some t) key none = none_tabled t key none

first_none : {X : Type 0} (a b : Option X) → option_or a b ≡ None → a ≡ None
first_none None b is = refl
first_none (Some x) b is = is

second_none : {X : Type 0} (a b : Option X) → option_or a b ≡ None → b ≡ None
second_none None b is = is
second_none (Some x) b is = absurd (cc)

pub no_active : (key : ℕ) (sealed : Option Table) (active : Table) → held_newest key sealed active ≡ None → held_in key active ≡ None
no_active key sealed active none = first_none (held_in key active) (held_sealed key sealed) none

pub no_sealed : (key : ℕ) (sealed : Option Table) (active : Table) → held_newest key sealed active ≡ None → held_sealed key sealed ≡ None
no_sealed key sealed active none = second_none (held_in key active) (held_sealed key sealed) none

-- where no table has the key the components decide
untabled : {F : Type 0} (cs : List (ComponentState F)) (sealed : Option Table) (active : Table) (key : ℕ) → held_newest key sealed active ≡ None
    → value_of key (shown cs sealed active) ≡ unwrap_or (last_write key (shown_listed cs)) None
untabled cs sealed active key none =
    value_of-after_writes key [] (shown_listed cs ++ (shown_sealed sealed ++ shown_table active)) sorted_nil
    ∙ ap (λ last. unwrap_or last None)
    (last_write-append key (shown_listed cs) (shown_sealed sealed ++ shown_table active)
    ∙ ap (λ last. option_or last (last_write key (shown_listed cs)))
    (last_write-append key (shown_sealed sealed) (shown_table active)
    ∙ ap (λ last. option_or last (last_write key (shown_sealed sealed))) (none_tabled active key (no_active key sealed active none)) ∙ none_sealed sealed key (no_sealed key sealed active none)))

-- ---- directories

none_slots : (slots : List Slot) (key : ℕ) → IsFound slots key Absent → last_write key (map shown_slot slots) ≡ None
none_slots [] key none = refl
none_slots (s ∷ slots) key none = cases (key == s.key) (λ same. none 0 s refl (sym (eqb-true key s.key same))) (none_slots slots key (λ at t here. none (suc at) t here))
  where
    cases : (b : Bool) → (b ≡ true → ⊥) → last_write key (map shown_slot slots) ≡ None → option_or (last_write key (map shown_slot slots)) (if b then Some (shown_slot s).1 else None) ≡ None
    cases true other rest = absurd (other refl)
    cases false other rest = rw rest refl

live_slots : (slots : List Slot) (key : ℕ) (place : Place) → Ascend slots → IsFound slots key (At place) → last_write key (map shown_slot slots) ≡ Some (Some unread)
live_slots slots key place up (bytes, here, some) =
    let ascends = Ascends-slots shown_slot (λ s. refl) slots up in
    last_write-ascending key (map shown_slot slots) ascends
    ∙ value_of-at (map shown_slot slots) place.at (shown_slot (record { key = key; length = bytes })) ascends (slice_get-map shown_slot slots place.at ∙ ap (option_map shown_slot) here)
    ∙ ap (λ b. Some (if b then Some unread else None)) (lt-ltb 0 bytes some)

none_listed : {F : Type 0} (cs : List (ComponentState F)) (key : ℕ) → HaveNone cs key → last_write key (shown_listed cs) ≡ None
none_listed [] key none = refl
none_listed (c ∷ cs) key none =
    last_write-append key (map shown_slot c.index.slots) (shown_listed cs)
    ∙ ap (λ last. option_or last (last_write key (map shown_slot c.index.slots))) (none_listed cs key (All-tail (λ m. IsFound m.index.slots key Absent) c cs none))
    ∙ none_slots c.index.slots key (All-head (λ m. IsFound m.index.slots key Absent) c cs none)

live_listed : {F : Type 0} (cs : List (ComponentState F)) (key at : ℕ) (place : Place) → All (λ c. IsIndex c.index) cs → IsNewest cs key at (At place) → last_write key (shown_listed cs) ≡ Some (Some unread)
live_listed [] key at place lawful n = let here = n.here in absurd (cc)
live_listed (c ∷ cs) key zero place lawful n =
    let same : c ≡ n.component = same_Some c n.component n.here in
    last_write-append key (map shown_slot c.index.slots) (shown_listed cs)
    ∙ ap (λ last. option_or last (last_write key (map shown_slot c.index.slots))) (none_listed cs key n.newer)
    ∙ live_slots c.index.slots key place (All-head (λ m. IsIndex m.index) c cs lawful).ascend (subst (λ m. IsFound m.index.slots key (At place)) (sym same) n.has)
live_listed (c ∷ cs) key (suc at) place lawful n =
    let further : suc at + 1 ≡ suc (at + 1) = omega arith in
    let rest : IsNewest cs key at (At place) = record { component = n.component; here = n.here; has = n.has; newer = subst (λ m. HaveNone (drop m (c ∷ cs)) key) further n.newer } in
    last_write-append key (map shown_slot c.index.slots) (shown_listed cs)
    ∙ ap (λ last. option_or last (last_write key (map shown_slot c.index.slots))) (live_listed cs key at place (All-tail (λ m. IsIndex m.index) c cs lawful) rest)

-- ---- all sources

pub none_shown : {F : Type 0} (cs : List (ComponentState F)) (sealed : Option Table) (active : Table) (key : ℕ) → HaveNone cs key → held_newest key sealed active ≡ None → value_of key (shown cs sealed active) ≡ None
none_shown cs sealed active key listed tabled = untabled cs sealed active key tabled ∙ ap (λ last. unwrap_or last None) (none_listed cs key listed)

pub live_shown : {F : Type 0} (cs : List (ComponentState F)) (sealed : Option Table) (active : Table) (key : ℕ) → All (λ c. IsIndex c.index) cs → IsListed cs sealed active key
    → value_of key (shown cs sealed active) ≡ Some unread
live_shown cs sealed active key lawful is =
    untabled cs sealed active key is.untabled ∙ ap (λ last. unwrap_or last None) (live_listed cs key is.component is.place lawful is.listed)

-- ---- how many there are

pub few_below : (low : ℕ) (ps : Pairs) → length (below low ps) ≤ length ps
few_below low ps = let same = length-filter (λ e. nat_lt e.0 low) ps in let few = count_by-le-length (λ e. nat_lt e.0 low) ps in omega (arith, same, few)
