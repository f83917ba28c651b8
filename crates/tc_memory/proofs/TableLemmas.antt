-- That a table stays lawful, and what its map of slots is after a change.
use Rattle.std.proofs.Common.{◌≡◌, ◌<◌, ◌^◌, ℕ, Bool, true, false, List, [], ◌∷◌, refl, sym, ap, subst, ◌∙◌}
use Rattle.std.specs.Prelude.{◌==◌, if◌then◌else◌, Option, Some, None, option_map, IfSome, All}
use Rattle.std.specs.Ordering.{nat_cmp}
use Rattle.std.specs.List.Sorted.{IsStrictlySortedBy}
use Rattle.std.specs.Map.{keys_of, lookup, set_value}
use Rattle.std.specs.BTreeMap.{insert_entry, is_at}
use Rattle.std.proofs.lemmas.Bool.{eqb-true}
use Rattle.std.proofs.lemmas.List.Elements.{All-head, All-tail}
use Rattle.tc_model.specs.Document.{ShapeTree}
use Rattle.tc_model.specs.Keyed.{value_of, without_key}
use Rattle.tc_memory.specs.Table.{Held, Kept, Table, IsTable, IsLawfulKept, IsLawfulEntry, below_at, holding}
use Rattle.tc_memory.specs.Meaning.{version_of, kept_of, shape_apart, table_of, held_of, IsLawfulHeld}
use Rattle.tc_memory.specs.declared.held.Held as held
use Rattle.tc_memory.specs.declared.held.Held.TheVariants as variant
use Rattle.tc_memory.specs.declared.slot.Version.{Version}
use Rattle.tc_memory.specs.declared.slot.Slot.{Slot}
use Rattle.tc_model.proofs.KeyedMaps.{option_map-lookup, map-insert_entry, set_value-insert_entry}
use Rattle.tc_model.proofs.KeyedOrder.{sorted-with_value, All-with_value, sorted-without_key, All-without_key}

pub IsTable-holding : (n : ℕ) (held : Held) (handed : Option ShapeTree) (t : Table) → n < 2 ^ 63 → IsLawfulKept held (below_at n handed t) → IsTable t → IsTable (holding n held handed t)
IsTable-holding n held handed t in_range lawful table =
    record {
      ascending = sorted-with_value n (record { held = held; below = below_at n handed t }) t table.ascending;
      entries = All-with_value IsLawfulEntry n (record { held = held; below = below_at n handed t }) t (record { in_range = in_range; lawful = lawful }) table.entries;
    }

pub IsTable-without_key : (n : ℕ) (t : Table) → IsTable t → IsTable (without_key n t)
IsTable-without_key n t table = record { ascending = sorted-without_key n t table.ascending; entries = All-without_key IsLawfulEntry n t table.entries }

-- what is found in the map is what the table has
pub kept_of-lookup : (n : ℕ) (found : Option Slot) (es : List (ℕ × Slot)) → found ≡ lookup (is_at (nat_cmp n)) es → value_of n (table_of es) ≡ option_map kept_of found
kept_of-lookup n found es is = sym (option_map-lookup kept_of n es) ∙ ap (option_map kept_of) (sym is)

-- a version written in place
pub table_of-set_value : (n : ℕ) (version : Version) (handed : Option ShapeTree) (old : Slot) (es : List (ℕ × Slot)) → IsStrictlySortedBy nat_cmp (keys_of es) → Some old ≡ lookup (is_at (nat_cmp n)) es
    → table_of (set_value (is_at (nat_cmp n)) es (record { version = version; below = old.below })) ≡ holding n (version_of version) handed (table_of es)
table_of-set_value n version handed old es ascending found =
    rw (kept_of-lookup n (Some old) es found)
    (ap table_of (set_value-insert_entry n old (record { version = version; below = old.below }) es ascending (sym found)) ∙ map-insert_entry kept_of n (record { version = version; below = old.below }) es)

-- a slot put in
pub table_of-insert_entry : (n : ℕ) (slot : Slot) (es : List (ℕ × Slot)) → None ≡ lookup (is_at (nat_cmp n)) es
    → table_of (insert_entry nat_cmp es n slot) ≡ holding n (version_of slot.version) (shape_apart slot.below) (table_of es)
table_of-insert_entry n slot es absent =
    rw (kept_of-lookup n None es absent) (map-insert_entry kept_of n slot es)

-- what holds of each entry holds of the one found
found_step : (P : ℕ × Kept → Type 0) (b : Bool) (n : ℕ) (e : ℕ × Kept) (rest : Option Kept) → (b ≡ true → n ≡ e.0) → P e → IfSome rest (λ k. P (n, k)) → IfSome (if b then Some e.1 else rest) (λ k. P (n, k))
found_step P true n e rest at first others = subst (λ m. P (m, e.1)) (sym (at refl)) first
found_step P false n e rest at first others = others

found-All : (P : ℕ × Kept → Type 0) (n : ℕ) (t : Table) → All P t → IfSome (value_of n t) (λ k. P (n, k))
found-All P n [] all = tt
found-All P n (e ∷ t) all = found_step P (n == e.0) n e (value_of n t) (eqb-true n e.0) (All-head P e t all) (found-All P n t (All-tail P e t all))

-- what is found is lawful
pub lawful_found : (n : ℕ) (t : Table) (k : Kept) → IsTable t → value_of n t ≡ Some k → IsLawfulKept k.held k.below
lawful_found n t k table found = (subst (λ o. IfSome o (λ k. IsLawfulEntry (n, k))) found (found-All IsLawfulEntry n t table.entries)).lawful

-- and so is what is lent of it
pub lawful_lent : (lent : held.Held) (k : Kept) → held_of lent ≡ k.held → IsLawfulKept k.held k.below → IsLawfulHeld lent
lawful_lent variant.Gone k is lawful = tt
lawful_lent (variant.Live bytes) k is lawful = subst (λ h. IsLawfulKept h k.below) (sym is) lawful
