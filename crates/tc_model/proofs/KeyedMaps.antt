-- What std's ordered map does to its entries, said of the list of keys and values that they are, each value read by f.
use Rattle.std.proofs.Common.{◌≡◌, ℕ, Bool, true, false, List, [], ◌∷◌, Bor, refl, sym, ap, ◌∙◌}
use Rattle.std.specs.Prelude.{Option, Some, None, map, option_map, option_copied, is_some, nat_lt, ◌==◌, cond, if◌then◌else◌}
use Rattle.std.specs.declared.cmp.Ordering.TheVariants.{Less, Equal, Greater}
use Rattle.std.specs.Ordering.{nat_cmp, match_ordering, is_eq}
use Rattle.std.specs.Cmp.{unsigned_ties, nat_cmp_total}
use Rattle.std.specs.List.Sorted.{IsStrictlySortedBy}
use Rattle.std.specs.Map.{keys_of, lookup, remove_entry, set_value}
use Rattle.std.specs.BTreeMap.{insert_entry, is_at}
use Rattle.std.proofs.lemmas.Map.{lookup-none}
use Rattle.std.proofs.lemmas.Map.Entries.{lookup_tail, none_below_head}
use Rattle.std.proofs.lemmas.Map.Keys.{sorted_tail}
use Rattle.tc_model.specs.Keyed.{Keyed, value_of, with_value, without_key, on_value}
use Rattle.tc_model.proofs.KeyedOrder.{less_by}

-- ---- look-ups

-- one entry looked at, where the map and the list ask the same
lookup_step : {X V : Type 0} (f : X → V) (b c : Bool) (x : X) (rest : Option X) (meant : Option V) → c ≡ b → option_map f rest ≡ meant → option_map f (cond b (Some x) rest) ≡ (if c then Some (f x) else meant)
lookup_step f true c x rest meant e h = rw e refl
lookup_step f false c x rest meant e h = rw e h

pub option_map-lookup : {X V : Type 0} (f : X → V) (n : ℕ) (es : List (ℕ × X)) → option_map f (lookup (is_at (nat_cmp n)) es) ≡ value_of n (map (on_value f) es)
option_map-lookup f n [] = refl
option_map-lookup f n (e ∷ es) =
    lookup_step f (is_eq (nat_cmp n e.0)) (n == e.0) e.1 (lookup (is_at (nat_cmp n)) es) (value_of n (map (on_value f) es)) (unsigned_ties n e.0) (option_map-lookup f n es)

pub is_some-option_map : {X V : Type 0} (f : X → V) (o : Option X) → is_some o ≡ is_some (option_map f o)
is_some-option_map f None = refl
is_some-option_map f (Some x) = refl

pub is_some-lookup : {X V : Type 0} (f : X → V) (n : ℕ) (es : List (ℕ × X)) → is_some (lookup (is_at (nat_cmp n)) es) ≡ is_some (value_of n (map (on_value f) es))
is_some-lookup f n es = is_some-option_map f (lookup (is_at (nat_cmp n)) es) ∙ ap is_some (option_map-lookup f n es)

-- ---- changes

insert_step : {X V : Type 0} (f : X → V) (less same : Bool) (e : ℕ × X) (n : ℕ) (x : X) (es more : List (ℕ × X)) (meant : Keyed V) → map (on_value f) more ≡ meant
    → map (on_value f) (match_ordering (cond less Less (cond same Equal Greater)) ((n, x) ∷ e ∷ es) ((e.0, x) ∷ es) (e ∷ more)) ≡ (if less then (n, f x) ∷ on_value f e ∷ map (on_value f) es else (if same then (e.0, f x) ∷ map (on_value f) es else on_value f e ∷ meant))
insert_step f true same e n x es more meant h = refl
insert_step f false true e n x es more meant h = refl
insert_step f false false e n x es more meant h = ap (λ rest. on_value f e ∷ rest) h

pub map-insert_entry : {X V : Type 0} (f : X → V) (n : ℕ) (x : X) (es : List (ℕ × X)) → map (on_value f) (insert_entry nat_cmp es n x) ≡ with_value n (f x) (map (on_value f) es)
map-insert_entry f n x [] = refl
map-insert_entry f n x (e ∷ es) =
    insert_step f (nat_lt n e.0) (n == e.0) e n x es (insert_entry nat_cmp es n x) (with_value n (f x) (map (on_value f) es)) (map-insert_entry f n x es)

remove_step : {X V : Type 0} (f : X → V) (b c : Bool) (e : ℕ × X) (es more : List (ℕ × X)) (meant : Keyed V) → c ≡ b → map (on_value f) more ≡ meant → map (on_value f) (cond b es (e ∷ more)) ≡ (if c then map (on_value f) es else on_value f e ∷ meant)
remove_step f true c e es more meant same h = rw same refl
remove_step f false c e es more meant same h = rw same (ap (λ rest. on_value f e ∷ rest) h)

pub map-remove_entry : {X V : Type 0} (f : X → V) (n : ℕ) (es : List (ℕ × X)) → map (on_value f) (remove_entry (is_at (nat_cmp n)) es) ≡ without_key n (map (on_value f) es)
map-remove_entry f n [] = refl
map-remove_entry f n (e ∷ es) =
    remove_step f (is_eq (nat_cmp n e.0)) (n == e.0) e es (remove_entry (is_at (nat_cmp n)) es) (without_key n (map (on_value f) es)) (unsigned_ties n e.0) (map-remove_entry f n es)

-- ---- a value written in place

some_is_not_none : {X : Type 0} (x : X) (o : Option X) → o ≡ Some x → o ≡ None → ⊥
some_is_not_none x o some none = cc (some, none)

write_step : {X : Type 0} (less same : Bool) (e : ℕ × X) (n : ℕ) (x : X) (es written inserted : List (ℕ × X)) → (less ≡ true → ⊥) → (same ≡ false → written ≡ inserted)
    → cond (is_eq (cond less Less (cond same Equal Greater))) ((e.0, x) ∷ es) (e ∷ written) ≡ match_ordering (cond less Less (cond same Equal Greater)) ((n, x) ∷ e ∷ es) ((e.0, x) ∷ es) (e ∷ inserted)
write_step true same e n x es written inserted not_less h = absurd (not_less refl)
write_step false true e n x es written inserted not_less h = refl
write_step false false e n x es written inserted not_less h = ap (λ rest. e ∷ rest) (h refl)

-- where the key is there, a value written in place is the value put in
pub set_value-insert_entry : {X : Type 0} (n : ℕ) (old new : X) (es : List (ℕ × X)) → IsStrictlySortedBy nat_cmp (keys_of es) → lookup (is_at (nat_cmp n)) es ≡ Some old
    → set_value (is_at (nat_cmp n)) es new ≡ insert_entry nat_cmp es n new
set_value-insert_entry n old new [] ascending found = absurd (some_is_not_none old None found refl)
set_value-insert_entry n old new (e ∷ es) ascending found =
    write_step (nat_lt n e.0) (n == e.0) e n new es (set_value (is_at (nat_cmp n)) es new) (insert_entry nat_cmp es n new)
    (λ less. some_is_not_none old (lookup (is_at (nat_cmp n)) (e ∷ es)) found (lookup-none (is_at (nat_cmp n)) (e ∷ es) (none_below_head nat_cmp_total n e es ascending (less_by n e.0 less))))
    (λ apart. set_value-insert_entry n old new es (sorted_tail nat_cmp e.0 (keys_of es) ascending) (sym (lookup_tail (is_at (nat_cmp n)) e es (sym (unsigned_ties n e.0) ∙ apart)) ∙ found))
