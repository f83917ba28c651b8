-- One step of a walk: the places that it moves, and the keys that it finds nowhere.
use Rattle.std.proofs.Common.{◌≡◌, ◌<◌, ◌≤◌, ◌+◌, ◌-◌, ◌⊎◌, ℕ, zero, suc, List, [], ◌∷◌, ◌++◌, Option, Some, None, length, map, get_or, set, take, drop, replicate, append_assoc, append-nil, length-append, refl, sym, ap, ◌∙◌, subst, arith, inl, inr}
use Rattle.std.specs.Map.Iter.{TakesFirst}
use Rattle.std.specs.Prelude.{All, IfSome, slice_get, option_map}
use Rattle.std.specs.Option.{option_or}
use Rattle.std.proofs.Math.Seq.{get_or-append_seam}
use Rattle.std.proofs.lemmas.Bool.{cases_lt}
use Rattle.std.proofs.lemmas.List.{length-map, length-set, length-replicate, drop_all, take_all, take_more}
use Rattle.std.proofs.lemmas.List.Elements.{All-push}
use Rattle.std.proofs.lemmas.Option.{get_or_from_slice_get, same_Some, slice_get-get_or, slice_get-map, slice_get_read, slice_get_within}
use Rattle.tc_component.specs.Columns.{IsFound}
use Rattle.tc_component.specs.Loading.{ComponentState}
use Rattle.tc_component.specs.declared.found.Found.TheVariants.{Absent}
use Rattle.tc_component.specs.declared.slot.Slot.{Slot}
use Rattle.tc_list.specs.Contents.{marks}
use Rattle.tc_list.proofs.Walks.{Walked}
use Rattle.tc_list.specs.Lookups.{HaveNone}
use Rattle.tc_memory.specs.Meaning.{entry_of}
use Rattle.tc_memory.specs.Table.{Table, IsTable}
use Rattle.tc_memory.specs.declared.held.Entry.{Entry}
use Rattle.tc_query.proofs.AheadKeys.{starts_ahead, later_ahead, none_between}
use Rattle.tc_query.specs.Shown.{held_in, held_sealed, held_newest}
use Rattle.tc_query.specs.Walking.{first_key, from_next, entries_ahead, IsAhead, AreAhead, IsFrom, AreFrom, StandAt, IsSealedAhead, IsWalk, IsBefore, IsNext}
use Rattle.tc_query.specs.declared.ahead.Ahead.{Ahead}
use Rattle.tc_query.specs.declared.walk.Walk.{Walk}

-- ---- places

-- the entries at the places of the first components have this key or a greater one
abbrev pub AreFromUpTo : {F : Type 0} → ℕ → ℕ → List (ComponentState F) → List ℕ → Type 0
AreFromUpTo {F} count low cs places = (n at : ℕ) (c : ComponentState F) → n < count → slice_get cs n ≡ Some c → slice_get places n ≡ Some at → IsFrom low c.index.slots at

pub get_set : {X : Type 0} (xs : List X) (n k : ℕ) (x y : X) → slice_get (set xs n x) k ≡ Some y → ((k ≡ n) × (x ≡ y)) ⊎ ((k ≡ n → ⊥) × (slice_get xs k ≡ Some y))
get_set [] n k x y here = absurd (cc)
get_set (z ∷ xs) zero zero x y here = inl (refl, same_Some x y here)
get_set (z ∷ xs) zero (suc k) x y here = inr (λ same. cc, here)
get_set (z ∷ xs) (suc n) zero x y here = inr (λ same. cc, here)
get_set (z ∷ xs) (suc n) (suc k) x y here = elim (get_set xs n k x y here) [
  | inl same ↦ inl (ap suc same.0, same.1)
  | inr there ↦ inr (λ same. there.0 (omega (arith, same)), there.1)
]

-- the place of a component is where its entries ahead begin
pub place_ahead : {F : Type 0} (low : ℕ) (cs : List (ComponentState F)) (places : List ℕ) (at : ℕ) (c : ComponentState F) → AreAhead low cs places → slice_get cs at ≡ Some c
    → IsAhead low (marks c.index.slots) (drop (get_or places at 0) (marks c.index.slots))
place_ahead low cs places at c are here = are.each at (get_or places at 0) c here (slice_get-get_or places at 0 (subst (λ n. at < n) (sym are.many) (slice_get_within cs at c here)))

-- one place moves
pub set_ahead : {F : Type 0} (low : ℕ) (cs : List (ComponentState F)) (places : List ℕ) (at place : ℕ) (c : ComponentState F) → AreAhead low cs places → slice_get cs at ≡ Some c
    → IsAhead low (marks c.index.slots) (drop place (marks c.index.slots)) → AreAhead low cs (set places at place)
set_ahead low cs places at place c are here ahead = record {
  many = length-set places at place ∙ are.many;
  each = λ n p m there now. elim (get_set places at n place p now) [
    | inl same ↦
        let one : c ≡ m = same_Some c m (sym here ∙ ap (slice_get cs) (sym same.0) ∙ there) in
        subst (λ q. IsAhead low (marks m.index.slots) (drop q (marks m.index.slots))) same.1 (subst (λ x. IsAhead low (marks x.index.slots) (drop place (marks x.index.slots))) one ahead)
    | inr old ↦ are.each n p m there old.1
  ];
}

-- so are the first keys there
pub set_from : {F : Type 0} (low : ℕ) (cs : List (ComponentState F)) (places : List ℕ) (at place : ℕ) (c : ComponentState F) → slice_get cs at ≡ Some c → IsFrom low c.index.slots place → AreFromUpTo at low cs places
    → AreFromUpTo (at + 1) low cs (set places at place)
set_from low cs places at place c here from are = λ n p m within there now. elim (get_set places at n place p now) [
  | inl same ↦
      let one : c ≡ m = same_Some c m (sym here ∙ ap (slice_get cs) (sym same.0) ∙ there) in
      subst (IsFrom low m.index.slots) same.1 (subst (λ x. IsFrom low x.index.slots place) one from)
  | inr old ↦ are n p m (let apart = old.0 in before n at within apart) there old.1
]
  where
    before : (n at : ℕ) → n < at + 1 → (n ≡ at → ⊥) → n < at
    before n at within apart = elim (cases_lt n at) [
      | inl less ↦ less
      | inr more ↦ absurd (apart (omega (arith, within, more)))
    ]

pub all_from : {F : Type 0} (i low : ℕ) (cs : List (ComponentState F)) (places : List ℕ) → length cs ≤ i → AreFromUpTo i low cs places → AreFrom low cs places
all_from i low cs places end are = λ n at c here there. let within = slice_get_within cs n c here in are n at c (omega (arith, within, end)) here there

pub later_places : {F : Type 0} (low high : ℕ) (cs : List (ComponentState F)) (places : List ℕ) → low ≤ high → AreAhead low cs places → AreAhead high cs places
later_places low high cs places order are = record {
  many = are.many;
  each = λ n at c here there. later_ahead low high (marks c.index.slots) (drop at (marks c.index.slots)) order (are.each n at c here there);
}

all_at : {X : Type 0} (P : X → Type 0) (xs : List X) (n : ℕ) (x : X) → slice_get xs n ≡ Some x → All P xs → P x
all_at P xs n x here all = subst P (get_or_from_slice_get xs n x x here) (all n x (slice_get_within xs n x here))

-- where no component has a lesser key from one on, their next entries have this key or a greater one
stand : {F : Type 0} (low key : ℕ) (cs : List (ComponentState F)) (places : List ℕ) → low ≤ key → AreAhead low cs places → AreFrom low cs places → ((k : ℕ) → low ≤ k → k < key → HaveNone cs k) → StandAt key cs places
stand {F} low key cs places order are from none = record {
  ahead = later_places low key cs places order are;
  from = λ n at c here there. higher (slice_get c.index.slots at) n at c here refl (from n at c here there);
}
  where
    higher : (o : Option Slot) → (n at : ℕ) (c : ComponentState F) → slice_get cs n ≡ Some c → slice_get c.index.slots at ≡ o → IfSome (option_map (λ s. s.key) o) (λ first. low ≤ first) → IfSome (option_map (λ s. s.key) o) (λ first. key ≤ first)
    higher None n at c here is least = tt
    higher (Some s) n at c here is least = elim (cases_lt s.key key) [
      | inl less ↦ absurd (all_at (λ (m : ComponentState F). IsFound m.index.slots s.key Absent) cs n c here (none s.key least less) at s is refl)
      | inr more ↦ more
    ]

pub stand_next : {F : Type 0} (low : ℕ) (next : Option ℕ) (cs : List (ComponentState F)) (places : List ℕ) → IfSome next (λ key. low ≤ key) → AreAhead low cs places → AreFrom low cs places
    → ((k : ℕ) → low ≤ k → IsBefore k next → HaveNone cs k) → IfSome next (λ key. StandAt key cs places)
stand_next low None cs places order are from none = tt
stand_next low (Some key) cs places order are from none = stand low key cs places order are from none

later_sealed : (low high : ℕ) (sealed : Option Table) (a : Option Ahead) → low ≤ high → IsSealedAhead low sealed a → IsSealedAhead high sealed a
later_sealed low high None None order is = tt
later_sealed low high None (Some a) order is = is
later_sealed low high (Some t) None order is = is
later_sealed low high (Some t) (Some a) order is = later_ahead low high t (entries_ahead a) order is

pub later_walk : {F : Type 0} (low high : ℕ) (cs : List (ComponentState F)) (sealed : Option Table) (active : Table) (walk : Walk) → low ≤ high → IsWalk low cs sealed active walk → IsWalk high cs sealed active walk
later_walk low high cs sealed active walk order is = record {
  listed = later_places low high cs walk.places.items order is.listed;
  sealed_ahead = later_sealed low high sealed walk.sealed order is.sealed_ahead;
  active_ahead = later_ahead low high active (entries_ahead walk.active) order is.active_ahead;
}

-- ---- components one by one

-- the component that a loop sees
pub component_here : {A X : Type 0} (f : A → X) (items : List A) (xs : List X) (at i : ℕ) (a : A) (x : X) → map f items ≡ xs → i < length items → a ≡ get_or items i a → x ≡ f a → at ≡ i → slice_get xs at ≡ Some x
component_here f items xs at i a x same within is one place =
    sym (ap (λ ys. slice_get ys at) same) ∙ ap (slice_get (map f items)) place ∙ slice_get-map f items i ∙ ap (option_map f) (slice_get_read items (length items) i a refl within is) ∙ ap Some (sym one)

pub all_taken : {X : Type 0} (P : X → Type 0) (xs : List X) (i : ℕ) (x : X) → slice_get xs i ≡ Some x → P x → All P (take i xs) → All P (take (i + 1) xs)
all_taken P xs i x here p before = subst (All P) (sym (take_more xs i x (slice_get_within xs i x here) ∙ ap (λ y. take i xs ++ y ∷ []) (get_or_from_slice_get xs i x x here))) (All-push P (take i xs) x before p)

pub taken_whole : {A X : Type 0} (f : A → X) (items : List A) (xs : List X) (i : ℕ) → map f items ≡ xs → length items ≤ i → take i xs ≡ xs
taken_whole f items xs i same end =
    let long : length (map f items) ≡ length xs = ap (λ (ys : List _). length ys) same in
    let many = length-map items f in
    take_all i xs (omega (arith, end, long, many))

pub long_walked : {A X : Type 0} (f : A → X) (items : List A) (xs : List X) (i : ℕ) → map f items ≡ xs → length items ≤ i → length xs ≤ i
long_walked f items xs i same end =
    let long : length (map f items) ≡ length xs = ap (λ (ys : List _). length ys) same in
    let many = length-map items f in
    omega (arith, end, long, many)

-- the last component of those that a walk from the newest one has left
pub last_left : {A F : Type 0} (f : A → ComponentState F) (all left older : List A) (newest : A) (key : ℕ) (cs : List (ComponentState F)) → map f all ≡ cs → Walked f all left key → left ≡ older ++ newest ∷ [] → slice_get cs (length older) ≡ Some (f newest)
last_left f all left older newest key cs same walked last =
    let parts : all ≡ older ++ newest ∷ walked.passed = walked.is ∙ ap (λ xs. xs ++ walked.passed) last ∙ append_assoc older (newest ∷ []) walked.passed in
    let one : length (newest ∷ walked.passed) ≡ suc (length walked.passed) = refl in
    let long = length-append older (newest ∷ walked.passed) in
    let within : length older < length (older ++ newest ∷ walked.passed) = omega (arith, one, long) in
    ap (λ ys. slice_get ys (length older)) (sym same) ∙ slice_get-map f all (length older)
    ∙ ap (option_map f) (ap (λ ys. slice_get ys (length older)) parts ∙ slice_get-get_or (older ++ newest ∷ walked.passed) (length older) newest within
    ∙ ap Some (get_or-append_seam older newest walked.passed newest))

-- what is written back of a slice of a whole vector
pub written_back : {X : Type 0} (new old : List X) (len : ℕ) → length new ≡ length old → len ≡ length old → take len (new ++ drop (length new) old) ≡ new
written_back new old len same long =
    let empty : drop (length new) old ≡ [] = drop_all (length new) old (omega (arith, same)) in
    ap (λ xs. take len (new ++ xs)) empty ∙ ap (take len) (append-nil new) ∙ take_all len new (omega (arith, same, long))

-- ---- the lesser of two keys

pub next_both : (low : ℕ) (a b least : Option ℕ) (P Q R : ℕ → Type 0) → ((k : ℕ) → P k → Q k → R k)
    → ((n : ℕ) → IfSome a (λ key. n ≤ key) → IfSome b (λ key. n ≤ key) → IfSome least (λ key. n ≤ key)) → ((k : ℕ) → IsBefore k least → IsBefore k a) → ((k : ℕ) → IsBefore k least → IsBefore k b)
    → IsNext low a P → IsNext low b Q → IsNext low least R
next_both low a b least P Q R both from first second is_a is_b = (
  from low is_a.0 is_b.0,
  λ k at_least before. both k (is_a.1 k at_least (first k before)) (is_b.1 k at_least (second k before)),
)

-- ---- tables

pub next_tabled : (low : ℕ) (t ahead : Table) (next : Option ℕ) → IsTable t → IsAhead low t ahead → IfSome next (λ key. low ≤ key) → next ≡ first_key ahead → IsNext low next (λ k. held_in k t ≡ None)
next_tabled low t ahead next table a from is = (from, λ k least before. ap (option_map (λ e. e.held)) (none_between low k t ahead table.ascending a least (subst (IsBefore k) is before)))

-- the same of a table that may be missing
pub next_sealed : (low : ℕ) (sealed : Option Table) (old : Option Ahead) (a : Ahead) (ahead : Table) (next : Option ℕ) → IfSome sealed IsTable → IsSealedAhead low sealed old → old ≡ Some a
    → ((t : Table) → IsAhead low t (entries_ahead a) → IsAhead low t ahead) → IfSome next (λ key. low ≤ key) → next ≡ first_key ahead → IsNext low next (λ k. held_sealed k sealed ≡ None)
next_sealed low None old a ahead next table is there more from first = absurd (subst (IsSealedAhead low None) there is)
next_sealed low (Some t) old a ahead next table is there more from first = next_tabled low t ahead next table (more t (subst (IsSealedAhead low (Some t)) there is)) from first

pub next_unsealed : (low : ℕ) (sealed : Option Table) (old : Option Ahead) (next : Option ℕ) → IsSealedAhead low sealed old → old ≡ None → next ≡ None → IsNext low next (λ k. held_sealed k sealed ≡ None)
next_unsealed low None old next is there none = (subst (λ o. IfSome o (λ key. low ≤ key)) (sym none) tt, λ k from before. refl)
next_unsealed low (Some t) old next is there none = absurd (subst (IsSealedAhead low (Some t)) there is)

pub none_newest : (k : ℕ) (sealed : Option Table) (active : Table) → held_sealed k sealed ≡ None → held_in k active ≡ None → held_newest k sealed active ≡ None
none_newest k sealed active older newer = ap (λ o. option_or o (held_sealed k sealed)) newer ∙ older

-- what is behind an entry is the next one, and what is behind that
pub stepped : (next : Option Entry) (behind rest : Table) → TakesFirst entry_of behind next rest → behind ≡ from_next next rest
stepped None behind rest is = is.0
stepped (Some e) behind rest is = is

-- ---- the beginning

take_none : (n : ℕ) → take {A = ℕ} n [] ≡ []
take_none zero = refl
take_none (suc n) = refl

pub get_zeros : (n k at : ℕ) → slice_get (replicate n 0) k ≡ Some at → at ≡ 0
get_zeros zero k at here = absurd (cc)
get_zeros (suc n) zero at here = sym (same_Some 0 at here)
get_zeros (suc n) (suc k) at here = get_zeros n k at here

-- as many places as there are components, each the first
pub start_places : {F : Type 0} (cs : List (ComponentState F)) (places old : List ℕ) (n len : ℕ) → places ≡ take n old ++ replicate (n - len) 0 → old ≡ [] → len ≡ 0 → n ≡ length cs → AreAhead 0 cs places
start_places cs places old n len is none empty many = record {
  many = ap (λ (ps : List ℕ). length ps) zeros ∙ length-replicate n 0 ∙ many;
  each = λ k at c here there. subst (λ p. IsAhead 0 (marks c.index.slots) (drop p (marks c.index.slots))) (sym (get_zeros n k at (ap (λ ps. slice_get ps k) (sym zeros) ∙ there))) (starts_ahead (marks c.index.slots));
}
  where
    left : n - len ≡ n
    left = omega (arith, empty)

    zeros : places ≡ replicate n 0
    zeros = is ∙ ap (λ m. take n old ++ replicate m 0) left ∙ ap (λ xs. take n xs ++ replicate n 0) none ∙ ap (λ xs. xs ++ replicate n 0) (take_none n)
