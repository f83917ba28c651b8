-- The laws of calls on a table.
use Rattle.std.proofs.Common.{◌≡◌, ℕ, Bool, true, false, [], ◌∷◌, refl, sym, ap, ◌∙◌, subst}
use Rattle.std.specs.Prelude.{◌==◌, if◌then◌else◌, Option, Some, None, option_map, is_some, IsSome, IfSome}
use Rattle.std.proofs.lemmas.Bool.{eqb-true, false≢true}
use Rattle.tc_model.specs.Document.{ShapeTree}
use Rattle.tc_model.specs.Keyed.{value_of, with_value, without_key}
use Rattle.tc_memory.specs.Table.{Table, Kept, gone, live, gone_over, shape_kept, below_at}
use Rattle.tc_memory.specs.Calls.{TableCall, upsert, delete, key_of, after_call, Ascends, entry_left, shape_at, KeepsShapesOf, HandsShapeOf, CallsChangeOneKey, CallsKeepFirstShapes, CallsKeepShapesBelow}
use Rattle.tc_model.proofs.KeyedOrder.{sorted-with_value, sorted-without_key}
use Rattle.tc_model.proofs.KeyedLookups.{value_of-with_value, value_of-without_key}

-- ---- one key

delete_ascends : (n : ℕ) (o : Option ShapeTree) (t : Table) → Ascends t → Ascends (if is_some o then with_value n (record { held = gone; below = o }) t else without_key n t)
delete_ascends n None t ascends = sorted-without_key n t ascends
delete_ascends n (Some shape) t ascends = sorted-with_value n (record { held = gone; below = Some shape }) t ascends

ascends_after : (c : TableCall) (t : Table) → Ascends t → Ascends (after_call c t)
ascends_after (upsert n bytes handed) t ascends = sorted-with_value n (record { held = live bytes; below = below_at n handed t }) t ascends
ascends_after (delete n handed) t ascends = delete_ascends n (below_at n handed t) t ascends

delete_leaves : (m n : ℕ) (o : Option ShapeTree) (t : Table) → Ascends t
    → value_of m (if is_some o then with_value n (record { held = gone; below = o }) t else without_key n t) ≡ (if m == n then option_map gone_over o else value_of m t)
delete_leaves m n None t ascends = value_of-without_key m n t ascends
delete_leaves m n (Some shape) t ascends = value_of-with_value m n (record { held = gone; below = Some shape }) t

left_after : (c : TableCall) (t : Table) (m : ℕ) → Ascends t → value_of m (after_call c t) ≡ (if m == key_of c then entry_left c t else value_of m t)
left_after (upsert n bytes handed) t m ascends = value_of-with_value m n (record { held = live bytes; below = below_at n handed t }) t
left_after (delete n handed) t m ascends = delete_leaves m n (below_at n handed t) t ascends

pub change_one_key : CallsChangeOneKey
change_one_key c t n ascends = (ascends_after c t ascends, left_after c t n ascends)

-- ---- the first shape

gone_keeps : (handed : Option ShapeTree) (was : Option Kept) → IsSome was → IsSome (option_map gone_over (shape_kept handed was))
    → option_map (λ k. k.below) (option_map gone_over (shape_kept handed was)) ≡ option_map (λ k. k.below) was
gone_keeps handed None was_there there = absurd (false≢true was_there)
gone_keeps handed (Some k) was_there there = same k.below there
  where
    same : (o : Option ShapeTree) → IsSome (option_map gone_over o)
        → option_map (λ k. k.below) (option_map gone_over o) ≡ Some o
    same None there = absurd (false≢true there)
    same (Some shape) there = refl

live_keeps : (handed : Option ShapeTree) (was : Option Kept) → IsSome was → Some (shape_kept handed was) ≡ option_map (λ k. k.below) was
live_keeps handed None was_there = absurd (false≢true was_there)
live_keeps handed (Some k) was_there = refl

entry_keeps : (c : TableCall) (t : Table) → IsSome (value_of (key_of c) t) → IsSome (entry_left c t) → option_map (λ k. k.below) (entry_left c t) ≡ shape_at (key_of c) t
entry_keeps (upsert n bytes handed) t was_there there = live_keeps handed (value_of n t) was_there
entry_keeps (delete n handed) t was_there there = gone_keeps handed (value_of n t) was_there there

choose_keeps : (b : Bool) (now left was : Option Kept) → now ≡ (if b then left else was) → IsSome now → (b ≡ true → IsSome left → option_map (λ k. k.below) left ≡ option_map (λ k. k.below) was)
    → option_map (λ k. k.below) now ≡ option_map (λ k. k.below) was
choose_keeps true now left was is there keeps = ap (option_map (λ k. k.below)) is ∙ keeps refl (subst IsSome is there)
choose_keeps false now left was is there keeps = ap (option_map (λ k. k.below)) is

one_call : (c : TableCall) (t : Table) (n : ℕ) → Ascends t → IsSome (value_of n t) → IsSome (value_of n (after_call c t)) → shape_at n (after_call c t) ≡ shape_at n t
one_call c t n ascends was_there there =
    choose_keeps (n == key_of c) (value_of n (after_call c t)) (entry_left c t) (value_of n t) (left_after c t n ascends) there
    (λ same left_there. let here : n ≡ key_of c = eqb-true n (key_of c) same in
    subst (λ m. option_map (λ k. k.below) (entry_left c t) ≡ shape_at m t) (sym here) (entry_keeps c t (subst (λ m. IsSome (value_of m t)) here was_there) left_there))

pub keep_first_shapes : CallsKeepFirstShapes
keep_first_shapes [] t n ascends was_there through = refl
keep_first_shapes (c ∷ cs) t n ascends was_there through =
    keep_first_shapes cs (after_call c t) n (ascends_after c t ascends) through.0 through.1 ∙ one_call c t n ascends was_there through.0

-- ---- the shapes of what is below

kept_is : (handed shape : Option ShapeTree) (was : Option Kept) → (was ≡ None → handed ≡ shape) → IfSome was (λ k. k.below ≡ shape) → shape_kept handed was ≡ shape
kept_is handed shape None new old = new refl
kept_is handed shape (Some k) new old = old

gone_is : (shape o : Option ShapeTree) → o ≡ shape → IfSome (option_map gone_over o) (λ k. k.below ≡ shape)
gone_is shape None is = tt
gone_is shape (Some s) is = is

entry_is : (below : ℕ → Option ShapeTree) (c : TableCall) (t : Table) → HandsShapeOf below c t → KeepsShapesOf below t → IfSome (entry_left c t) (λ k. k.below ≡ below (key_of c))
entry_is below (upsert n bytes handed) t hands keeps = kept_is handed (below n) (value_of n t) hands (keeps n)
entry_is below (delete n handed) t hands keeps = gone_is (below n) (below_at n handed t) (kept_is handed (below n) (value_of n t) hands (keeps n))

choose_is : (shape : Option ShapeTree) (b : Bool) (now left was : Option Kept) → now ≡ (if b then left else was) → (b ≡ true → IfSome left (λ k. k.below ≡ shape)) → IfSome was (λ k. k.below ≡ shape) → IfSome now (λ k. k.below ≡ shape)
choose_is shape true now left was is at_key other = rw is (at_key refl)
choose_is shape false now left was is at_key other = rw is other

pub keep_shapes_below : CallsKeepShapesBelow
keep_shapes_below below c t ascends hands keeps =
    λ n. choose_is (below n) (n == key_of c) (value_of n (after_call c t)) (entry_left c t) (value_of n t) (left_after c t n ascends)
    (λ same. let here : n ≡ key_of c = eqb-true n (key_of c) same in
    subst (λ m. IfSome (entry_left c t) (λ k. k.below ≡ below m)) (sym here) (entry_is below c t hands keeps))
    (keeps n)
