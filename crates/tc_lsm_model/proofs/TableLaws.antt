-- A table keeps the shapes of what lies below it, and shows what its writes leave of that.
use Rattle.std.proofs.Common.{◌≡◌, ℕ, Bool, true, false, List, [], ◌∷◌, refl, sym, ap, ◌∙◌, subst, Option, Some, None}
use Rattle.std.specs.Prelude.{◌==◌, if◌then◌else◌, option_map, unwrap_or, IfSome, IsSome, fold}
use Rattle.std.specs.Option.{option_or}
use Rattle.std.proofs.lemmas.Bool.{eqb-true}
use Rattle.tc_model.specs.Document.{Document, ShapeTree, document_shape}
use Rattle.tc_model.specs.Keyed.{Ascends, value_of}
use Rattle.tc_model.proofs.KeyedOrder.{sorted_nil, sorted-with_value, sorted-without_key}
use Rattle.tc_model.proofs.KeyedLookups.{value_of-with_value, value_of-without_key}
use Rattle.tc_model.proofs.KeyedEquality.{same_keyed}
use Rattle.tc_model.proofs.ReadValues.{value_of-read, Ascends-read}
use Rattle.tc_plain_model.specs.Writes.{Pairs, Write, after_write, after_writes}
use Rattle.tc_plain_model.proofs.WriteLookups.{last_write, or_none, Ascends-after_write, Ascends-after_writes, value_of-after_write, value_of-after_writes, value_of-after_ascending}
use Rattle.tc_lsm_model.specs.Tables.{Slot, slot, Table, writes_of, over, shape_in, KeepsShapes, shape_kept, gone_at, table_with, table_over}

-- ---- the writes of a table

pub Ascends-writes_of : (t : Table) → Ascends t → Ascends (writes_of t)
Ascends-writes_of t up = Ascends-read (λ s. s.held) t up

-- what a slot holds, if there is one
abbrev held_of : Option Slot → Option (Option Document)
held_of o = option_map (λ s. s.held) o

-- what is stored at a key with a table over it: what the table holds, or else what is below
value_of-over : (k : ℕ) (p : Pairs) (t : Table) → Ascends p → Ascends t → value_of k (over p t) ≡ unwrap_or (held_of (value_of k t)) (value_of k p)
value_of-over k p t up table = value_of-after_ascending k p (writes_of t) up (Ascends-writes_of t table) ∙ ap (λ o. unwrap_or o (value_of k p)) (value_of-read (λ s. s.held) k t)

pub held_in_table : (p : Pairs) (t : Table) (k : ℕ) (s : Slot) → Ascends p → Ascends t → value_of k t ≡ Some s → value_of k (over p t) ≡ s.held
held_in_table p t k s up table there = value_of-over k p t up table ∙ ap (λ o. unwrap_or (held_of o) (value_of k p)) there

pub held_below : (p : Pairs) (t : Table) (k : ℕ) → Ascends p → Ascends t → value_of k t ≡ None → value_of k (over p t) ≡ value_of k p
held_below p t k up table none = value_of-over k p t up table ∙ ap (λ o. unwrap_or (held_of o) (value_of k p)) none

-- ---- one write

-- what a write leaves at its key
abbrev left : (ℕ → Option ShapeTree) → Table → Write → Option Slot
left below t (key, Some d) = Some (slot (Some d) (shape_kept (below key) (value_of key t)))
left below t (key, None) = option_map (λ shape. slot None (Some shape)) (shape_kept (below key) (value_of key t))

Ascends-gone : (key : ℕ) (o : Option ShapeTree) (t : Table) → Ascends t → Ascends (gone_at key o t)
Ascends-gone key None t up = sorted-without_key key t up
Ascends-gone key (Some shape) t up = sorted-with_value key (slot None (Some shape)) t up

Ascends-table_with : (below : ℕ → Option ShapeTree) (t : Table) (w : Write) → Ascends t → Ascends (table_with below t w)
Ascends-table_with below t (key, Some d) up = sorted-with_value key (slot (Some d) (shape_kept (below key) (value_of key t))) t up
Ascends-table_with below t (key, None) up = Ascends-gone key (shape_kept (below key) (value_of key t)) t up

value_of-gone : (k key : ℕ) (o : Option ShapeTree) (t : Table) → Ascends t → value_of k (gone_at key o t) ≡ (if k == key then option_map (λ shape. slot None (Some shape)) o else value_of k t)
value_of-gone k key None t up = value_of-without_key k key t up
value_of-gone k key (Some shape) t up = value_of-with_value k key (slot None (Some shape)) t

value_of-table_with : (k : ℕ) (below : ℕ → Option ShapeTree) (t : Table) (w : Write) → Ascends t → value_of k (table_with below t w) ≡ (if k == w.0 then left below t w else value_of k t)
value_of-table_with k below t (key, Some d) up = value_of-with_value k key (slot (Some d) (shape_kept (below key) (value_of key t))) t
value_of-table_with k below t (key, None) up = value_of-gone k key (shape_kept (below key) (value_of key t)) t up

-- ---- the shapes below

kept_is : (shape : Option ShapeTree) (was : Option Slot) → IfSome was (λ s. s.below ≡ shape) → shape_kept shape was ≡ shape
kept_is shape None is = refl
kept_is shape (Some s) is = is

left_shape : (p : Pairs) (t : Table) (w : Write) → KeepsShapes p t → IfSome (left (shape_in p) t w) (λ s. s.below ≡ shape_in p w.0)
left_shape p t (key, Some d) keeps = kept_is (shape_in p key) (value_of key t) (keeps.shapes key)
left_shape p t (key, None) keeps = gone (shape_kept (shape_in p key) (value_of key t)) (kept_is (shape_in p key) (value_of key t) (keeps.shapes key))
  where
    gone : (o : Option ShapeTree) → o ≡ shape_in p key → IfSome (option_map (λ shape. slot None (Some shape)) o) (λ s. s.below ≡ shape_in p key)
    gone None is = tt
    gone (Some shape) is = is

left_gone : (below : ℕ → Option ShapeTree) (t : Table) (w : Write) → IfSome (left below t w) (λ s. s.held ≡ None → IsSome s.below)
left_gone below t (key, Some d) = λ e. absurd (cc)
left_gone below t (key, None) = gone (shape_kept (below key) (value_of key t))
  where
    is_there : (shape : ShapeTree) → IsSome (Some shape)
    is_there shape = refl

    gone : (o : Option ShapeTree) → IfSome (option_map (λ shape. slot None (Some shape)) o) (λ s. s.held ≡ None → IsSome s.below)
    gone None = tt
    gone (Some shape) = λ e. is_there shape

at_either : (P : Slot → Type 0) (b : Bool) (now new old : Option Slot) → now ≡ (if b then new else old) → (b ≡ true → IfSome new P) → IfSome old P → IfSome now P
at_either P true now new old is at_key other = rw is (at_key refl)
at_either P false now new old is at_key other = rw is other

KeepsShapes-table_with : (p : Pairs) (t : Table) (w : Write) → Ascends t → KeepsShapes p t → KeepsShapes p (table_with (shape_in p) t w)
KeepsShapes-table_with p t w up keeps = record {
  shapes = λ k. at_either (λ s. s.below ≡ shape_in p k) (k == w.0) (value_of k (table_with (shape_in p) t w)) (left (shape_in p) t w) (value_of k t) (value_of-table_with k (shape_in p) t w up)
      (λ same. subst (λ n. IfSome (left (shape_in p) t w) (λ s. s.below ≡ shape_in p n)) (sym (eqb-true k w.0 same)) (left_shape p t w keeps)) (keeps.shapes k);
  gone = λ k. at_either (λ s. s.held ≡ None → IsSome s.below) (k == w.0) (value_of k (table_with (shape_in p) t w)) (left (shape_in p) t w) (value_of k t) (value_of-table_with k (shape_in p) t w up)
      (λ same. left_gone (shape_in p) t w) (keeps.gone k);
}

-- ---- what is shown

shown_left : (p : Pairs) (t : Table) (w : Write) → KeepsShapes p t → unwrap_or (held_of (left (shape_in p) t w)) (value_of w.0 p) ≡ w.1
shown_left p t (key, Some d) keeps = refl
shown_left p t (key, None) keeps = rw (kept_is (shape_in p key) (value_of key t) (keeps.shapes key)) (gone (value_of key p))
  where
    gone : (v : Option Document) → unwrap_or (held_of (option_map (λ shape. slot None (Some shape)) (option_map document_shape v))) v ≡ None
    gone None = refl
    gone (Some d) = refl

shown_at : (k : ℕ) (p : Pairs) (t : Table) (w : Write) → Ascends p → Ascends t → KeepsShapes p t → value_of k (over p (table_with (shape_in p) t w)) ≡ value_of k (after_write (over p t) w)
shown_at k p t w up table keeps =
    value_of-over k p (table_with (shape_in p) t w) up (Ascends-table_with (shape_in p) t w table)
    ∙ step (k == w.0) (value_of k (table_with (shape_in p) t w)) (value_of-table_with k (shape_in p) t w table)
    (λ same. subst (λ n. unwrap_or (held_of (left (shape_in p) t w)) (value_of n p) ≡ w.1) (sym (eqb-true k w.0 same)) (shown_left p t w keeps))
    ∙ ap (λ v. if k == w.0 then w.1 else v) (sym (value_of-over k p t up table))
    ∙ sym (value_of-after_write k (over p t) w (Ascends-after_writes p (writes_of t) up))
  where
    step : (b : Bool) (now : Option Slot) → now ≡ (if b then left (shape_in p) t w else value_of k t) → (b ≡ true → unwrap_or (held_of (left (shape_in p) t w)) (value_of k p) ≡ w.1)
        → unwrap_or (held_of now) (value_of k p) ≡ (if b then w.1 else unwrap_or (held_of (value_of k t)) (value_of k p))
    step true now is here = rw is (here refl)
    step false now is here = rw is refl

over-table_with : (p : Pairs) (t : Table) (w : Write) → Ascends p → Ascends t → KeepsShapes p t → over p (table_with (shape_in p) t w) ≡ after_write (over p t) w
over-table_with p t w up table keeps =
    same_keyed (over p (table_with (shape_in p) t w)) (after_write (over p t) w)
    (Ascends-after_writes p (writes_of (table_with (shape_in p) t w)) up)
    (Ascends-after_write (over p t) w (Ascends-after_writes p (writes_of t) up))
    (λ k. shown_at k p t w up table keeps)

-- ---- all writes

-- what a table made by writes is
pub record IsTableOver (p : Pairs) (t : Table) : Type 0 where
  pub ascends : Ascends t
  pub keeps : KeepsShapes p t

IsTableOver-nil : (p : Pairs) → IsTableOver p []
IsTableOver-nil p = record { ascends = sorted_nil; keeps = record { shapes = λ k. tt; gone = λ k. tt } }

IsTableOver-with : (p : Pairs) (t : Table) (w : Write) → IsTableOver p t → IsTableOver p (table_with (shape_in p) t w)
IsTableOver-with p t w is = record { ascends = Ascends-table_with (shape_in p) t w is.ascends; keeps = KeepsShapes-table_with p t w is.ascends is.keeps }

IsTableOver-after : (p : Pairs) (t : Table) (ws : List Write) → IsTableOver p t → IsTableOver p (fold (table_with (shape_in p)) t ws)
IsTableOver-after p t [] is = is
IsTableOver-after p t (w ∷ ws) is = IsTableOver-after p (table_with (shape_in p) t w) ws (IsTableOver-with p t w is)

pub IsTableOver-table_over : (p : Pairs) (ws : List Write) → IsTableOver p (table_over p ws)
IsTableOver-table_over p ws = IsTableOver-after p [] ws (IsTableOver-nil p)

over-after : (p : Pairs) (t : Table) (ws : List Write) → Ascends p → IsTableOver p t → over p (fold (table_with (shape_in p)) t ws) ≡ after_writes (over p t) ws
over-after p t [] up is = refl
over-after p t (w ∷ ws) up is =
    over-after p (table_with (shape_in p) t w) ws up (IsTableOver-with p t w is) ∙ ap (λ q. after_writes q ws) (over-table_with p t w up is.ascends is.keeps)

-- it shows what the writes leave
pub over-table_over : (p : Pairs) (ws : List Write) → Ascends p → over p (table_over p ws) ≡ after_writes p ws
over-table_over p ws up = over-after p [] ws up (IsTableOver-nil p)

-- ---- the documents that a table holds

held_last : (k : ℕ) (p : Pairs) (t : Table) (ws : List Write) → Ascends t
    → unwrap_or (held_of (value_of k (fold (table_with (shape_in p)) t ws))) None ≡ unwrap_or (option_or (last_write k ws) (held_of (value_of k t))) None
held_last k p t [] up = refl
held_last k p t (w ∷ ws) up =
    held_last k p (table_with (shape_in p) t w) ws (Ascends-table_with (shape_in p) t w up)
    ∙ step (last_write k ws) (k == w.0) (value_of k (table_with (shape_in p) t w)) (value_of-table_with k (shape_in p) t w up)
  where
    left_held : (w : Write) → unwrap_or (held_of (left (shape_in p) t w)) None ≡ w.1
    left_held (key, Some d) = refl
    left_held (key, None) = gone (shape_kept (shape_in p key) (value_of key t))
      where
        gone : (o : Option ShapeTree) → unwrap_or (held_of (option_map (λ shape. slot None (Some shape)) o)) None ≡ None
        gone None = refl
        gone (Some shape) = refl

    step : (last : Option (Option Document)) (b : Bool) (now : Option Slot) → now ≡ (if b then left (shape_in p) t w else value_of k t)
        → unwrap_or (option_or last (held_of now)) None ≡ unwrap_or (option_or (option_or last (if b then Some w.1 else None)) (held_of (value_of k t))) None
    step (Some v) b now is = refl
    step None true now is = ap (λ o. unwrap_or (held_of o) None) is ∙ left_held w
    step None false now is = ap (λ o. unwrap_or (held_of o) None) is

-- they are those that the writes leave of nothing
pub alone-table_over : (p : Pairs) (ws : List Write) → after_writes [] (writes_of (table_over p ws)) ≡ after_writes [] ws
alone-table_over p ws =
    let nothing : Ascends {V = Document} [] = sorted_nil in
    let none : Ascends {V = Slot} [] = sorted_nil in
    same_keyed (after_writes [] (writes_of (table_over p ws))) (after_writes [] ws) (Ascends-after_writes [] (writes_of (table_over p ws)) nothing) (Ascends-after_writes [] ws nothing)
    (λ k. value_of-over k [] (table_over p ws) nothing (IsTableOver-table_over p ws).ascends
    ∙ held_last k p [] ws none
    ∙ ap (λ o. unwrap_or o None) (or_none (last_write k ws))
    ∙ sym (value_of-after_writes k [] ws nothing))
