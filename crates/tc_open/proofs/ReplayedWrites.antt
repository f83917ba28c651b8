-- What a table holds of each key once writes went into it.
use Rattle.std.proofs.Common.{◌≡◌, ◌∙◌, ◌++◌, ℕ, Bool, true, false, List, [], ◌∷◌, Option, Some, None, is_some, refl, sym, ap, subst}
use Rattle.std.specs.Prelude.{◌==◌, if◌then◌else◌, option_map}
use Rattle.std.specs.Option.{option_or}
use Rattle.std.proofs.lemmas.Bool.{eqb-true}
use Rattle.std.proofs.lemmas.Option.{same_Some}
use Rattle.tc_model.specs.Document.{ShapeTree}
use Rattle.tc_model.specs.Keyed.{value_of}
use Rattle.tc_log.specs.Writes.{key_of}
use Rattle.tc_log.specs.declared.write.Write.{Write}
use Rattle.tc_log.specs.declared.write.Write.TheVariants.{Upsert, Delete}
use Rattle.tc_memory.specs.Table.{Held, Kept, Table, gone_over, shape_kept}
use Rattle.tc_memory.specs.Calls as calls
use Rattle.tc_memory.proofs.CallLemmas.{change_one_key}
use Rattle.tc_component.specs.Loading.{ComponentState}
use Rattle.tc_list.specs.declared.whereabouts.Whereabouts.{Whereabouts}
use Rattle.tc_part.specs.Below.{IsFoundAt}
use Rattle.tc_part_model.specs.Meaning.{shown}
use Rattle.tc_open.specs.LastWrites.{HoldsLast, IsLeftOver, is_listed, last_to, left_by}
use Rattle.tc_open.specs.Replays.{HandsBelow, Replays, put_in}

-- ---- one write after the other

pub replays-append : {F : Type 0} (content : F → Option (List ℕ)) (list : List (ComponentState F)) (us vs : List Write) (old between new : Table) → Replays content list us old between → Replays content list vs between new → Replays content list (us ++ vs) old new
replays-append content list [] vs old between new first second = subst (λ t. Replays content list vs t new) first second
replays-append content list (w ∷ us) vs old between new first second = (first.0, first.1, replays-append content list us vs first.0 between new first.2 second)

-- ---- one key

abbrev call_of : Write → Option ShapeTree → calls.TableCall
call_of (Upsert key bytes) handed = calls.upsert key bytes handed
call_of (Delete key) handed = calls.delete key handed

key_called : (w : Write) (handed : Option ShapeTree) → calls.key_of (call_of w handed) ≡ key_of w
key_called (Upsert key bytes) handed = refl
key_called (Delete key) handed = refl

put_called : (w : Write) (handed : Option ShapeTree) (t : Table) → put_in w handed t ≡ calls.after_call (call_of w handed) t
put_called (Upsert key bytes) handed t = refl
put_called (Delete key) handed t = refl

-- what a write leaves of its key, where something is below or not
left_shown : (w : Write) (handed : Option ShapeTree) (t : Table) → option_map shown (calls.entry_left (call_of w handed) t) ≡ left_by (is_some (shape_kept handed (value_of (key_of w) t))) w
left_shown (Upsert key bytes) handed t = refl
left_shown (Delete key) handed t = at (shape_kept handed (value_of key t))
  where
    at : (o : Option ShapeTree) → option_map shown (option_map gone_over o) ≡ left_by (is_some o) (Delete key)
    at None = refl
    at (Some shape) = refl

-- what is kept below shows in what is left
below_left : (w : Write) (below kept : Bool) (held : Held) → Some (held, kept) ≡ left_by below w → kept ≡ below
below_left (Upsert key bytes) below kept held is = ap (λ (p : Held × Bool). p.1) (same_Some _ _ is)
below_left (Delete key) true kept held is = ap (λ (p : Held × Bool). p.1) (same_Some _ _ is)
below_left (Delete key) false kept held is = absurd (cc)

module _ {F : Type 0} (content : F → Option (List ℕ)) (list : List (ComponentState F)) where
  -- of each key the last of past writes is held
  abbrev HoldsPast : (ℕ → Option Write) → Table → Type 0
  HoldsPast past t = (key : ℕ) → IsLeftOver list key (past key) (option_map shown (value_of key t))

  abbrev with_last : Write → (ℕ → Option Write) → ℕ → Option Write
  with_last w past key = if key == key_of w then Some w else past key

  -- a shape is kept where a component has a document of the key
  kept_below : (w : Write) (handed : Option ShapeTree) (t : Table) (past : ℕ → Option Write) → HoldsPast past t → (value_of (key_of w) t ≡ None → HandsBelow content list (key_of w) handed)
      → (at : Whereabouts) × IsFoundAt list (key_of w) at × (is_some (shape_kept handed (value_of (key_of w) t)) ≡ is_listed at)
  kept_below w handed t past holds hands = by_entry (value_of (key_of w) t) (past (key_of w)) hands (holds (key_of w))
    where
      by_entry : (o : Option Kept) (last : Option Write) → (o ≡ None → HandsBelow content list (key_of w) handed) → IsLeftOver list (key_of w) last (option_map shown o)
          → (at : Whereabouts) × IsFoundAt list (key_of w) at × (is_some (shape_kept handed o) ≡ is_listed at)
      by_entry None last hands left = let h = hands refl in (h.at, h.found, h.there)
      by_entry (Some k) None hands left = absurd (cc)
      by_entry (Some k) (Some v) hands left = (left.0, left.1, below_left v (is_listed left.0) (is_some k.below) k.held left.2)

  one_key : (w : Write) (handed : Option ShapeTree) (t : Table) (past : ℕ → Option Write) → calls.Ascends t → HoldsPast past t → (value_of (key_of w) t ≡ None → HandsBelow content list (key_of w) handed)
      → HoldsPast (with_last w past) (put_in w handed t)
  one_key w handed t past ascends holds hands key =
      let now : value_of key (put_in w handed t) ≡ (if key == key_of w then calls.entry_left (call_of w handed) t else value_of key t) =
      ap (value_of key) (put_called w handed t) ∙ subst (λ m. value_of key (calls.after_call (call_of w handed) t) ≡ (if key == m then calls.entry_left (call_of w handed) t else value_of key t)) (key_called w handed) (change_one_key (call_of w handed) t key ascends).1 in
      choose (key == key_of w) (value_of key (put_in w handed t)) now (eqb-true key (key_of w))
    where
      choose : (b : Bool) (o : Option Kept) → o ≡ (if b then calls.entry_left (call_of w handed) t else value_of key t) → (b ≡ true → key ≡ key_of w) → IsLeftOver list key (if b then Some w else past key) (option_map shown o)
      choose false o is same = rw is (holds key)
      choose true o is same =
          let found = kept_below w handed t past holds hands in
          (found.0, subst (λ k. IsFoundAt list k found.0) (sym (same refl)) found.1, ap (option_map shown) is ∙ left_shown w handed t ∙ ap (λ b. left_by b w) found.2)

  put_ascends : (w : Write) (handed : Option ShapeTree) (t : Table) → calls.Ascends t → calls.Ascends (put_in w handed t)
  put_ascends w handed t ascends = subst calls.Ascends (sym (put_called w handed t)) (change_one_key (call_of w handed) t 0 ascends).0

  -- ---- all writes

  last_so_far : (key : ℕ) (w : Write) (ws : List Write) (past : ℕ → Option Write) → option_or (last_to key ws) (with_last w past key) ≡ option_or (last_to key (w ∷ ws)) (past key)
  last_so_far key w ws past = assoc (last_to key ws) (key == key_of w)
    where
      assoc : (last : Option Write) (b : Bool) → option_or last (if b then Some w else past key) ≡ option_or (option_or last (if b then Some w else None)) (past key)
      assoc (Some v) b = refl
      assoc None true = refl
      assoc None false = refl

  holds_after : (ws : List Write) (old new : Table) (past : ℕ → Option Write) → calls.Ascends old → HoldsPast past old → Replays content list ws old new → HoldsPast (λ key. option_or (last_to key ws) (past key)) new
  holds_after [] old new past ascends holds is = subst (λ t. HoldsPast past t) (sym is) holds
  holds_after (w ∷ ws) old new past ascends holds is =
      let one = is.1 in
      let between : is.0 ≡ put_in w one.0 old = one.2 in
      let up : calls.Ascends is.0 = subst calls.Ascends (sym between) (put_ascends w one.0 old ascends) in
      let held : HoldsPast (with_last w past) is.0 = subst (λ t. HoldsPast (with_last w past) t) (sym between) (one_key w one.0 old past ascends holds one.1) in
      λ key. subst (λ last. IsLeftOver list key last (option_map shown (value_of key new))) (last_so_far key w ws past) (holds_after ws is.0 new (with_last w past) up held is.2 key)

  or_none : (last : Option Write) → option_or last None ≡ last
  or_none None = refl
  or_none (Some w) = refl

  pub holds_last : (ws : List Write) (new : Table) → calls.Ascends [] → Replays content list ws [] new → HoldsLast list ws new
  holds_last ws new none is = λ key. subst (λ last. IsLeftOver list key last (option_map shown (value_of key new))) (or_none (last_to key ws)) (holds_after ws [] new (λ key. None) none (λ key. refl) is key)
