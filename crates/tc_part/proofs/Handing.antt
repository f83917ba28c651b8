-- The shape that is handed to the active table is that of what is below.
use Rattle.std.proofs.Common.{◌≡◌, ◌∙◌, ℕ, Bool, true, List, Option, Some, None, inl, inr, is_some, refl, sym, ap, subst}
use Rattle.std.specs.Prelude.{Result, Ok, Err, IfOk, option_map}
use Rattle.tc_model.specs.Document.{Document, ShapeTree, document_shape}
use Rattle.tc_model.specs.Keyed.{value_of}
use Rattle.tc_value.specs.declared.shape_tree.Shape.{Shape}
use Rattle.tc_value.specs.ShapeMeaning.{shape_tree}
use Rattle.tc_record.specs.Record.{IsRecordOf}
use Rattle.tc_record.specs.StoredRecord.{IsStoredRecord}
use Rattle.tc_memory.specs.Table as memory
use Rattle.tc_component.specs.Loading.{ComponentState}
use Rattle.tc_list.specs.declared.whereabouts.Whereabouts.{Whereabouts}
use Rattle.tc_list.specs.declared.whereabouts.Whereabouts.TheVariants as list
use Rattle.tc_query.specs.Shown.{IsListedAs, MayHave}
use Rattle.tc_lsm_model.specs.Tables.{shape_in}
use Rattle.tc_part_model.specs.PartState.{Told, AreTold}
use Rattle.tc_part_model.specs.PartView.{PartView, below_of}
use Rattle.tc_part_model.specs.Staging.{HandsShape}
use Rattle.tc_part.specs.declared.below.Below.TheVariants.{Absent}
use Rattle.tc_part.specs.declared.fault.PartFault.{PartFault}
use Rattle.tc_part.specs.Below.{sealed_held, below_held, below_listed, IsBelow, IsFoundAt}
use Rattle.tc_part.specs.Handed.{IsShapeBelow, IsHanded, IsHandedBy}

pub still_some : {X Y : Type 0} (f : X → Y) (o : Option X) → is_some (option_map f o) ≡ is_some o
still_some f None = refl
still_some f (Some x) = refl

pub hands : (r : Result (Option Shape) PartFault) (t : Told) (p : PartView) (key : ℕ) (there : Bool) → there ≡ is_some (value_of key (below_of p)) → IfOk r (λ s. is_some s ≡ there)
    → (AreTold t.components → IfOk r (λ s. option_map shape_tree s ≡ shape_in (below_of p) key)) → IfOk r (λ s. HandsShape t p key (option_map shape_tree s))
hands (Ok s) t p key there is some shape = record {
  there = λ none. still_some shape_tree s ∙ some ∙ is ∙ sym (still_some document_shape (value_of key (below_of p)));
  shape = λ told none. shape told;
}
hands (Err e) t p key there is some shape = tt

-- what is so of the answer for each part is so for all parts at once
pub every : {X : Type 0} (r : Result X PartFault) (P : PartView → Type 0) (Q : X → PartView → Type 0) → ((p : PartView) → P p → IfOk r (λ x. Q x p)) → IfOk r (λ x. (p : PartView) → P p → Q x p)
every (Ok x) P Q each = each
every (Err e) P Q each = tt

-- ---- what is below, over every store

module _ {F : Type 0} (told : F → Option (List ℕ)) (sealed : Option memory.Table) (cs : List (ComponentState F)) (key : ℕ) where
  pub absent_below : IsBelow sealed cs key Absent → IsShapeBelow told sealed cs key None
  absent_below (inl is) = held is.0 is.1 is.2
    where
      held : (h : memory.Held) → sealed_held key sealed ≡ Some h → Absent ≡ below_held h → IsShapeBelow told sealed cs key None
      held memory.gone some same = (None, subst (λ o. MayHave told o cs key None) (sym some) refl, refl)
      held (memory.live bytes) some same = absurd (cc)
  absent_below (inr is) = at is.0 is.2 is.3
    where
      at : (w : Whereabouts) → IsFoundAt cs key w → Absent ≡ below_listed w → IsShapeBelow told sealed cs key None
      at list.Absent found same = (None, subst (λ o. MayHave told o cs key None) (sym is.1) found.newest, refl)
      at (list.At component place) found same = absurd (cc)

  pub sealed_below : (bytes : List ℕ) (shape : ShapeTree) → sealed_held key sealed ≡ Some (memory.live bytes) → IsStoredRecord bytes → ((d : Document) → IsRecordOf d bytes → shape ≡ document_shape d)
      → IsShapeBelow told sealed cs key (Some shape)
  sealed_below bytes shape some stored spelled =
      (Some stored.document, subst (λ o. MayHave told o cs key (Some stored.document)) (sym some) (stored.document, stored.is_record, refl), ap Some (spelled stored.document stored.is_record))

  pub listed_below : (d : Document) (shape : ShapeTree) → sealed_held key sealed ≡ None → IsListedAs told cs key d → shape ≡ document_shape d → IsShapeBelow told sealed cs key (Some shape)
  listed_below d shape none read same = (Some d, subst (λ o. MayHave told o cs key (Some d)) (sym none) read, ap Some same)

  -- an entry of the active table keeps its own
  pub keeps_own : (active : memory.Table) → is_some (value_of key active) ≡ true → IsHanded told active sealed cs key None
  keeps_own active there = at (value_of key active) there
    where
      at : (o : Option memory.Kept) → is_some o ≡ true → IsHandedBy (option_map (λ k. k.held) o) told sealed cs key None
      at None there = absurd (cc)
      at (Some k) there = refl
