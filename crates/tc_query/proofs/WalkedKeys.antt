-- Keys that no source has are not stored.
use Rattle.std.proofs.Common.{◌≡◌, ◌<◌, ◌≤◌, ◌∙◌, ℕ, List, Option, Some, None, inl}
use Rattle.std.specs.Prelude.{IfSome}
use Rattle.std.specs.List.{AllZip}
use Rattle.tc_component.specs.Loading.{ComponentState}
use Rattle.tc_list.proofs.Shown.{where_live}
use Rattle.tc_list.specs.Contents.{Shows}
use Rattle.tc_list.specs.declared.whereabouts.Whereabouts.TheVariants.{Absent}
use Rattle.tc_memory.specs.Table.{Table, IsTable}
use Rattle.tc_model.specs.Keyed.{value_of}
use Rattle.tc_plain_model.specs.Writes.{Pairs}
use Rattle.tc_query.proofs.ShownKeys.{none_shown}
use Rattle.tc_query.proofs.StoredKeys.{stored_listed}
use Rattle.tc_query.specs.Shown.{shown}
use Rattle.tc_query.specs.Stored.{Holds}
use Rattle.tc_query.specs.Walking.{IsNext, HasNoneIn}

module _ {F : Type 0} (told : F → Option (List ℕ)) (cs : List (ComponentState F)) (sealed : Option Table) (active : Table) where
  none_stored : (pairs : Pairs) (h : Holds told cs sealed active pairs) → IfSome sealed IsTable → IsTable active → AllZip Shows cs h.contents → (k : ℕ) → HasNoneIn cs sealed active k → value_of k pairs ≡ None
  none_stored pairs h sealed_is active_is shows k none =
      stored_listed told cs sealed active pairs h sealed_is active_is k none.1 ∙ where_live h.part cs h.contents k Absent h.list shows (inl none.0)

  -- before the next key
  pub gap_stored : (pairs : Pairs) (h : Holds told cs sealed active pairs) → IfSome sealed IsTable → IsTable active → AllZip Shows cs h.contents → (low key : ℕ) → IsNext low (Some key) (HasNoneIn cs sealed active)
      → (k : ℕ) → low ≤ k → k < key → value_of k pairs ≡ None
  gap_stored pairs h sealed_is active_is shows low key next k least before = none_stored pairs h sealed_is active_is shows k (next.1 k least before)

  pub gap_shown : (low key : ℕ) → IsNext low (Some key) (HasNoneIn cs sealed active) → (k : ℕ) → low ≤ k → k < key → value_of k (shown cs sealed active) ≡ None
  gap_shown low key next k least before = let none = next.1 k least before in none_shown cs sealed active k none.0 none.1

  -- where none is next
  pub end_stored : (pairs : Pairs) (h : Holds told cs sealed active pairs) → IfSome sealed IsTable → IsTable active → AllZip Shows cs h.contents → (low : ℕ) → IsNext low None (HasNoneIn cs sealed active)
      → (k : ℕ) → low ≤ k → value_of k pairs ≡ None
  end_stored pairs h sealed_is active_is shows low next k least = none_stored pairs h sealed_is active_is shows k (next.1 k least tt)
