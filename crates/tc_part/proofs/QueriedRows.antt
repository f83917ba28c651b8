-- What a query is asked over in a part, and what its fault tells.
use Rattle.std.proofs.Common.{◌≡◌, ◌∙◌, ℕ, List, Option, Some, None, refl, sym, ap}
use Rattle.std.specs.Prelude.{option_map}
use Rattle.std.specs.List.{AllZip}
use Rattle.tc_component.specs.Loaded.{IsLoadedOf}
use Rattle.tc_component.specs.Loading.{ComponentState}
use Rattle.tc_lsm_model.specs.Lists.{live}
use Rattle.tc_lsm_model.specs.Tables.{over}
use Rattle.tc_machine.specs.State.{Sealed, sealed_table}
use Rattle.tc_memory.specs.Table as memory
use Rattle.tc_plain_model.specs.Writes.{Pairs}
use Rattle.tc_part_model.proofs.HeldKeys.{over_table}
use Rattle.tc_part_model.specs.Meaning.{KeepsSealed, IsPart}
use Rattle.tc_part_model.specs.PartState.{Told, AreTold}
use Rattle.tc_part_model.specs.PartView.{PartView, stored_with, table_of}
use Rattle.tc_query.specs.Faults as query
use Rattle.tc_query.specs.Stored.{over_sealed, IsSealedOf, Holds}
use Rattle.tc_query.specs.declared.fault.QueryFault.{QueryFault}
use Rattle.tc_query.specs.declared.fault.QueryFault.TheVariants as asked
use Rattle.tc_store.specs.declared.file_name.FileName.{FileName}
use Rattle.tc_part.specs.Faults.{of_query, IsUndamaged}
use Rattle.tc_part.specs.Harms.{IsHarmIn, IsOfRead}

-- ---- what is stored

sealed_kept : (are_told : Type 0) (o : Option Sealed) (kept : Option memory.Table) → are_told → KeepsSealed are_told o kept → IsSealedOf (option_map (λ d. d.table) o) kept
sealed_kept are_told None None files keeps = tt
sealed_kept are_told None (Some kept) files keeps = keeps
sealed_kept are_told (Some d) None files keeps = keeps
sealed_kept are_told (Some d) (Some kept) files keeps = record { is = keeps.1.shapes files; stored = keeps.1.stored }

below_sealed : (pairs : Pairs) (o : Option Sealed) → over pairs (sealed_table o) ≡ over_sealed pairs (option_map (λ d. d.table) o)
below_sealed pairs None = refl
below_sealed pairs (Some d) = refl

-- components and tables hold what is stored, with what is staged
pub holds_stored : {F : Type 0} (content : F → Option (List ℕ)) (cs : List (ComponentState F)) (t : Told) (p : PartView) → IsPart t p → AllZip (IsLoadedOf content) cs p.list → AreTold t.components
    → Holds content cs t.sealed t.active (stored_with p)
holds_stored content cs t p is loaded files = record {
  part = p.part;
  contents = p.list;
  list = is.memory.list;
  loaded = loaded;
  below = option_map (λ d. d.table) p.sealed;
  sealed_is = sealed_kept (AreTold t.components) p.sealed t.sealed files is.view.sealed;
  newest = table_of p;
  active_is = record { is = is.view.active.shapes files; stored = is.view.active.stored };
  stored = sym (over_table p is.memory) ∙ ap (λ pairs. over pairs (table_of p)) (below_sealed (live p.list) p.sealed);
}

-- ---- faults

harm_in : {F : Type 0} (content : F → Option (List ℕ)) (cs : List (ComponentState F)) (file : FileName) (place : ℕ) (bytes : List ℕ) → query.IsHarmIn content cs file place bytes → IsHarmIn content cs file place bytes
harm_in content cs file place bytes is =
    let harm = is.harm in
    record {
      at = is.at;
      component = is.component;
      here = is.here;
      harm = record { entry = harm.entry; there = harm.there; file_is = harm.file_is; place_is = harm.place_is; long = harm.long; broken = harm.broken; told = harm.stands };
    }

pub harmed_so : {F : Type 0} (content : F → Option (List ℕ)) (cs : List (ComponentState F)) (fault : QueryFault) → query.OfDamage fault (λ file at bytes. query.IsHarmIn content cs file at bytes)
    → IsOfRead (of_query fault) (λ file at bytes. IsHarmIn content cs file at bytes)
harmed_so content cs asked.Disk is = tt
harmed_so content cs (asked.Damaged file place bytes) is = harm_in content cs file place bytes is
harmed_so content cs asked.Memory is = tt

pub unharmed_so : (fault : QueryFault) → query.IsUnharmed fault → IsUndamaged (of_query fault)
unharmed_so asked.Disk is = tt
unharmed_so (asked.Damaged file place bytes) is = is
unharmed_so asked.Memory is = tt
