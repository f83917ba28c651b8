-- What a snapshot shows is stored with the table of its newest writes over the rest.
use Rattle.std.proofs.Common.{◌≡◌, ℕ, List, Option, Some, None, refl, sym, ap, ◌∙◌, subst}
use Rattle.std.specs.List.{AllZip}
use Rattle.tc_component.specs.Loaded.{IsLoadedOf}
use Rattle.tc_component.specs.Loading.{ComponentState}
use Rattle.tc_lsm_model.proofs.ListLaws.{Ascends-live}
use Rattle.tc_lsm_model.specs.Lists.{live}
use Rattle.tc_lsm_model.specs.Tables as documents
use Rattle.tc_memory.specs.DocumentTables.{IsTableOf}
use Rattle.tc_memory.specs.Table.{Table}
use Rattle.tc_model.specs.Keyed.{Ascends}
use Rattle.tc_plain_model.proofs.WriteLookups.{Ascends-after_writes}
use Rattle.tc_plain_model.specs.Writes.{Pairs}
use Rattle.tc_shown.proofs.NewestDocuments.{newest_means}
use Rattle.tc_shown.specs.Newest.{newest_of}
use Rattle.tc_query.specs.Stored.{over_sealed, IsSealedOf, Holds}
use Rattle.tc_view.specs.Holding as view
use Rattle.tc_view.specs.Changes.{Showing}

-- a sealed table, if there is one, with the documents that it keeps
record IsBelow (listed : Pairs) (table : documents.Table) (sealed : Option Table) : Type 0 where
  below : Option documents.Table
  of : IsSealedOf below sealed
  same : documents.over listed table ≡ over_sealed listed below

below_of : (listed : Pairs) (table : documents.Table) (sealed : Option Table) → view.IsSealedOf table sealed → IsBelow listed table sealed
below_of listed table None is = record { below = None; of = tt; same = ap (documents.over listed) is }
below_of listed table (Some kept) is = record { below = Some table; of = is; same = refl }

pub shown_is_stored : {F : Type 0} (told : F → Option (List ℕ)) (s : Showing F) (components : List (ComponentState F)) (sealed : Option Table) (active : Table) (pairs : Pairs)
    → components ≡ s.list → sealed ≡ s.sealed → active ≡ newest_of s.written → view.Holds told s pairs → Holds told components sealed active pairs
shown_is_stored told s components sealed active pairs listed tabled newest h =
    let b = below_of h.listed h.table s.sealed h.sealed in
    let n = newest_means h.writes h.storable in
    let live_is : h.listed ≡ live h.list.contents = h.list.is in
    let up : Ascends (documents.over h.listed h.table) =
    Ascends-after_writes h.listed (documents.writes_of h.table) (subst (λ (p : Pairs). Ascends p) (sym live_is) (Ascends-live h.list.contents)) in
    record {
      part = h.list.part;
      contents = h.list.contents;
      list = h.list.is_list;
      loaded = subst (λ cs. AllZip (IsLoadedOf told) cs h.list.contents) (sym listed) h.list.loaded;
      below = b.below;
      sealed_is = subst (λ t. IsSealedOf b.below t) (sym tabled) b.of;
      newest = n.table;
      active_is = subst (λ t. IsTableOf n.table t) (sym (newest ∙ ap newest_of h.written)) n.of;
      stored = h.is ∙ sym (n.over (documents.over h.listed h.table) up)
          ∙ ap (λ (p : Pairs). documents.over p n.table) (b.same ∙ ap (λ (p : Pairs). over_sealed p b.below) live_is);
    }

-- what holds of components and tables holds of those that they are
pub of_same : {A B C : Type 0} (P : A → B → C → Type 0) (a d : A) (b e : B) (c f : C) → a ≡ d → b ≡ e → c ≡ f → P a b c → P d e f
of_same P a d b e c f first second third h = subst (λ z. P d e z) third (subst (λ y. P d y c) second (subst (λ x. P x b c) first h))
