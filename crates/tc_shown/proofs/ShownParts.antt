-- What a part stores is shown by its components and its sealed table, where its active table has no entry.
use Rattle.std.proofs.Common.{◌≡◌, ◌∙◌, ap, sym, subst, refl, List, [], ◌∷◌, map, Option, Some, None, ℕ}
use Rattle.std.specs.Prelude.{All, IfSome}
use Rattle.std.specs.List.{AllZip}
use Rattle.std.proofs.lemmas.List.Elements.{All-nil}
use Rattle.tc_model.specs.Dictionary.{Extends}
use Rattle.tc_model.specs.Document.{Name}
use Rattle.tc_component.specs.Loading.{ComponentState}
use Rattle.tc_component.specs.Spelling.{Index}
use Rattle.tc_lsm_model.specs.Contents.{Content, Partition}
use Rattle.tc_lsm_model.specs.Lists.{live, GoOn}
use Rattle.tc_lsm_model.specs.Tables as tables
use Rattle.tc_machine.specs.Kept.{IsMemoryKept}
use Rattle.tc_machine.specs.Logs.{all_writes}
use Rattle.tc_machine.specs.State.{Sealed, active_logs, sealed_logs, sealed_table}
use Rattle.tc_machine.specs.Writes.{IsStorableWrite}
use Rattle.tc_machine.proofs.Holding.{all_writes-append}
use Rattle.tc_machine.proofs.Options.{All-front}
use Rattle.tc_memory.specs.DocumentTables.{kept_table}
use Rattle.tc_memory.specs.Table.{Table}
use Rattle.tc_part_model.specs.Meaning.{IsOfContent, IsPart, KeepsSealed, all_shown}
use Rattle.tc_part_model.specs.PartState.{AreTold, Told, ToldComponent, told_component}
use Rattle.tc_part_model.specs.PartView.{PartView, below_of, state_of, store_of, table_of}
use Rattle.tc_part_model.proofs.HeldKeys.{over_table}
use Rattle.tc_part_model.proofs.LoadedComponents.{all_loaded}
use Rattle.tc_part_model.proofs.ViewLaws.{none_kept}
use Rattle.tc_plain_model.specs.Writes.{Pairs, Write, after_writes}
use Rattle.tc_view.specs.Holding.{Extend, Holds, IsSealedOf}
use Rattle.tc_shown.proofs.StorableTables.{table_storable}

-- ---- a part whose active table has no entry

no_entry : (t : tables.Table) → [] ≡ all_shown (kept_table t) → t ≡ []
no_entry [] same = refl
no_entry (e ∷ t) same = absurd (cc)

stores_below : (t : Told) (p : PartView) → IsPart t p → t.staged ≡ [] → t.active ≡ [] → store_of p ≡ below_of p
stores_below t p is unstaged empty =
    let none_staged : p.staged ≡ [] = none_kept p.staged (sym unstaged ∙ is.view.staged) in
    let no_table : table_of p ≡ [] = no_entry (table_of p) (sym (ap (λ (x : Table). all_shown x) empty) ∙ is.view.active.holds) in
    sym (ap (λ (ws : List Write). after_writes (store_of p) ws) none_staged) ∙ sym (over_table p is.memory) ∙ ap (tables.over (below_of p)) no_table

-- ---- its sealed table

sealed_shown : (told : Type 0) (are_told : told) (sealed : Option Sealed) (kept : Option Table) → KeepsSealed told sealed kept → IsSealedOf (sealed_table sealed) kept
sealed_shown told are_told None None keeps = refl
sealed_shown told are_told None (Some kept) keeps = absurd keeps
sealed_shown told are_told (Some d) None keeps = absurd keeps
sealed_shown told are_told (Some d) (Some kept) keeps = record { is = keeps.1.shapes are_told; stored = keeps.1.stored }

sealed_storable : (p : PartView) (o : Option Sealed) → p.sealed ≡ o → IsMemoryKept p.part (state_of p) → All IsStorableWrite (tables.writes_of (sealed_table o))
sealed_storable p None same memory = All-nil IsStorableWrite
sealed_storable p (Some d) same memory =
    let all : All IsStorableWrite (all_writes (sealed_logs p.sealed)) =
    All-front IsStorableWrite (all_writes (sealed_logs p.sealed)) (all_writes (active_logs (Some p.active))) (subst (λ ws. All IsStorableWrite ws) (all_writes-append (sealed_logs p.sealed) (active_logs (Some p.active))) memory.writes) in
    let is : d.table ≡ tables.table_over (live p.list) (all_writes d.logs) = subst (λ (x : Option Sealed). IfSome x (λ d. d.table ≡ tables.table_over (live p.list) (all_writes d.logs))) same memory.sealed in
    subst (λ (x : tables.Table). All IsStorableWrite (tables.writes_of x)) (sym is)
    (table_storable (tables.shape_in (live p.list)) (all_writes d.logs) (subst (λ (x : Option Sealed). All IsStorableWrite (all_writes (sealed_logs x))) same all))

-- ---- its components

module _ {F : Type 0} (content : F → Option (List ℕ)) where
  names_extend : (part : Partition) (g : ℕ) (pairs : Pairs) (names : List Name) (list : List (ComponentState F)) (cs : List Content) → AllZip IsOfContent (map (told_component content) list) cs → GoOn part g pairs names cs → Extend names list
  names_extend part g pairs names [] cs zip on = tt
  names_extend part g pairs names (m ∷ list) [] zip on = absurd zip
  names_extend part g pairs names (m ∷ list) (c ∷ cs) zip on =
      subst (λ (ns : List Name). Extends ns names × Extend ns list) (sym (ap (λ (i : Index). i.names) zip.0.index))
      (on.0.extends, names_extend part c.to (after_writes pairs c.entries) c.names list cs zip.1 on.1)

  pub part_listed : (t : Told) (p : PartView) (list : List (ComponentState F)) → IsPart t p → t.components ≡ map (told_component content) list → Extend [] list
  part_listed t p list is same =
      names_extend p.part 0 [] [] list p.list (subst (λ (ts : List ToldComponent). AllZip IsOfContent ts p.list) same is.view.components) is.memory.list

  pub part_held : (t : Told) (p : PartView) (list : List (ComponentState F)) → IsPart t p → AreTold t.components → t.staged ≡ [] → t.active ≡ [] → t.components ≡ map (told_component content) list
      → Holds content (record { list = list; sealed = t.sealed; written = [] }) (store_of p)
  part_held t p list is told unstaged empty same = record {
    listed = live p.list;
    list = record {
      part = p.part;
      contents = p.list;
      is_list = is.memory.list;
      loaded = all_loaded content list p.list (subst (λ (ts : List ToldComponent). AllZip IsOfContent ts p.list) same is.view.components) (subst (λ (ts : List ToldComponent). AreTold ts) same told);
      is = refl;
    };
    table = sealed_table p.sealed;
    sealed = sealed_shown (AreTold t.components) told p.sealed t.sealed is.view.sealed;
    kept = sealed_storable p p.sealed refl is.memory;
    writes = [];
    storable = All-nil IsStorableWrite;
    written = refl;
    is = stores_below t p is unstaged empty;
  }
