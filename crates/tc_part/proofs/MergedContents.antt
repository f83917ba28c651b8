-- What the merge of a part makes, and what the part tells once that is listed.
use Rattle.std.proofs.Common.{◌≡◌, ◌∙◌, ℕ, List, Option, Some, map, option_map, sym, ap, subst}
use Rattle.std.specs.Prelude.{IfSome}
use Rattle.std.proofs.lemmas.Option.{same_Some}
use Rattle.tc_store.specs.Disk.{Disk}
use Rattle.tc_store.specs.DiskFile.{DiskFile}
use Rattle.tc_component.specs.declared.head.Head.{Head}
use Rattle.tc_component.specs.Loading.{ComponentState}
use Rattle.tc_component.specs.Rows.{head_of}
use Rattle.tc_component.specs.Spelling.{name_of}
use Rattle.tc_list.specs.declared.run.Run.{Run}
use Rattle.tc_list.specs.Runs.{neighbours, swapped}
use Rattle.tc_lsm_model.specs.Contents.{Partition}
use Rattle.tc_lsm_model.specs.Merges.{IsMerge, in_run as contents_in_run}
use Rattle.tc_lsm_model.proofs.MergeLaws.{swapped_replaces}
use Rattle.tc_machine.specs.Components.{file_of}
use Rattle.tc_machine.specs.Kept.{MergeFits}
use Rattle.tc_machine.specs.State.{Merging}
use Rattle.tc_part_model.specs.Meaning.{IsPart}
use Rattle.tc_part_model.specs.PartState.{PartState, Told, told, told_component}
use Rattle.tc_part_model.specs.PartView.{PartView}
use Rattle.tc_part_model.proofs.RunInputs.{merge_named}
use Rattle.tc_part.specs.JobHeads.{merged_head}
use Rattle.tc_part.specs.Ready.{LiesIn}
use Rattle.tc_part.proofs.RunEnds.{ends}

head_from : (a b : Head) → a.number ≡ b.number → a.count ≡ b.count → name_of a ≡ name_of b → a ≡ b
head_from a b number count named =
    ap (λ (n : ℕ). record { number = n; count = a.count; from = a.from; to = a.to }) number ∙ ap (λ (n : ℕ). record { number = b.number; count = n; from = a.from; to = a.to }) count
    ∙ ap (λ (n : ℕ). record { number = b.number; count = b.count; from = n; to = a.to }) (from named) ∙ ap (λ (n : ℕ). record { number = b.number; count = b.count; from = b.from; to = n }) (to named)
  where
    from : name_of a ≡ name_of b → a.from ≡ b.from
    from same = cc

    to : name_of a ≡ name_of b → a.to ≡ b.to
    to same = cc

module _ {F : Type 0} (content : F → Option (List ℕ)) (t : Told) (p : PartView) (m : Merging) (run : Run) (components : List (ComponentState F)) (is : IsPart t p) (some : p.merge ≡ Some m) (out : t.merging ≡ Some (neighbours run))
    (same : t.components ≡ map (told_component content) components) (lies : LiesIn components run) where
  -- it is the merge of that run
  pub run_is : m.run ≡ neighbours run
  run_is = same_Some m.run (neighbours run) (sym (ap (option_map (λ (x : Merging). x.run)) some) ∙ sym is.view.merging ∙ out)

  fits : MergeFits p.list m
  fits = subst (λ o. IfSome o (MergeFits p.list)) some is.memory.merge

  pub is_merge : IsMerge (contents_in_run (neighbours run) p.list) m.target
  is_merge = subst (λ r. IsMerge (contents_in_run r p.list) m.target) run_is fits.is_merge

  abbrev head : Head
  head = merged_head t.part.number t.part.count run components

  pub target_named : file_of m.target ≡ name_of head
  target_named =
      let e = ends t.part.number t.part.count run components lies in
      merge_named content t p components run head e.first e.last is same lies.0 e.at_first e.at_last e.head m.target is_merge

  pub target_headed : head_of m.target ≡ head
  target_headed =
      let here : m.target.part ≡ t.part = (swapped_replaces p.part m.run p.list m.target is.memory.list fits.is_merge).here ∙ sym is.view.part in
      head_from (head_of m.target) head (ap (λ (q : Partition). q.number) here) (ap (λ (q : Partition). q.count) here) target_named

-- what a part tells once a component is listed in place of a run, and its store came to be this
pub told_replaced : {S D F W : Type 0} (disks : S → List Disk) (moments : D → List DiskFile) (content : F → Option (List ℕ)) (old new : PartState S D F W) (run : Run) (m : ComponentState F) (ds : List Disk)
    → new ≡ record old { store = new.store; main = new.main; list = new.list } → new.list ≡ swapped run m old.list → disks new.store ≡ ds
    → told disks moments content new ≡ record (told disks moments content old) { disks = ds; components = map (told_component content) (swapped run m old.list) }
told_replaced disks moments content old new run m ds same listed store =
    ap (told disks moments content) same
    ∙ ap (λ d. record (told disks moments content old) { disks = d; components = map (told_component content) new.list }) store
    ∙ ap (λ cs. record (told disks moments content old) { disks = ds; components = map (told_component content) cs }) listed
