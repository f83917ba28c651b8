-- A stop, and the opening of what it left.
use Rattle.std.proofs.Common.{◌≡◌, ◌≤◌, ◌+◌, ℕ, true, List, [], ◌∷◌, length, refl, sym, ap, subst, arith, inl, inr, Some, None}
use Rattle.std.proofs.lemmas.Bool.{false≢true, cases_lt}
use Rattle.std.proofs.lemmas.List.Elements.{All-weaker}
use Rattle.tc_plain_model.specs.Writes.{Write}
use Rattle.tc_lsm_model.specs.Contents.{Content, Partition}
use Rattle.tc_lsm_model.specs.Lists.{last_of}
use Rattle.tc_store.specs.Disk.{MayLeaveAt, Picture, bytes_at}
use Rattle.tc_store.specs.Gate.{is_open_file}
use Rattle.tc_store.specs.Images.{Image}
use Rattle.tc_store.specs.declared.file_name.FileName.{FileName}
use Rattle.tc_store.specs.declared.file_name.FileName.TheVariants.{Component, Log}
use Rattle.tc_store.proofs.GateLemmas.{settled_leaves}
use Rattle.tc_store.specs.Memory.Remains.{left_entry, left_disk}
use Rattle.tc_machine.specs.Components.{LeavesComponent, file_of}
use Rattle.tc_machine.specs.Events.{opened}
use Rattle.tc_machine.specs.Kept.{IsKept}
use Rattle.tc_machine.specs.Logs.{LeavesLog}
use Rattle.tc_machine.specs.Pictures.{HasLogs, IfOpen, Opens}
use Rattle.tc_machine.specs.Sound.{IsExplained, LeavesLogs, LeavesOf}
use Rattle.tc_machine.specs.State.{next_generation}
use Rattle.tc_machine.specs.Steps.{nothing_held}
use Rattle.tc_machine.proofs.Holding.{holds}
use Rattle.tc_machine.proofs.MemorySteps.{opened_logs, opened_memory, replayed_logs}

left_image : (name : FileName) (o : Image) (b : List ℕ) → MayLeaveAt (nothing_held name) (left_entry o) (Some b) → o ≡ Some b
left_image name None b left = left
left_image name (Some x) b left = sym (settled_leaves x (λ image. image ≡ Some x) refl (Some b) left)

left_is : (picture : Picture) (name : FileName) (b : List ℕ) (P : Image → Type 0) → bytes_at picture name ≡ Some b → P (Some b) → LeavesOf (left_disk picture) name P
left_is picture name b P is holds image left = settled_leaves b P holds image (subst (λ o. MayLeaveAt (nothing_held name) (left_entry o) image) is left)

-- a component of the picture
there_is : (picture : Picture) (c : Content) (o : Image) → bytes_at picture (file_of c) ≡ o → LeavesComponent c o → LeavesOf (left_disk picture) (file_of c) (LeavesComponent c)
there_is picture c None is there = absurd there
there_is picture c (Some b) is there = left_is picture (file_of c) b (LeavesComponent c) is there

logs_left : (part : Partition) (picture : Picture) (generation : ℕ) (ls : List (List Write)) → HasLogs part picture generation ls → LeavesLogs part (left_disk picture) generation ls
logs_left part picture generation [] has = tt
logs_left part picture generation (ws ∷ ls) has =
    (left_is picture (Log generation) has.0.0 (LeavesLog part generation ws) has.0.1 has.0.2, logs_left part picture (generation + 1) ls has.1)

none_behind : (part : Partition) (picture : Picture) (generation : ℕ) (ls : List (List Write)) (g : ℕ) → HasLogs part picture generation ls → generation + length ls ≤ g → IfOpen picture (Log g) (λ bytes. ⊥)
none_behind part picture generation [] g has from = has g (omega (arith, from))
none_behind part picture generation (ws ∷ ls) g has from = none_behind part picture (generation + 1) ls g has.1 (omega (arith, from))

pub opened_is_kept : (part : Partition) (picture : Picture) (cs : List Content) (ls : List (List Write)) → Opens part picture cs ls → IsKept part (opened picture cs ls)
opened_is_kept part picture cs ls o = record {
  memory = opened_memory part picture cs ls o;
  files = record {
    listed = All-weaker (λ c. LeavesComponent c (bytes_at picture (file_of c))) (λ c. LeavesOf (left_disk picture) (file_of c) (LeavesComponent c)) (λ c there. there_is picture c (bytes_at picture (file_of c)) refl there) cs o.there;
    still = λ is. absurd (false≢true is);
    sealed_logs = subst (λ l. LeavesLogs part (left_disk picture) (last_of cs + 1) l) (sym (replayed_logs cs ls)) (logs_left part picture (last_of cs + 1) ls o.logs_there);
    active_log = tt;
    others = explained;
    flush_file = tt;
    merge_file = tt;
  };
  expected = λ is. absurd (false≢true is);
  next_log = λ is. absurd (false≢true is);
}
  where
    explained : (name : FileName) (b : List ℕ) → MayLeaveAt (nothing_held name) (left_disk picture name) (Some b) → is_open_file b ≡ true → IsExplained part (opened picture cs ls) name b
    explained (Component from to) b left is_open =
        let is = o.components from to b (left_image (Component from to) (bytes_at picture (Component from to)) b left) is_open in inl (is.1, is.0)
    explained (Log g) b left is_open =
        let there : bytes_at picture (Log g) ≡ Some b = left_image (Log g) (bytes_at picture (Log g)) b left in
        elim (cases_lt (last_of cs) g) [
          | inl above ↦ elim (cases_lt g (next_generation (opened picture cs ls))) [
            | inl between ↦ inr (inl (above, between))
            | inr behind ↦ absurd (none_behind part picture (last_of cs + 1) ls g o.logs_there (omega (arith, behind, ap (λ l. length l) (opened_logs picture cs ls))) b there is_open)
          ]
          | inr covered ↦ inl (covered, o.heads g b there is_open)
        ]
