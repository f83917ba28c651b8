-- The files of a part stay its own where the component of a job is listed, and when it begins.
use Rattle.std.proofs.Common.{◌≡◌, ◌∙◌, ◌<◌, ◌+◌, ℕ, List, [], Option, Some, None, false, true, is_some, length, get_or, map, take, option_map, refl, sym, ap, subst, ◌∷◌}
use Rattle.std.specs.Prelude.{All, not}
use Rattle.std.proofs.lemmas.Bool.{false≢true}
use Rattle.std.proofs.lemmas.List.{map_more}
use Rattle.std.proofs.lemmas.List.Elements.{All-head, All-push, All-tail}
use Rattle.tc_store.specs.declared.file_name.FileName.{FileName}
use Rattle.tc_store.specs.Disk.{Disk}
use Rattle.tc_store.specs.DiskFile.{DiskFile}
use Rattle.tc_store.specs.StoreCalls.{comes_home, frozen_entry, removes}
use Rattle.tc_component.specs.declared.head.Head.{Head}
use Rattle.tc_component.specs.Loading.{ComponentState}
use Rattle.tc_component.specs.Spelling.{IsIndex}
use Rattle.tc_list.specs.declared.run.Run.{Run}
use Rattle.tc_list.specs.Intervals.{Follow, last_of}
use Rattle.tc_list.specs.Runs.{in_run, neighbours}
use Rattle.tc_part.specs.OwnFiles.{FollowInOrder, HasOwnFiles}
use Rattle.tc_part_model.specs.PartState.{PartState, told, told_component}
use Rattle.tc_part.proofs.OwnNames.{flushed_own, merged_own}
use Rattle.tc_part.specs.FlushEnds.{HasListed, covered_name, flushed_name}
use Rattle.tc_part.specs.MergeEnds.{HasRemovedRun, HasReplaced, merged_name}
use Rattle.tc_part.specs.Ready.{LiesIn}

-- where no table is sealed no flush is out
pub no_flush_out : {W T V : Type 0} (view : T → V) (flusher : Option W) (sealed : Option T) → (is_some flusher ≡ false → is_some sealed ≡ true) → option_map view sealed ≡ None → not (is_some flusher) ≡ false
no_flush_out view (Some w) sealed flush is = refl
no_flush_out view None None flush is = absurd (false≢true (flush refl))
no_flush_out view None (Some t) flush is = absurd (cc)

-- a loop sees one more of which this holds
pub all_more : {A X : Type 0} (f : A → X) (P : X → Type 0) (xs : List A) (i : ℕ) (a : A) → i < length xs → a ≡ get_or xs i a → P (f a) → All P (map f (take i xs)) → All P (map f (take (i + 1) xs))
all_more f P xs i a within is p before = subst (All P) (sym (map_more f xs i a within)) (All-push P (map f (take i xs)) (f (get_or xs i a)) before (subst (λ x. P (f x)) is p))

-- intervals that follow each other, none of which ends before it begins
pub follow_in_order : {F : Type 0} (content : F → Option (List ℕ)) (g : ℕ) (cs : List (ComponentState F)) → Follow g cs → All (λ (c : ComponentState F). IsIndex c.index) cs → FollowInOrder g (map (told_component content) cs)
follow_in_order content g [] follow lawful = tt
follow_in_order content g (c ∷ cs) follow lawful = (
  follow.0,
  (All-head (λ (c : ComponentState _). IsIndex c.index) c cs lawful).head.order,
  follow_in_order content c.index.head.to cs follow.1 (All-tail (λ (c : ComponentState _). IsIndex c.index) c cs lawful),
)

module _ {S D F W : Type 0} (disks : S → List Disk) (moments : D → List DiskFile) (content : F → Option (List ℕ)) (name : F → FileName) (old new : PartState S D F W) (device : List DiskFile) where
  -- of a flush, which is out no more
  pub flush_own : (covered : List DiskFile) → new ≡ record old { store = new.store; main = new.main; list = new.list; sealed = None; sealed_log = None } → old.flushing ≡ false → old.generation ≡ last_of old.list + 2
      → HasListed content name device old new.list → disks new.store ≡ removes (covered_name old) (comes_home (covered_name old) frozen_entry covered (comes_home (flushed_name old) frozen_entry device (disks old.store)))
      → HasOwnFiles (record (told disks moments content old) { flushing = true }) → HasOwnFiles (told disks moments content new)
  flush_own covered same back behind listed gone =
      flushed_own content (record (told disks moments content old) { flushing = true }) old.list refl (told disks moments content new) listed.component device covered behind
      (ap (λ (h : Head). h.from) listed.made.has_head) (ap (λ (h : Head). h.to) listed.made.has_head) gone (ap (λ (x : PartState S D F W). x.generation) same) (ap (map (told_component content)) listed.listed)
      (ap (λ (x : PartState S D F W). x.flushing) same ∙ back) (ap (λ (x : PartState S D F W). x.merging) same)

  -- of the merge of a run
  pub merge_own : (run : Run) → new ≡ record old { store = new.store; main = new.main; list = new.list } → old.merging ≡ None → LiesIn old.list run
      → HasReplaced content name device run old new.list → HasRemovedRun disks name device run old (disks new.store)
      → HasOwnFiles (record (told disks moments content old) { merging = Some (neighbours run) }) → HasOwnFiles (told disks moments content new)
  merge_own run same back lies listed removed =
      merged_own content (record (told disks moments content old) { merging = Some (neighbours run) }) old.list refl run lies.0 lies.1 (told disks moments content new) listed.component (merged_name run old) device
      (map (λ (c : ComponentState F). name c.file) (in_run run old.list)) refl (ap (λ (h : Head). h.from) listed.made.has_head) (ap (λ (h : Head). h.to) listed.made.has_head) removed (ap (λ (x : PartState S D F W). x.generation) same)
      (ap (map (told_component content)) listed.listed) (ap (λ (x : PartState S D F W). x.flushing) same) (ap (λ (x : PartState S D F W). x.merging) same ∙ back)
