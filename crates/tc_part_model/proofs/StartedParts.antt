-- A part begins with what an opening hands in.
use Rattle.std.proofs.Common.{◌≡◌, ◌+◌, ◌||◌, ℕ, Bool, List, [], ◌∷◌, length, bytes_eq, refl, sym, ap, ◌∙◌, subst, arith, inl, inr, None, false, true}
use Rattle.std.specs.List.{list_any}
use Rattle.std.proofs.Math.Path.{fun_ext}
use Rattle.std.proofs.lemmas.Bool.{cases_Bool, false≢true, true≢false}
use Rattle.std.proofs.lemmas.List.Elements.{All-nil}
use Rattle.std.proofs.lemmas.Slice.Eq.{bytes_eq-Decides}
use Rattle.tc_model.specs.Document.{Document, Name}
use Rattle.tc_model.specs.Keyed.{values_in}
use Rattle.tc_model.specs.KnownNames.{HasEach, HasNumber}
use Rattle.tc_model.proofs.NameNumbers.{list_any-number_of}
use Rattle.tc_schema_model.specs.Counted.{documents_of, nothing}
use Rattle.tc_store.specs.declared.file_name.FileName.{FileName}
use Rattle.tc_store.specs.declared.file_name.FileName.TheVariants.{Log}
use Rattle.tc_store.specs.Disk.{Disk, Entry, home, is_out, none, out, put, same_name, still}
use Rattle.tc_store.specs.DiskFile.{DiskFile}
use Rattle.tc_store.specs.Moments.{IfTold}
use Rattle.tc_store.specs.StoreCalls.{comes_home}
use Rattle.tc_store.proofs.MomentLemmas.{told_map}
use Rattle.tc_store.proofs.NameLemmas.{same_name-is, same_name-refl}
use Rattle.tc_memory.specs.DocumentTables.{IsStoredAt}
use Rattle.tc_lsm_model.specs.Contents.{Content, Partition}
use Rattle.tc_lsm_model.specs.Lists.{IsList, last_of, live, names_of, schema_of}
use Rattle.tc_lsm_model.proofs.ListLaws.{Ascends-live}
use Rattle.tc_lsm_model.proofs.ListNewest.{newest_of_list}
use Rattle.tc_machine.specs.Events.{part_started, rebased, step}
use Rattle.tc_machine.specs.Kept.{IsKept, IsMemoryKept}
use Rattle.tc_machine.specs.Sound.{IsFlushOf}
use Rattle.tc_machine.specs.State.{State}
use Rattle.tc_machine.specs.Steps.{StartsPart}
use Rattle.tc_machine.specs.Writes.{IsStorableWrite}
use Rattle.tc_machine.proofs.Events.{event_keeps}
use Rattle.tc_machine.proofs.MemorySteps.{no_flush}
use Rattle.tc_machine.proofs.Rebasing.{rebased_is_kept}
use Rattle.tc_machine.proofs.RunSteps.{no_frame}
use Rattle.tc_part_model.specs.Leaving.{FailedMomentsLeaveStore, KeepsStore}
use Rattle.tc_part_model.specs.Meaning.{IsPart, plain_of}
use Rattle.tc_part_model.specs.PartFiles.{AreJobsOut, AreKeptAt, IfFiles, IsDevice, active_name, device_at, files_at, seen_entry}
use Rattle.tc_part_model.specs.PartState.{IsTold, Told}
use Rattle.tc_part_model.specs.PartView.{generation_of, state_of, state_with}
use Rattle.tc_part_model.specs.Newest.{documents_by, names_by, newest_index}
use Rattle.tc_part_model.specs.Starting.{IsOpened, IsOpenedAt, ToldOpening, first_log, started, started_part}
use Rattle.tc_part_model.proofs.Closes.{close_stores}
use Rattle.tc_part_model.proofs.CountedDocuments.{counts_documents}
use Rattle.tc_part_model.proofs.DeviceFiles.{seen_active}
use Rattle.tc_part_model.proofs.FailedParts.{fails_so}
use Rattle.tc_part_model.proofs.HomeMoments.{close_moments}
use Rattle.tc_part_model.proofs.NewestComponents.{names_are, next_is, schema_is}
use Rattle.tc_part_model.proofs.ViewLaws.{nothing_starts}

-- ---- a dictionary has its own names

HasNumber-more : (x y : Name) (names : List Name) → HasNumber names y → HasNumber (x ∷ names) y
HasNumber-more x y names is = sym (list_any-number_of (x ∷ names) y) ∙ elim (cases_Bool (bytes_eq y x)) [
  | inl same ↦ rw same refl
  | inr apart ↦ rw apart (list_any-number_of names y ∙ is)
]

HasNumber-first : (x : Name) (names : List Name) → HasNumber (x ∷ names) x
HasNumber-first x names = sym (list_any-number_of (x ∷ names) x) ∙ ap (λ b. b || list_any (bytes_eq x) names) ((bytes_eq-Decides x x).1 refl)

HasEach-more : (x : Name) (names xs : List Name) → HasEach names xs → HasEach (x ∷ names) xs
HasEach-more x names [] all = tt
HasEach-more x names (y ∷ xs) all = (HasNumber-more x y names all.0, HasEach-more x names xs all.1)

HasEach-own : (names : List Name) → HasEach names names
HasEach-own [] = tt
HasEach-own (x ∷ names) = (HasNumber-first x names, HasEach-more x names names (HasEach-own names))

-- ---- its memory

length-values : (pairs : List (ℕ × Document)) → length (values_in pairs) ≡ length pairs
length-values [] = refl
length-values (p ∷ pairs) = omega (arith, length-values pairs)

module _ (part : Partition) (list : List Content) (is_list : IsList part list) where
  pub started_memory : IsMemoryKept part (state_of (started_part part list))
  started_memory =
      let n = newest_of_list part list is_list in
      record {
        base = Ascends-live list;
        list = is_list;
        list_holds = refl;
        sealed = tt;
        active = refl;
        running = λ some. absurd (false≢true some);
        no_reader = λ none. refl;
        writes = All-nil IsStorableWrite;
        frame = All-nil IsStorableWrite;
        room = n.room;
        frame_room = n.room;
        few = n.dictionary.few;
        frame_few = n.dictionary.few;
        some_log = tt;
        flush = tt;
        merge = tt;
        snapshots = All-nil _;
      }

  first_is : active_name (started_part part list) ≡ first_log list
  first_is = ap (λ n. Log n) (next refl)
    where
      next : generation_of (started_part part list) ≡ generation_of (started_part part list) → generation_of (started_part part list) ≡ last_of list + 1
      next same = omega arith

  -- ---- its files

  home_seen : (f : DiskFile) (e : Entry) → is_out e ≡ false → seen_entry f e ≡ e
  home_seen f (none before) is = refl
  home_seen f (home g) is = refl
  home_seen f (still bytes) is = refl
  home_seen f out is = absurd (true≢false is)

  module _ (disk : Disk) (f g : DiskFile) (opened : IsOpenedAt part list disk f) where
    log_out : disk (active_name (started_part part list)) ≡ out
    log_out = ap disk first_is ∙ opened.log_out

    files_are : (job : FileName → DiskFile) → put (first_log list) (home f) disk ≡ files_at (started_part part list) disk f g job
    files_are job = fun_ext λ n. elim (cases_Bool (same_name (first_log list) n)) [
      | inl same ↦ rw same (subst (λ m. home f ≡ files_at (started_part part list) disk f g job m) (first_is ∙ same_name-is (first_log list) n same) (sym (seen_active (started_part part list) disk f g job log_out)))
      | inr apart ↦ rw apart (sym (home_seen (device_at (started_part part list) f g job n) (disk n) (at_home n apart (is_out (disk n)) refl)))
    ]
      where
        at_home : (n : FileName) → same_name (first_log list) n ≡ false → (b : Bool) → is_out (disk n) ≡ b → is_out (disk n) ≡ false
        at_home n apart true held = absurd (true≢false (sym (ap (same_name (first_log list)) (opened.alone n held) ∙ same_name-refl (first_log list)) ∙ apart))
        at_home n apart false held = held

    only_log : (name : FileName) → name ≡ first_log list → IsDevice (started_part part list) name
    only_log name is = subst (λ n. IsDevice (started_part part list) n) (first_is ∙ sym is) (inl refl)

    started_files : AreKeptAt (started_part part list) false None disk f g
    started_files = record {
      log_out = log_out;
      sealed_out = λ some. absurd (false≢true some);
      devices = λ name held. only_log name (opened.alone name held);
      kept = λ job leave. subst (λ fs. IsKept part (state_with (started_part part list) false None fs)) (files_are job) opened.kept;
    }

-- ---- the part

module _ (o : ToldOpening) (list : List Content) (opened : IsOpened o list) where
  names : names_by (newest_index None o.components) ≡ names_of list
  names = names_are None [] o.components list refl opened.components

  documents : documents_by (newest_index None o.components) ≡ length (live list)
  documents =
      ap documents_of (schema_is None nothing o.components list refl opened.components)
      ∙ counts_documents (names_of list) (schema_of list) (values_in (live list)) (newest_of_list o.part list opened.lawful).stands
      ∙ length-values (live list)

  kept_told : (disks : List Disk) (log : List DiskFile) → IfTold disks (λ disk. IfTold log (λ f. IsOpenedAt o.part list disk f)) → IfFiles disks log None (AreKeptAt (started_part o.part list) false None)
  kept_told [] log opened = tt
  kept_told (disk ∷ past) [] opened = tt
  kept_told (disk ∷ past) (f ∷ fs) at = λ g is. started_files o.part list opened.lawful disk f g at

  pub start_is_part : IsPart (started o) (started_part o.part list)
  start_is_part = record {
    sound = refl;
    view = record {
      part = refl;
      generation = next_is None 0 o.components list refl opened.components ∙ same refl;
      components = opened.components;
      sealed = tt;
      sealed_log = refl;
      active = record { stored = All-nil IsStoredAt; holds = refl; shapes = λ any. refl };
      staged = refl;
      taken = subst (λ ns. HasEach ns (names_of list)) (sym names) (HasEach-own (names_of list));
      live = documents;
      flushing = refl;
      merging = refl;
    };
    memory = started_memory o.part list opened.lawful;
    staged = nothing_starts (started_part o.part list) refl (started_memory o.part list opened.lawful);
    room = (newest_of_list o.part list opened.lawful).room;
    tells = record { active = opened.tells; sealed = told_map (λ disk. IsTold o.log) (λ disk. Unit {0}) o.disks (λ disk any. tt) opened.tells };
    files = record {
      kept = kept_told o.disks o.log opened.files;
      jobs = told_map (λ disk. IsTold o.log) (AreJobsOut None None) o.disks (λ disk any. record { flush_out = tt; merge_out = tt }) opened.tells;
    };
  }
    where
      same : last_of list ≡ last_of list → last_of list + 1 ≡ generation_of (started_part o.part list)
      same any = omega arith

  pub start_plain : plain_of (started o) (started_part o.part list) ≡ record { pairs = live list; taken = names_of list }
  start_plain = ap (λ ns. record { pairs = live list; taken = ns }) names

  -- ---- where it is not begun

  abbrev failed : Told
  failed = record (started o) { failed = true }

  pub not_started : IfTold (comes_home (first_log list) (λ f. home f) o.log o.disks) (KeepsStore o.part (live list) None)
  not_started =
      subst (λ n. IfTold (comes_home n (λ f. home f) o.log o.disks) (KeepsStore o.part (live list) None)) (first_is o.part list opened.lawful)
      (close_stores failed (started_part o.part list) None (fails_so (started o) failed (started_part o.part list) start_is_part refl refl refl refl))

  pub not_started_moments : FailedMomentsLeaveStore (started_part o.part list) None (started o) (comes_home (first_log list) (λ f. home f) o.log o.disks)
  not_started_moments =
      subst (λ n. FailedMomentsLeaveStore (started_part o.part list) None (started o) (comes_home n (λ f. home f) o.log o.disks)) (first_is o.part list opened.lawful)
      (close_moments failed (started_part o.part list) None (fails_so (started o) failed (started_part o.part list) start_is_part refl refl refl refl))

-- ---- an opening that ends

pub opening_ends : (part : Partition) (s : State) (disk : Disk) (log : DiskFile) → IsKept part s → StartsPart part s → s.failed ≡ false → s.merge ≡ None
    → s.files ≡ put (first_log s.list) (home log) disk → disk (first_log s.list) ≡ out → ((name : FileName) → is_out (disk name) ≡ true → name ≡ first_log s.list) → IsOpenedAt part s.list disk log
opening_ends part s disk log kept starts sound no_merge files log_is_out alone = record {
  log_out = log_is_out;
  alone = alone;
  kept = subst (λ x. IsKept part x) started_state (rebased_is_kept part (step part_started s) (event_keeps part s part_started kept starts));
}
  where
    no_jobs : s.flush ≡ None
    no_jobs = no_flush s.list s.flush (subst (λ o. IsFlushOf s.list o s.flush) starts.none_sealed kept.memory.flush)

    none_appended : s.frame ≡ None
    none_appended = no_frame s.frame s.active kept.memory.running starts.opening

    started_state : rebased (step part_started s) ≡ state_with (started_part part s.list) false None (put (first_log s.list) (home log) disk)
    started_state = rw (starts.none_sealed, none_appended, no_jobs, no_merge, sound, files) refl
