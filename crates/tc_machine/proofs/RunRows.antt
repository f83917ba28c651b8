-- Small runs of the machine, computed, and one from nothing of which each event may come.
use Rattle.std.specs.Prelude.{◌≡◌, ◌<◌, ◌^◌, ℕ, List, [], ◌∷◌, ◌++◌, Some, None, fold, codes, if◌then◌else◌, refl, IsUtf8}
use Rattle.std.specs.Int.Count.{count_leading_zeros}
use Rattle.std.specs.Str.{chars}
use Rattle.std.specs.List.Sorted.{IsStrictlySortedBy}
use Rattle.std.proofs.Common.{sym, subst, arith, inl, inr}
use Rattle.std.proofs.lemmas.Bool.{cases_eq, ne_eqb}
use Rattle.std.proofs.lemmas.List.Elements.{All-nil, All-cons, All-head}
use Rattle.tc_model.specs.Document.{document_shape}
use Rattle.tc_record.specs.Record.{record_of}
use Rattle.tc_plain_model.specs.Writes.{set, unset}
use Rattle.tc_model.proofs.DictionaryGrowth.{IsDictionary-nil, IsDictionary-push}
use Rattle.tc_schema_model.specs.Counted.{nothing, counted, no_item, no_fields}
use Rattle.tc_schema_model.proofs.Grown.{added_stands}
use Rattle.tc_schema_model.proofs.ValueBounds.{nothing_stands}
use Rattle.tc_lsm_model.specs.Contents.{Content, IsEntry}
use Rattle.tc_lsm_model.specs.Lists.{GoesOn}
use Rattle.tc_lsm_model.specs.Tables.{slot}
use Rattle.tc_lsm_model.specs.Rows.{one_of_one, flag, bare, one_object, names_of_flag, flag_content}
use Rattle.tc_store.specs.declared.file_name.FileName.{FileName}
use Rattle.tc_store.specs.declared.file_name.FileName.TheVariants.{Component, Log}
use Rattle.tc_store.specs.Disk.{none, home, IsThere}
use Rattle.tc_store.specs.DiskFile.{empty_file, settled_file}
use Rattle.tc_store.proofs.GateLemmas.{settled_leaves}
use Rattle.tc_log.specs.declared.write.Write as log
use Rattle.tc_log.specs.declared.write.Write.TheVariants.{Upsert}
use Rattle.tc_log.specs.Spelling.{IsHead, IsFrame, log_at_rest}
use Rattle.tc_component.specs.Rows.{component_bytes, IsShortWrite, IsComponent}
use Rattle.tc_component.proofs.Versions.{written_component}
use Rattle.tc_machine.specs.Writes.{IsStorableWrite}
use Rattle.tc_machine.specs.Logs.{log_head, IsLog, LeavesLog}
use Rattle.tc_machine.specs.Pictures.{IfOpen, Opens}
use Rattle.tc_machine.specs.State.{State, held, active_table, sealed_table}
use Rattle.tc_machine.specs.Events.{Event, log_made, device_called, part_started, frame_started, frame_committed, table_sealed, flush_begun, flush_installed, step, opened}
use Rattle.tc_machine.specs.Steps.{IsShutOrHas, LeavesWithOrWithout, IsExpected}
use Rattle.tc_machine.specs.Runs.{Runs}
use Rattle.tc_machine.proofs.LogHeads.{new_log}

abbrev after_events : State → List Event → State
after_events s es = fold (λ t e. step e t) s es

-- ---- tables

-- document 1 written, the table sealed, 1 deleted, the table flushed
abbrev bare_content : Content
bare_content = record { part = one_of_one; from = 1; to = 1; entries = set 1 bare ∷ []; names = []; schema = counted one_object no_item no_fields }

abbrev written_and_deleted : State
written_and_deleted =
    after_events (step part_started (opened [] [] [])) (frame_started (set 1 bare ∷ []) ∷ frame_committed ∷ table_sealed ∷ frame_started (unset 1 ∷ []) ∷ frame_committed ∷ flush_begun ∷ flush_installed bare_content ∷ [])

pub nothing_held : held written_and_deleted ≡ []
nothing_held = refl

pub gone_entry : active_table written_and_deleted.active ≡ (1, slot None (Some (document_shape bare))) ∷ []
gone_entry = refl

-- an opening with two logs, of which the one table is made
pub two_logs : sealed_table (opened [] [] ((set 1 bare ∷ set 2 flag ∷ []) ∷ (unset 1 ∷ []) ∷ [])).sealed ≡ (2, slot (Some flag) None) ∷ []
two_logs = refl

-- ---- a log of one frame

a_is_text : IsUtf8 (codes "a")
unfolding chars lib.Utf8.encode
a_is_text = (97 ∷ [], (refl, refl))

-- the first component may hold the document
pub flag_goes_on : GoesOn one_of_one 0 [] [] flag_content
unfolding chars IsStrictlySortedBy
flag_goes_on = record {
  content = record {
    number = omega arith;
    count = omega arith;
    first = omega arith;
    order = omega arith;
    last = omega arith;
    ascends = (tt, tt);
    entries = All-cons (IsEntry names_of_flag) (set 1 flag) [] (record { key = omega arith; document = ((tt, tt), (a_is_text, tt, tt)); storable = (omega arith, refl); named = (refl, tt) }) (All-nil (IsEntry names_of_flag));
    dictionary = IsDictionary-push [] (codes "a") IsDictionary-nil (record { text = a_is_text; short = omega arith }) refl (omega arith);
    schema = record { canonical = (λ _. refl, λ one. absurd (omega (arith, one)), tt, (omega arith, omega arith, omega arith, (λ _. refl, λ _. refl, tt, tt), tt)); of_objects = refl; small = (omega arith, tt, ((omega arith, tt, tt), tt)); shallow = omega arith };
  };
  here = refl;
  next = refl;
  extends = (names_of_flag, refl);
  stands = added_stands [] (document_shape flag) nothing [] flag refl nothing_stands;
  room = omega arith;
}

pub flag_is_write : IsStorableWrite (set 1 flag)
flag_is_write =
    let entry : IsEntry names_of_flag (set 1 flag) = All-head (IsEntry names_of_flag) (set 1 flag) [] flag_goes_on.content.entries in
    record { key = entry.key; document = entry.document; storable = entry.storable; short = omega arith }

pub flag_is_component : IsComponent flag_content (component_bytes flag_content)
unfolding count_leading_zeros
flag_is_component = written_component flag_content (component_bytes flag_content) flag_goes_on.content (All-cons IsShortWrite (set 1 flag) [] flag_is_write.short (All-nil IsShortWrite)) refl (omega arith)

pub one_head : (g : ℕ) → 0 < g → g < 2 ^ 63 → IsHead (log_head one_of_one g)
one_head g first last = record { number = omega arith; count = omega arith; first = first; last = omega (arith, last) }

abbrev pub kept_flag : List log.Write
kept_flag = Upsert 1 (record_of flag) ∷ []

pub flag_frame : IsFrame kept_flag
flag_frame = record {
  each = (
    record {
      key = omega arith;
      held = record { document = flag; is_record = record { document = flag_is_write.document; is_object = tt; shallow = omega arith; spelled = refl; short = omega arith }; keyless = refl };
    },
    tt,
  );
  some = omega arith;
  few = omega arith;
  short = omega arith;
}

abbrev pub empty_log : ℕ → List ℕ
empty_log g = log_at_rest (log_head one_of_one g) []

abbrev pub flag_log : List ℕ
flag_log = log_at_rest (log_head one_of_one 1) (kept_flag ∷ [])

pub flag_log_means : IsLog one_of_one 1 (set 1 flag ∷ []) flag_log
flag_log_means = record {
  frames = kept_flag ∷ [];
  spells = record { head_is = one_head 1 (omega arith) (omega arith); each = (flag_frame, tt); rest = 0 ∷ []; shut = λ e. absurd (cc); spelled = refl };
  all_are = refl;
}

-- ---- a run from nothing: the first log is made, a frame is appended and committed

nothing_open : (name : FileName) (P : List ℕ → Type 0) → IfOpen [] name P
nothing_open name P b there is_open = absurd (cc)

pub empty_opens : Opens one_of_one [] [] []
empty_opens = record {
  list = tt;
  there = All-nil _;
  components = λ from to. nothing_open (Component from to) _;
  heads = λ g. nothing_open (Log g) _;
  logs_there = λ g from. nothing_open (Log g) _;
  writes = All-nil IsStorableWrite;
  room = omega arith;
  few = omega arith;
}

abbrev making_log : List Event
making_log = log_made ∷ device_called (Log 1) (settled_file (empty_log 1)) ∷ []

abbrev committing : List Event
committing = frame_started (set 1 flag ∷ []) ∷ device_called (Log 1) (settled_file flag_log) ∷ frame_committed ∷ []

abbrev first_state : State
first_state = after_events (step part_started (after_events (opened [] [] []) making_log)) committing

pub first_run : Runs one_of_one (opened [] [] []) (making_log ++ part_started ∷ committing) first_state
first_run = (
  record { before = None; absent = refl },
  (
    record { old = empty_file None; home = refl; may = inr (inl (record { named = refl; leaves = settled_leaves (empty_log 1) (IsShutOrHas (IsLog one_of_one 1 [])) (inr empty_means) })) },
    (
      record { opening = refl; none_sealed = refl; next_log = (omega arith, (settled_file (empty_log 1), refl, settled_leaves (empty_log 1) (LeavesLog one_of_one 1 []) empty_means)); still = All-nil _; expected = expected },
      (
        record { running = refl; none = refl; each = All-cons IsStorableWrite (set 1 flag) [] flag_is_write (All-nil IsStorableWrite); room = omega arith; few = omega arith },
        (
          record {
            old = settled_file (empty_log 1);
            home = refl;
            may = inl (record {
              active = _;
              is_active = refl;
              frame = set 1 flag ∷ [];
              is_frame = refl;
              named = refl;
              leaves = settled_leaves flag_log (LeavesWithOrWithout one_of_one 1 [] (set 1 flag ∷ [])) (inr flag_log_means);
            });
          },
          (
            record { active = _; is_active = refl; frame = set 1 flag ∷ []; is_frame = refl; durable = (settled_file flag_log, refl, settled_leaves flag_log (LeavesLog one_of_one 1 (set 1 flag ∷ [])) flag_log_means) },
            refl,
          ),
        ),
      ),
    ),
  ),
)
  where
    empty_means : IsLog one_of_one 1 [] (empty_log 1)
    empty_means = new_log one_of_one 1 (one_head 1 (omega arith) (omega arith))

    expected : (name : FileName) → IsThere ((after_events (opened [] [] []) making_log).files name) → IsExpected (after_events (opened [] [] []) making_log) name
    expected (Component from to) there = absurd there
    expected (Log g) there = elim (cases_eq g 1) [
      | inl same ↦ inr (same, refl)
      | inr other ↦ absurd (subst (λ b. IsThere (if b then home (settled_file (empty_log 1)) else (if b then home (empty_file None) else none None))) (ne_eqb 1 g (λ e. other (sym e))) there)
    ]
