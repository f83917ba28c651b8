-- Stops, computed: between the write of a frame's gate and its sync, in the midst of a flush, and in the midst of a merge.
use Rattle.std.specs.Prelude.{◌≡◌, ◌≤◌, ◌<◌, ◌⊎◌, ◌^◌, ℕ, Bool, true, false, List, [], ◌∷◌, ◌++◌, Some, All, if◌then◌else◌, refl}
use Rattle.std.proofs.Common.{sym, subst, arith, inl, inr}
use Rattle.std.proofs.lemmas.List.Elements.{All-nil, All-cons, All-head, All-tail}
use Rattle.std.proofs.lemmas.Bool.{cases_lt}
use Rattle.tc_model.proofs.DictionaryGrowth.{IsDictionary-nil}
use Rattle.tc_model.proofs.KeyedOrder.{sorted_nil}
use Rattle.tc_schema_model.specs.Counted.{nothing}
use Rattle.tc_schema_model.proofs.ValueBounds.{nothing_stands}
use Rattle.tc_plain_model.specs.Writes.{Write, set}
use Rattle.tc_lsm_model.specs.Contents.{Content, IsEntry, IsContent}
use Rattle.tc_lsm_model.specs.Lists.{Covers, IsList}
use Rattle.tc_lsm_model.specs.Rows.{one_of_one, flag, flag_content}
use Rattle.tc_store.specs.declared.file_name.FileName.{FileName}
use Rattle.tc_store.specs.declared.file_name.FileName.TheVariants.{Component, Log}
use Rattle.tc_store.specs.Disk.{Picture, bytes_at, same_name}
use Rattle.tc_store.specs.DiskFile.{DiskFile, settled_file, written}
use Rattle.tc_store.specs.Memory.DeviceLaws.{overlaid_keeps}
use Rattle.tc_store.specs.Gate.{is_open_file}
use Rattle.tc_store.specs.Images.{IsWithin, MayLeave}
use Rattle.tc_store.proofs.NameLemmas.{same_name-is}
use Rattle.tc_log.specs.Spelling.{frame_fields, log_bytes}
use Rattle.tc_component.specs.Rows.{component_bytes, IsShortWrite, IsComponent}
use Rattle.tc_component.proofs.Versions.{written_component}
use Rattle.tc_machine.specs.Writes.{IsStorableWrite}
use Rattle.tc_machine.specs.Logs.{log_head, IsLog, HasLogHead}
use Rattle.tc_machine.specs.Components.{file_of, LeavesComponent, HasComponentHead}
use Rattle.tc_machine.specs.Pictures.{IfOpen, Opens, recovered}
use Rattle.tc_machine.proofs.ComponentHeads.{component_has_head}
use Rattle.tc_machine.proofs.LogHeads.{log_has_head, new_log}
use Rattle.tc_machine.proofs.RunRows.{flag_goes_on, flag_is_write, flag_is_component, one_head, kept_flag, empty_log, flag_log, flag_log_means}

-- ---- a frame is appended

-- what stands behind the gate is synced, and the gate is written
abbrev shut_frame : List ℕ
shut_frame = log_bytes (log_head one_of_one 1) [] ++ 0 ∷ (frame_fields kept_flag ++ 0 ∷ [])

abbrev gate_written : DiskFile
gate_written = written 21 (1 ∷ []) (settled_file shut_frame)

-- a stop may leave it closed, and the log then means nothing
pub gate_lost : MayLeave gate_written (Some shut_frame)
gate_lost = inl (record { no_longer = omega arith; untouched = λ position is. (is.synced, refl) })

pub lost_means : IsLog one_of_one 1 [] shut_frame
lost_means = record {
  frames = [];
  spells = record { head_is = one_head 1 (omega arith) (omega arith); each = tt; rest = 0 ∷ (frame_fields kept_flag ++ 0 ∷ []); shut = λ e. absurd (cc); spelled = refl };
  all_are = refl;
}

-- or open, and it means the frame
pub gate_there : MayLeave gate_written (Some flag_log)
gate_there = inl (record {
  no_longer = omega arith;
  untouched = λ position is. (is.synced, overlaid_keeps 21 (1 ∷ []) shut_frame position is.synced (outside position (All-head (λ range. IsWithin position range → ⊥) (21, 1) [] is.not_tried)));
})
  where
    outside : (position : ℕ) → ((21 ≤ position) × (position < 22) → ⊥) → (position < 21) ⊎ (22 ≤ position)
    outside position out = elim (cases_lt position 21) [
      | inl before ↦ inl before
      | inr from ↦ elim (cases_lt position 22) [
        | inl within ↦ absurd (out (from, within))
        | inr behind ↦ inr behind
      ]
    ]

-- ---- the open files of a picture

-- each open file of the picture has this
each_open : (P : FileName → List ℕ → Type 0) (picture : Picture) → All (λ file. is_open_file file.1 ≡ true → P file.0 file.1) picture → (name : FileName) → IfOpen picture name (P name)
each_open P [] all name b there is_open = absurd (cc)
each_open P (file ∷ files) all name b there is_open =
    at (same_name file.0 name) refl there (λ is. each_open P files (All-tail (λ file. is_open_file file.1 ≡ true → P file.0 file.1) file files all) name b is is_open)
  where
    same_bytes : Some file.1 ≡ Some b → file.1 ≡ b
    same_bytes e = cc

    at : (o : Bool) → same_name file.0 name ≡ o → (if o then Some file.1 else bytes_at files name) ≡ Some b → (bytes_at files name ≡ Some b → P name b) → P name b
    at true same is rest =
        let here : P file.0 file.1 = All-head (λ file. is_open_file file.1 ≡ true → P file.0 file.1) file files all (subst (λ x. is_open_file x ≡ true) (sym (same_bytes is)) is_open) in
        subst (λ x. P name x) (same_bytes is) (subst (λ n. P n file.1) (same_name-is file.0 name same) here)
    at false other is rest = rest is

-- a component that is covered, with its header, and a log with its header and below a generation
abbrev IsLawfulFile : List Content → ℕ → FileName → List ℕ → Type 0
IsLawfulFile cs below (Component from to) b = HasComponentHead one_of_one from to b × Covers cs from to
IsLawfulFile cs below (Log g) b = HasLogHead one_of_one g b × (g < below)

-- a file of the picture
abbrev HasFile : List Content → ℕ → FileName × List ℕ → Type 0
HasFile cs below file = is_open_file file.1 ≡ true → IsLawfulFile cs below file.0 file.1

none_behind : (cs : List Content) (below : ℕ) (picture : Picture) → All (HasFile cs below) picture → (g : ℕ) → below ≤ g → IfOpen picture (Log g) (λ b. ⊥)
none_behind cs below picture all g behind b there is_open = let here = each_open (IsLawfulFile cs below) picture all (Log g) b there is_open in omega (arith, behind, here.1)

log_file : (cs : List Content) (below g : ℕ) (ws : List Write) (b : List ℕ) → IsLog one_of_one g ws b → g < below → HasFile cs below (Log g, b)
log_file cs below g ws b is low is_open = (log_has_head one_of_one g ws b is, low)

component_file : (cs : List Content) (below : ℕ) (c : Content) (b : List ℕ) → c.part ≡ one_of_one → IsComponent c b → Covers cs c.from c.to → HasFile cs below (file_of c, b)
component_file cs below c b here is covered is_open = (component_has_head one_of_one c b here is, covered)

closed_file : (cs : List Content) (below : ℕ) (name : FileName) → HasFile cs below (name, 0 ∷ [])
closed_file cs below name is_open = absurd (cc)

empty_means : (g : ℕ) → 0 < g → g < 2 ^ 63 → IsLog one_of_one g [] (empty_log g)
empty_means g first last = new_log one_of_one g (one_head g first last)

-- ---- in the midst of a flush, of the document {"a":true} at key 1

abbrev flush_shut : Picture
flush_shut = (Component 1 1, 0 ∷ []) ∷ (Log 1, flag_log) ∷ (Log 2, empty_log 2) ∷ []

-- its file is closed: the log has the document
pub shut_opens : Opens one_of_one flush_shut [] ((set 1 flag ∷ []) ∷ [] ∷ [])
shut_opens = record {
  list = tt;
  there = All-nil _;
  components = λ from to. each_open (IsLawfulFile [] 3) flush_shut files (Component from to);
  heads = λ g b there is_open. (each_open (IsLawfulFile [] 3) flush_shut files (Log g) b there is_open).0;
  logs_there = ((flag_log, refl, flag_log_means), ((empty_log 2, refl, empty_means 2 (omega arith) (omega arith)), none_behind [] 3 flush_shut files));
  writes = All-cons IsStorableWrite (set 1 flag) [] flag_is_write (All-nil IsStorableWrite);
  room = omega arith;
  few = omega arith;
}
  where
    files : All (HasFile [] 3) flush_shut
    files = All-cons (HasFile [] 3) (Component 1 1, 0 ∷ []) ((Log 1, flag_log) ∷ (Log 2, empty_log 2) ∷ []) (closed_file [] 3 (Component 1 1))
        (All-cons (HasFile [] 3) (Log 1, flag_log) ((Log 2, empty_log 2) ∷ []) (log_file [] 3 1 (set 1 flag ∷ []) flag_log flag_log_means (omega arith))
        (All-cons (HasFile [] 3) (Log 2, empty_log 2) [] (log_file [] 3 2 [] (empty_log 2) (empty_means 2 (omega arith) (omega arith)) (omega arith)) (All-nil (HasFile [] 3))))

abbrev flush_whole : Picture
flush_whole = (Component 1 1, component_bytes flag_content) ∷ (Log 1, flag_log) ∷ (Log 2, empty_log 2) ∷ []

-- it is whole: the component has the document, and the first log is covered
pub whole_opens : Opens one_of_one flush_whole (flag_content ∷ []) ([] ∷ [])
whole_opens = record {
  list = (flag_goes_on, tt);
  there = All-cons (λ c. LeavesComponent c (bytes_at flush_whole (file_of c))) flag_content [] flag_is_component (All-nil _);
  components = λ from to. each_open (IsLawfulFile (flag_content ∷ []) 3) flush_whole files (Component from to);
  heads = λ g b there is_open. (each_open (IsLawfulFile (flag_content ∷ []) 3) flush_whole files (Log g) b there is_open).0;
  logs_there = ((empty_log 2, refl, empty_means 2 (omega arith) (omega arith)), none_behind (flag_content ∷ []) 3 flush_whole files);
  writes = All-nil IsStorableWrite;
  room = omega arith;
  few = omega arith;
}
  where
    files : All (HasFile (flag_content ∷ []) 3) flush_whole
    files = All-cons (HasFile (flag_content ∷ []) 3) (Component 1 1, component_bytes flag_content) ((Log 1, flag_log) ∷ (Log 2, empty_log 2) ∷ []) (component_file (flag_content ∷ []) 3 flag_content (component_bytes flag_content) refl flag_is_component (inl (omega arith, omega arith)))
        (All-cons (HasFile (flag_content ∷ []) 3) (Log 1, flag_log) ((Log 2, empty_log 2) ∷ []) (log_file (flag_content ∷ []) 3 1 (set 1 flag ∷ []) flag_log flag_log_means (omega arith))
        (All-cons (HasFile (flag_content ∷ []) 3) (Log 2, empty_log 2) [] (log_file (flag_content ∷ []) 3 2 [] (empty_log 2) (empty_means 2 (omega arith) (omega arith)) (omega arith)) (All-nil (HasFile (flag_content ∷ []) 3))))

-- what is recovered is the same
pub same_recovered : recovered [] ((set 1 flag ∷ []) ∷ [] ∷ []) ≡ recovered (flag_content ∷ []) ([] ∷ [])
same_recovered = refl

-- ---- in the midst of a merge, of two components without an entry

abbrev none_in : ℕ → ℕ → Content
none_in from to = record { part = one_of_one; from = from; to = to; entries = []; names = []; schema = nothing }

none_is_content : (from to : ℕ) → 0 < from → from ≤ to → to < 2 ^ 63 → IsContent (none_in from to)
none_is_content from to first order last = record {
  number = omega arith;
  count = omega arith;
  first = first;
  order = order;
  last = last;
  ascends = sorted_nil;
  entries = All-nil (IsEntry []);
  dictionary = IsDictionary-nil;
  schema = record { canonical = (λ _. refl, λ _. refl, tt, tt); of_objects = refl; small = (omega arith, tt, tt); shallow = omega arith };
}

none_is_component : (from to : ℕ) → 0 < from → from ≤ to → to < 2 ^ 63 → IsComponent (none_in from to) (component_bytes (none_in from to))
none_is_component from to first order last = written_component (none_in from to) (component_bytes (none_in from to)) (none_is_content from to first order last) (All-nil IsShortWrite) refl (omega arith)

abbrev two : List Content
two = none_in 1 1 ∷ none_in 2 2 ∷ []

two_is_list : IsList one_of_one two
two_is_list = (
  record { content = none_is_content 1 1 (omega arith) (omega arith) (omega arith); here = refl; next = refl; extends = ([], refl); stands = nothing_stands; room = omega arith },
  (record { content = none_is_content 2 2 (omega arith) (omega arith) (omega arith); here = refl; next = refl; extends = ([], refl); stands = nothing_stands; room = omega arith }, tt),
)

abbrev one : List Content
one = none_in 1 2 ∷ []

one_is_list : IsList one_of_one one
one_is_list = (record { content = none_is_content 1 2 (omega arith) (omega arith) (omega arith); here = refl; next = refl; extends = ([], refl); stands = nothing_stands; room = omega arith }, tt)

component_of : (cs : List Content) (from to : ℕ) → 0 < from → from ≤ to → to < 2 ^ 63 → Covers cs from to → HasFile cs 4 (Component from to, component_bytes (none_in from to))
component_of cs from to first order last covered = component_file cs 4 (none_in from to) (component_bytes (none_in from to)) refl (none_is_component from to first order last) covered

-- the second log is covered, and the third has no frame
both_logs : (cs : List Content) → All (HasFile cs 4) ((Log 2, empty_log 2) ∷ (Log 3, empty_log 3) ∷ [])
both_logs cs =
    All-cons (HasFile cs 4) (Log 2, empty_log 2) ((Log 3, empty_log 3) ∷ []) (log_file cs 4 2 [] (empty_log 2) (empty_means 2 (omega arith) (omega arith)) (omega arith))
    (All-cons (HasFile cs 4) (Log 3, empty_log 3) [] (log_file cs 4 3 [] (empty_log 3) (empty_means 3 (omega arith) (omega arith)) (omega arith)) (All-nil (HasFile cs 4)))

abbrev two_files : List ℕ → Picture
two_files merged =
    (Component 1 1, component_bytes (none_in 1 1)) ∷ (Component 2 2, component_bytes (none_in 2 2)) ∷ (Component 1 2, merged) ∷ (Log 2, empty_log 2) ∷ (Log 3, empty_log 3) ∷ []

all_files : (cs : List Content) (merged : List ℕ) → Covers cs 1 1 → Covers cs 2 2 → HasFile cs 4 (Component 1 2, merged) → All (HasFile cs 4) (two_files merged)
all_files cs merged first second file =
    All-cons (HasFile cs 4) (Component 1 1, component_bytes (none_in 1 1)) ((Component 2 2, component_bytes (none_in 2 2)) ∷ (Component 1 2, merged) ∷ (Log 2, empty_log 2) ∷ (Log 3, empty_log 3) ∷ []) (component_of cs 1 1 (omega arith) (omega arith) (omega arith) first)
    (All-cons (HasFile cs 4) (Component 2 2, component_bytes (none_in 2 2)) ((Component 1 2, merged) ∷ (Log 2, empty_log 2) ∷ (Log 3, empty_log 3) ∷ []) (component_of cs 2 2 (omega arith) (omega arith) (omega arith) second)
    (All-cons (HasFile cs 4) (Component 1 2, merged) ((Log 2, empty_log 2) ∷ (Log 3, empty_log 3) ∷ []) file (both_logs cs)))

-- where its file is closed, both components count
pub merge_shut_opens : Opens one_of_one (two_files (0 ∷ [])) two ([] ∷ [])
merge_shut_opens = record {
  list = two_is_list;
  there = All-cons (λ c. LeavesComponent c (bytes_at (two_files (0 ∷ [])) (file_of c))) (none_in 1 1) (none_in 2 2 ∷ []) (none_is_component 1 1 (omega arith) (omega arith) (omega arith))
      (All-cons (λ c. LeavesComponent c (bytes_at (two_files (0 ∷ [])) (file_of c))) (none_in 2 2) [] (none_is_component 2 2 (omega arith) (omega arith) (omega arith)) (All-nil _));
  components = λ from to. each_open (IsLawfulFile two 4) (two_files (0 ∷ [])) files (Component from to);
  heads = λ g b there is_open. (each_open (IsLawfulFile two 4) (two_files (0 ∷ [])) files (Log g) b there is_open).0;
  logs_there = ((empty_log 3, refl, empty_means 3 (omega arith) (omega arith)), none_behind two 4 (two_files (0 ∷ [])) files);
  writes = All-nil IsStorableWrite;
  room = omega arith;
  few = omega arith;
}
  where
    files : All (HasFile two 4) (two_files (0 ∷ []))
    files = all_files two (0 ∷ []) (inl (omega arith, omega arith)) (inr (inl (omega arith, omega arith))) (closed_file two 4 (Component 1 2))

-- where it is whole, it counts in their place, and both lie within it
pub merge_whole_opens : Opens one_of_one (two_files (component_bytes (none_in 1 2))) one ([] ∷ [])
merge_whole_opens = record {
  list = one_is_list;
  there = All-cons (λ c. LeavesComponent c (bytes_at (two_files (component_bytes (none_in 1 2))) (file_of c))) (none_in 1 2) [] (none_is_component 1 2 (omega arith) (omega arith) (omega arith)) (All-nil _);
  components = λ from to. each_open (IsLawfulFile one 4) (two_files (component_bytes (none_in 1 2))) files (Component from to);
  heads = λ g b there is_open. (each_open (IsLawfulFile one 4) (two_files (component_bytes (none_in 1 2))) files (Log g) b there is_open).0;
  logs_there = ((empty_log 3, refl, empty_means 3 (omega arith) (omega arith)), none_behind one 4 (two_files (component_bytes (none_in 1 2))) files);
  writes = All-nil IsStorableWrite;
  room = omega arith;
  few = omega arith;
}
  where
    files : All (HasFile one 4) (two_files (component_bytes (none_in 1 2)))
    files = all_files one (component_bytes (none_in 1 2)) (inl (omega arith, omega arith)) (inl (omega arith, omega arith)) (component_of one 1 2 (omega arith) (omega arith) (omega arith) (inl (omega arith, omega arith)))
