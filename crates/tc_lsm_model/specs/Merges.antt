-- What a merge makes: one component in place of neighbours in a list.
use Rattle.std.specs.Prelude.{◌≡◌, ℕ, ◌==◌, List, [], ◌∷◌, ◌++◌, take, drop, flat_map, fold, filter, Option, is_some, if◌then◌else◌}
use Rattle.tc_model.specs.Document.{Document}
use Rattle.tc_model.specs.Keyed.{Keyed, with_value}
use Rattle.tc_plain_model.specs.Writes.{Write}
use Rattle.tc_lsm_model.specs.Contents.{Content}
use Rattle.tc_lsm_model.specs.Lists.{names_of, schema_of, last_of}

-- ---- runs

-- neighbours in a list: the place of the first one, and how many they are
pub record Run : Type 0 where
  pub first : ℕ
  pub length : ℕ

abbrev pub before_run : Run → List Content → List Content
before_run run cs = take run.first cs

abbrev pub in_run : Run → List Content → List Content
in_run run cs = take run.length (drop run.first cs)

abbrev pub behind_run : Run → List Content → List Content
behind_run run cs = drop run.length (drop run.first cs)

-- the list with one content in place of a run
abbrev pub swapped : Run → Content → List Content → List Content
swapped run c cs = before_run run cs ++ c ∷ behind_run run cs

-- ---- the merge of a run

-- all entries, the oldest content's first
abbrev pub entries_of : List Content → List Write
entries_of cs = flat_map (λ c. c.entries) cs

-- of each key the last entry, in ascending key
abbrev pub last_entries : List Write → Keyed (Option Document)
last_entries ws = fold (λ entries w. with_value w.0 w.1 entries) [] ws

-- Of each key the newest entry. From generation 1 on nothing is older, so that what is gone need not be told.
abbrev pub merged_entries : ℕ → List Content → List Write
merged_entries from cs = if from == 1 then filter (λ w. is_some w.1) (last_entries (entries_of cs)) else last_entries (entries_of cs)

-- It has the generations of the whole run, and the names and the schema of the run's newest.
pub record IsMerge (run : List Content) (c : Content) : Type 0 where
  pub first : Content
  pub others : List Content
  pub is : run ≡ first ∷ others
  pub part : c.part ≡ first.part
  pub from : c.from ≡ first.from
  pub to : c.to ≡ last_of run
  pub entries : c.entries ≡ merged_entries first.from run
  pub names : c.names ≡ names_of run
  pub schema : c.schema ≡ schema_of run
