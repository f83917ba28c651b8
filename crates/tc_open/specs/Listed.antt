-- Which components are listed of those that were read, and of the logs above them.
use Rattle.std.specs.Prelude.{◌≡◌, ◌⊎◌, ◌<◌, ◌≤◌, ◌+◌, ◌++◌, ℕ, zero, suc, List, [], ◌∷◌, length, map, nat_lt, if◌then◌else◌}
use Rattle.tc_component.specs.Loading.{ComponentState, index_in}
use Rattle.tc_component.specs.Spelling.{Index}
use Rattle.tc_plain_model.specs.Writes.{Write}
use Rattle.tc_lsm_model.specs.Contents.{Content, Partition}
use Rattle.tc_lsm_model.specs.Flushes.{IsFlush}
use Rattle.tc_lsm_model.specs.Lists.{live}
use Rattle.tc_lsm_model.specs.Merges.{IsMerge}
use Rattle.tc_lsm_model.specs.Tables.{table_over}
use Rattle.tc_machine.specs.Logs.{all_writes}
use Rattle.tc_recover.specs.declared.interval.Interval.{Interval}
use Rattle.tc_recover.specs.Loading.{interval_of}
use Rattle.tc_recover.specs.Opening.{Found}
use Rattle.tc_recover.specs.Tilings.{end_of}

-- how many a partition may begin with
abbrev pub most_listed : ℕ
most_listed = 8

-- ---- their generations

-- the last generation of these components, which stand behind one
abbrev pub end_by : ℕ → List Index → ℕ
end_by generation [] = generation
end_by generation (i ∷ is) = end_by i.head.to is

-- the generations of these components
abbrev pub intervals_in : List Index → List Interval
intervals_in is = map (λ i. record { from = i.head.from; to = i.head.to }) is

-- so many logs behind a generation become one component, where there is one
abbrev pub flushed_as : ℕ → ℕ → List Interval
flushed_as generation zero = []
flushed_as generation (suc n) = record { from = generation + 1; to = generation + suc n } ∷ []

-- all become one, where they are more than a partition may begin with
abbrev pub merged_as : List Interval → List Interval
merged_as is = if nat_lt most_listed (length is) then record { from = 1; to = end_of 0 is } ∷ [] else is

-- what is listed behind an opening that read this
abbrev pub listed_as : Found → List Interval
listed_as found = merged_as (intervals_in found.components ++ flushed_as (end_by 0 found.components) (length found.logs))

-- the components that were read, of which this holds, are listed, and behind them that of the logs, where there is one
pub record AreFlushed {F : Type 0} (Are : List (ComponentState F) → Type 0) (found : Found) (list : List (ComponentState F)) : Type 0 where
  pub older : List (ComponentState F)
  pub newer : List (ComponentState F)
  pub are : Are older
  pub is : list ≡ older ++ newer
  pub read : found.components ≡ map index_in older
  pub flushed : map interval_of newer ≡ flushed_as (end_by 0 found.components) (length found.logs)

-- ---- what they hold, where the files are lawful

-- behind these contents there is the flush of the logs, where there is one
abbrev pub AreFlushedFrom : Partition → List Content → List (List Write) → List Content → Type 0
AreFlushedFrom part cs [] list = list ≡ cs
AreFlushedFrom part cs (ws ∷ logs) list = (c : Content) × IsFlush part cs (table_over (live cs) (all_writes (ws ∷ logs))) (length (ws ∷ logs)) c × (list ≡ cs ++ c ∷ [])

-- or the merge of all alone, where they are more than a partition may begin with
abbrev pub AreMergedFrom : List Content → List Content → Type 0
AreMergedFrom cs list = ((length cs ≤ most_listed) × (list ≡ cs)) ⊎ ((most_listed < length cs) × (c : Content) × IsMerge cs c × (list ≡ c ∷ []))

-- so they come from these components, with these logs above them
pub record AreOpenedFrom (part : Partition) (cs : List Content) (logs : List (List Write)) (list : List Content) : Type 0 where
  pub all : List Content
  pub flushed : AreFlushedFrom part cs logs all
  pub merged : AreMergedFrom all list
