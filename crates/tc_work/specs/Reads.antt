-- How the reads of a window are counted.
use Rattle.std.specs.Prelude.{◌≤◌, ◌+◌, ℕ, List, [], ◌∷◌}
use Rattle.tc_bytes.specs.Counts.{Rose}
use Rattle.tc_request_model.specs.Request.{Request, upsert, delete, get, query, flush, schema, scan, collect, refused}
use Rattle.tc_part_model.specs.PartState.{PartState}
use Rattle.tc_query.specs.Shown.{live_keys}
use Rattle.tc_store.specs.Counted.{Counts}
use Rattle.tc_work.specs.Asked.{writes_for}

-- So many reads at most. Where the call failed for a fault, one was counted.
pub record IsCountedWithin (most : ℕ) (Failed : Type 0) (old new : Counts) : Type 0 where
  pub faults : old.faults ≤ new.faults
  pub cause : Failed → Rose old.faults new.faults
  pub reads : new.reads ≤ old.reads + most

-- how many keys have a document, as directories and tables show
abbrev pub live_in : {S D F W : Type 0} → PartState S D F W → ℕ
live_in part = live_keys part.list part.sealed part.active

-- The most reads that a request makes where so many keys have a document: a query makes one for each of them, and what is for
-- one key makes one.
abbrev pub reads_for : ℕ → Request → ℕ
reads_for live (upsert n d) = 1
reads_for live (delete n) = 1
reads_for live (get n) = 1
reads_for live (query ask) = live
reads_for live flush = 0
reads_for live schema = 0
reads_for live (scan ask) = 0
reads_for live collect = 0
reads_for live (refused r) = 0

-- The same of requests, one after the other. Behind a write one key more may have a document.
abbrev pub most_reads : ℕ → List Request → ℕ
most_reads live [] = 0
most_reads live (r ∷ rs) = reads_for live r + most_reads (live + writes_for r) rs
