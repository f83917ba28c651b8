-- What each call makes of a part that is seen in documents.
use Rattle.std.specs.Prelude.{◌++◌, [], ◌∷◌, Some, None}
use Rattle.tc_plain_model.specs.Writes.{Write}
use Rattle.tc_lsm_model.specs.Contents.{Content}
use Rattle.tc_lsm_model.specs.Merges.{Run}
use Rattle.tc_machine.specs.State.{no_writes, flushing_of}
use Rattle.tc_machine.specs.Events.{with_merge}
use Rattle.tc_part_model.specs.PartView.{PartView, state_of, table_of}

-- one more write is staged
abbrev pub with_staged : Write → PartView → PartView
with_staged w p = record p { staged = p.staged ++ w ∷ [] }

-- the frame of what is staged is in the log
abbrev pub committed_part : PartView → PartView
committed_part p = record p {
  active = record { table = table_of p; writes = p.active.writes ++ p.staged };
  staged = [];
}

-- the active table and its log are sealed, and others go on
abbrev pub sealed_part : PartView → PartView
sealed_part p = record p {
  sealed = Some (record { table = p.active.table; logs = p.active.writes ∷ [] });
  active = no_writes;
}

-- a flush of the sealed table is out
abbrev pub flushing_part : PartView → PartView
flushing_part p = record p { flush = Some (flushing_of (state_of p)) }

-- what the flush made is listed
abbrev pub flushed_part : Content → PartView → PartView
flushed_part c p = record p { list = p.list ++ c ∷ []; sealed = None; flush = None }

-- a merge of a run is out
abbrev pub merging_part : Run → Content → PartView → PartView
merging_part run c p = record p { merge = Some (record { run = run; target = c }) }

-- what the merge made is listed in place of its run
abbrev pub merged_part : PartView → PartView
merged_part p = record p { list = with_merge p.list p.merge; merge = None }
