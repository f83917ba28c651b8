-- The reply to a write, by what came of it.
use Rattle.std.specs.Prelude.{ℕ, false}
use Rattle.tc_request_model.specs.Request.{names_full, full}
use Rattle.tc_request_model.specs.Reply.{Reply, upserted, deleted, turned_down}
use Rattle.tc_part.specs.declared.staging.Staged.{Staged}
use Rattle.tc_part.specs.declared.staging.Staged.TheVariants.{Done, NamesFull, Full}

abbrev pub reply_to_upsert : ℕ → Staged → Reply
reply_to_upsert key (Done was_live) = upserted key was_live
reply_to_upsert key NamesFull = turned_down names_full
reply_to_upsert key Full = turned_down full

-- a delete is never refused
abbrev pub reply_to_delete : ℕ → Staged → Reply
reply_to_delete key (Done was_live) = deleted key was_live
reply_to_delete key NamesFull = deleted key false
reply_to_delete key Full = deleted key false
