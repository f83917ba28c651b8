-- What replies show.
use Rattle.tc_request_model.specs.Rendered as rendered
use Rattle.tc_command.specs.Refusals.{refusal_of}
use Rattle.tc_command.specs.declared.replies.Reply.{Reply}
use Rattle.tc_command.specs.declared.replies.Reply.TheVariants.{Upserted, Deleted, Got, Rows, Flushed, Schemas, Started, Collected, Refused}

abbrev pub rendered_of : Reply → rendered.Rendered
rendered_of (Upserted id replaced) = rendered.upserted id replaced
rendered_of (Deleted id found) = rendered.deleted id found
rendered_of (Got id text) = rendered.got id text
rendered_of (Rows rows) = rendered.rows rows
rendered_of Flushed = rendered.flushed
rendered_of (Schemas schemas) = rendered.schemas schemas
rendered_of Started = rendered.started
rendered_of (Collected rows upto) = rendered.collected rows upto
rendered_of (Refused refusal) = rendered.turned_down (refusal_of refusal)
