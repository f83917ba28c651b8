-- What a line of a window asks for, as it is answered.
use Rattle.std.specs.Prelude.{Bool, true, false}
use Rattle.tc_model.specs.Limits.{max_line}
use Rattle.tc_request_model.specs.Request.{Request, flush, schema, scan, collect, refused}
use Rattle.tc_request_model.specs.Light.{IsLight}
use Rattle.tc_command.specs.Commands.{ask_of, request_of_command}
use Rattle.tc_command.specs.Refusals.{refusal_of}
use Rattle.tc_keeper.specs.Together.{IsForPart}
use Rattle.tc_server.specs.declared.answer.Action.{Action}
use Rattle.tc_server.specs.declared.answer.Action.TheVariants.{Run, Whole, Refuse}
use Rattle.tc_server.specs.declared.answer.Control.{Control}
use Rattle.tc_server.specs.declared.answer.Control.TheVariants.{Flush, Schema, Scan, Collect}

abbrev pub request_whole : Control → Request
request_whole Flush = flush
request_whole Schema = schema
request_whole (Scan ask) = scan (ask_of ask)
request_whole Collect = collect

abbrev pub request_asked : Action → Request
request_asked (Run command) = request_of_command command
request_asked (Whole control) = request_whole control
request_asked (Refuse refusal) = refused (refusal_of refusal)

-- it is for the whole store
abbrev pub is_whole : Action → Bool
is_whole (Run command) = false
is_whole (Whole control) = true
is_whole (Refuse refusal) = false

-- a command that is run is for a partition
abbrev pub IsRunForPart : Action → Type 0
IsRunForPart (Run command) = IsForPart (request_of_command command)
IsRunForPart _ = Unit {0}

-- and its document is no heavier than a line
pub record IsSoundAction (action : Action) : Type 0 where
  pub for_part : IsRunForPart action
  pub light : IsLight max_line (request_asked action)
