-- What commands ask for, and what reading a line promises of them.
use Rattle.std.specs.Prelude.{◌≤◌, Option, Some, None, IfSome, option_map, Result, Ok, Err}
use Rattle.tc_model.specs.Tree.{depth}
use Rattle.tc_model.specs.Limits.{max_depth, max_key}
use Rattle.tc_model.specs.Stored.{IsStorable}
use Rattle.tc_request_model.specs.Request as request
use Rattle.tc_value.specs.Meaning.{tree_of}
use Rattle.tc_command.specs.Refusals.{refusal_of, refusal_number}
use Rattle.tc_command.specs.declared.asks.Ask.{Ask}
use Rattle.tc_command.specs.declared.commands.Command.{Command}
use Rattle.tc_command.specs.declared.commands.Command.TheVariants.{Upsert, Delete, Get, Query, Flush, Schema, Scan, Collect}
use Rattle.tc_command.specs.declared.refusals.ParseFault.{ParseFault}
use Rattle.tc_command.specs.declared.refusals.ParseFault.TheVariants.{Refused, Memory}

abbrev pub ask_of : Ask → request.Ask
ask_of ask = record { path = ask.path; equal_to = option_map tree_of ask.eq }

abbrev pub request_of_command : Command → request.Request
request_of_command (Upsert key doc) = request.upsert key (tree_of doc)
request_of_command (Delete key) = request.delete key
request_of_command (Get key) = request.get key
request_of_command (Query ask) = request.query (ask_of ask)
request_of_command Flush = request.flush
request_of_command Schema = request.schema
request_of_command (Scan ask) = request.scan (ask_of ask)
request_of_command Collect = request.collect

-- what the answer of reading a line says that the line asks for, unless there was no memory
abbrev pub request_by : Result Command ParseFault → Option request.Request
request_by (Ok command) = Some (request_of_command command)
request_by (Err (Refused refusal)) = Some (request.refused (refusal_of refusal))
request_by (Err Memory) = None

-- the same of the answer of reading an ask
abbrev pub request_with : (request.Ask → request.Request) → Result Ask ParseFault → Option request.Request
request_with command (Ok ask) = Some (command (ask_of ask))
request_with command (Err (Refused refusal)) = Some (request.refused (refusal_of refusal))
request_with command (Err Memory) = None

-- ---- what is known of a command that was read

-- a value to compare with is within the depth
abbrev pub IsLawfulAsk : Ask → Type 0
IsLawfulAsk ask = IfSome ask.eq (λ doc. depth (tree_of doc) ≤ max_depth)

-- a key is no more than the greatest
abbrev pub IsLawful : Command → Type 0
IsLawful (Upsert key doc) = (key ≤ max_key) × IsStorable (tree_of doc)
IsLawful (Delete key) = key ≤ max_key
IsLawful (Get key) = key ≤ max_key
IsLawful (Query ask) = IsLawfulAsk ask
IsLawful (Scan ask) = IsLawfulAsk ask
IsLawful _ = Unit {0}

-- a refusal that the line alone decides
abbrev pub IsOfLine : ParseFault → Type 0
IsOfLine (Refused refusal) = refusal_number (refusal_of refusal) ≤ 6
IsOfLine Memory = Unit {0}
