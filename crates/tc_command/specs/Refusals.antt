-- The refusals, and the faults of reading a line.
use Rattle.std.specs.Prelude.{ℕ}
use Rattle.tc_request_model.specs.Request as request
use Rattle.tc_json.specs.declared.fault.JsonFault.{JsonFault}
use Rattle.tc_json.specs.declared.fault.JsonFault.TheVariants as json
use Rattle.tc_command.specs.declared.refusals.Refusal.{Refusal}
use Rattle.tc_command.specs.declared.refusals.Refusal.TheVariants.{Oversized, Malformed, Unknown, NotWhole, TooDeep, Key, NamesFull, Full, Busy, NoScan}
use Rattle.tc_command.specs.declared.refusals.ParseFault.{ParseFault}
use Rattle.tc_command.specs.declared.refusals.ParseFault.TheVariants.{Refused, Memory}

abbrev pub refusal_of : Refusal → request.Refusal
refusal_of Oversized = request.oversized
refusal_of Malformed = request.malformed
refusal_of Unknown = request.unknown
refusal_of NotWhole = request.not_whole
refusal_of TooDeep = request.too_deep
refusal_of Key = request.no_key
refusal_of NamesFull = request.names_full
refusal_of Full = request.full
refusal_of Busy = request.busy
refusal_of NoScan = request.no_scan

-- the place of a refusal in the order in which refusals are tested
abbrev pub refusal_number : request.Refusal → ℕ
refusal_number request.oversized = 1
refusal_number request.malformed = 2
refusal_number request.unknown = 3
refusal_number request.not_whole = 4
refusal_number request.too_deep = 5
refusal_number request.no_key = 6
refusal_number request.names_full = 7
refusal_number request.full = 8
refusal_number request.busy = 9
refusal_number request.no_scan = 10

-- the fault of a line whose JSON value is no document
abbrev pub fault_of : JsonFault → ParseFault
fault_of json.NotWhole = Refused NotWhole
fault_of json.TooDeep = Refused TooDeep
fault_of json.Memory = Memory
