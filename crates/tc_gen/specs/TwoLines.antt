-- What a demonstration writes: how many of its commands were refused, and the reply to the line that closes its input.
use Rattle.std.specs.Prelude.{ℕ, suc, ◌==◌, Bool, true, false, List, [], ◌∷◌, ◌++◌, length, codes, if◌then◌else◌}
use Rattle.std.specs.Fmt.{decimal}
use Rattle.tc_request_model.specs.Reply.{Reply, reply_line, upserted, deleted, got, rows, flushed, schemas, started, collected, turned_down}

-- its line was refused
abbrev pub is_refusal : Reply → Bool
is_refusal (upserted n replaced) = false
is_refusal (deleted n found) = false
is_refusal (got n d) = false
is_refusal (rows rs) = false
is_refusal flushed = false
is_refusal (schemas ds) = false
is_refusal started = false
is_refusal (collected rs upto) = false
is_refusal (turned_down r) = true

-- of how many replies the line was refused
abbrev pub refusals_in : List Reply → ℕ
refusals_in [] = 0
refusals_in (a ∷ more) = if is_refusal a then suc (refusals_in more) else refusals_in more

-- the line of the last reply, or this one where there is none
abbrev pub last_line : List ℕ → List Reply → List ℕ
last_line line [] = line
last_line line (a ∷ more) = last_line (reply_line a) more

-- what is kept of replies
pub record Heard : Type 0 where
  pub refused : ℕ
  pub last : List ℕ

abbrev pub heard_of : List Reply → Heard
heard_of replies = record { refused = refusals_in replies; last = last_line [] replies }

-- how many commands there were, and how many of them were refused
abbrev pub summary_line : ℕ → ℕ → List ℕ
summary_line n refused = (codes "{\"commands\":" ++ (decimal n ++ codes ",\"refused\":")) ++ (decimal refused ++ codes "}\n")

abbrev pub lines_for : ℕ → Heard → List ℕ
lines_for n heard = summary_line n heard.refused ++ heard.last

-- The two lines for the replies to so many commands and to the line behind them. Where they are not all there, nothing is written.
abbrev pub two_lines : ℕ → List Reply → List ℕ
two_lines n replies = if length replies == suc n then lines_for n (heard_of replies) else []
