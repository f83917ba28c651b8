use Rattle.std.proofs.Common.{◌≡◌, List, map, take}
use Rattle.tc_command.specs.Commands.{ask_of}
use Rattle.tc_request_model.specs.Rendered.{row_text}
use Rattle.tc_request_model.specs.Reply.{Row}
use Rattle.tc_request_model.specs.Rows.{rows_over}
use Rattle.tc_plain_model.specs.Writes.{Pairs}
use Rattle.tc_shown.specs.Scans.{IsRead, ShowAll}
use Rattle.tc_shown.proofs.Turns.{Turned}
use Rattle.tc_shown.proofs.scan.rows_of_each.Given as goal

abbrev pub invariant-loop-at : goal.invariant-loop-at
invariant-loop-at g l =
    Turned (IsRead g.F.Watch.Watch.counts) l.at l.fn.passes l.passes
    × ((parts : List Pairs) → ShowAll g.F.Frozen.content l.fn.passes parts → l.found.items ≡ map (λ ps. map row_text (rows_over (ask_of l.ask) ps)) (take l.at parts))
    × ((rss : List (List Row)) × (l.found.items ≡ map (map row_text) rss))
