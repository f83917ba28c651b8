-- What commands at their places mean, and what replies there show.
use Rattle.std.specs.Prelude.{ℕ, List, [], map, slice_index_or}
use Rattle.std.specs.declared.vec.Vec.{Vec}
use Rattle.std.specs.declared.alloc.Global.{Global}
use Rattle.tc_model.specs.Keyed.{Keyed}
use Rattle.tc_request_model.specs.Request.{Request}
use Rattle.tc_request_model.specs.Rendered.{Rendered}
use Rattle.tc_command.specs.Commands.{request_of_command}
use Rattle.tc_command.specs.Replies.{rendered_of}
use Rattle.tc_route.specs.declared.placed.Routed.{Routed}
use Rattle.tc_route.specs.declared.placed.Placed.{Placed}

abbrev pub routed_of : Routed → ℕ × Request
routed_of r = (r.at, request_of_command r.command)

abbrev pub placed_of : Placed → ℕ × Rendered
placed_of a = (a.at, rendered_of a.reply)

-- what the replies of a list show
abbrev pub rendered_in : List Placed → Keyed Rendered
rendered_in replies = map placed_of replies

-- the requests of each of several partitions
abbrev pub requests_of : List (Vec Routed Global) → List (Keyed Request)
requests_of parts = map (λ part. map routed_of part.items) parts

-- the requests of the partition of a number
abbrev pub requests_at : ℕ → List (Vec Routed Global) → Keyed Request
requests_at p parts = slice_index_or (requests_of parts) p []
