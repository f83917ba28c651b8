-- A window makes a write for each command at most.
use Rattle.std.proofs.Common.{◌≤◌, List, [], ◌∷◌, length, arith}
use Rattle.tc_command.specs.Commands.{request_of_command}
use Rattle.tc_request_model.specs.Request.{Request, upsert, delete, get, query, flush, schema, scan, collect, refused}
use Rattle.tc_route.specs.declared.placed.Routed.{Routed}
use Rattle.tc_work.specs.Asked.{writes_for, most_writes, requests_in}

one_at_most : (r : Request) → writes_for r ≤ 1
one_at_most (upsert n d) = omega arith
one_at_most (delete n) = omega arith
one_at_most (get n) = omega arith
one_at_most (query ask) = omega arith
one_at_most flush = omega arith
one_at_most schema = omega arith
one_at_most (scan ask) = omega arith
one_at_most collect = omega arith
one_at_most (refused r) = omega arith

one_each : (list : List Routed) → most_writes (requests_in list) ≤ length list
one_each [] = omega arith
one_each (r ∷ rs) = omega (arith, one_at_most (request_of_command r.command), one_each rs)

pub few_writes : (list : List Routed) → length list ≤ 4096 → most_writes (requests_in list) ≤ 4096
few_writes list few = omega (arith, few, one_each list)
