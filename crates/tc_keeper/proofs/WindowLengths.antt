-- Commands that are answered together are a window of an engine: the records of light documents are short.
use Rattle.std.proofs.Common.{◌≡◌, ◌≤◌, ◌+◌, ◌*◌, List, [], ◌∷◌, length, refl, ap, arith}
use Rattle.std.specs.List.{AllByRecursion}
use Rattle.std.proofs.lemmas.List.Elements.{All-weaker, recursion_from_All}
use Rattle.tc_command.specs.Commands.{request_of_command}
use Rattle.tc_model.specs.Document.{Document}
use Rattle.tc_model.specs.Limits.{max_line}
use Rattle.tc_request_model.specs.Request.{Request, upsert, delete, get, query, flush, schema, scan, collect, refused}
use Rattle.tc_model.specs.Weight.{weight}
use Rattle.tc_request_model.specs.Light.{IsLight}
use Rattle.tc_record.specs.Record.{header_size, record_of}
use Rattle.tc_route.specs.declared.placed.Routed.{Routed}
use Rattle.tc_keeper.specs.Together.{IsForPart, requests_routed, weight_of, weight_in, IsRouted, AreTogether}
use Rattle.tc_work.specs.Asked.{IsForPart as IsRunForPart, bytes_for, most_bytes, requests_in, IsWindow}

-- the requests of routed commands
pub requests_same : (list : List Routed) → requests_in list ≡ requests_routed list
requests_same [] = refl
requests_same (r ∷ list) = ap (λ rs. request_of_command r.command ∷ rs) (requests_same list)

requests_for_part : (list : List Routed) → AllByRecursion IsRouted list → AllByRecursion IsForPart (requests_routed list)
requests_for_part [] each = tt
requests_for_part (r ∷ rs) each = (each.0.0, requests_for_part rs each.1)

pub all_for_part : (list : List Routed) → AreTogether list → AllByRecursion IsForPart (requests_routed list)
all_for_part list together = requests_for_part list (recursion_from_All IsRouted list together.each)

module _ (within : (d : Document) → length (record_of d) ≤ header_size + 14 * weight d) where
  run_for_part : (r : Request) → IsForPart r → IsLight max_line r → IsRunForPart r
  run_for_part (upsert n d) for_part light = (omega (arith, for_part.0), for_part.1, omega (arith, light, within d))
  run_for_part (delete n) for_part light = omega (arith, for_part)
  run_for_part (get n) for_part light = omega (arith, for_part)
  run_for_part (query ask) for_part light = tt
  run_for_part flush for_part light = absurd for_part
  run_for_part schema for_part light = absurd for_part
  run_for_part (scan ask) for_part light = absurd for_part
  run_for_part collect for_part light = absurd for_part
  run_for_part (refused r) for_part light = absurd for_part

  bytes_by_weight : (r : Request) → bytes_for r ≤ 32 + 14 * weight_of r
  bytes_by_weight (upsert n d) = omega (arith, within d)
  bytes_by_weight (delete n) = omega arith
  bytes_by_weight (get n) = omega arith
  bytes_by_weight (query ask) = omega arith
  bytes_by_weight flush = omega arith
  bytes_by_weight schema = omega arith
  bytes_by_weight (scan ask) = omega arith
  bytes_by_weight collect = omega arith
  bytes_by_weight (refused r) = omega arith

  all_bytes : (list : List Routed) → most_bytes (requests_in list) ≤ 32 * length list + 14 * weight_in (requests_routed list)
  all_bytes [] = omega arith
  all_bytes (r ∷ list) = omega (arith, bytes_by_weight (request_of_command r.command), all_bytes list)

  pub is_window : (list : List Routed) → AreTogether list → IsWindow list
  is_window list together = record {
    few = together.few;
    each = All-weaker IsRouted (λ r. IsRunForPart (request_of_command r.command)) (λ r is. run_for_part (request_of_command r.command) is.0 is.1) list together.each;
    short = omega (arith, together.few, together.light, all_bytes list);
  }
