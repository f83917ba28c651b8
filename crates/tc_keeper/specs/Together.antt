-- Commands for partitions that are answered together.
use Rattle.std.specs.Prelude.{◌≤◌, ℕ, ◌+◌, List, [], ◌∷◌, length, map, All}
use Rattle.tc_command.specs.Commands.{request_of_command}
use Rattle.tc_model.specs.Keyed.{Ascends}
use Rattle.tc_model.specs.Limits.{max_key, max_line}
use Rattle.tc_request_model.specs.Request.{Request, upsert, delete, get, query, flush, schema, scan, collect, refused}
use Rattle.tc_model.specs.Stored.{IsStorable}
use Rattle.tc_model.specs.Weight.{weight}
use Rattle.tc_request_model.specs.Light.{IsLight}
use Rattle.tc_route.specs.Meaning.{routed_of}
use Rattle.tc_route.specs.declared.placed.Routed.{Routed}
use Rattle.tc_run_model.specs.Windows.{max_window}

-- a request for a partition: a query, or for one key, whose document may be stored
abbrev pub IsForPart : Request → Type 0
IsForPart (upsert n d) = (n ≤ max_key) × IsStorable d
IsForPart (delete n) = n ≤ max_key
IsForPart (get n) = n ≤ max_key
IsForPart (query ask) = Unit {0}
IsForPart flush = ⊥
IsForPart schema = ⊥
IsForPart (scan ask) = ⊥
IsForPart collect = ⊥
IsForPart (refused r) = ⊥

abbrev pub requests_routed : List Routed → List Request
requests_routed list = map (λ r. request_of_command r.command) list

abbrev pub weight_of : Request → ℕ
weight_of (upsert n d) = weight d
weight_of (delete n) = 0
weight_of (get n) = 0
weight_of (query ask) = 0
weight_of flush = 0
weight_of schema = 0
weight_of (scan ask) = 0
weight_of collect = 0
weight_of (refused r) = 0

abbrev pub weight_in : List Request → ℕ
weight_in [] = 0
weight_in (r ∷ rs) = weight_of r + weight_in rs

-- each is for a partition, with a document that fits a line
abbrev pub IsRouted : Routed → Type 0
IsRouted r = IsForPart (request_of_command r.command) × IsLight max_line (request_of_command r.command)

-- commands that are answered together, in the order of their lines
pub record AreTogether (list : List Routed) : Type 0 where
  pub few : length list ≤ 4096
  pub ascending : Ascends (map routed_of list)
  pub each : All IsRouted list
  pub light : weight_in (requests_routed list) ≤ max_window + max_line
