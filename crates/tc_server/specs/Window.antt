-- What the lines of a window ask for: some are refused, and the others are commands for partitions.
use Rattle.std.specs.Prelude.{◌≡◌, ◌≤◌, ◌<◌, ℕ, suc, List, [], ◌∷◌, flat_map, length, map, All, Option, Some, None}
use Rattle.tc_request_model.specs.Rendered.{Rendered, rendered, rendered_line}
use Rattle.tc_request_model.specs.Reply.{Reply, turned_down}
use Rattle.tc_request_model.specs.Request.{Request, refused}
use Rattle.tc_command.specs.Refusals.{refusal_of}
use Rattle.tc_command.specs.declared.refusals.Refusal.{Refusal}
use Rattle.tc_model.specs.Keyed.{Ascends}
use Rattle.tc_route.specs.Meaning.{routed_of}
use Rattle.tc_keeper.specs.Together.{requests_routed, weight_in, IsRouted}
use Rattle.tc_server.specs.declared.window.Window.{Window}

-- ---- lines of which some are refused

-- in the order of the lines, of a refused one what f says, and of each other one the next of these
abbrev pub mixed : {A : Type 0} → (Refusal → A) → List (Option Refusal) → List A → List A
mixed f [] xs = []
mixed f (Some r ∷ lines) xs = f r ∷ mixed f lines xs
mixed f (None ∷ lines) [] = mixed f lines []
mixed f (None ∷ lines) (x ∷ xs) = x ∷ mixed f lines xs

-- how many are not refused
abbrev pub count_asked : List (Option Refusal) → ℕ
count_asked [] = 0
count_asked (Some r ∷ lines) = count_asked lines
count_asked (None ∷ lines) = suc (count_asked lines)

abbrev pub request_refused : Refusal → Request
request_refused r = refused (refusal_of r)

abbrev pub reply_refused : Refusal → Reply
reply_refused r = turned_down (refusal_of r)

abbrev pub rendered_refused : Refusal → Rendered
rendered_refused r = rendered (reply_refused r)

-- the lines of what replies render
abbrev pub each_rendered : List Rendered → List ℕ
each_rendered texts = flat_map rendered_line texts

-- ---- the window

abbrev pub requests_of : Window → List Request
requests_of w = mixed request_refused w.refusals.items (requests_routed w.commands.items)

-- A line that is not refused has its command, at the place of the line. The documents weigh no more than the lines.
pub record IsSoundWindow (w : Window) : Type 0 where
  pub each : All IsRouted w.commands.items
  pub ascending : Ascends (map routed_of w.commands.items)
  pub below : All (λ r. r.at < length w.refusals.items) w.commands.items
  pub whole : count_asked w.refusals.items ≡ length w.commands.items
  pub light : weight_in (requests_routed w.commands.items) ≤ w.bytes
