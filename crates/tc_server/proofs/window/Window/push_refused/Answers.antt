use Rattle.std.proofs.Common.{◌∙◌, ◌++◌, ◌∷◌, [], All, ap, length, length-append, subst, sym, arith}
use Rattle.std.specs.Prelude.{◌<◌, List, Option, Some}
use Rattle.std.proofs.lemmas.List.{length-map}
use Rattle.tc_keeper.specs.Together.{requests_routed}
use Rattle.tc_server.specs.Window.{count_asked, mixed, request_refused}
use Rattle.tc_command.specs.declared.refusals.Refusal.{Refusal}
use Rattle.tc_route.specs.declared.placed.Routed.{Routed}
use Rattle.tc_server.proofs.CommandPlaces.{below_longer}
use Rattle.tc_server.proofs.Mixing.{count_asked-append, mixed-refused}
use Rattle.tc_server.proofs.window.Window.push_refused.Goals as goal

pub returns-clause-requests : goal.returns-clause-requests
returns-clause-requests c =
    let w = c.args.self.now in
    ap (λ lines. mixed request_refused lines (requests_routed w.commands.items)) c.in_ok-push.ensures.items
    ∙ mixed-refused request_refused w.refusals.items (requests_routed w.commands.items) c.args.refusal (c.requires.sound.whole ∙ sym (length-map w.commands.items _))

pub returns-clause-lines : goal.returns-clause-lines
returns-clause-lines c = omega (arith, ap length c.in_ok-push.ensures.items ∙ length-append c.args.self.now.refusals.items (Some c.args.refusal ∷ []))

pub returns-clause-sound : goal.returns-clause-sound
returns-clause-sound c = record {
  each = c.requires.sound.each;
  ascending = c.requires.sound.ascending;
  below = let w = c.args.self.now in subst (λ (lines : List (Option Refusal)). All (λ (r : Routed). r.at < length lines) w.commands.items) (sym c.in_ok-push.ensures.items)
      (below_longer (length w.refusals.items) (length (w.refusals.items ++ Some c.args.refusal ∷ [])) w.commands.items (omega (arith, length-append w.refusals.items (Some c.args.refusal ∷ []))) c.requires.sound.below);
  whole = omega (arith, ap count_asked c.in_ok-push.ensures.items ∙ count_asked-append c.args.self.now.refusals.items (Some c.args.refusal ∷ []), c.requires.sound.whole);
  light = omega (arith, c.requires.sound.light);
}
