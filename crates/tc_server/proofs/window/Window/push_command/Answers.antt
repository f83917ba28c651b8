use Rattle.std.proofs.Common.{◌≡◌, ◌≤◌, ◌+◌, ◌∙◌, ◌∷◌, [], ◌++◌, ap, length, length-append, sym, subst, All, arith}
use Rattle.std.specs.Prelude.{◌<◌, List, Option, None, map}
use Rattle.std.proofs.lemmas.List.{length-map, map-append}
use Rattle.std.proofs.lemmas.List.Elements.{All-push}
use Rattle.tc_command.specs.Commands.{request_of_command}
use Rattle.tc_command.specs.declared.refusals.Refusal.{Refusal}
use Rattle.tc_model.specs.Keyed.{Ascends}
use Rattle.tc_model.specs.Limits.{max_line}
use Rattle.tc_route.specs.Meaning.{routed_of}
use Rattle.tc_route.specs.declared.placed.Routed.{Routed}
use Rattle.tc_keeper.specs.Together.{requests_routed, weight_in, IsRouted}
use Rattle.tc_server.specs.Window.{count_asked, mixed, request_refused}
use Rattle.tc_server.proofs.CommandPlaces.{ascends_pushed, below_longer}
use Rattle.tc_server.proofs.Mixing.{count_asked-append, lighter, mixed-asked, weight_pushed}
use Rattle.tc_server.proofs.window.Window.push_command.Goals as goal

pub returns-clause-requests : goal.returns-clause-requests
returns-clause-requests c =
    let w = c.args.self.now in
    ap (λ lines. mixed request_refused lines (requests_routed c.push.new.self.items)) c.in_ok-push-2.ensures.items
    ∙ ap (λ list. mixed request_refused (w.refusals.items ++ None ∷ []) (requests_routed list)) c.in_ok-push.ensures.items
    ∙ ap (mixed request_refused (w.refusals.items ++ None ∷ [])) (map-append (λ (r : Routed). request_of_command r.command) w.commands.items _)
    ∙ mixed-asked request_refused w.refusals.items (requests_routed w.commands.items) (request_of_command c.args.command) (c.requires.sound.whole ∙ sym (length-map w.commands.items _))

pub returns-clause-lines : goal.returns-clause-lines
returns-clause-lines c = omega (arith, ap length c.in_ok-push-2.ensures.items ∙ length-append c.args.self.now.refusals.items (None ∷ []))

pub returns-clause-sound : goal.returns-clause-sound
returns-clause-sound c =
    let w = c.args.self.now in
    let items = c.in_ok-push.ensures.items in
    let at : c.len-at.result ≡ length w.refusals.items = omega (arith, c.len-at.ensures, w.refusals.ok.0) in
    let longer = length-append w.refusals.items (None ∷ []) in
    record {
      each = subst (All IsRouted) (sym items) (All-push IsRouted w.commands.items _ c.requires.sound.each (c.requires.for_part, lighter c.args.size max_line (request_of_command c.args.command) c.requires.size c.requires.light));
      ascending = subst (λ list. Ascends (map routed_of list)) (sym items) (ascends_pushed _ w.commands.items c.requires.sound.ascending (subst (λ at. All (λ (r : Routed). r.at < at) w.commands.items) (sym at) c.requires.sound.below));
      below = subst (λ (lines : List (Option Refusal)). All (λ (r : Routed). r.at < length lines) c.push.new.self.items) (sym c.in_ok-push-2.ensures.items) (subst (All (λ (r : Routed). r.at < length (w.refusals.items ++ None ∷ []))) (sym items)
          (All-push (λ (r : Routed). r.at < length (w.refusals.items ++ None ∷ [])) w.commands.items _ (below_longer (length w.refusals.items) (length (w.refusals.items ++ None ∷ [])) w.commands.items (omega (arith, longer)) c.requires.sound.below) (omega (arith, longer, at))));
      whole = omega (arith, ap count_asked c.in_ok-push-2.ensures.items, count_asked-append w.refusals.items (None ∷ []), c.requires.sound.whole, ap length items ∙ length-append w.commands.items _);
      light = subst (λ list. weight_in (requests_routed list) ≤ w.bytes + c.args.size) (sym items) (weight_pushed w.commands.items _ w.bytes c.args.size c.requires.sound.light c.requires.light);
    }
