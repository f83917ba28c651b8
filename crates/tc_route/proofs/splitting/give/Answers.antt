use Rattle.std.proofs.Common.{◌≡◌, ◌∙◌, ap, ◌<◌, ◌%◌, ◌==◌, ◌++◌, ◌∷◌, [], length, if◌then◌else◌}
use Rattle.std.proofs.lemmas.Nat.{mod_below}
use Rattle.tc_command.specs.Commands.{request_of_command}
use Rattle.tc_route.specs.Meaning.{requests_at}
use Rattle.tc_route.proofs.PartsGiven.{given_to}
use Rattle.tc_route.proofs.splitting.give.Goals as goal

pub returns-clause-each : goal.returns-clause-each
returns-clause-each c = λ p below.
    let parts = c.args.parts.now.items in
    let home = c.args.key % length c.as_slice.result.now in
    let len : length c.as_slice.result.now ≡ length parts = ap length c.as_slice.ensures.value in
    let inside : home < length parts = rw len (mod_below c.args.key (length parts) c.requires) in
    given_to parts home c.index_mut.result.now c.push.new.self (record { at = c.args.at; command = c.args.command }) inside c.index_mut.ensures.value c.in_ok-push.ensures.items p
    ∙ ap (λ n. requests_at p parts ++ (if c.args.key % n == p then (c.args.at, request_of_command c.args.command) ∷ [] else [])) len
