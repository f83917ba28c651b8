use Rattle.std.proofs.Common.{◌∙◌, ap, ◌<◌, length, arith}
use Rattle.std.proofs.lemmas.List.{length-set}
use Rattle.tc_command.specs.Commands.{ask_of}
use Rattle.tc_command.specs.declared.commands.Command.TheVariants.{Query}
use Rattle.tc_request_model.specs.Request.{query}
use Rattle.tc_route.specs.Meaning.{requests_at}
use Rattle.tc_route.proofs.PartsGiven.{given_each}
use Rattle.tc_route.proofs.splitting.ask_all.Goals as goal

pub loop-p-preserved : goal.loop-p-preserved
loop-p-preserved c =
    let parts = c.loop-p.parts.items in
    let below_len : c.loop-p.p < length parts = omega (arith, c.loop-p-test.true, c.loop-p.invariant.0, ap length c.as_slice-p-end.ensures.value) in (
      length-set parts c.loop-p.p c.push.new.self ∙ c.loop-p.invariant.0,
      λ q below. given_each parts c.loop-p.p c.index_mut.result.now c.push.new.self (record { at = c.args.at; command = Query c.in_ok-copy.field-0 }) (c.args.at, query (ask_of c.args.ask.now))
          (ap (λ ask. (c.args.at, query ask)) c.in_ok-copy.ensures) below_len c.index_mut.ensures.value c.in_ok-push.ensures.items q (requests_at q c.args.parts.now.items) (c.loop-p.invariant.1 q below),
    )
