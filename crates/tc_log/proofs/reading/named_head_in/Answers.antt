use Rattle.std.proofs.Common.{◌≡◌, true, Some, sym, refl, arith}
use Rattle.std.proofs.lemmas.Bool.{eq-eqb}
use Rattle.tc_log.specs.Reading.{head_at, is_of}
use Rattle.tc_log.proofs.Logs.{named_found, named_lawful}
use Rattle.tc_log.proofs.reading.named_head_in.Goals as goal

pub returns-in-Some-clause-found : goal.returns-in-Some-clause-found
returns-in-Some-clause-found c = λ short.
    let same : c.in-Some.head.generation ≡ c.args.generation = omega (arith, c.if-head-generation.true) in
    let named : is_of c.args.generation c.in-Some.head ≡ true = eq-eqb c.in-Some.head.generation c.args.generation same in
    let read : head_at c.args.front.now ≡ Some (c.in-Some.head, c.in-Some.field-0-1.now) = sym c.in-Some.ensures in
    named_found c.args.generation c.args.front.now c.in-Some.head (λ i. (c.type_inv.front i).fits) short (rw (read, named) refl)

pub returns-in-Some-clause-lawful : goal.returns-in-Some-clause-lawful
returns-in-Some-clause-lawful c =
    let same : c.in-Some.head.generation ≡ c.args.generation = omega (arith, c.if-head-generation.true) in
    let named : is_of c.args.generation c.in-Some.head ≡ true = eq-eqb c.in-Some.head.generation c.args.generation same in
    let read : head_at c.args.front.now ≡ Some (c.in-Some.head, c.in-Some.field-0-1.now) = sym c.in-Some.ensures in
    named_lawful c.args.generation c.args.front.now c.in-Some.head (λ i. (c.type_inv.front i).fits) (rw (read, named) refl)
