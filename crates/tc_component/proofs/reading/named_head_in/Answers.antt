use Rattle.std.proofs.Common.{◌≡◌, ◌∙◌, true, Some, Ok, refl, sym}
use Rattle.tc_component.specs.Reading.{version_told, head_at, is_header_of, front_judged}
use Rattle.tc_component.proofs.Files.{front_found}
use Rattle.tc_component.proofs.reading.named_head_in.Goals as goal

pub returns-in-Some-clause-found : goal.returns-in-Some-clause-found
returns-in-Some-clause-found c = λ short.
    let test : is_header_of c.args.name c.args.size (c.in-Some.head, c.in-Some.sizes) ≡ true = sym c.is_header_of.ensures ∙ c.if-is_header_of.true in
    let read : head_at (version_told c.args.front.now) c.args.front.now ≡ Some ((c.in-Some.head, c.in-Some.sizes), c.in-Some.field-0-2.now) = sym c.in-Some.ensures in
    let judged : front_judged c.args.name c.args.size c.args.front.now ≡ Ok (c.in-Some.head, c.in-Some.sizes) = rw (read, test) refl in
    front_found c.args.name c.args.size c.args.front.now (c.in-Some.head, c.in-Some.sizes) (λ i. (c.type_inv.front i).fits) short judged
