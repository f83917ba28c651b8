use Rattle.std.proofs.Common.{◌++◌, ◌∙◌, false, codes}
use Rattle.std.proofs.lemmas.Result.{on_ok_weaker}
use Rattle.tc_schema.specs.Values.{named_values, values_text}
use Rattle.tc_schema.proofs.PlaceTexts.{scalars_put}
use Rattle.tc_schema.proofs.text.put_scalars.Goals as goal

pub returns-clause-text : goal.returns-clause-text
returns-clause-text c =
    let nulls = named_values (codes "null") in
    let booleans = named_values (codes "boolean") in
    let integers = named_values (codes "integer") in
    let texts = named_values (codes "text") in
    on_ok_weaker c.put_scalar-4.result
    (λ e. scalars_put (nulls c.of_kind.result) (booleans c.of_kind-2.result) (integers c.of_kind-3.result) (texts c.of_kind-4.result) _ _ _ _ _ _ _ _
    c.in_ok-later.ensures.text c.in_ok-later.ensures.later c.in_ok-later-2.ensures.text c.in_ok-later-2.ensures.later c.in_ok-later-3.ensures.text c.in_ok-later-3.ensures.later e
    ∙ (λ i. c.args.out.now.items ++ values_text false (nulls (c.of_kind.ensures.counter i) ++ (booleans (c.of_kind-2.ensures.counter i) ++ (integers (c.of_kind-3.ensures.counter i) ++ texts (c.of_kind-4.ensures.counter i))))))
    c.put_scalar-4.ensures.text
