use Rattle.std.proofs.lemmas.Result.{IfOk-weaker}
use Rattle.tc_value.specs.Meaning.{tree_of}
use Rattle.tc_memory.proofs.tests.stored.Goals as goal

pub returns-in-Some : goal.returns-in-Some
returns-in-Some c =
    let d = tree_of c.args.doc.now in
    let within = c.nests_within.ensures in
    let passes = c.if-not-nests_within.false in
    IfOk-weaker c.encode.result _ _ (λ bytes is. record { document = d; is_record = is (within.lawful passes) (within.within.0 passes); keyless = c.requires }) c.encode.ensures.is_record
