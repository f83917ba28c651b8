use Rattle.std.proofs.Common.{◌≡◌, arith}
use Rattle.std.proofs.lemmas.Result.{err_from_is_err_and}
use Rattle.tc_bytes.proofs.Fields.{IsBytes-from_type}
use Rattle.tc_schema_model.proofs.FieldLaws.{canonical_below}
use Rattle.tc_schema.specs.Reading.{read_schema}
use Rattle.tc_schema.specs.Places.{place_counted, most_names}
use Rattle.tc_schema.specs.declared.fault.SchemaFault.TheVariants.{NotASchema}
use Rattle.tc_schema.proofs.SchemaCodec.{schema_found, schema_only, schema_refused}
use Rattle.tc_schema.proofs.whole.Schema.from_bytes.Goals as goal

pub returns-in_err-root-clause-refused : goal.returns-in_err-root-clause-refused
unfolding read_schema
returns-in_err-root-clause-refused c is_err schema fits same =
    let p = err_from_is_err_and c.from_residual.result c.from_residual.ensures.1 in
    let fault : c.in_err-root.field-0.0 ≡ NotASchema = cc (p.1, p.2, is_err) in
    schema_refused c.args.names c.args.bytes.now (omega arith) (c.in_err-root.ensures fault) schema fits same

pub invariant_of-result : goal.invariant_of-result
unfolding read_schema
invariant_of-result c =
    let here = schema_found c.args.names c.args.bytes.now (place_counted c.in_ok-root.root) (omega arith) (IsBytes-from_type c.args.bytes.now c.type_inv.bytes) c.in_ok-root.ensures in
    canonical_below c.args.names most_names (place_counted c.in_ok-root.root) (omega arith) here.1.canonical

pub returns-clause-found : goal.returns-clause-found
unfolding read_schema
returns-clause-found c =
    (schema_found c.args.names c.args.bytes.now (place_counted c.in_ok-root.root) (omega arith) (IsBytes-from_type c.args.bytes.now c.type_inv.bytes) c.in_ok-root.ensures).0

pub returns-clause-schema : goal.returns-clause-schema
unfolding read_schema
returns-clause-schema c =
    (schema_found c.args.names c.args.bytes.now (place_counted c.in_ok-root.root) (omega arith) (IsBytes-from_type c.args.bytes.now c.type_inv.bytes) c.in_ok-root.ensures).1

pub returns-clause-only : goal.returns-clause-only
unfolding read_schema
returns-clause-only c = schema_only c.args.names c.args.bytes.now (place_counted c.in_ok-root.root) (omega arith) c.in_ok-root.ensures
