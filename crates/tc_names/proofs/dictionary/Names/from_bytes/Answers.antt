use Rattle.tc_bytes.proofs.Fields.{IsBytes-from_type}
use Rattle.tc_names.proofs.Spelling.{section-found, section-only, section-refused}
use Rattle.tc_names.proofs.dictionary.Names.from_bytes.Goals as goal

pub returns-clause-found : goal.returns-clause-found
returns-clause-found c = section-found c.read.result c.args.bytes.now (IsBytes-from_type c.args.bytes.now c.type_inv.bytes) c.read.ensures

pub returns-clause-only : goal.returns-clause-only
returns-clause-only c = section-only c.read.result c.args.bytes.now (IsBytes-from_type c.args.bytes.now c.type_inv.bytes) c.read.ensures

pub returns-clause-refused : goal.returns-clause-refused
returns-clause-refused c = section-refused c.read.result c.args.bytes.now c.read.ensures
