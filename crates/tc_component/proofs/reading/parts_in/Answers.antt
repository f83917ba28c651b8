use Rattle.std.proofs.Common.{subst}
use Rattle.tc_bytes.specs.Codec.{IsBytes}
use Rattle.tc_component.proofs.Files.{rest_found}
use Rattle.tc_component.specs.Loading.{parts_of}
use Rattle.tc_component.proofs.reading.parts_in.Goals as goal

pub returns-in-Ok-clause-found : goal.returns-in-Ok-clause-found
returns-in-Ok-clause-found c = rest_found c.args.version (c.args.head, c.args.sizes) c.args.rest.items (parts_of c.args.version c.args.head c.in-Ok.parts) (subst IsBytes c.deref.ensures.value c.are_bytes.ensures) c.in-Ok.ensures.judged
