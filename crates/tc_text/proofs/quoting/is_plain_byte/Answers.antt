use Rattle.json.proofs.Printed.Strings.{escape_byte_plain}
use Rattle.tc_text.proofs.quoting.is_plain_byte.Goals as goal

pub returns : goal.returns
returns c = escape_byte_plain c.args.byte c.if-byte-eq34.false c.if-byte-eq92.false c.if-byte-lt32.false
