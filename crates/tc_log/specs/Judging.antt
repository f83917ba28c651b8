-- What the readers of a log are judged by.
use Rattle.std.specs.Prelude.{List}
use Rattle.tc_log.specs.declared.head.LogHead.{LogHead}
use Rattle.tc_log.specs.declared.reading.LogRead.{LogRead}
use Rattle.tc_log.specs.declared.write.Write.{Write}

-- the header and the writes that were read
abbrev pub read_of : LogRead → LogHead × List Write
read_of read = (read.head, read.writes)

abbrev pub same_head : LogHead → LogHead
same_head head = head
