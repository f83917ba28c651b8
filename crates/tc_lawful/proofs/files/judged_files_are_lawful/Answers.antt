use Rattle.std.proofs.Common.{Ok}
use Rattle.tc_store.specs.Disk.{bytes_at}
use Rattle.tc_recover.specs.Lawful.{found_of}
use Rattle.tc_lawful.proofs.CountedTiles.{same_answer}
use Rattle.tc_lawful.proofs.WholeFiles.{bytes_readable, whole_opens}
use Rattle.tc_lawful.proofs.files.judged_files_are_lawful.Goals as goal

pub returns-clause-opens : goal.returns-clause-opens
returns-clause-opens c = λ part picture found cs logs sorted readable judged. (
  whole_opens part picture found cs logs sorted readable judged,
  λ opens.
      let law = c.lawful_files_are_read.ensures in
      record {
        found_is = same_answer found (found_of (bytes_at picture) cs logs) (law.one_way part picture (Ok found) (Ok (found_of (bytes_at picture) cs logs)) judged (law.read part picture cs logs sorted opens));
        list = opens.list;
        there = opens.there;
        writes = opens.writes;
        room = opens.room;
        few = opens.few;
      },
)

pub returns-clause-bytes : goal.returns-clause-bytes
returns-clause-bytes c = bytes_readable
