use Rattle.std.proofs.Common.{◌<◌, ℕ, List, Option, Ok, length}
use Rattle.tc_bytes.specs.Codec.{IsBytes}
use Rattle.tc_store.specs.declared.file_name.FileName.{FileName}
use Rattle.tc_store.specs.Disk.{bytes_at}
use Rattle.tc_component.specs.Layout.{number_end}
use Rattle.tc_recover.specs.Files.{picture_at, picture_in}
use Rattle.tc_recover.specs.Lawful.{found_of}
use Rattle.tc_recover.specs.Opening.{found_in}
use Rattle.tc_lawful.proofs.AuditedDisks.{audited_readable, audited_whole, disk_ascends, disk_opens, opened_audited, opens_at}
use Rattle.tc_lawful.proofs.CountedTiles.{same_answer}
use Rattle.tc_lawful.proofs.LoadedFiles.{each_told}
use Rattle.tc_lawful.proofs.audited.audited_disks_are_lawful.Goals as goal

pub returns : goal.returns
returns g c = λ part disk past new files left list writes last cs logs rests taken judged read.
    let content : g.row.S-Frozen.Denot → Option (List ℕ) = λ f. g.S.Frozen.Frozen.content f in
    let name : g.row.S-Frozen.Denot → FileName = λ f. g.S.Frozen.Frozen.name f in
    let names = judged.0 in
    let picture = picture_at disk names in
    let readable = c.judged_files_are_lawful.ensures.bytes (picture_in content files) last (each_told content (λ bytes. IsBytes bytes × (length bytes < number_end)) files taken.told taken.bytes) in
    let ascend = disk_ascends disk names judged.2 in (
      λ audited.
          let whole = audited_whole content name part disk past new files left list writes last cs logs rests taken read names judged.1 judged.2 audited in
          let reads = audited_readable content name part disk past new files left list writes last cs logs rests taken read names judged.1 judged.2 audited readable in
          disk_opens content name part disk past new files left list writes last cs logs rests taken read names judged.1 judged.2 ((c.judged_files_are_lawful.ensures.opens part picture (found_in list writes) cs logs ascend reads judged.3).0 whole),
      λ opens.
          let opened = opens_at content name part disk past new files left list writes last cs logs rests taken read names judged.1 judged.2 opens in
          let law = c.lawful_files_are_read.ensures in
          let found = same_answer (found_in list writes) (found_of (bytes_at picture) cs logs) (law.one_way part picture (Ok (found_in list writes)) (Ok (found_of (bytes_at picture) cs logs)) judged.3 (law.read part picture cs logs ascend opened)) in
          opened_audited content name part disk past new files left list writes last cs logs rests taken read names judged.1 judged.2 opened found,
    )
