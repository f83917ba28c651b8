use Rattle.std.proofs.Common.{ℕ, List, Option, map}
use Rattle.std.specs.Prelude.{IfSome, IsSome}
use Rattle.tc_store.specs.declared.file_name.FileName.{FileName}
use Rattle.tc_component.specs.Loading.{index_in}
use Rattle.tc_recover.specs.Files.{picture_at, picture_in}
use Rattle.tc_recover.specs.Opening.{found_in}
use Rattle.tc_lawful.proofs.AuditedDisks.{disk_own, told_same}
use Rattle.tc_lawful.proofs.CountedTiles.{each_judged}
use Rattle.tc_lawful.proofs.HeldFiles.{IsOpenFile, all_held, files_open, files_some, own_same}
use Rattle.tc_lawful.proofs.LoadedFiles.{each_by_file, own}
use Rattle.tc_lawful.proofs.WholeFiles.{judged_parts}
use Rattle.tc_lawful.proofs.audited.loaded_files_hold.Goals as goal

pub returns-clause-told : goal.returns-clause-told
returns-clause-told g c = λ disk past new files left list last rests taken read.
    let content : g.row.S-Frozen.Denot → Option (List ℕ) = λ f. g.S.Frozen.Frozen.content f in
    let name : g.row.S-Frozen.Denot → FileName = λ f. g.S.Frozen.Frozen.name f in
    disk_own content name files disk past new list rests taken (own content files list taken.ascend taken.told read.files_are)

pub returns-clause-hold : goal.returns-clause-hold
returns-clause-hold g c = λ part disk past new files left list writes last rests taken judged read.
    let content : g.row.S-Frozen.Denot → Option (List ℕ) = λ f. g.S.Frozen.Frozen.content f in
    let name : g.row.S-Frozen.Denot → FileName = λ f. g.S.Frozen.Frozen.name f in
    let picture = picture_at disk judged.0 in
    let parts = judged_parts part picture (found_in list writes) judged.3 in
    let told = own_same content (picture_in content files) picture list (told_same content name files disk past new judged.0 rests taken judged.1) (own content files list taken.ascend taken.told read.files_are) in
    all_held c.written_is_read.ensures.found content picture list told (each_judged part picture parts.tiles (map index_in list) parts.components)
    (each_by_file (λ x. IsSome (content x.file)) files list read.files_are (files_some content files taken.told))
    (each_by_file (λ x. IfSome (content x.file) IsOpenFile) files list read.files_are (files_open content files taken.gates taken.bytes))
