use Rattle.std.proofs.Common.{ℕ, List, Option}
use Rattle.tc_store.specs.declared.file_name.FileName.{FileName}
use Rattle.tc_recover.specs.declared.reading.FilesRead.{FilesRead}
use Rattle.tc_recover.specs.Files.{names_in}
use Rattle.tc_recover.specs.Opening.{Found, found_in}
use Rattle.tc_recover.specs.Refusals.{asked}
use Rattle.tc_check.proofs.CheckedDisks.{IsReadFrom, lawful_told, never_refused, never_right, refused_told, right_told, wrong_told}
use Rattle.tc_check.proofs.CheckedReads.{counted_behind, refused_counts}
use Rattle.tc_check.proofs.checking.check_part.Goals as goal

-- ---- what was read

pub returns-in-Ok-clause-right : goal.returns-in-Ok-clause-right
returns-in-Ok-clause-right g c =
    let content : g.row.S-Frozen.Denot → Option (List ℕ) = λ f. g.S.Frozen.Frozen.content f in
    let name : g.row.S-Frozen.Denot → FileName = λ f. g.S.Frozen.Frozen.name f in
    let part = asked c.args.part in
    let old = g.S.Store.history c.args.store.now in
    let new = g.S.Store.history c.read_files.new.store in
    let x = c.in-Ok.read in
    let files = c.in-Ok.ensures.read.0 in
    let from : IsReadFrom content name part old new files x.left.items x.list x.writes.items x.last = record {
      rests = c.requires.at_rest;
      taken = c.in-Ok.ensures.read.1;
      read = c.in-Ok.ensures.read.2;
      judged = c.in-Ok.ensures.judged;
      of = c.in-Ok.ensures.listed.each;
    } in
    right_told content name c.audited_disks_are_lawful.ensures c.loaded_files_hold.ensures.hold part old new files x.left.items x.list x.writes.items x.last c.check_read.result from c.check_read.ensures.right

pub returns-in-Ok-clause-lawful : goal.returns-in-Ok-clause-lawful
returns-in-Ok-clause-lawful g c =
    let content : g.row.S-Frozen.Denot → Option (List ℕ) = λ f. g.S.Frozen.Frozen.content f in
    let name : g.row.S-Frozen.Denot → FileName = λ f. g.S.Frozen.Frozen.name f in
    let part = asked c.args.part in
    let old = g.S.Store.history c.args.store.now in
    let new = g.S.Store.history c.read_files.new.store in
    let x = c.in-Ok.read in
    let files = c.in-Ok.ensures.read.0 in
    let from : IsReadFrom content name part old new files x.left.items x.list x.writes.items x.last = record {
      rests = c.requires.at_rest;
      taken = c.in-Ok.ensures.read.1;
      read = c.in-Ok.ensures.read.2;
      judged = c.in-Ok.ensures.judged;
      of = c.in-Ok.ensures.listed.each;
    } in
    lawful_told content name c.audited_disks_are_lawful.ensures part old new files x.left.items x.list x.writes.items x.last c.check_read.result from c.check_read.ensures.lawful

pub returns-in-Ok-clause-reason : goal.returns-in-Ok-clause-reason
returns-in-Ok-clause-reason g c =
    let content : g.row.S-Frozen.Denot → Option (List ℕ) = λ f. g.S.Frozen.Frozen.content f in
    let name : g.row.S-Frozen.Denot → FileName = λ f. g.S.Frozen.Frozen.name f in
    let part = asked c.args.part in
    let old = g.S.Store.history c.args.store.now in
    let new = g.S.Store.history c.read_files.new.store in
    let x = c.in-Ok.read in
    let files = c.in-Ok.ensures.read.0 in
    let from : IsReadFrom content name part old new files x.left.items x.list x.writes.items x.last = record {
      rests = c.requires.at_rest;
      taken = c.in-Ok.ensures.read.1;
      read = c.in-Ok.ensures.read.2;
      judged = c.in-Ok.ensures.judged;
      of = c.in-Ok.ensures.listed.each;
    } in
    wrong_told content name c.loaded_files_hold.ensures.hold c.loaded_files_hold.ensures.told part old new files x.left.items x.list x.writes.items x.last c.check_read.result from c.check_read.ensures.wrong

pub returns-in-Ok-clause-files : goal.returns-in-Ok-clause-files
returns-in-Ok-clause-files g c = (names_in c.in-Ok.ensures.read.0, c.in-Ok.ensures.read.1.taken)

pub returns-in-Ok-clause-faults : goal.returns-in-Ok-clause-faults
returns-in-Ok-clause-faults g c = counted_behind _ _ _ _ _ c.in-Ok.ensures.faults c.check_read.ensures.faults

-- ---- what is refused

pub returns-in-Err-clause-right : goal.returns-in-Err-clause-right
returns-in-Err-clause-right g c = never_right (asked c.args.part) (g.S.Store.history c.args.store.now) c.refused.result c.refused.ensures.right

pub returns-in-Err-clause-lawful : goal.returns-in-Err-clause-lawful
returns-in-Err-clause-lawful g c =
    never_refused (FilesRead g.row.S-Frozen.Denot g.row.S-Watch.Denot) (asked c.args.part) (g.S.Store.history c.args.store.now) c.in-Err.cause c.refused.result c.refused.ensures.refusal c.in-Err.ensures.passes

pub returns-in-Err-clause-reason : goal.returns-in-Err-clause-reason
returns-in-Err-clause-reason g c =
    let view : FilesRead g.row.S-Frozen.Denot g.row.S-Watch.Denot → Found = λ read. found_in read.list read.writes.items in
    refused_told view (λ f. g.S.Frozen.Frozen.content f) (asked c.args.part) (g.S.Store.history c.args.store.now) c.in-Err.cause c.refused.result c.refused.ensures.answered c.in-Err.ensures.judged

pub returns-in-Err-clause-faults : goal.returns-in-Err-clause-faults
returns-in-Err-clause-faults g c = refused_counts (FilesRead g.row.S-Frozen.Denot g.row.S-Watch.Denot) c.in-Err.cause c.refused.result _ _ c.refused.ensures.disk c.in-Err.ensures.faults
