use Rattle.std.proofs.Common.{ℕ, List}
use Rattle.tc_component.specs.Loading.{ComponentState}
use Rattle.tc_log.specs.declared.write.Write.{Write}
use Rattle.tc_recover.specs.declared.reading.FilesRead.{FilesRead}
use Rattle.tc_recover.specs.declared.taken.Taken.{Taken}
use Rattle.tc_recover.specs.Files.{names_in}
use Rattle.tc_recover.specs.Opening.{AreAllTaken, Found, found_in}
use Rattle.tc_recover.specs.Refusals.{asked}
use Rattle.tc_recover.proofs.StoreReads.{causes_of_all, disk_answers, kept_told, moments_told, opened_told, passes_told, read_of_all, some_taken, spare_told}
use Rattle.tc_recover.proofs.reading.read_files.Goals as goal

pub returns-clause-judged : goal.returns-clause-judged
returns-clause-judged g c =
    let view : FilesRead g.row.S-Frozen.Denot g.row.S-Watch.Denot → Found = λ read. found_in read.list read.writes.items in
    disk_answers view (λ f. g.S.Frozen.Frozen.content f) (asked c.args.part) c.in_ok-files.files.items c.read_taken.result (g.S.Store.history c.args.store.now) c.in_ok-files.ensures.ascend c.in_ok-files.ensures.exact c.in_ok-files.ensures.told
    c.in_ok-files.ensures.picture c.read_taken.ensures.judged

pub returns-clause-causes : goal.returns-clause-causes
returns-clause-causes g c = causes_of_all (λ f. g.S.Frozen.Frozen.size f) (λ f. g.S.Frozen.Frozen.name f) (asked c.args.part) c.in_ok-files.files.items c.read_taken.result c.in_ok-files.ensures.named c.read_taken.ensures.causes

pub returns-clause-read : goal.returns-clause-read
returns-clause-read g c =
    let list : FilesRead g.row.S-Frozen.Denot g.row.S-Watch.Denot → List (ComponentState g.row.S-Frozen.Denot) = λ read. read.list in
    let left : FilesRead g.row.S-Frozen.Denot g.row.S-Watch.Denot → List (Taken g.row.S-Frozen.Denot g.row.S-Watch.Denot) = λ read. read.left.items in
    let last : FilesRead g.row.S-Frozen.Denot g.row.S-Watch.Denot → ℕ = λ read. read.last in
    read_of_all (λ f. g.S.Frozen.Frozen.content f) (λ f. g.S.Frozen.Frozen.name f) c.in_ok-files.files.items (g.S.Store.history c.args.store.now) (g.S.Store.history c.take_all.new.store) c.read_taken.result list left last record {
      taken = c.in_ok-files.ensures.taken;
      ascend = c.in_ok-files.ensures.ascend;
      named = c.in_ok-files.ensures.named;
      gates = c.in_ok-files.ensures.gates;
      bytes = c.in_ok-files.ensures.bytes;
      exact = c.in_ok-files.ensures.exact;
      told = c.in_ok-files.ensures.told;
      picture = c.in_ok-files.ensures.picture;
    } c.read_taken.ensures.read c.read_taken.ensures.names

pub returns-clause-partly : goal.returns-clause-partly
returns-clause-partly g c = some_taken (names_in c.in_ok-files.files.items) (g.S.Store.history c.args.store.now) (g.S.Store.history c.take_all.new.store) c.read_taken.result c.in_ok-files.ensures.taken

-- ---- lawful files

pub returns-clause-passes : goal.returns-clause-passes
returns-clause-passes g c =
    let view : FilesRead g.row.S-Frozen.Denot g.row.S-Watch.Denot → Found = λ read. found_in read.list read.writes.items in
    let part = asked c.args.part in
    let old = g.S.Store.history c.args.store.now in
    let judged = disk_answers view (λ f. g.S.Frozen.Frozen.content f) part c.in_ok-files.files.items c.read_taken.result old c.in_ok-files.ensures.ascend c.in_ok-files.ensures.exact c.in_ok-files.ensures.told c.in_ok-files.ensures.picture c.read_taken.ensures.judged in
    passes_told view part c.read_taken.result old c.lawful_files_are_read.ensures.read c.lawful_files_are_read.ensures.one_way c.requires.at_rest judged

pub returns-clause-opened : goal.returns-clause-opened
returns-clause-opened g c =
    let content = g.S.Frozen.Frozen.content in
    let name = g.S.Frozen.Frozen.name in
    let part = asked c.args.part in
    let files = c.in_ok-files.files.items in
    let old = g.S.Store.history c.args.store.now in
    let new = g.S.Store.history c.take_all.new.store in
    let list : FilesRead g.row.S-Frozen.Denot g.row.S-Watch.Denot → List (ComponentState g.row.S-Frozen.Denot) = λ read. read.list in
    let left : FilesRead g.row.S-Frozen.Denot g.row.S-Watch.Denot → List (Taken g.row.S-Frozen.Denot g.row.S-Watch.Denot) = λ read. read.left.items in
    let last : FilesRead g.row.S-Frozen.Denot g.row.S-Watch.Denot → ℕ = λ read. read.last in
    let writes : FilesRead g.row.S-Frozen.Denot g.row.S-Watch.Denot → List (List Write) = λ read. read.writes.items in
    let view : FilesRead g.row.S-Frozen.Denot g.row.S-Watch.Denot → Found = λ read. found_in read.list read.writes.items in
    let taken : AreAllTaken (λ f. content f) (λ f. name f) files old new = record {
      taken = c.in_ok-files.ensures.taken;
      ascend = c.in_ok-files.ensures.ascend;
      named = c.in_ok-files.ensures.named;
      gates = c.in_ok-files.ensures.gates;
      bytes = c.in_ok-files.ensures.bytes;
      exact = c.in_ok-files.ensures.exact;
      told = c.in_ok-files.ensures.told;
      picture = c.in_ok-files.ensures.picture;
    } in
    let judged = disk_answers view (λ f. content f) part files c.read_taken.result old c.in_ok-files.ensures.ascend c.in_ok-files.ensures.exact c.in_ok-files.ensures.told c.in_ok-files.ensures.picture c.read_taken.ensures.judged in
    opened_told (λ f. content f) (λ f. name f) part files list left last writes c.lawful_files_are_read.ensures.read c.lawful_files_are_read.ensures.one_way old new c.read_taken.result c.requires.at_rest taken c.read_taken.ensures.read judged

pub returns-clause-spare : goal.returns-clause-spare
returns-clause-spare g c =
    let content = g.S.Frozen.Frozen.content in
    let name = g.S.Frozen.Frozen.name in
    let part = asked c.args.part in
    let files = c.in_ok-files.files.items in
    let old = g.S.Store.history c.args.store.now in
    let new = g.S.Store.history c.take_all.new.store in
    let list : FilesRead g.row.S-Frozen.Denot g.row.S-Watch.Denot → List (ComponentState g.row.S-Frozen.Denot) = λ read. read.list in
    let left : FilesRead g.row.S-Frozen.Denot g.row.S-Watch.Denot → List (Taken g.row.S-Frozen.Denot g.row.S-Watch.Denot) = λ read. read.left.items in
    let last : FilesRead g.row.S-Frozen.Denot g.row.S-Watch.Denot → ℕ = λ read. read.last in
    let writes : FilesRead g.row.S-Frozen.Denot g.row.S-Watch.Denot → List (List Write) = λ read. read.writes.items in
    let view : FilesRead g.row.S-Frozen.Denot g.row.S-Watch.Denot → Found = λ read. found_in read.list read.writes.items in
    let taken : AreAllTaken (λ f. content f) (λ f. name f) files old new = record {
      taken = c.in_ok-files.ensures.taken;
      ascend = c.in_ok-files.ensures.ascend;
      named = c.in_ok-files.ensures.named;
      gates = c.in_ok-files.ensures.gates;
      bytes = c.in_ok-files.ensures.bytes;
      exact = c.in_ok-files.ensures.exact;
      told = c.in_ok-files.ensures.told;
      picture = c.in_ok-files.ensures.picture;
    } in
    let judged = disk_answers view (λ f. content f) part files c.read_taken.result old c.in_ok-files.ensures.ascend c.in_ok-files.ensures.exact c.in_ok-files.ensures.told c.in_ok-files.ensures.picture c.read_taken.ensures.judged in
    spare_told (λ f. content f) (λ f. name f) part files list left last writes c.lawful_files_are_read.ensures.read c.lawful_files_are_read.ensures.one_way c.events_keep.ensures.event c.openings_are_kept.ensures old new c.read_taken.result c.requires.at_rest taken
    c.read_taken.ensures.read judged

pub returns-clause-moments : goal.returns-clause-moments
returns-clause-moments g c = moments_told (asked c.args.part) (g.S.Store.history c.args.store.now) (g.S.Store.history c.take_all.new.store) c.events_keep.ensures.event c.openings_are_kept.ensures c.requires.at_rest (names_in c.in_ok-files.files.items, c.in_ok-files.ensures.taken)

pub returns-clause-kept : goal.returns-clause-kept
returns-clause-kept g c = kept_told (asked c.args.part) (g.S.Store.history c.args.store.now) (g.S.Store.history c.take_all.new.store) c.events_keep.ensures.event c.openings_are_kept.ensures c.requires.at_rest (names_in c.in_ok-files.files.items, c.in_ok-files.ensures.taken)

pub returns-in_err-files-clause-moments : goal.returns-in_err-files-clause-moments
returns-in_err-files-clause-moments g c = moments_told (asked c.args.part) (g.S.Store.history c.args.store.now) (g.S.Store.history c.take_all.new.store) c.events_keep.ensures.event c.openings_are_kept.ensures c.requires.at_rest c.in_err-files.ensures.partly

pub returns-in_err-files-clause-kept : goal.returns-in_err-files-clause-kept
returns-in_err-files-clause-kept g c = kept_told (asked c.args.part) (g.S.Store.history c.args.store.now) (g.S.Store.history c.take_all.new.store) c.events_keep.ensures.event c.openings_are_kept.ensures c.requires.at_rest c.in_err-files.ensures.partly
