use Rattle.std.proofs.Common.{List, inl, subst, sym}
use Rattle.tc_store.specs.Disk.{IsAtRest}
use Rattle.tc_store.specs.Moments.{IfTold}
use Rattle.tc_store.proofs.MomentLemmas.{told_map}
use Rattle.tc_open.specs.BeingOpened.{AreIn}
use Rattle.tc_plain_model.specs.Writes.{Write}
use Rattle.tc_lsm_model.specs.Contents.{Content}
use Rattle.tc_recover.specs.declared.reading.FilesRead.{FilesRead}
use Rattle.tc_recover.specs.Lawful.{DiskOpens}
use Rattle.tc_recover.specs.Opening.{AreAllTaken, Found, found_in}
use Rattle.tc_recover.specs.Refusals.{asked}
use Rattle.tc_open.specs.Judged.{AreOfDisk, CauseJudged, IsOpenCause}
use Rattle.tc_open.specs.OpenCauses.{IfDamaged, IfLayout}
use Rattle.tc_open.proofs.FilesIn.{takes_in}
use Rattle.tc_open.proofs.FilesRead.{in_at_rest, own_read}
use Rattle.tc_open.proofs.Lawfully.{told_last}
use Rattle.tc_open.proofs.ReadKits.{files_kept, lawful_passes, lawful_sound, read_above, read_listed, read_stands, refusal_caused, refusal_judged}
use Rattle.tc_open.proofs.ToldOpenings.{read_tells}
use Rattle.tc_open.proofs.reading.read_kit.Goals as goal

pub returns-in-Ok-clause-stands : goal.returns-in-Ok-clause-stands
returns-in-Ok-clause-stands g c =
    read_stands (asked c.args.part) (λ file. g.S.Frozen.Frozen.content file) c.in-Ok.read.list c.in-Ok.read.writes.items c.in-Ok.read.last (g.S.Store.history c.args.kit.store) (g.S.Store.history c.read_files.new.store) c.in-Ok.ensures.opened c.read_files.ensures.moments
    c.read_files.ensures.kept

pub returns-in-Ok-clause-keeps : goal.returns-in-Ok-clause-keeps
returns-in-Ok-clause-keeps g c = files_kept (asked c.args.part) (g.S.Store.history c.args.kit.store) (g.S.Store.history c.read_files.new.store) c.read_files.ensures.moments c.read_files.ensures.kept

pub returns-in-Err-clause-kept : goal.returns-in-Err-clause-kept
returns-in-Err-clause-kept g c = files_kept (asked c.args.part) (g.S.Store.history c.args.kit.store) (g.S.Store.history c.read_files.new.store) c.read_files.ensures.moments c.read_files.ensures.kept

pub returns-in-Ok-clause-listed : goal.returns-in-Ok-clause-listed
returns-in-Ok-clause-listed g c =
    let read = c.in-Ok.ensures.read in
    read_listed (λ file. g.S.Frozen.Frozen.content file) (λ file. g.S.Frozen.Frozen.name file) (asked c.args.part) c.in-Ok.read.list c.in-Ok.read.left.items read.0 c.in-Ok.read.writes.items c.in-Ok.read.last (g.S.Store.history c.args.kit.store)
    (g.S.Store.history c.read_files.new.store) read.1 read.2 c.in-Ok.ensures.listed c.in-Ok.ensures.lawful

pub returns-in-Ok-clause-above : goal.returns-in-Ok-clause-above
returns-in-Ok-clause-above g c =
    let read = c.in-Ok.ensures.read in
    read_above (λ file. g.S.Frozen.Frozen.content file) (λ file. g.S.Frozen.Frozen.name file) (asked c.args.part) c.in-Ok.read.list c.in-Ok.read.left.items read.0 c.in-Ok.read.writes.items c.in-Ok.read.last (g.S.Store.history c.args.kit.store)
    (g.S.Store.history c.read_files.new.store) read.1 read.2 c.in-Ok.ensures.lawful c.in-Ok.ensures.writes c.in-Ok.ensures.logs read.3

pub returns-in-Ok-clause-own : goal.returns-in-Ok-clause-own
returns-in-Ok-clause-own g c =
    let read = c.in-Ok.ensures.read in
    own_read (λ file. g.S.Frozen.Frozen.name file) c.in-Ok.read.list c.in-Ok.read.left.items read.0 c.in-Ok.read.last (g.S.Store.history c.args.kit.store) (g.S.Store.history c.read_files.new.store) c.requires.at_rest read.1 read.2

pub returns-in-Ok-clause-files : goal.returns-in-Ok-clause-files
returns-in-Ok-clause-files g c =
    let read = c.in-Ok.ensures.read in
    let old = g.S.Store.history c.args.kit.store in
    let new = g.S.Store.history c.read_files.new.store in
    told_last (λ disk. AreOfDisk g.S.Frozen.Frozen.content disk c.in-Ok.read.list) old (λ disk past is. c.loaded_files_hold.ensures.told disk past new read.0 c.in-Ok.read.left.items c.in-Ok.read.list c.in-Ok.read.last
    (subst (λ ds. IfTold ds IsAtRest) is c.requires.at_rest) (subst (λ ds. AreAllTaken g.S.Frozen.Frozen.content g.S.Frozen.Frozen.name read.0 ds new) is read.1) read.2)

pub returns-in-Err-clause-lawful : goal.returns-in-Err-clause-lawful
returns-in-Err-clause-lawful g c =
    subst (λ e. IfTold (g.S.Store.history c.args.kit.store) (λ disk. (cs : List Content) (logs : List (List Write)) → DiskOpens (asked c.args.part) disk cs logs → IfLayout e ⊥)) (sym c.from.ensures)
    (lawful_passes (FilesRead g.row.S-Frozen.Denot g.row.S-Watch.Denot) (asked c.args.part) c.in-Err.cause (g.S.Store.history c.args.kit.store) c.in-Err.ensures.passes)

pub returns-in-Err-clause-refused : goal.returns-in-Err-clause-refused
returns-in-Err-clause-refused g c =
    let view : FilesRead g.row.S-Frozen.Denot g.row.S-Watch.Denot → Found = λ read. found_in read.list read.writes.items in
    subst (λ e. IfTold (g.S.Store.history c.args.kit.store) (λ disk. CauseJudged (λ file. g.S.Frozen.Frozen.content file) (λ file. g.S.Frozen.Frozen.name file) (asked c.args.part) disk e)) (sym c.from.ensures)
    (refusal_judged view (λ file. g.S.Frozen.Frozen.content file) (λ file. g.S.Frozen.Frozen.name file) (asked c.args.part) (g.S.Store.history c.args.kit.store) c.in-Err.cause c.in-Err.ensures.judged)

pub returns-in-Err-clause-causes : goal.returns-in-Err-clause-causes
returns-in-Err-clause-causes g c =
    subst (λ e. IsOpenCause g.row.S-Watch.Denot (λ file. g.S.Frozen.Frozen.size file) (λ file. g.S.Frozen.Frozen.content file) (λ file. g.S.Frozen.Frozen.name file) (asked c.args.part) e) (sym c.from.ensures)
    (refusal_caused (λ file. g.S.Frozen.Frozen.size file) (λ file. g.S.Frozen.Frozen.content file) (λ file. g.S.Frozen.Frozen.name file) (asked c.args.part) c.in-Err.cause c.in-Err.ensures.causes)

pub returns-in-Err-clause-undamaged : goal.returns-in-Err-clause-undamaged
returns-in-Err-clause-undamaged g c =
    subst (λ e. IfTold (g.S.Store.history c.args.kit.store) (λ disk. (cs : List Content) (logs : List (List Write)) → DiskOpens (asked c.args.part) disk cs logs → IfDamaged e (λ damage. ⊥))) (sym c.from.ensures)
    (lawful_sound (FilesRead g.row.S-Frozen.Denot g.row.S-Watch.Denot) (asked c.args.part) c.in-Err.cause (g.S.Store.history c.args.kit.store) c.in-Err.ensures.passes)

pub returns-in-Ok-clause-components : goal.returns-in-Ok-clause-components
returns-in-Ok-clause-components g c =
    let read = c.in-Ok.ensures.read in
    read_tells (λ file. g.S.Frozen.Frozen.content file) (λ file. g.S.Frozen.Frozen.name file) c.in-Ok.read.list c.in-Ok.read.left.items read.0 c.in-Ok.read.last (g.S.Store.history c.args.kit.store) (g.S.Store.history c.read_files.new.store) read.1 read.2

pub returns-in-Err-clause-home : goal.returns-in-Err-clause-home
returns-in-Err-clause-home g c =
    let old = g.S.Store.history c.args.kit.store in
    let partly = c.in-Err.ensures.partly in
    subst (λ ds. IfTold ds AreIn) (sym partly.1) (takes_in partly.0 old (told_map IsAtRest AreIn old in_at_rest c.requires.at_rest))

pub returns-in-Err-clause-untouched : goal.returns-in-Err-clause-untouched
returns-in-Err-clause-untouched g c = inl c.in-Err.ensures.partly
