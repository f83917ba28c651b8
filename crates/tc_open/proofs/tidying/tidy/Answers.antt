use Rattle.tc_recover.specs.Opening.{found_in}
use Rattle.tc_store.proofs.MomentLemmas.{told_map}
use Rattle.std.proofs.Common.{inr}
use Rattle.tc_machine.specs.Pictures.{recovered}
use Rattle.tc_recover.specs.Refusals.{asked}
use Rattle.tc_open.specs.Steps.{Keeps}
use Rattle.tc_open.proofs.FlushedOpenings.{call_sound}
use Rattle.tc_open.proofs.Lawfully.{both_lawful}
use Rattle.tc_open.proofs.OpenStates.{keeps_on}
use Rattle.tc_open.proofs.ToldOpenings.{told_still}
use Rattle.tc_open.proofs.tidying.tidy.Goals as goal

pub returns-in-Ok-remove_files-clause-stands : goal.returns-in-Ok-remove_files-clause-stands
returns-in-Ok-remove_files-clause-stands g c =
    let part = asked c.args.part in
    both_lawful part _ _ _ (g.S.Store.history c.args.kit.store) c.in-Ok.ensures.stands c.in-Ok.ensures.spare (λ cs logs stands spare. record {
      tells = c.in-Ok-remove_files.ensures.tells stands.tells;
      opening = c.in-Ok-remove_files.ensures.opening part cs logs stands.opening spare;
      loaded = stands.loaded;
      written = stands.written;
    })

pub returns-in-Ok-remove_files-clause-keeps : goal.returns-in-Ok-remove_files-clause-keeps
returns-in-Ok-remove_files-clause-keeps g c =
    let part = asked c.args.part in
    let old = g.S.Store.history c.args.kit.store in
    both_lawful part _ _ _ old (both_lawful part _ _ (λ cs logs. Keeps part (recovered cs logs).pairs (g.S.Store.history c.in-Ok.field-0.kit.store) (g.S.Store.history c.in-Ok-remove_files.field-0.kit.store)) old c.in-Ok.ensures.stands c.in-Ok.ensures.spare
    (λ cs logs stands spare. c.in-Ok-remove_files.ensures.keeps part cs logs stands.opening spare)) c.in-Ok.ensures.keeps
    (λ cs logs after before. keeps_on part (recovered cs logs).pairs old (g.S.Store.history c.in-Ok.field-0.kit.store) (g.S.Store.history c.in-Ok-remove_files.field-0.kit.store) before after)

pub returns-in-Ok-remove_files-clause-own : goal.returns-in-Ok-remove_files-clause-own
returns-in-Ok-remove_files-clause-own g c = c.in-Ok-remove_files.ensures.own _ c.in-Ok.ensures.own

pub returns-in-Err-remove_files-clause-kept : goal.returns-in-Err-remove_files-clause-kept
returns-in-Err-remove_files-clause-kept g c =
    let part = asked c.args.part in
    let old = g.S.Store.history c.args.kit.store in
    both_lawful part _ _ _ old (both_lawful part _ _ (λ cs logs. Keeps part (recovered cs logs).pairs (g.S.Store.history c.in-Ok.field-0.kit.store) (g.S.Store.history c.in-Err-remove_files.fault.kit.store)) old c.in-Ok.ensures.stands c.in-Ok.ensures.spare
    (λ cs logs stands spare. c.in-Err-remove_files.ensures.kept part cs logs stands.opening spare)) c.in-Ok.ensures.keeps
    (λ cs logs after before. keeps_on part (recovered cs logs).pairs old (g.S.Store.history c.in-Ok.field-0.kit.store) (g.S.Store.history c.in-Err-remove_files.fault.kit.store) before after)

pub returns-in-Ok-remove_files-clause-files : goal.returns-in-Ok-remove_files-clause-files
returns-in-Ok-remove_files-clause-files g c = c.in-Ok.ensures.files

pub returns-in-Ok-remove_files-clause-components : goal.returns-in-Ok-remove_files-clause-components
returns-in-Ok-remove_files-clause-components g c = told_still _ (g.S.Store.history c.in-Ok.field-0.kit.store) (g.S.Store.history c.in-Ok-remove_files.field-0.kit.store) c.in-Ok-remove_files.ensures.untold c.in-Ok.ensures.components

pub returns-in-Err-remove_files-clause-undamaged : goal.returns-in-Err-remove_files-clause-undamaged
returns-in-Err-remove_files-clause-undamaged g c =
    both_lawful (asked c.args.part) _ _ _ (g.S.Store.history c.args.kit.store) c.in-Ok.ensures.stands c.in-Ok.ensures.stands (λ cs logs stands same. call_sound c.in-Err-remove_files.fault.cause c.in-Err-remove_files.ensures.causes)

pub returns-in-Err-remove_files-clause-home : goal.returns-in-Err-remove_files-clause-home
returns-in-Err-remove_files-clause-home g c = c.in-Err-remove_files.ensures.home (told_map _ _ (g.S.Store.history c.in-Ok.field-0.kit.store) (λ disk own. own.is_in) c.in-Ok.ensures.own)

pub returns-in-Err-remove_files-clause-untouched : goal.returns-in-Err-remove_files-clause-untouched
returns-in-Err-remove_files-clause-untouched g c =
    let read = c.in-Ok.field-0.read in
    inr (told_map _ _ (g.S.Store.history c.args.kit.store) (λ disk judged. (found_in read.list read.writes.items, judged, tt)) c.in-Ok.ensures.judged)
