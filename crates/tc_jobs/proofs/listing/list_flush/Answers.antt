use Rattle.std.proofs.Common.{◌∙◌, [], Err, ap}
use Rattle.std.proofs.lemmas.Result.{err_from_is_err_and}
use Rattle.std.specs.Arc.{arc_value}
use Rattle.tc_model.specs.Dictionary.{Extends}
use Rattle.tc_merge.specs.Merging.{newest_names}
use Rattle.tc_jobs.specs.Listing.{FitsBehind, IsReadBack, behind}
use Rattle.tc_jobs.proofs.Listings.{fit, is_list, is_listed, is_read_back, unfit, unread}
use Rattle.tc_jobs.proofs.listing.list_flush.Goals as goal

pub returns-in_err-component-clause-damaged : goal.returns-in_err-component-clause-damaged
returns-in_err-component-clause-damaged g c =
    let device = g.S.Device.Device.history c.args.device in
    let p = err_from_is_err_and c.from_residual.result c.from_residual.ensures.1 in
    unread (IsReadBack g.S.Frozen.Frozen.content g.S.Frozen.Frozen.name c.args.head (g.S.Device.Device.name c.args.device) device) (FitsBehind c.args.list.now) c.args.head (g.S.Device.Device.size c.args.device) device
    c.from_residual.result c.in_err-component.field-0.0 (p.1 ∙ ap Err p.2) c.in_err-component.ensures.judged c.in_err-component.ensures.damaged

pub returns-in_err-shared-clause-damaged : goal.returns-in_err-shared-clause-damaged
returns-in_err-shared-clause-damaged g c =
    let made = is_read_back g.S.Frozen.Frozen.content g.S.Frozen.Frozen.name c.args.head (g.S.Device.Device.name c.args.device) (g.S.Device.Device.history c.args.device) c.in_ok-component.component
    c.in_ok-component.ensures.head c.in_ok-component.ensures.lawful c.in_ok-component.ensures.content c.in_ok-component.ensures.name c.in_ok-component.ensures.judged c.in_ok-component.ensures.loaded in
    let p = err_from_is_err_and c.from_residual-in_err-shared.result c.from_residual-in_err-shared.ensures.1 in
    unfit g.S.Frozen.Frozen.content g.S.Frozen.Frozen.name c.args.head (g.S.Device.Device.name c.args.device) (g.S.Device.Device.history c.args.device)
    (λ names. Extends names (newest_names [] c.args.list.now)) c.in_ok-component.component c.goes_behind-fits.result made c.goes_behind-fits.ensures.exact
    (g.S.Device.Device.size c.args.device) c.from_residual-in_err-shared.result c.in_err-shared.field-0.0 (p.1 ∙ ap Err p.2) c.in_err-shared.ensures.damaged

pub returns-in_err-shared-clause-sound : goal.returns-in_err-shared-clause-sound
returns-in_err-shared-clause-sound g c =
    let made = is_read_back g.S.Frozen.Frozen.content g.S.Frozen.Frozen.name c.args.head (g.S.Device.Device.name c.args.device) (g.S.Device.Device.history c.args.device) c.in_ok-component.component
    c.in_ok-component.ensures.head c.in_ok-component.ensures.lawful c.in_ok-component.ensures.content c.in_ok-component.ensures.name c.in_ok-component.ensures.judged c.in_ok-component.ensures.loaded in
    let p = err_from_is_err_and c.from_residual-in_err-shared.result c.from_residual-in_err-shared.ensures.1 in
    fit g.S.Frozen.Frozen.content g.S.Frozen.Frozen.name c.args.head (g.S.Device.Device.name c.args.device) (g.S.Device.Device.history c.args.device)
    (λ names. Extends names (newest_names [] c.args.list.now)) c.in_ok-component.component c.goes_behind-fits.result made c.goes_behind-fits.ensures.exact
    c.from_residual-in_err-shared.result c.in_err-shared.field-0.0 (p.1 ∙ ap Err p.2) c.in_err-shared.ensures.damaged

pub returns-clause-listed : goal.returns-clause-listed
returns-clause-listed g c =
    let made = is_read_back g.S.Frozen.Frozen.content g.S.Frozen.Frozen.name c.args.head (g.S.Device.Device.name c.args.device) (g.S.Device.Device.history c.args.device) c.in_ok-component.component
    c.in_ok-component.ensures.head c.in_ok-component.ensures.lawful c.in_ok-component.ensures.content c.in_ok-component.ensures.name c.in_ok-component.ensures.judged c.in_ok-component.ensures.loaded in
    is_listed g.S.Frozen.Frozen.content g.S.Frozen.Frozen.name c.args.head (g.S.Device.Device.name c.args.device) (g.S.Device.Device.history c.args.device)
    (λ names. Extends names (newest_names [] c.args.list.now)) c.in_ok-component.component c.goes_behind-fits.result made c.goes_behind-fits.ensures.exact
    (behind c.args.list.now) c.push.new.self (arc_value c.in_ok-shared.shared) c.in_ok-push.ensures.ok c.in_ok-shared.ensures.shared

pub returns-clause-partition : goal.returns-clause-partition
returns-clause-partition g c =
    let made = is_read_back g.S.Frozen.Frozen.content g.S.Frozen.Frozen.name c.args.head (g.S.Device.Device.name c.args.device) (g.S.Device.Device.history c.args.device) c.in_ok-component.component
    c.in_ok-component.ensures.head c.in_ok-component.ensures.lawful c.in_ok-component.ensures.content c.in_ok-component.ensures.name c.in_ok-component.ensures.judged c.in_ok-component.ensures.loaded in
    is_list g.S.Frozen.Frozen.content g.S.Frozen.Frozen.name c.args.head (g.S.Device.Device.name c.args.device) (g.S.Device.Device.history c.args.device)
    (λ names. Extends names (newest_names [] c.args.list.now)) c.in_ok-component.component c.goes_behind-fits.result made c.goes_behind-fits.ensures.exact
    (behind c.args.list.now) c.args.list.now c.push.new.self (arc_value c.in_ok-shared.shared) c.in_ok-push.ensures.ok c.in_ok-shared.ensures.shared c.goes_behind-fits.ensures.listed
