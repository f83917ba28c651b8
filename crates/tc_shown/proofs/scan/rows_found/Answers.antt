use Rattle.std.proofs.Common.{◌∙◌, ap, sym, subst, map, Result}
use Rattle.std.proofs.lemmas.Result.{err_from_is_err_and}
use Rattle.tc_command.specs.Commands.{ask_of}
use Rattle.tc_plain_model.specs.Writes.{Pairs}
use Rattle.tc_view.specs.declared.content.Content.{Content}
use Rattle.tc_view.specs.declared.lens.Lens.{Lens}
use Rattle.tc_view.specs.declared.snapshot.Snapshot.{Snapshot}
use Rattle.tc_view.specs.Changes.{showing_in}
use Rattle.tc_view.specs.Holding.{Holds}
use Rattle.tc_view.specs.Places.{kept_by, shown_by}
use Rattle.tc_shown.specs.declared.fault.ScanFault.{ScanFault}
use Rattle.tc_shown.specs.declared.scan.Pass.{Pass}
use Rattle.tc_shown.specs.declared.scan.Scanned.{Scanned}
use Rattle.tc_shown.specs.Scans.{HasScanned, IsFaultOf}
use Rattle.tc_shown.proofs.PassLaws.{all_read, all_stored, all_taken, fault_before, no_memory, same_lenses, scan_failed, zip_lenses}
use Rattle.tc_shown.proofs.Turns.{map_twice}
use Rattle.tc_shown.proofs.scan.rows_found.Goals as goal

pub returns-in_err-snapshots : goal.returns-in_err-snapshots
returns-in_err-snapshots g c =
    let content = g.F.Frozen.content in
    let counts = g.F.Watch.Watch.counts in
    let ask = ask_of c.args.ask.now in
    let olds = c.args.passes.now in
    let news = c.take_each.new.passes in
    let p = err_from_is_err_and c.from_residual.result c.from_residual.ensures.1 in
    subst (λ (r : Result Scanned ScanFault). HasScanned content counts ask olds news r) (sym p.1)
    (scan_failed content counts ask olds news p.0 (all_taken counts olds news c.take_each.ensures.taken) (no_memory content counts olds news p.0 p.2))

pub returns-in_err-upto : goal.returns-in_err-upto
returns-in_err-upto g c =
    let content = g.F.Frozen.content in
    let counts = g.F.Watch.Watch.counts in
    let ask = ask_of c.args.ask.now in
    let olds = c.args.passes.now in
    let news = c.take_each.new.passes in
    let p = err_from_is_err_and c.from_residual-in_err-upto.result c.from_residual-in_err-upto.ensures.1 in
    subst (λ (r : Result Scanned ScanFault). HasScanned content counts ask olds news r) (sym p.1)
    (scan_failed content counts ask olds news p.0 (all_taken counts olds news c.take_each.ensures.taken) (no_memory content counts olds news p.0 p.2))

pub rows_of_each-requires-clause-stored : goal.rows_of_each-requires-clause-stored
rows_of_each-requires-clause-stored g c κs within = all_stored c.args.passes.now c.take_each.new.passes c.take_each.ensures.taken c.requires.reads

pub returns-in_err-rows : goal.returns-in_err-rows
returns-in_err-rows g c =
    let content = g.F.Frozen.content in
    let counts = g.F.Watch.Watch.counts in
    let ask = ask_of c.args.ask.now in
    let olds = c.args.passes.now in
    let taken = c.take_each.new.passes in
    let news = c.rows_of_each.new.passes in
    let p = err_from_is_err_and c.from_residual-in_err-rows.result c.from_residual-in_err-rows.ensures.1 in
    let fault : IsFaultOf content counts taken news p.0 = subst (λ (f : ScanFault). IsFaultOf content counts taken news f) (sym p.2) c.in_err-rows.ensures.fault in
    subst (λ (r : Result Scanned ScanFault). HasScanned content counts ask olds news r) (sym p.1)
    (scan_failed content counts ask olds news p.0 (all_read counts olds taken news c.take_each.ensures.taken c.rows_of_each.ensures.read) (fault_before content counts olds taken news p.0 c.take_each.ensures.taken fault))

pub returns : goal.returns
returns g c =
    let content = g.F.Frozen.content in
    let counts = g.F.Watch.Watch.counts in
    let olds = c.args.passes.now in
    let taken = c.take_each.new.passes in
    let news = c.rows_of_each.new.passes in
    let read = c.rows_of_each.ensures.read in
    let snapshots = c.in_ok-snapshots.snapshots.items in
    record {
      back = all_read counts olds taken news c.take_each.ensures.taken read;
      rows = λ parts shows own. c.in_ok-rows.ensures.rows parts (zip_lenses counts (λ (l : Lens _ _) (ps : Pairs). Holds content (showing_in (kept_by l)) ps) taken news parts read shows) own;
      texts = c.in_ok-rows.ensures.texts;
      upto = c.in_ok-upto.ensures
          ∙ ap (map (λ (s : Snapshot _ _). (shown_by s).upto)) c.deref.ensures.value
          ∙ map_twice shown_by (λ (x : Content _ _). x.upto) snapshots
          ∙ ap (map (λ (x : Content _ _). x.upto)) c.in_ok-snapshots.ensures.shown
          ∙ sym (map_twice (λ (p : Pass _ _). kept_by p.lens) (λ (x : Content _ _). x.upto) taken)
          ∙ same_lenses counts (λ (l : Lens _ _). (kept_by l).upto) taken news read;
      fault = tt;
    }
