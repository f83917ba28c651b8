use Rattle.std.proofs.Common.{sym, subst, refl}
use Rattle.std.proofs.lemmas.Result.{IfOk-weaker}
use Rattle.std.specs.Prelude.{All, IfErr}
use Rattle.std.specs.List.{AllZip}
use Rattle.tc_command.specs.Commands.{ask_of}
use Rattle.tc_request_model.specs.Rows.{rows_over}
use Rattle.tc_component.specs.Loaded.{IsLoadedOf}
use Rattle.tc_log.specs.Writes.{IsWrite}
use Rattle.tc_query.specs.Faults.{OfDamage, IsHarmIn}
use Rattle.tc_view.specs.declared.content.Content.{Content}
use Rattle.tc_view.specs.Changes.{showing_in}
use Rattle.tc_view.specs.Holding.{Holds}
use Rattle.tc_shown.specs.Scans.{IsReadFor}
use Rattle.tc_shown.proofs.scan.rows_of.Goals as goal

pub rows-requires-clause-stored : goal.rows-requires-clause-stored
rows-requires-clause-stored g c κs within = subst (λ (x : Content _ _). All IsWrite x.written) (sym c.requires.shown) c.requires.stored

pub returns-clause-read : goal.returns-clause-read
returns-clause-read g c = record {
  lens = refl;
  watch = subst (λ (x : Content _ _). IsReadFor x (g.F.Watch.Watch.counts c.args.pass.now.watch) (g.F.Watch.Watch.counts c.rows.new.watch)) c.requires.shown
      (record { faults = c.rows.ensures.watched.faults; reads = c.rows.ensures.reads; windows = c.rows.ensures.windows });
}

pub returns-clause-rows : goal.returns-clause-rows
returns-clause-rows g c = λ pairs holds. c.rows.ensures.rows pairs (subst (λ (x : Content _ _). Holds g.F.Frozen.content (showing_in x) pairs) (sym c.requires.shown) holds)

pub returns-clause-harmed : goal.returns-clause-harmed
returns-clause-harmed g c =
    subst (λ (x : Content _ _). IfErr c.rows.result (λ fault. OfDamage fault (λ file place bytes. IsHarmIn (λ f. g.F.Frozen.content f) x.list file place bytes))) c.requires.shown c.rows.ensures.harmed

pub returns-clause-unharmed : goal.returns-clause-unharmed
returns-clause-unharmed g c = λ cs loaded. c.rows.ensures.unharmed cs (subst (λ (x : Content _ _). AllZip (IsLoadedOf g.F.Frozen.content) x.list cs) (sym c.requires.shown) loaded)

pub returns-clause-texts : goal.returns-clause-texts
returns-clause-texts g c = IfOk-weaker c.rows.result _ _ (λ rows is. (rows_over (ask_of c.args.ask.now) is.0, is.2)) c.rows.ensures.shown
