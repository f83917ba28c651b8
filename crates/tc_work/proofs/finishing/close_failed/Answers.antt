use Rattle.std.proofs.Common.{◌∙◌, is_some, sym, ap, subst}
use Rattle.std.specs.Prelude.{Ok}
use Rattle.tc_part_model.specs.PartState.{PartState}
use Rattle.tc_work.specs.Ending.{Finishes}
use Rattle.tc_work.specs.Moving.{beside, eyes, IsOutBy}
use Rattle.tc_work.proofs.EndedParts.{IsClosed, failed_finishes}
use Rattle.tc_work.proofs.GivenBack.{out_given_up}
use Rattle.tc_work.proofs.finishing.close_failed.Goals as goal

pub give_back-requires-clause-jobs : goal.give_back-requires-clause-jobs
give_back-requires-clause-jobs g c κs within =
    subst (λ (s : PartState _ _ _ _). IsOutBy (eyes g.S.Store.history g.S.Device.Device.history g.S.Frozen.Frozen.content g.S.Device.Device.name g.S.Frozen.Frozen.size
    g.S.Watch.Watch.counts) (beside s c.args.jobs)) (sym c.fail.ensures)
    (out_given_up (eyes g.S.Store.history g.S.Device.Device.history g.S.Frozen.Frozen.content g.S.Device.Device.name g.S.Frozen.Frozen.size g.S.Watch.Watch.counts)
    (beside c.args.part c.args.jobs) c.requires.jobs)

pub close-requires-clause-reader : goal.close-requires-clause-reader
close-requires-clause-reader g c κs within = ap (λ (s : PartState _ _ _ _). is_some s.reader) c.give_back.ensures.given ∙ ap (λ (s : PartState _ _ _ _). is_some s.reader) c.fail.ensures ∙ c.requires.reader

pub returns : goal.returns
returns g c = record {
  ends = λ policy.
      let e = eyes g.S.Store.history g.S.Device.Device.history g.S.Frozen.Frozen.content g.S.Device.Device.name g.S.Frozen.Frozen.size g.S.Watch.Watch.counts in
      let new = beside c.give_back.new.part c.give_back.new.jobs in
      let k : IsClosed e g.S.Device.Device.size new c.close.result.store c.close.result.main c.close.result.flusher c.close.result.merger c.close.result.reader =
      record {
        home = c.close.ensures.home;
        brought_in = c.close.ensures.brought_in;
        kept = c.close.ensures.kept;
        failed = c.close.ensures.failed;
        opens = c.close.ensures.opens;
        moments = c.close.ensures.moments;
        failed_moments = c.close.ensures.failed_moments;
        main = c.close.ensures.main;
        flusher = c.close.ensures.flusher;
        merger = c.close.ensures.merger;
        reader = c.close.ensures.reader;
      } in
      let back = c.give_back.ensures in
      subst (λ (s : PartState _ _ _ _). Finishes e g.S.Device.Device.size policy (beside s c.args.jobs) (Ok tt) c.close.result.store c.close.result.main c.close.result.flusher c.close.result.merger c.close.result.reader) c.fail.ensures
      (failed_finishes e g.S.Device.Device.size new c.close.result.store c.close.result.main c.close.result.flusher c.close.result.merger c.close.result.reader k
      (beside c.fail.new.self c.args.jobs) (ap (λ (s : PartState _ _ _ _). s.failed) c.fail.ensures) back.keeps back.log_out back.stays
      (λ flush merge. (back.nothing flush merge).0) back.none_left
      (ap (λ (s : PartState _ _ _ _). s.log) back.given, ap (λ (s : PartState _ _ _ _). s.generation) back.given, ap (λ (s : PartState _ _ _ _). s.sealed_log) back.given, ap (λ (s : PartState _ _ _ _). s.reader) back.given) policy);
}
