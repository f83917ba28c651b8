use Rattle.std.proofs.Common.{◌∙◌, is_some, ap}
use Rattle.tc_flush.proofs.Outcomes.{ok_then}
use Rattle.tc_part_model.specs.PartState.{PartState}
use Rattle.tc_work.specs.Moving.{beside, eyes}
use Rattle.tc_work.proofs.EndedParts.{IsClosed, sound_finishes}
use Rattle.tc_work.proofs.finishing.finish_part.Goals as goal

pub close-requires-clause-reader : goal.close-requires-clause-reader
close-requires-clause-reader g c κs within = ap (λ (s : PartState _ _ _ _). is_some s.reader) c.end_jobs-outcome.ensures.moves.keeps.moved ∙ c.requires.reader

pub returns : goal.returns
returns g c =
    let e = eyes g.S.Store.history g.S.Device.Device.history g.S.Frozen.Frozen.content g.S.Device.Device.name g.S.Frozen.Frozen.size g.S.Watch.Watch.counts in
    let laws = g.met.S.Device.Device g.world.𝓛 g.world.𝓜 g.world.𝓡 ((λ s x. x), (λ x. x), (λ x. x), λ x. x) in
    let new = beside c.end_jobs-outcome.new.part c.end_jobs-outcome.new.jobs in
    let device = c.end_jobs-outcome.new.part.log.device in
    let k : IsClosed e g.S.Device.Device.size new c.close.result.store c.close.result.main c.close.result.flusher c.close.result.merger c.close.result.reader = record {
      home = c.close.ensures.home;
      brought_in = c.close.ensures.brought_in;
      kept = c.close.ensures.kept;
      failed = c.close.ensures.failed;
      opens = c.close.ensures.opens;
      moments = c.close.ensures.moments;
      failed_moments = c.close.ensures.failed_moments;
      main = c.close.ensures.main;
      flusher = c.close.ensures.flusher;
      merger = c.close.ensures.merger;
      reader = c.close.ensures.reader;
    } in
    let ended = c.end_jobs-outcome.ensures in
    record {
      ends = sound_finishes e g.S.Device.Device.size new c.close.result.store c.close.result.main c.close.result.flusher c.close.result.merger c.close.result.reader k (beside c.args.part c.args.jobs) c.args.policy c.end_jobs-outcome.result c.requires.may ended.moves ended.left ended.none
          (ok_then c.end_jobs-outcome.result _ _ (λ none. none c.requires.flushing) ended.none_sealed) c.requires.flushing
          (λ flush merge picks. ok_then c.end_jobs-outcome.result _ _ (λ as_was. as_was.0) (ended.nothing flush merge picks)) ended.none_left (ap (λ (s : PartState _ _ _ _). s.reader) ended.moves.keeps.moved) (laws.told_size device) (laws.content_may_stay device) c.components_are_own.ensures;
    }
