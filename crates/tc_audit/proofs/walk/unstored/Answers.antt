use Rattle.std.proofs.Common.{◌∙◌, sym, ap, subst}
use Rattle.tc_component.specs.Fetching.{record_place}
use Rattle.tc_audit.specs.Stops.{position_of}
use Rattle.tc_audit.specs.Stored.{IsStoredIn}
use Rattle.tc_audit.specs.declared.verdict.Wrong.TheVariants.{Record}
use Rattle.tc_audit.proofs.Outcomes.{damage_no_disk, damage_stop}
use Rattle.tc_audit.proofs.walk.unstored.Goals as goal

pub returns-clause-no_disk : goal.returns-clause-no_disk
returns-clause-no_disk g c = damage_no_disk c.args.number c.damaged.result c.of_read.result _ _ c.of_read.ensures c.damaged.ensures.damage

pub returns-clause-harmed : goal.returns-clause-harmed
returns-clause-harmed g c = λ w stops whole tells.
    let m = c.args.component.now in
    let read = c.requires.read whole tells in (
      damage_stop c.args.number c.damaged.result c.of_read.result _ _ c.of_read.ensures c.damaged.ensures.damage w stops
          ∙ ap (λ at. Record c.args.number at c.args.bytes.now) c.record_range-begin.ensures.begin ∙ ap (Record c.args.number (record_place m.index.slots c.args.place.at)) read,
      λ stored. c.requires.harmed (subst (IsStoredIn m.index.version m.index.names) (sym read) stored),
    )

pub returns-clause-place : goal.returns-clause-place
returns-clause-place g c = λ w stops. ap position_of (damage_stop c.args.number c.damaged.result c.of_read.result _ _ c.of_read.ensures c.damaged.ensures.damage w stops)
