use Rattle.std.proofs.Common.{◌∙◌, ◌<◌, ◌++◌, ◌∷◌, [], ap, sym, subst, map, take, length, arith}
use Rattle.std.proofs.lemmas.List.{map-append, take_more_set}
use Rattle.tc_view.specs.Places.{kept_by, shown_by}
use Rattle.tc_shown.specs.declared.scan.Pass.{Pass}
use Rattle.tc_shown.specs.Scans.{IsTaken, ReadsAView}
use Rattle.tc_shown.proofs.PassLaws.{taken_same}
use Rattle.tc_shown.proofs.Turns.{all_at, turned_all, turned_many, turned_more, turned_next, zip_same}
use Rattle.tc_shown.proofs.scan.take_each.Goals as goal

pub returns-in_err-snapshots-clause-taken : goal.returns-in_err-snapshots-clause-taken
returns-in_err-snapshots-clause-taken g c = zip_same IsTaken taken_same c.args.passes.now

pub take-requires-clause-reads : goal.take-requires-clause-reads
take-requires-clause-reads g c κs within =
    let l = c.loop-at in
    let olds = c.args.passes.now in
    let s : Pass _ _ = c.index-passes-at.result in
    let below : l.at < length l.passes = omega (arith, c.loop-at-test.true, turned_many IsTaken l.at olds l.passes l.invariant.0) in
    let within_olds : l.at < length olds = omega (arith, below, turned_many IsTaken l.at olds l.passes l.invariant.0) in
    subst (λ (p : Pass _ _). ReadsAView p) c.index-passes-at.is
    (all_at ReadsAView olds l.at s c.requires.reads within_olds (turned_next IsTaken l.at olds l.passes s l.invariant.0 below c.index-passes-at.is))

pub returns-in_err-take-clause-taken : goal.returns-in_err-take-clause-taken
returns-in_err-take-clause-taken g c =
    let l = c.loop-at in
    let olds = c.args.passes.now in
    let s : Pass _ _ = c.index-passes-at.result in
    let below : l.at < length l.passes = omega (arith, c.loop-at-test.true, turned_many IsTaken l.at olds l.passes l.invariant.0) in
    let done : IsTaken s c.take.new.pass = subst (λ (p : Pass _ _). IsTaken p c.take.new.pass) (sym c.index-passes-at.is) c.take.ensures.taken in
    turned_all IsTaken taken_same _ olds _ (turned_more IsTaken l.at olds l.passes s c.take.new.pass l.invariant.0 below c.index-passes-at.is done)

pub returns-in_err-push-clause-taken : goal.returns-in_err-push-clause-taken
returns-in_err-push-clause-taken g c =
    let l = c.loop-at in
    let olds = c.args.passes.now in
    let s : Pass _ _ = c.index-passes-at.result in
    let below : l.at < length l.passes = omega (arith, c.loop-at-test.true, turned_many IsTaken l.at olds l.passes l.invariant.0) in
    let done : IsTaken s c.take.new.pass = subst (λ (p : Pass _ _). IsTaken p c.take.new.pass) (sym c.index-passes-at.is) c.take.ensures.taken in
    turned_all IsTaken taken_same _ olds _ (turned_more IsTaken l.at olds l.passes s c.take.new.pass l.invariant.0 below c.index-passes-at.is done)

pub loop-at-preserved : goal.loop-at-preserved
loop-at-preserved g c =
    let l = c.loop-at in
    let olds = c.args.passes.now in
    let s : Pass _ _ = c.index-passes-at.result in
    let below : l.at < length l.passes = omega (arith, c.loop-at-test.true, turned_many IsTaken l.at olds l.passes l.invariant.0) in
    let done : IsTaken s c.take.new.pass = subst (λ (p : Pass _ _). IsTaken p c.take.new.pass) (sym c.index-passes-at.is) c.take.ensures.taken in (
      turned_more IsTaken l.at olds l.passes s c.take.new.pass l.invariant.0 below c.index-passes-at.is done,
      ap (map shown_by) c.in_ok-push.ensures.items
          ∙ map-append shown_by l.snapshots.items _
          ∙ (λ i. l.invariant.1 i ++ c.in_ok-take.ensures.shown i ∷ [])
          ∙ sym (map-append (λ (p : Pass _ _). kept_by p.lens) (take l.at l.passes) _)
          ∙ ap (map (λ (p : Pass _ _). kept_by p.lens)) (sym (take_more_set l.passes l.at c.take.new.pass below)),
    )

pub returns-clause-taken : goal.returns-clause-taken
returns-clause-taken g c = turned_all IsTaken taken_same c.loop-at.at c.args.passes.now c.loop-at.passes c.loop-at.invariant.0
