use Rattle.std.proofs.Common.{◌≢◌, ◌≤◌, ◌<◌, ◌∙◌, length, arith, refl, ap, sym, subst}
use Rattle.std.proofs.lemmas.Result.{err_from_is_err_and}
use Rattle.tc_bytes.specs.Counts.{Rose}
use Rattle.tc_work.specs.Moving.{eyes}
use Rattle.tc_server.specs.Kits.{AreOpened}
use Rattle.tc_server.proofs.OpenLoops.{not_given_since, one_more, opened_more, opened_none}
use Rattle.tc_keeper.proofs.EngineWorlds.{err_always}
use Rattle.tc_server.proofs.opening.open_all.Goals as goal

pub loop-number-init : goal.loop-number-init
loop-number-init g c = record {
  opened = opened_none (eyes g.H.Store.Store.history g.H.Store.Device.Device.history g.H.Store.Frozen.Frozen.content g.H.Store.Device.Device.name
      g.H.Store.Frozen.Frozen.size g.H.Store.Watch.Watch.counts) c.args.options.now (g.H.Shelf.files c.args.shelf.now) (g.H.Shelf.kit_faults c.args.shelf.now)
      c.args.engines.now c.requires.none;
  many = ap length c.requires.none;
  within = omega arith;
  others = λ other from. (refl, refl);
  faults = omega arith;
  same = λ none. refl;
}

pub loop-number-preserved : goal.loop-number-preserved
loop-number-preserved g c =
    let l = c.loop-number in
    let e = c.in_ok-open_next.ensures.opened in
    let more : l.number < c.args.options.now.partitions = let test = c.loop-number-test.true in omega arith in
    let many = one_more l.engines c.open_next.new.engines e.0 l.number l.invariant.many e.1 in
    record {
      opened = opened_more (eyes g.H.Store.Store.history g.H.Store.Device.Device.history g.H.Store.Frozen.Frozen.content g.H.Store.Device.Device.name
          g.H.Store.Frozen.Frozen.size g.H.Store.Watch.Watch.counts) c.args.options.now (g.H.Shelf.files c.args.shelf.now) (g.H.Shelf.files l.shelf)
          (g.H.Shelf.kit_faults c.args.shelf.now) (g.H.Shelf.kit_faults l.shelf) l.engines c.open_next.new.engines l.number e.0 l.invariant.many e.1
          (l.invariant.others l.number (omega arith)) l.invariant.opened e.2;
      many = many;
      within = omega (arith, more);
      others = λ other from.
          let behind : other ≢ l.number = λ same. omega (arith, same, from) in
          let stays = c.open_next.ensures.others other behind in
          let before = l.invariant.others other (omega (arith, from)) in
          (stays.0 ∙ before.0, stays.1 ∙ before.1);
      faults = omega (arith, l.invariant.faults, c.open_next.ensures.faults);
      same = λ none. absurd (omega (arith, many, ap length none));
    }

pub returns-in_err-open_next-clause-opened : goal.returns-in_err-open_next-clause-opened
returns-in_err-open_next-clause-opened g c = subst (AreOpened
    (eyes g.H.Store.Store.history g.H.Store.Device.Device.history g.H.Store.Frozen.Frozen.content g.H.Store.Device.Device.name g.H.Store.Frozen.Frozen.size
    g.H.Store.Watch.Watch.counts) c.args.options.now (g.H.Shelf.files c.args.shelf.now) (g.H.Shelf.kit_faults c.args.shelf.now)) (sym c.in_err-open_next.ensures.stays)
    c.loop-number.invariant.opened

pub returns-in_err-open_next-clause-some : goal.returns-in_err-open_next-clause-some
returns-in_err-open_next-clause-some g c =
    let l = c.loop-number in
    let more : l.number < c.args.options.now.partitions = let test = c.loop-number-test.true in omega arith in
    err_always c.from_residual.result (omega (arith, more, ap length c.in_err-open_next.ensures.stays, l.invariant.many))

pub returns-in_err-open_next-clause-back : goal.returns-in_err-open_next-clause-back
returns-in_err-open_next-clause-back g c =
    let l = c.loop-number in
    let p = err_from_is_err_and c.from_residual.result c.from_residual.ensures.1 in
    let many = ap length c.in_err-open_next.ensures.stays ∙ l.invariant.many in
    let stays = l.invariant.others l.number (omega arith) in
    rw (p.1, p.2, many, ← stays.0, ← stays.1) c.in_err-open_next.ensures.back

pub returns-in_err-open_next-clause-not_given : goal.returns-in_err-open_next-clause-not_given
returns-in_err-open_next-clause-not_given g c =
    let l = c.loop-number in
    let p = err_from_is_err_and c.from_residual.result c.from_residual.ensures.1 in
    let many = ap length c.in_err-open_next.ensures.stays ∙ l.invariant.many in
    let since : Rose (g.H.Shelf.faults l.shelf) (g.H.Shelf.faults c.open_next.new.shelf) → Rose (g.H.Shelf.faults c.args.shelf.now) (g.H.Shelf.faults c.open_next.new.shelf) = λ rose. omega (arith, rose, l.invariant.faults) in
    rw (p.1, p.2, many) (λ none. not_given_since _ _ l.number c.in_err-open_next.field-0.0.fault since (c.in_err-open_next.ensures.not_given none))

pub returns-in_err-open_next-clause-found : goal.returns-in_err-open_next-clause-found
returns-in_err-open_next-clause-found g c =
    let p = err_from_is_err_and c.from_residual.result c.from_residual.ensures.1 in
    rw (p.1, p.2) c.in_err-open_next.ensures.found

pub returns-in_err-open_next-clause-others : goal.returns-in_err-open_next-clause-others
returns-in_err-open_next-clause-others g c = λ other behind.
    let l = c.loop-number in
    let many = ap length c.in_err-open_next.ensures.stays ∙ l.invariant.many in
    let stays = c.open_next.ensures.others other (λ same. omega (arith, same, many, behind)) in
    let before = l.invariant.others other (omega (arith, many, behind)) in
    (stays.0 ∙ before.0, stays.1 ∙ before.1)

pub returns-in_err-open_next-clause-unasked : goal.returns-in_err-open_next-clause-unasked
returns-in_err-open_next-clause-unasked g c =
    let l = c.loop-number in
    let p = err_from_is_err_and c.from_residual.result c.from_residual.ensures.1 in
    let many = ap length c.in_err-open_next.ensures.stays ∙ l.invariant.many in
    rw (p.1, p.2, many) (λ none memory. rw (c.in_err-open_next.ensures.same none memory) (l.invariant.others l.number (omega arith)))

pub returns-in_err-open_next-clause-same : goal.returns-in_err-open_next-clause-same
returns-in_err-open_next-clause-same g c =
    let l = c.loop-number in
    let p = err_from_is_err_and c.from_residual.result c.from_residual.ensures.1 in
    rw (p.1, p.2) (λ none memory empty. c.in_err-open_next.ensures.same none memory ∙ l.invariant.same (sym c.in_err-open_next.ensures.stays ∙ empty))

pub returns-in_err-open_next-clause-faults : goal.returns-in_err-open_next-clause-faults
returns-in_err-open_next-clause-faults g c = omega (arith, c.loop-number.invariant.faults, c.open_next.ensures.faults)

pub returns-clause-opened : goal.returns-clause-opened
returns-clause-opened g c = c.loop-number.invariant.opened

pub returns-clause-all : goal.returns-clause-all
returns-clause-all g c =
    let l = c.loop-number in
    let over : c.args.options.now.partitions ≤ l.number = let test = c.loop-number-test.false in omega arith in
    omega (arith, over, l.invariant.within, l.invariant.many)

pub returns-clause-others : goal.returns-clause-others
returns-clause-others g c = λ other behind. c.loop-number.invariant.others other (omega (arith, behind, c.loop-number.invariant.many))

pub returns-clause-next : goal.returns-clause-next
returns-clause-next g c = c.loop-number.invariant.others (length c.loop-number.engines) (omega (arith, c.loop-number.invariant.many))

pub returns-clause-faults : goal.returns-clause-faults
returns-clause-faults g c = c.loop-number.invariant.faults
