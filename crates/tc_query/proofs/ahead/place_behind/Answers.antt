use Rattle.std.proofs.Common.{◌≡◌, ◌≤◌, ◌<◌, ◌+◌, false, drop, option_map, refl, sym, subst, arith}
use Rattle.std.specs.Prelude.{IfSome}
use Rattle.std.proofs.lemmas.Bool.Decides.{nat_tests}
use Rattle.std.proofs.lemmas.Option.{slice_get_past}
use Rattle.tc_list.specs.Contents.{marks}
use Rattle.tc_query.proofs.AheadKeys.{first_mark, pass_ahead}
use Rattle.tc_query.specs.Walking.{least_left, IsAhead}
use Rattle.tc_query.proofs.ahead.place_behind.Goals as goal

pub loop-at-preserved : goal.loop-at-preserved
loop-at-preserved g c =
    let slots = c.args.component.now.index.slots in
    let low = least_left c.args.last in
    let at = c.loop-at.at in
    let key = c.entry.result.key in
    let m = first_mark slots at key _ c.entry.ensures.here refl in
    let other : c.is_behind.result ≡ false = let is = c.if-is_behind.false in cc in
    let told = c.is_behind.ensures in
    let less : key < low = grind (arith, nat_tests) in
    pass_ahead low (marks slots) m.entry (drop (at + 1) (marks slots)) (subst (IsAhead low (marks slots)) m.is c.loop-at.invariant) (subst (λ k. k < low) (sym m.key_is) less)

pub returns-clause-from : goal.returns-clause-from
returns-clause-from g c =
    let slots = c.args.component.now.index.slots in
    let past = c.loop-at-test.false in
    let len = c.len.ensures in
    subst (λ o. IfSome (option_map (λ s. s.key) o) (λ key. least_left c.args.last ≤ key)) (sym (slice_get_past slots c.loop-at.at (omega (arith, past, len)))) tt
