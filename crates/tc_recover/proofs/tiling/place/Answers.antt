use Rattle.std.proofs.Common.{rules, arith, ◌≡◌, ◌∷◌, [], ◌++◌, sym, subst}
use Rattle.tc_recover.specs.Placing.{IsPlaced}
use Rattle.tc_recover.proofs.Places.{first_placed, no_first_tiling, swapped_placed, within_last, behind_last, no_place}
use Rattle.tc_recover.proofs.tiling.place.Goals as goal
use Rattle.tc_recover.proofs.tiling.place.Goals.{then-next-last-2-via-then-next-last-2, then-next-last-2-via-else-next-last-2+then-next-last-ne1}

pub returns-then-next-ne1-clause-out : goal.returns-then-next-ne1-clause-out
returns-then-next-ne1-clause-out c = λ no all rest others p tiling.
    let none : c.args.tiles.now.items ≡ [] = search rules in
    no_first_tiling all rest c.args.tiles.now.items others c.args.next p none c.if-next-ne1.true tiling

pub returns-in_default-clause-placed : goal.returns-in_default-clause-placed
returns-in_default-clause-placed c = λ yes all rest p.
    let none : c.args.tiles.now.items ≡ [] = search rules in
    let one : c.push.new.self.items ≡ c.args.next ∷ [] = search rules in
    subst (IsPlaced all rest) (sym one) (first_placed all rest c.args.tiles.now.items c.args.next p none c.if-next-ne1.false)

pub returns-then-last-next-clause-placed : goal.returns-then-last-next-clause-placed
returns-then-last-next-clause-placed c = λ yes all rest p.
    subst (IsPlaced all rest) (sym c.in_ok-push-2.ensures.items)
    (swapped_placed all rest c.pop.new.self.items c.in-Some.last c.args.next (subst (IsPlaced all (c.args.next ∷ rest)) c.in-Some.ensures.items p) c.if-last-next.true)

pub returns-then-next-last-clause-placed : goal.returns-then-next-last-clause-placed
returns-then-next-last-clause-placed c = λ yes all rest p.
    subst (IsPlaced all rest) (sym c.in_ok-push-3.ensures.items)
    (within_last all rest c.pop.new.self.items c.in-Some.last c.args.next (subst (IsPlaced all (c.args.next ∷ rest)) c.in-Some.ensures.items p) c.if-next-last.true)

pub returns-then-next-last-2-clause-out : goal.returns-then-next-last-2-clause-out
returns-then-next-last-2-clause-out c = λ no all rest others p tiling.
    no_place all rest c.pop.new.self.items others c.in-Some.last c.args.next (subst (IsPlaced all (c.args.next ∷ rest)) c.in-Some.ensures.items p) c.if-next-last.false c.if-last-next.false
    (λ next. elim c.then-next-last-2.branch [
      | then-next-last-2-via-then-next-last-2 w ↦ omega (arith, next, w.if-next-last-2)
      | then-next-last-2-via-else-next-last-2+then-next-last-ne1 w ↦ omega (arith, next, w.if-next-last-ne1, w.if-next-last-2)
    ]) tiling

pub returns-clause-placed : goal.returns-clause-placed
returns-clause-placed c = λ yes all rest p.
    let whole = subst (λ front. c.push-3.new.self.items ≡ front ++ c.args.next ∷ []) c.in_ok-push-3.ensures.items c.in_ok-push-4.ensures.items in
    subst (IsPlaced all rest) (sym whole)
    (behind_last all rest c.pop.new.self.items c.in-Some.last c.args.next (subst (IsPlaced all (c.args.next ∷ rest)) c.in-Some.ensures.items p) (omega (arith, c.if-next-last-ne1.false)))
