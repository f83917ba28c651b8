use Rattle.std.proofs.Common.{◌↔◌, map, subst, arith}
use Rattle.std.specs.Arc.{arc_value}
use Rattle.std.proofs.lemmas.List.{drop_all}
use Rattle.tc_merge.specs.Merging.{Tile}
use Rattle.tc_merge.proofs.mergeable.tile.Goals as goal

pub returns : goal.returns
returns g c =
    let run = c.args.run.now in
    let next = c.loop-component.next in
    let none = drop_all c.loop-component.component-index run (omega (arith, c.loop-component-test.false)) in
    let tiles = subst (λ left. Tile next c.args.to (map arc_value left) ↔ Tile c.args.from c.args.to (map arc_value run)) none c.loop-component.invariant in
    let behind = c.is_behind.ensures.exact in
    record { exact = (λ yes. tiles.0 (behind.0 yes), λ tile. behind.1 (tiles.1 tile)) }
