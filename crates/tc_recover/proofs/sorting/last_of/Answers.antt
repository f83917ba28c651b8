use Rattle.std.proofs.Common.{◌≡◌, sym, subst}
use Rattle.tc_recover.specs.Tilings.{end_of}
use Rattle.tc_recover.proofs.Tiles.{end_pushed}
use Rattle.tc_recover.proofs.sorting.last_of.Goals as goal

pub returns-in-Some : goal.returns-in-Some
returns-in-Some c =
    let front = c.in-Some.field-0-1.now in
    let tile = c.in-Some.tile.now in
    subst (λ tiles. tile.to ≡ end_of 0 tiles) (sym c.in-Some.ensures.cases.0) (sym (end_pushed 0 front tile))
