use Rattle.part_rows.proofs.LaidLists.{behind_one}
use Rattle.part_rows.proofs.laid.laid_behind_one.Goals as goal

pub returns : goal.returns
returns c =
    let one = c.requires.one in
    behind_one c.args.log c.args.list one.0 c.args.to one.1 one.2 one.3 c.requires.listed c.requires.low c.requires.sound c.requires.empty c.requires.name
