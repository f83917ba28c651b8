-- What is left begins behind the line feed.
use Rattle.tc_lines.proofs.FeedLemmas.{line_gone}
use Rattle.tc_lines.proofs.intake.Intake.drop_line.Goals as goal

pub returns : goal.returns
returns c = line_gone _ _ c.self.inside.piece.items c.self.inside.start _ _ _ _ c.args.self.now c.clear.ensures.items c.requires c.self.view_is
