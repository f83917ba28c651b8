-- What is left begins behind the line feed.
use Rattle.tc_lines.proofs.FeedLemmas.{line_gone}
use Rattle.tc_lines.proofs.intake.Intake.take_line.Goals as goal

pub returns-clause-left : goal.returns-clause-left
returns-clause-left c = line_gone _ _ c.self.inside.piece.items c.self.inside.start _ _ _ _ c.args.self.now c.in_ok-line.ensures.ok c.requires c.self.view_is
