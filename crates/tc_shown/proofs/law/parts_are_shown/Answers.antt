use Rattle.std.proofs.Common.{[], sym, subst}
use Rattle.tc_part_model.specs.PartView.{store_of}
use Rattle.tc_plain_model.specs.Writes.{after_writes}
use Rattle.tc_view.specs.declared.happened.Happened.TheVariants.{Placed}
use Rattle.tc_view.specs.Holding.{Holds}
use Rattle.tc_view.proofs.ViewLemmas.{shown_more}
use Rattle.tc_shown.proofs.ShownHistories.{frame_behind, view_counted, view_longer}
use Rattle.tc_shown.proofs.ShownParts.{part_held, part_listed}
use Rattle.tc_shown.proofs.law.parts_are_shown.Goals as goal

pub returns-clause-held : goal.returns-clause-held
returns-clause-held g c = part_held g.F.Frozen.content

pub returns-clause-opened : goal.returns-clause-opened
returns-clause-opened g c = λ t p list is told unstaged empty same.
    c.histories_hold_writes.ensures.opened list t.sealed (store_of p) (part_held g.F.Frozen.content t p list is told unstaged empty same)

pub returns-clause-placed : goal.returns-clause-placed
returns-clause-placed g c = λ t p list start writes history is told unstaged empty same stores holds.
    let held = part_held g.F.Frozen.content t p list is told unstaged empty same in
    c.histories_hold_writes.ensures.placed start writes history list t.sealed holds
    (subst (λ s. Holds g.F.Frozen.content s (after_writes start writes)) (sym (shown_more history (Placed list t.sealed)))
    (subst (λ pairs. Holds g.F.Frozen.content (record { list = list; sealed = t.sealed; written = [] }) pairs) stores held))

pub returns-clause-wrote : goal.returns-clause-wrote
returns-clause-wrote g c = frame_behind g.F.Frozen.content c.histories_hold_writes.ensures.wrote

pub returns-clause-listed : goal.returns-clause-listed
returns-clause-listed g c = part_listed g.F.Frozen.content

pub returns-clause-counted : goal.returns-clause-counted
returns-clause-counted g c = view_counted g.F.Frozen.content

pub returns-clause-longer : goal.returns-clause-longer
returns-clause-longer g c = view_longer
