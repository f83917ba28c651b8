use Rattle.schedule_rows.proofs.views.given.Goals as goal

pub lens-requires-2-clause-ready : goal.lens-requires-2-clause-ready
lens-requires-2-clause-ready g c κs within = let r = c.requires in (r.0, c.lens.ensures.ready r.0 r.1)

pub lens-requires-3-clause-ready : goal.lens-requires-3-clause-ready
lens-requires-3-clause-ready g c κs within = let r = c.requires in (r.0, c.lens-2.ensures.ready r.0 (c.lens.ensures.ready r.0 r.1))
