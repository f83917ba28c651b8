use Rattle.std.proofs.Common.{◌∙◌, sym, ap, refl, inl, inr, Some, option_map}
use Rattle.tc_memory.specs.Meaning.{held_of}
use Rattle.tc_memory.specs.Table.{live}
use Rattle.tc_list.specs.declared.whereabouts.Whereabouts.TheVariants as list
use Rattle.tc_part.proofs.part.Part.below.Goals as goal

pub returns-in-Some-Live : goal.returns-in-Some-Live
returns-in-Some-Live g c =
    rw (← c.self.view_is) (inl (live c.in-Some-Live.field-0-0.now, sym c.held_in.ensures.held ∙ ap (option_map held_of) (c.in-Some-Live.is ∙ ap Some c.in-Some-Live.field-0-is), refl))

pub returns-in-Absent : goal.returns-in-Absent
returns-in-Absent g c =
    rw (← c.self.view_is)
    (inr (list.Absent, sym c.held_in.ensures.held ∙ ap (option_map held_of) c.in-None.is, record { newest = c.in-Absent.ensures.newest; live = c.in-Absent.ensures.live }, refl))
