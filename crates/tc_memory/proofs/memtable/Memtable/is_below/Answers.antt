use Rattle.std.proofs.Common.{◌≡◌, ◌∙◌}
use Rattle.std.specs.Prelude.{Some, None}
use Rattle.tc_value.specs.ShapeMeaning.{shape_tree}
use Rattle.tc_model.specs.Keyed.{value_of}
use Rattle.tc_memory.specs.Meaning.{kept_of}
use Rattle.tc_model.proofs.KeyedMaps.{is_some-option_map}
use Rattle.tc_memory.proofs.TableLemmas.{kept_of-lookup}
use Rattle.tc_memory.proofs.memtable.Memtable.is_below.Goals as goal

pub returns-in-Some : goal.returns-in-Some
returns-in-Some c =
    let found : value_of c.args.key c.args.self.now ≡ Some (kept_of c.in-Some.slot.now) =
    rw (← c.self.view_is) (kept_of-lookup c.args.key (Some c.in-Some.slot.now) c.self.inside.slots.entries c.in-Some.ensures.value) in
    rw found (c.is_some.ensures ∙ is_some-option_map (λ b. shape_tree b.value) c.in-Some.slot.now.below)

pub returns-in-None : goal.returns-in-None
returns-in-None c =
    let absent : value_of c.args.key c.args.self.now ≡ None =
    rw (← c.self.view_is) (kept_of-lookup c.args.key None c.self.inside.slots.entries c.in-None.ensures.value) in
    rw absent (c.is_some-in-None.ensures ∙ is_some-option_map shape_tree c.args.handed.now)
