use Rattle.std.proofs.Common.{◌≡◌, map}
use Rattle.std.specs.Arc.{arc_value}
use Rattle.tc_component.specs.Loading.{ComponentState}
use Rattle.tc_component.specs.Spelling.{name_of}
use Rattle.tc_part.proofs.SweptFiles.{all_some, none_removed}
use Rattle.tc_part.proofs.part.Part.retire.Goals as goal

pub returns-in_err-reserve-clause-removed : goal.returns-in_err-reserve-clause-removed
returns-in_err-reserve-clause-removed g c = rw (← c.self.view_is) (none_removed g.S.Frozen.Frozen.name (map arc_value c.args.components.items) (g.S.Store.history c.self.inside.store))

pub add-requires-clause-named : goal.add-requires-clause-named
add-requires-clause-named g c = λ κs lives.
    all_some (λ (m : ComponentState _). g.S.Frozen.Frozen.name m.file ≡ name_of m.index.head) (map arc_value c.args.components.items) (map arc_value c.in_ok-shared.shared.items) c.in_ok-shared.ensures.shared c.requires.named
