use Rattle.std.proofs.Common.{◌≡◌, filter, map, subst, sym, rules}
use Rattle.std.proofs.lemmas.Fn.{filter_same}
use Rattle.std.specs.Arc.{arc_value}
use Rattle.std.specs.Prelude.{All}
use Rattle.tc_component.specs.Loading.{ComponentState}
use Rattle.tc_part.specs.Ready.{AreNamed}
use Rattle.tc_part.specs.Sweeps.{NamesNoneOf}
use Rattle.tc_part.proofs.SweptFiles.{apart_left, is_apart}
use Rattle.tc_part.proofs.retired.Retired.apart_from.Goals as goal

pub returns-clause-named : goal.returns-clause-named
returns-clause-named g c =
    let name = g.F.Frozen.name in
    let listed = map arc_value c.as_slice-listed.result.now in
    let left : c.retain.new.self.items ≡ filter (is_apart arc_value name listed) c.self.inside.components.items = filter_same _ _ _ (λ m b f' t. search rules) _ _ c.retain.ensures.filtered in
    subst (λ xs. AreNamed name (map arc_value xs)) (sym left) (apart_left arc_value name listed c.self.inside.components.items c.self.invariant).0

pub returns-clause-apart : goal.returns-clause-apart
returns-clause-apart g c =
    let name = g.F.Frozen.name in
    let listed = map arc_value c.as_slice-listed.result.now in
    let left : c.retain.new.self.items ≡ filter (is_apart arc_value name listed) c.self.inside.components.items = filter_same _ _ _ (λ m b f' t. search rules) _ _ c.retain.ensures.filtered in
    subst (λ cs. All (λ (m : ComponentState _). NamesNoneOf cs (name m.file)) (map arc_value c.retain.new.self.items)) c.as_slice-listed.ensures.all
    (subst (λ xs. All (λ (m : ComponentState _). NamesNoneOf listed (name m.file)) (map arc_value xs)) (sym left) (apart_left arc_value name listed c.self.inside.components.items c.self.invariant).1)
