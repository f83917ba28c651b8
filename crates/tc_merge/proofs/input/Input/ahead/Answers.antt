use Rattle.std.proofs.Common.{◌<◌, ◌+◌, length, sym, subst, arith}
use Rattle.std.specs.Arc.{arc_value}
use Rattle.std.specs.Prelude.{slice_index_or}
use Rattle.tc_component.specs.declared.found.Span.{Span}
use Rattle.tc_component.specs.Spans.{IsSpan}
use Rattle.tc_merge.proofs.Near.{span_ahead}
use Rattle.tc_merge.proofs.input.Input.ahead.Goals as goal

pub offset_bounds-self-inside-self-inside : goal.offset_bounds-self-inside-self-inside
offset_bounds-self-inside-self-inside g c =
    let i = c.self.inside in
    let near = c.self.invariant.0 in
    let less = near.some (subst (λ j. j.at < length j.component.index.slots) (sym c.self.view_is) c.requires) in
    omega (arith, less, near.room)

pub bounds-self-inside-self-inside : goal.bounds-self-inside-self-inside
bounds-self-inside-self-inside g c =
    let near = c.self.invariant.0 in
    let less = near.some (subst (λ j. j.at < length j.component.index.slots) (sym c.self.view_is) c.requires) in
    omega (arith, less, near.room)

pub returns : goal.returns
returns g c =
    let i = c.self.inside in
    let component = arc_value i.component in
    let more : i.base + i.step < length component.index.slots = subst (λ j. j.at < length j.component.index.slots) (sym c.self.view_is) c.requires in
    let d : Span = record { key = 0; begin = 0; count = 0 } in
    subst (λ j. IsSpan j.component.index.slots j.at (slice_index_or i.near i.step d)) c.self.view_is (span_ahead component.index i.base i.near i.held i.step i.key c.self.invariant.0 d more)
