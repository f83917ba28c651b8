use Rattle.std.proofs.Common.{◌≡◌, ◌∙◌, Some, sym, ap, subst}
use Rattle.std.specs.Prelude.{IsErrOf}
use Rattle.tc_model.specs.Keyed.{value_of}
use Rattle.tc_model.specs.Document.{document_shape}
use Rattle.tc_value.specs.ShapeMeaning.{shape_tree}
use Rattle.tc_part_model.specs.PartView.{below_of}
use Rattle.tc_part.specs.declared.fault.PartFault.TheVariants.{Disk}
use Rattle.tc_part.specs.declared.below.Below.TheVariants.{Absent}
use Rattle.tc_part.specs.Below.{IsBelow, sealed_held}
use Rattle.tc_part.proofs.Outcomes.{fails_alike, never_fails}
use Rattle.tc_part.proofs.Spelled.{of_read_then}
use Rattle.tc_part.proofs.ListedContents.{all_show, all_loaded}
use Rattle.tc_part.proofs.ListedDocuments.{found_place, live_document, looked_up}
use Rattle.tc_part.proofs.BelowKeys.{listed, in_sealed, not_sealed, record_sealed, below_there, no_shape, a_shape}
use Rattle.tc_part.proofs.Handing.{absent_below, sealed_below, listed_below}
use Rattle.tc_part.proofs.part.Part.shape_below.Goals as goal
use Rattle.tc_part.proofs.part.Part.shape_below.Goals.{in-Ok-shape_at, in-Err-shape_at}

pub shape_at-requires-after_bounds : goal.shape_at-requires-after_bounds
shape_at-requires-after_bounds g c =
    let list = c.self.inside.list in
    let n = c.in-Listed.component in
    let place = c.in-Listed.place in
    let below = subst (λ s. IsBelow s.sealed s.list c.args.key c.args.below) (sym c.self.view_is) c.requires in
    let found = listed _ list c.args.key n place (subst (IsBelow _ list c.args.key) c.in-Listed.is below) in
    λ κs lives. found_place list c.args.key n place c.component_at-component.result.now found.1 c.component_at-component.ensures

pub returns-in-Absent-clause-shape : goal.returns-in-Absent-clause-shape
returns-in-Absent-clause-shape g c =
    let below = subst (λ s. IsBelow s.sealed s.list c.args.key c.args.below) (sym c.self.view_is) c.requires in
    let absent = subst (IsBelow _ c.self.inside.list c.args.key) c.in-Absent.is below in
    rw (← c.self.view_is) λ p is told.
    no_shape (value_of c.args.key (below_of p))
    (below_there _ p is c.args.key c.self.inside.list (all_show g.S.Frozen.Frozen.content c.self.inside.list p.list is.view.components) Absent absent)

pub returns-in-Ok-clause-shape : goal.returns-in-Ok-clause-shape
returns-in-Ok-clause-shape g c =
    let below = subst (λ s. IsBelow s.sealed s.list c.args.key c.args.below) (sym c.self.view_is) c.requires in
    let held = in_sealed _ c.self.inside.list c.args.key (subst (IsBelow _ c.self.inside.list c.args.key) c.in-Sealed.is below) in
    let now = sym (ap (λ s. sealed_held c.args.key s.sealed) c.self.view_is) ∙ held.1 in
    let lawful = c.shape_sealed.ensures.lawful held.0 now in
    rw (← c.self.view_is) λ p is told.
    let found = record_sealed _ p is c.args.key held.0 held.1 lawful in
    ap Some (c.in-Ok.ensures.shape found.0 held.0 now found.2) ∙ a_shape (value_of c.args.key (below_of p)) found.0 found.1

pub returns-after-shape_at-clause-shape : goal.returns-after-shape_at-clause-shape
returns-after-shape_at-clause-shape g c =
    let list = c.self.inside.list in
    let key = c.args.key in
    let n = c.in-Listed.component in
    let place = c.in-Listed.place in
    let m = c.component_at-component.result.now in
    let content = g.S.Frozen.Frozen.content in
    let below = subst (λ s. IsBelow s.sealed s.list key c.args.below) (sym c.self.view_is) c.requires in
    let found = listed _ list key n place (subst (IsBelow _ list key) c.in-Listed.is below) in
    rw (← c.self.view_is) λ p is told.
    elim c.match-shape_at.branch [
      | in-Ok-shape_at w ↦
          let holds = c.loaded_components_show_contents.ensures.fetched p.part list p.list key n place is.memory.list (all_loaded content list p.list is.view.components told) found.1.newest in
          let live = live_document content list p.list key n place m (λ d. shape_tree w.in-Ok-shape_at.shape ≡ document_shape d) holds c.component_at-component.ensures w.in-Ok-shape_at.ensures.shape in
          rw w.result-is (ap Some live.2 ∙ a_shape (value_of key (below_of p)) live.0 (not_sealed _ p is key found.0 ∙ live.1))
      | in-Err-shape_at w ↦ rw w.result-is tt
    ]

pub returns-after-shape_at-clause-harmed : goal.returns-after-shape_at-clause-harmed
returns-after-shape_at-clause-harmed g c =
    let n = c.in-Listed.component in
    let m = c.component_at-component.result.now in
    rw (← c.self.view_is)
    (elim c.match-shape_at.branch [
      | in-Ok-shape_at w ↦ rw w.result-is tt
      | in-Err-shape_at w ↦
          rw w.result-is
          (of_read_then w.in-Err-shape_at.fault _ _ (λ file at bytes harm. record { at = n; component = m; here = c.component_at-component.ensures; harm = harm }) w.in-Err-shape_at.ensures.harmed)
    ])

pub returns-after-shape_at-clause-counted : goal.returns-after-shape_at-clause-counted
returns-after-shape_at-clause-counted g c =
    let list = c.self.inside.list in
    let key = c.args.key in
    let n = c.in-Listed.component in
    let place = c.in-Listed.place in
    let below = subst (λ s. IsBelow s.sealed s.list key c.args.below) (sym c.self.view_is) c.requires in
    let found = listed _ list key n place (subst (IsBelow _ list key) c.in-Listed.is below) in
    let fails : IsErrOf c.match-shape_at.result Disk → IsErrOf c.shape_at.result Disk = elim c.match-shape_at.branch [
      | in-Ok-shape_at w ↦ never_fails c.match-shape_at.result _ Disk w.result-is
      | in-Err-shape_at w ↦ fails_alike c.match-shape_at.result c.shape_at.result w.in-Err-shape_at.fault Disk w.result-is w.in-Err-shape_at.is
    ] in
    rw (← c.self.view_is) (looked_up list key n place _ _ _ _ _ found.1 fails c.shape_at.ensures.counted)

-- ---- what was read

pub returns-in-Absent-clause-read : goal.returns-in-Absent-clause-read
returns-in-Absent-clause-read g c =
    let state = c.args.self.now in
    absent_below _ state.sealed state.list c.args.key (subst (IsBelow _ state.list c.args.key) c.in-Absent.is c.requires)

pub returns-in-Ok-clause-read : goal.returns-in-Ok-clause-read
returns-in-Ok-clause-read g c =
    let state = c.args.self.now in
    let held = in_sealed state.sealed state.list c.args.key (subst (IsBelow _ state.list c.args.key) c.in-Sealed.is c.requires) in
    sealed_below _ state.sealed state.list c.args.key held.0 _ held.1 (c.shape_sealed.ensures.lawful held.0 held.1) (λ d of. c.in-Ok.ensures.shape d held.0 held.1 of)

pub returns-after-shape_at-clause-read : goal.returns-after-shape_at-clause-read
returns-after-shape_at-clause-read g c =
    let list = c.self.inside.list in
    let key = c.args.key in
    let n = c.in-Listed.component in
    let place = c.in-Listed.place in
    let below = subst (λ s. IsBelow s.sealed s.list key c.args.below) (sym c.self.view_is) c.requires in
    let found = listed _ list key n place (subst (IsBelow _ list key) c.in-Listed.is below) in
    rw (← c.self.view_is)
    (elim c.match-shape_at.branch [
      | in-Ok-shape_at w ↦
          let read = w.in-Ok-shape_at.ensures.read in
          rw w.result-is
          (listed_below _ _ list key read.0 _ found.0 (record { at = n; place = place; newest = found.1.newest; component = c.component_at-component.result.now; here = c.component_at-component.ensures; read = read.2 }) read.1)
      | in-Err-shape_at w ↦ rw w.result-is tt
    ])
