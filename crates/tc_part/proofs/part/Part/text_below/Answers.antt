use Rattle.std.proofs.Common.{◌≡◌, ◌∙◌, Some, option_map, sym, ap, subst}
use Rattle.std.specs.Prelude.{IsErrOf}
use Rattle.tc_model.specs.Keyed.{value_of}
use Rattle.tc_request_model.specs.Rendered.{document_text}
use Rattle.tc_part_model.specs.PartView.{below_of}
use Rattle.tc_part.specs.declared.fault.PartFault.TheVariants.{Disk}
use Rattle.tc_part.specs.declared.below.Below.TheVariants.{Absent}
use Rattle.tc_part.specs.Below.{IsBelow, sealed_held}
use Rattle.tc_part.proofs.Outcomes.{fails_alike, never_fails}
use Rattle.tc_part.proofs.Spelled.{of_read_then}
use Rattle.tc_part.proofs.ListedContents.{all_show, all_loaded}
use Rattle.tc_part.proofs.ListedDocuments.{found_place, live_document, looked_up}
use Rattle.tc_part.proofs.BelowKeys.{listed, in_sealed, not_sealed, record_sealed, below_there, nothing, not_absent, held_once}
use Rattle.tc_part.proofs.part.Part.text_below.Goals as goal
use Rattle.tc_part.proofs.part.Part.text_below.Goals.{in-Ok-text_at, in-Err-text_at}

pub text_at-requires-after_bounds : goal.text_at-requires-after_bounds
text_at-requires-after_bounds g c =
    let list = c.self.inside.list in
    let n = c.in-Listed.component in
    let place = c.in-Listed.place in
    let below = subst (λ s. IsBelow s.sealed s.list c.args.key c.args.below) (sym c.self.view_is) c.requires in
    let found = listed _ list c.args.key n place (subst (IsBelow _ list c.args.key) c.in-Listed.is below) in
    λ κs lives. found_place list c.args.key n place c.component_at-component.result.now found.1 c.component_at-component.ensures

pub returns-in-Absent-clause-text : goal.returns-in-Absent-clause-text
returns-in-Absent-clause-text g c =
    let below = subst (λ s. IsBelow s.sealed s.list c.args.key c.args.below) (sym c.self.view_is) c.requires in
    let absent = subst (IsBelow _ c.self.inside.list c.args.key) c.in-Absent.is below in
    rw (← c.self.view_is) λ p is told.
    ap (option_map (document_text c.args.key)) (nothing (value_of c.args.key (below_of p))
    (below_there _ p is c.args.key c.self.inside.list (all_show g.S.Frozen.Frozen.content c.self.inside.list p.list is.view.components) Absent absent))

pub returns-in-Ok-clause-text : goal.returns-in-Ok-clause-text
returns-in-Ok-clause-text g c =
    let below = subst (λ s. IsBelow s.sealed s.list c.args.key c.args.below) (sym c.self.view_is) c.requires in
    let held = in_sealed _ c.self.inside.list c.args.key (subst (IsBelow _ c.self.inside.list c.args.key) c.in-Sealed.is below) in
    let now = sym (ap (λ s. sealed_held c.args.key s.sealed) c.self.view_is) ∙ held.1 in
    let lawful = c.text_sealed.ensures.lawful held.0 now in
    rw (← c.self.view_is) λ p is told.
    let found = record_sealed _ p is c.args.key held.0 held.1 lawful in
    ap Some (c.in-Ok.ensures.text found.0 held.0 now found.2) ∙ sym (ap (option_map (document_text c.args.key)) found.1)

pub returns-after-text_at-clause-text : goal.returns-after-text_at-clause-text
returns-after-text_at-clause-text g c =
    let list = c.self.inside.list in
    let key = c.args.key in
    let n = c.in-Listed.component in
    let place = c.in-Listed.place in
    let m = c.component_at-component.result.now in
    let content = g.S.Frozen.Frozen.content in
    let below = subst (λ s. IsBelow s.sealed s.list key c.args.below) (sym c.self.view_is) c.requires in
    let found = listed _ list key n place (subst (IsBelow _ list key) c.in-Listed.is below) in
    rw (← c.self.view_is) λ p is told.
    elim c.match-text_at.branch [
      | in-Ok-text_at w ↦
          let holds = c.loaded_components_show_contents.ensures.fetched p.part list p.list key n place is.memory.list (all_loaded content list p.list is.view.components told) found.1.newest in
          let live = live_document content list p.list key n place m (λ d. w.in-Ok-text_at.text ≡ document_text key d) holds c.component_at-component.ensures w.in-Ok-text_at.ensures.text in
          rw w.result-is (ap Some live.2 ∙ sym (ap (option_map (document_text key)) (not_sealed _ p is key found.0 ∙ live.1)))
      | in-Err-text_at w ↦ rw w.result-is tt
    ]

pub returns-after-text_at-clause-harmed : goal.returns-after-text_at-clause-harmed
returns-after-text_at-clause-harmed g c =
    let n = c.in-Listed.component in
    let m = c.component_at-component.result.now in
    rw (← c.self.view_is)
    (elim c.match-text_at.branch [
      | in-Ok-text_at w ↦ rw w.result-is tt
      | in-Err-text_at w ↦
          rw w.result-is
          (of_read_then w.in-Err-text_at.fault _ _ (λ file at bytes harm. record { at = n; component = m; here = c.component_at-component.ensures; harm = harm }) w.in-Err-text_at.ensures.harmed)
    ])

pub returns-after-text_at-clause-counted : goal.returns-after-text_at-clause-counted
returns-after-text_at-clause-counted g c =
    let list = c.self.inside.list in
    let key = c.args.key in
    let n = c.in-Listed.component in
    let place = c.in-Listed.place in
    let below = subst (λ s. IsBelow s.sealed s.list key c.args.below) (sym c.self.view_is) c.requires in
    let found = listed _ list key n place (subst (IsBelow _ list key) c.in-Listed.is below) in
    let fails : IsErrOf c.match-text_at.result Disk → IsErrOf c.text_at.result Disk = elim c.match-text_at.branch [
      | in-Ok-text_at w ↦ never_fails c.match-text_at.result _ Disk w.result-is
      | in-Err-text_at w ↦ fails_alike c.match-text_at.result c.text_at.result w.in-Err-text_at.fault Disk w.result-is w.in-Err-text_at.is
    ] in
    rw (← c.self.view_is) (looked_up list key n place _ _ _ _ _ found.1 fails c.text_at.ensures.counted)

pub returns-in-Absent-clause-held : goal.returns-in-Absent-clause-held
returns-in-Absent-clause-held g c = λ d bytes some of. absurd (not_absent c.args.self.now.sealed c.args.self.now.list c.args.key bytes (subst (IsBelow _ c.args.self.now.list c.args.key) c.in-Absent.is c.requires) some)

pub returns-after-text_at-clause-held : goal.returns-after-text_at-clause-held
returns-after-text_at-clause-held g c = λ d bytes some of.
    let found = listed c.args.self.now.sealed c.args.self.now.list c.args.key c.in-Listed.component c.in-Listed.place (subst (IsBelow _ c.args.self.now.list c.args.key) c.in-Listed.is c.requires) in
    absurd (held_once c.args.self.now.sealed c.args.key bytes found.0 some)

-- ---- what was read

pub returns-in-Absent-clause-read : goal.returns-in-Absent-clause-read
returns-in-Absent-clause-read g c = λ none. tt

pub returns-in-Ok-clause-read : goal.returns-in-Ok-clause-read
returns-in-Ok-clause-read g c = λ none.
    let held = in_sealed c.args.self.now.sealed c.args.self.now.list c.args.key (subst (IsBelow _ c.args.self.now.list c.args.key) c.in-Sealed.is c.requires) in
    absurd (held_once c.args.self.now.sealed c.args.key held.0 none held.1)

pub returns-after-text_at-clause-read : goal.returns-after-text_at-clause-read
returns-after-text_at-clause-read g c =
    let list = c.self.inside.list in
    let key = c.args.key in
    let n = c.in-Listed.component in
    let place = c.in-Listed.place in
    let below = subst (λ s. IsBelow s.sealed s.list key c.args.below) (sym c.self.view_is) c.requires in
    let found = listed _ list key n place (subst (IsBelow _ list key) c.in-Listed.is below) in
    rw (← c.self.view_is)
    (elim c.match-text_at.branch [
      | in-Ok-text_at w ↦
          let read = w.in-Ok-text_at.ensures.read in
          rw w.result-is
          (λ none. (read.0, read.1, record { at = n; place = place; newest = found.1.newest; component = c.component_at-component.result.now; here = c.component_at-component.ensures; read = read.2 }))
      | in-Err-text_at w ↦ rw w.result-is tt
    ])
