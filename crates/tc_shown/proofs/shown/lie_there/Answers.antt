use Rattle.std.proofs.Common.{◌∙◌, ap, sym, map, List}
use Rattle.tc_component.specs.Loading.{ComponentState}
use Rattle.tc_shown.proofs.Remembered.{heads_shared}
use Rattle.tc_shown.proofs.shown.lie_there.Goals as goal

pub returns-then-sealed-shown_sealed-clause-headers : goal.returns-then-sealed-shown_sealed-clause-headers
returns-then-sealed-shown_sealed-clause-headers g c = λ yes.
    sym (ap (λ (ms : List (ComponentState _)). map (λ m. m.index.head) ms) c.as_slice.ensures.all)
    ∙ heads_shared c.as_slice.result.now
    ∙ c.have_same_heads.ensures yes
    ∙ sym (heads_shared c.as_slice-then-sealed-shown_sealed.result.now)
    ∙ ap (λ (ms : List (ComponentState _)). map (λ m. m.index.head) ms) c.as_slice-then-sealed-shown_sealed.ensures.all
