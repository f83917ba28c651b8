use Rattle.std.proofs.Common.{◌≡◌, ◌∙◌, ◌∷◌, ◌-◌, suc, length, flat_map, slice_index_or, ap, arith}
use Rattle.tc_names.specs.Cutting.{cut}
use Rattle.tc_names.proofs.Cuts.{last-end, size-cut}
use Rattle.tc_names.proofs.texts.Texts.size.Goals as goal

pub returns-in-len1-up : goal.returns-in-len1-up
returns-in-len1-up c =
    let ends = c.self.inside.ends.items in
    let bytes = c.self.inside.bytes.items in
    let kept = c.as_slice.ensures.value in
    let some : suc (length ends - 1) ≡ length ends = omega (arith, c.in-len1-up.len_at_least, ap length kept) in
    let all : length bytes ≡ length (flat_map (λ text. text) (cut 0 ends bytes)) = omega (arith, size-cut 0 ends bytes c.self.invariant) in
    record {
      size = ap (λ ends. slice_index_or ends (length ends - 1) 0) kept
          ∙ ap (λ place. slice_index_or (0 ∷ ends) place 0) some
          ∙ last-end 0 ends bytes c.self.invariant
          ∙ all
          ∙ ap (λ texts. length (flat_map (λ text. text) texts)) c.self.view_is;
    }
