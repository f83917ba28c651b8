-- How many bytes a dictionary is spelled in.
use Rattle.std.proofs.Common.{◌≡◌, ◌+◌, ◌*◌, ℕ, List, [], ◌∷◌, flat_map, length, arith, length-append}
use Rattle.std.specs.Int.{w32, to_be_bytes}
use Rattle.tc_bytes.specs.Codec.{counted_bytes}
use Rattle.tc_names.specs.Section.{section}

-- each name takes its bytes and four
names-size : (names : List (List ℕ)) → length (flat_map counted_bytes names) ≡ 4 * length names + length (flat_map (λ name. name) names)
names-size [] = omega arith
names-size (name ∷ names) =
    let spelled = length-append (counted_bytes name) (flat_map counted_bytes names) in
    let together = length-append name (flat_map (λ name. name) names) in
    let counted = length-append (to_be_bytes w32 (length name)) name in
    omega (arith, spelled, together, counted, names-size names)

-- and their number takes four
pub section-size : (names : List (List ℕ)) → length (section names) ≡ 4 + 4 * length names + length (flat_map (λ name. name) names)
section-size names = omega (arith, length-append (to_be_bytes w32 (length names)) (flat_map counted_bytes names), names-size names)
