-- What a torn write leaves of a list of bytes.
use Rattle.std.proofs.Common.{◌≡◌, ◌≢◌, ◌∙◌, ◌<◌, ◌≤◌, ◌+◌, max, ℕ, suc, List, [], ◌∷◌, ◌++◌, Option, None, Some, length, slice_index, refl, sym, ap, subst, inl, inr, arith, length-append}
use Rattle.std.specs.Prelude.{unwrap_or}
use Rattle.std.proofs.lemmas.List.Elements.{All-nil, All-cons}
use Rattle.tc_store.specs.DiskFile.{DiskFile}
use Rattle.tc_store.specs.Images.{Image, IsUntouched, IsWithin, furthest_end}
use Rattle.tc_store.specs.Moments.{LeavesAt}

-- the position is there, with the same byte
abbrev IsSame : List ℕ → List ℕ → ℕ → Type 0
IsSame image bytes i = (i < length image) × (slice_index image i ≡ slice_index bytes i)

-- a list that has each place of another begins with it
begins_with : (image bytes : List ℕ) → ((i : ℕ) → i < length bytes → IsSame image bytes i) → (rest : List ℕ) × (image ≡ bytes ++ rest)
begins_with image [] same = (image, refl)
begins_with [] (b ∷ bytes) same = absurd (omega (arith, (same 0 (omega arith)).0))
begins_with (x ∷ image) (b ∷ bytes) same =
    let first : x ≡ b = (same 0 (omega arith)).1 in
    let others = begins_with image bytes (λ i within. let here = same (suc i) (omega arith) in (omega (arith, here.0), here.1)) in
    (others.0, ap (λ (y : ℕ). y ∷ image) first ∙ ap (λ (more : List ℕ). b ∷ more) others.1)

same_as : (image bytes : List ℕ) → length image ≤ length bytes → ((i : ℕ) → i < length bytes → IsSame image bytes i) → image ≡ bytes
same_as [] [] no_longer same = refl
same_as (x ∷ image) [] no_longer same = absurd (omega (arith, no_longer))
same_as [] (b ∷ bytes) no_longer same = absurd (omega (arith, (same 0 (omega arith)).0))
same_as (x ∷ image) (b ∷ bytes) no_longer same =
    let first : x ≡ b = (same 0 (omega arith)).1 in
    let others = same_as image bytes (omega (arith, no_longer)) (λ i within. let here = same (suc i) (omega arith) in (omega (arith, here.0), here.1)) in
    ap (λ (y : ℕ). y ∷ image) first ∙ ap (λ (more : List ℕ). b ∷ more) others

-- one that has each place but one has another byte there
but_one : (front rest image : List ℕ) (x : ℕ) → 0 < length rest → length image ≤ length (front ++ x ∷ rest) → ((i : ℕ) → i < length (front ++ x ∷ rest) → i ≢ length front → IsSame image (front ++ x ∷ rest) i)
    → (y : ℕ) × (image ≡ front ++ y ∷ rest)
but_one [] rest [] x some no_longer same = absurd (omega (arith, (same 1 (omega (arith, some)) (λ e. absurd (omega (arith, e)))).0))
but_one [] rest (y ∷ image) x some no_longer same =
    let others = same_as image rest (omega (arith, no_longer)) (λ i within. let here = same (suc i) (omega (arith, within)) (λ e. absurd (omega (arith, e))) in (omega (arith, here.0), here.1)) in
    (y, ap (λ (more : List ℕ). y ∷ more) others)
but_one (b ∷ front) rest [] x some no_longer same = absurd (omega (arith, (same 0 (omega arith) (λ e. absurd (omega (arith, e)))).0))
but_one (b ∷ front) rest (z ∷ image) x some no_longer same =
    let first : z ≡ b = (same 0 (omega arith) (λ e. absurd (omega (arith, e)))).1 in
    let others = but_one front rest image x some (omega (arith, no_longer)) (λ i within other. let here = same (suc i) (omega (arith, within)) (λ e. other (omega (arith, e))) in (omega (arith, here.0), here.1)) in
    (others.0, ap (λ (y : ℕ). y ∷ image) first ∙ ap (λ (more : List ℕ). b ∷ more) others.1)

-- a file that is durable up to where a write was tried
pub behind_leaves : (P : Image → Type 0) (bytes : List ℕ) (at count : ℕ) (f : DiskFile) → at ≡ length bytes → f.synced ≡ Some bytes → f.tried ≡ (at, count) ∷ [] → f.before ≡ None
    → ((rest : List ℕ) → P (Some (bytes ++ rest))) → LeavesAt P f
behind_leaves P bytes at count f is_end synced tried before holds None absent = absurd (cc)
behind_leaves P bytes at count f is_end synced tried before holds (Some image) (inr was) = absurd (cc)
behind_leaves P bytes at count f is_end synced tried before holds (Some image) (inl is) =
    let durable : unwrap_or f.synced [] ≡ bytes = ap (λ (s : Option (List ℕ)). unwrap_or s []) synced in
    let same : (i : ℕ) → i < length bytes → IsSame image bytes i = λ i within.
    let untouched : IsUntouched f i = record {
      synced = rw durable within;
      not_tried = rw tried (All-cons (λ range. IsWithin i range → ⊥) (at, count) [] (λ it. absurd (omega (arith, it.0, is_end, within))) (All-nil (λ range. IsWithin i range → ⊥)));
    } in
    let here = is.untouched i untouched in
    (here.0, here.1 ∙ ap (λ (bs : List ℕ). slice_index bs i) durable) in
    let parts = begins_with image bytes same in
    subst (λ (left : List ℕ). P (Some left)) (sym parts.1) (holds parts.0)

-- a file that is durable but for one byte, on which a write was tried
pub gate_leaves : (P : Image → Type 0) (front rest bytes : List ℕ) (x at : ℕ) (f : DiskFile) → 0 < length rest → bytes ≡ front ++ x ∷ rest → at ≡ length front → length f.content ≤ length bytes
    → f.synced ≡ Some bytes → f.tried ≡ (at, 1) ∷ [] → f.before ≡ None → ((y : ℕ) → P (Some (front ++ y ∷ rest))) → LeavesAt P f
gate_leaves P front rest bytes x at f some parts is_end no_longer synced tried before holds None absent = absurd (cc)
gate_leaves P front rest bytes x at f some parts is_end no_longer synced tried before holds (Some image) (inr was) = absurd (cc)
gate_leaves P front rest bytes x at f some parts is_end no_longer synced tried before holds (Some image) (inl is) =
    let durable : unwrap_or f.synced [] ≡ front ++ x ∷ rest = ap (λ (s : Option (List ℕ)). unwrap_or s []) synced ∙ parts in
    let end : furthest_end (length f.content) f.tried ≡ max (at + 1) (length f.content) = ap (furthest_end (length f.content)) tried in
    let long : at + 1 ≤ length (front ++ x ∷ rest) = omega (arith, is_end, length-append front (x ∷ rest)) in
    let same : (i : ℕ) → i < length (front ++ x ∷ rest) → i ≢ length front → IsSame image (front ++ x ∷ rest) i = λ i within other.
    let untouched : IsUntouched f i = record {
      synced = rw durable within;
      not_tried = rw tried (All-cons (λ range. IsWithin i range → ⊥) (at, 1) [] (λ it. absurd (other (omega (arith, it.0, it.1, is_end)))) (All-nil (λ range. IsWithin i range → ⊥)));
    } in
    let here = is.untouched i untouched in
    (here.0, here.1 ∙ ap (λ (bs : List ℕ). slice_index bs i) durable) in
    let left = but_one front rest image x some (omega (arith, is.no_longer, end, no_longer, long, ap length parts)) same in
    subst (λ (bs : List ℕ). P (Some bs)) (sym left.1) (holds left.0)
