-- The laws of the tokens behind what is open.
use Rattle.std.proofs.Common.{◌≡◌, ◌∙◌, ◌≤◌, ◌+◌, ℕ, zero, suc, List, [], ◌∷◌, length, map, Option, refl, sym, ap, arith}
use Rattle.tc_model.specs.Document.{Scalar}
use Rattle.tc_record.specs.Preorder.{Piece, scalar, array_opened, object_opened, closed, Token, token}
use Rattle.tc_record.specs.Walk.{Key}
use Rattle.tc_record.specs.Behind.{still_open, behind_closes, behind_close}
use Rattle.tc_record.specs.Building.{Levels, outer, value_read, levels_before, levels_of}

pub behind_closes-none : {L S : Type 0} (n : ℕ) → behind_closes {L = L} {S = S} n [] ≡ []
behind_closes-none zero = refl
behind_closes-none (suc n) = refl

still_open-more : {S : Type 0} (p : Piece S) (n m all : ℕ) → all ≡ n + m → still_open p all ≡ still_open p n + m
still_open-more (scalar s) n m all is = omega (arith, is)
still_open-more array_opened n m all is = omega (arith, is)
still_open-more object_opened n m all is = omega (arith, is)
still_open-more closed n m all is = is

-- of what is open, the inner ones close first
pub behind_inner : {L S : Type 0} (n m all : ℕ) (ts : List (Token L S)) → all ≡ n + m → behind_closes m (behind_closes n ts) ≡ behind_closes all ts
behind_inner zero m all ts is = let same : m ≡ all = omega (arith, is) in ap (λ k. behind_closes k ts) same
behind_inner (suc n) m all [] is = behind_closes-none m ∙ sym (behind_closes-none all)
behind_inner (suc n) m zero (t ∷ ts) is = absurd (omega (arith, is))
behind_inner (suc n) m (suc all) (t ∷ ts) is =
    behind_inner (still_open t.piece n) m (still_open t.piece all) ts (still_open-more t.piece n m all (omega (arith, is)))

pub length-behind_closes : {L S : Type 0} (n : ℕ) (ts : List (Token L S)) → length (behind_closes n ts) ≤ length ts
length-behind_closes zero ts = omega arith
length-behind_closes (suc n) [] = omega arith
length-behind_closes (suc n) (t ∷ ts) = omega (arith, length-behind_closes (still_open t.piece n) ts)

-- the levels around so many
abbrev outer_by : ℕ → Levels → Levels
outer_by zero levels = levels
outer_by (suc n) levels = outer_by n (outer levels)

outer_by-none : (n : ℕ) → outer_by n [] ≡ []
outer_by-none zero = refl
outer_by-none (suc n) = outer_by-none n

-- what stands around so many levels, before a token and behind it
around_token : (l : Option Key) (p : Piece Scalar) (n : ℕ) (levels : Levels)
    → outer_by (still_open p n) levels ≡ outer_by (suc n) (levels_before l (value_read p levels).0 (value_read p levels).1)
around_token l (scalar s) n levels = refl
around_token l array_opened n levels = refl
around_token l object_opened n levels = refl
around_token l closed n levels = refl

levels_behind_closes : (meant : Option Key → Option Key) (n : ℕ) (ts : List (Token Key Scalar))
    → levels_of (map (λ t. token (meant t.label) t.piece) (behind_closes n ts)) ≡ outer_by n (levels_of (map (λ t. token (meant t.label) t.piece) ts))
levels_behind_closes meant zero ts = refl
levels_behind_closes meant (suc n) [] = sym (outer_by-none n)
levels_behind_closes meant (suc n) (t ∷ ts) =
    levels_behind_closes meant (still_open t.piece n) ts ∙ around_token (meant t.label) t.piece n (levels_of (map (λ t. token (meant t.label) t.piece) ts))

-- what is read behind a close is what stands around the level that it closes, whatever the labels mean
pub levels_behind_close : (meant : Option Key → Option Key) (ts : List (Token Key Scalar))
    → levels_of (map (λ t. token (meant t.label) t.piece) (behind_close ts)) ≡ outer (levels_of (map (λ t. token (meant t.label) t.piece) ts))
levels_behind_close meant ts = levels_behind_closes meant 1 ts
