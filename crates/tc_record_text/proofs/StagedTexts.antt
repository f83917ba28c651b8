-- Text that was put, and text that waits behind it.
use Rattle.std.proofs.Common.{◌≡◌, ◌∙◌, ◌+◌, ◌<◌, ◌≤◌, ℕ, List, [], ◌∷◌, ◌++◌, length, get_or, take, drop, map, arith, sym, ap, ap₂, append_assoc, length-take-le, take-take}
use Rattle.std.proofs.lemmas.List.{drop_more, get_or-map, length-map}
use Rattle.std.proofs.Math.Seq.{take-append-add}
use Rattle.json.specs.Filled.{Placed}
use Rattle.serde_json.specs.Written.{compact_text}
use Rattle.tc_model.specs.Document.{Scalar, null}
use Rattle.tc_model.specs.Json.{scalar_data}
use Rattle.tc_record.specs.Preorder.{Piece, scalar}
use Rattle.tc_record_text.specs.FlatTexts.{end_brace, labelled, row_text}

-- bytes go behind what waits
pub waits : (o w o' w' t : List ℕ) → o' ++ w' ≡ o ++ w → o' ++ (w' ++ t) ≡ o ++ (w ++ t)
waits o w o' w' t same = sym (append_assoc o' w' t) ∙ ap (λ l. l ++ t) same ∙ append_assoc o w t

-- two texts, one after the other
pub both_put : (o w o' w' o'' w'' s t : List ℕ) → o' ++ w' ≡ o ++ (w ++ s) → o'' ++ w'' ≡ o' ++ (w' ++ t) → o'' ++ w'' ≡ o ++ (w ++ (s ++ t))
both_put o w o' w' o'' w'' s t first second = second ∙ waits o (w ++ s) o' w' t first ∙ ap (λ l. o ++ l) (append_assoc w s t)

-- what is left of a row begins with a label and its value
next_member : (ls : List (List ℕ)) (vs : List Scalar) (i : ℕ) (l : List ℕ) (v : Scalar) → drop i ls ≡ l ∷ drop (i + 1) ls → drop i vs ≡ v ∷ drop (i + 1) vs
    → row_text (drop i ls) (drop i vs) ≡ (l ++ compact_text (scalar_data v)) ++ row_text (drop (i + 1) ls) (drop (i + 1) vs)
next_member ls vs i l v label value =
    let t = compact_text (scalar_data v) in
    let rest = labelled (drop (i + 1) ls) (drop (i + 1) vs) in
    ap₂ row_text label value ∙ ap (λ r. r ++ end_brace ∷ []) (sym (append_assoc l t rest)) ∙ append_assoc (l ++ t) rest (end_brace ∷ [])

-- once a label and its value were put, what is left of the row is one member less
pub member_put : (ls : List (List ℕ)) (vs : List Scalar) (ps : List (Piece Scalar)) (i : ℕ) (l : List ℕ) (p : Piece Scalar) (o w o' w' o'' w'' all : List ℕ)
    → ps ≡ map scalar vs → i < length ps → i < length ls → get_or ls i l ≡ l → get_or ps i p ≡ p
    → o' ++ w' ≡ o ++ (w ++ l) → ((v : Scalar) → p ≡ scalar v → o'' ++ w'' ≡ o' ++ (w' ++ compact_text (scalar_data v)))
    → o ++ (w ++ row_text (drop i ls) (drop i vs)) ≡ all → o'' ++ (w'' ++ row_text (drop (i + 1) ls) (drop (i + 1) vs)) ≡ all
member_put ls vs ps i l p o w o' w' o'' w'' all are within labelled_by label_is piece_is label value left =
    let v = get_or vs i null in
    let t = compact_text (scalar_data v) in
    let valued : i < length vs = omega (arith, within, ap length are, length-map vs scalar) in
    let piece : p ≡ scalar v = sym piece_is ∙ ap (λ qs. get_or qs i p) are ∙ get_or-map scalar vs i null p valued in
    let rest = row_text (drop (i + 1) ls) (drop (i + 1) vs) in
    let more : row_text (drop i ls) (drop i vs) ≡ (l ++ t) ++ rest =
    next_member ls vs i l v (drop_more ls i l labelled_by ∙ ap (λ x. x ∷ drop (i + 1) ls) label_is) (drop_more vs i null valued) in
    waits o (w ++ (l ++ t)) o'' w'' rest (both_put o w o' w' o'' w'' l t label (value v piece))
    ∙ ap (λ r. o ++ r) (append_assoc w (l ++ t) rest ∙ ap (λ r. w ++ r) (sym more)) ∙ left

-- the room that is left behind what waits
pub room_behind : (bytes w : List ℕ) (len n : ℕ) → take len bytes ≡ w → len ≤ length bytes → length w + n ≤ 1024 → len + n ≤ 1024
room_behind bytes w len n waiting within room = omega (arith, ap length waiting, length-take-le len bytes within, room)

-- a text was written behind what waits
pub placed_behind : (o w o' w' a b t : List ℕ) (i j : ℕ) → o' ++ w' ≡ o ++ w → take i a ≡ w' → Placed a b i t j → o' ++ take j b ≡ o ++ (w ++ t)
placed_behind o w o' w' a b t i j same waiting put = ap (λ l. o' ++ l) (put.bytes ∙ ap (λ l. l ++ t) waiting) ∙ waits o w o' w' t same

-- of a text that was written its first bytes
pub placed_front : (a b t : List ℕ) (i j n : ℕ) → i ≤ length a → n ≤ length t → Placed a b i t j → Placed a b i (take n t) (i + n)
placed_front a b t i j n within few put = record {
  bytes = sym (take-take (i + n) j b (omega (arith, put.moved))) ∙ ap (take (i + n)) put.bytes
      ∙ ap (λ k. take (k + n) (take i a ++ t)) (sym (length-take-le i a within)) ∙ take-append-add (take i a) t n;
  moved = omega (arith, length-take-le n t few);
  len = put.len;
}

-- a number behind the name of its member
pub number_put : (o c q n : List ℕ) → (o ++ (c ++ (q ++ 58 ∷ []))) ++ n ≡ o ++ (c ++ (q ++ 58 ∷ n))
number_put o c q n = append_assoc o (c ++ (q ++ 58 ∷ [])) n ∙ ap (λ s. o ++ s) (append_assoc c (q ++ 58 ∷ []) n ∙ ap (λ s. c ++ s) (append_assoc q (58 ∷ []) n))
