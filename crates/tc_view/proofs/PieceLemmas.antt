-- Writes whose records lie in one list of bytes: they stay what they are when bytes come behind.
use Rattle.std.proofs.Common.{◌≡◌, ◌<◌, ◌+◌, ◌-◌, ◌∙◌, ℕ, List, [], ◌∷◌, ◌++◌, length, get_or, map, take, drop, refl, sym, ap, subst, arith, Option, Some, None}
use Rattle.std.specs.Prelude.{All, IfSome, option_map}
use Rattle.std.proofs.lemmas.List.{map-append, take-append-le, take_more, drop-append-le, length-append, length-drop}
use Rattle.std.proofs.lemmas.List.Elements.{All-head, All-nil, All-push, All-tail, All-weaker}
use mathlib.Core.List.{IsPrefix}
use Rattle.tc_log.specs.declared.write.Write.{Write}
use Rattle.tc_log.specs.Writes.{write_of}
use Rattle.tc_view.specs.declared.piece.Piece.{Piece}
use Rattle.tc_view.specs.declared.piece.Span.{Span}
use Rattle.tc_view.specs.Pieces.{record_in, write_in, IsWithin, LiesIn}

-- ---- bytes that come behind

record_longer : (bytes more : List ℕ) (s : Span) → IsWithin bytes s → record_in (bytes ++ more) s ≡ record_in bytes s
record_longer bytes more s is =
    let ordered = is.ordered in
    let inside = is.inside in
    let count = length-drop s.begin bytes in
    ap (take (s.end - s.begin)) (drop-append-le s.begin bytes more (omega (arith, ordered, inside)))
    ∙ take-append-le (s.end - s.begin) (drop s.begin bytes) more (omega (arith, ordered, inside, count))

write_longer : (bytes more : List ℕ) (p : Piece) → LiesIn bytes p → write_in (bytes ++ more) p ≡ write_in bytes p
write_longer bytes more p lies = ap (λ r. write_of (p.key, r)) (same p.record lies)
  where
    same : (o : Option Span) → IfSome o (IsWithin bytes) → option_map (record_in (bytes ++ more)) o ≡ option_map (record_in bytes) o
    same None is = refl
    same (Some s) is = ap Some (record_longer bytes more s is)

writes_longer : (bytes more : List ℕ) (ps : List Piece) → All (LiesIn bytes) ps → map (write_in (bytes ++ more)) ps ≡ map (write_in bytes) ps
writes_longer bytes more [] lie = refl
writes_longer bytes more (p ∷ ps) lie = λ i. write_longer bytes more p (All-head (LiesIn bytes) p ps lie) i ∷ writes_longer bytes more ps (All-tail (LiesIn bytes) p ps lie) i

lies_longer : (bytes more : List ℕ) (p : Piece) → LiesIn bytes p → LiesIn (bytes ++ more) p
lies_longer bytes more p lies = there p.record lies
  where
    there : (o : Option Span) → IfSome o (IsWithin bytes) → IfSome o (IsWithin (bytes ++ more))
    there None is = tt
    there (Some s) is = let inside = is.inside in let count = length-append bytes more in record { ordered = is.ordered; inside = omega (arith, inside, count) }

-- ---- the pieces of a list of writes

pub record AreOf (bytes : List ℕ) (ps : List Piece) (ws : List Write) : Type 0 where
  pub lie : All (LiesIn bytes) ps
  pub same : map (write_in bytes) ps ≡ ws

pub none_of : (bytes : List ℕ) → AreOf bytes [] []
none_of bytes = record { lie = All-nil (LiesIn bytes); same = refl }

-- one more, whose record came behind
pub next_of : (before after : List ℕ) (ps qs : List Piece) (ws : List Write) (at : ℕ) (p : Piece) (w : Write)
    → IsPrefix before after → AreOf before ps (take at ws) → LiesIn after p → write_in after p ≡ w → qs ≡ ps ++ p ∷ [] → at < length ws → w ≡ get_or ws at w → AreOf after qs (take (at + 1) ws)
next_of before after ps qs ws at p w longer are lies is pushed inside here = subst (λ all. AreOf after all (take (at + 1) ws)) (sym pushed) (record { lie = lie; same = same })
  where
    lie : All (LiesIn after) (ps ++ p ∷ [])
    lie = All-push (LiesIn after) ps p (subst (λ bytes. All (LiesIn bytes) ps) longer.1 (All-weaker (LiesIn before) (LiesIn (before ++ longer.0)) (lies_longer before longer.0) ps are.lie)) lies

    front : map (write_in after) ps ≡ take at ws
    front = ap (λ bytes. map (write_in bytes) ps) (sym longer.1) ∙ writes_longer before longer.0 ps are.lie ∙ are.same

    same : map (write_in after) (ps ++ p ∷ []) ≡ take (at + 1) ws
    same = map-append (write_in after) ps (p ∷ []) ∙ (λ i. front i ++ (is ∙ here) i ∷ []) ∙ sym (take_more ws at w inside)
