-- The bytes that were copied are the front of those that were left.
use Rattle.std.proofs.Common.{◌≡◌, ℕ, ◌+◌, ◌-◌, ◌≤◌, ◌<◌, min, List, [], ◌++◌, length, take, drop, sym, ap, ◌∙◌, arith, length-take, length-append, length-drop, take-append-drop}
use Rattle.std.proofs.lemmas.List.{take_at, take_rest, drop-drop, drop_all}
use Rattle.tc_edge.proofs.memory.MemSourceSource.read.Goals as goal

moved : (bytes front rest : List ℕ) (at n : ℕ) → front ≡ take n (drop at bytes) → length front ≡ n
    → drop at bytes ≡ take n (front ++ rest) ++ drop (at + n) bytes
moved bytes front rest at n e l =
    sym (take-append-drop n (drop at bytes)) ∙ ap (λ t. t ++ drop n (drop at bytes)) (sym (take_at front rest n l ∙ e))
    ∙ ap (λ t. take n (front ++ rest) ++ t) (drop-drop n at bytes)

copied : (bytes into front : List ℕ) (at piece m n : ℕ) → at ≤ length bytes → 0 < piece
    → front ≡ take n (take (length bytes - at) (drop at bytes))
    → m ≡ min (length (take (length bytes - at) (drop at bytes))) (length into) → n ≡ min m piece
    → (drop at bytes ≡ take n (front ++ drop n into) ++ drop (at + n) bytes)
    × (n ≡ 0 → 0 < length (front ++ drop n into) → drop (at + n) bytes ≡ [])
copied bytes into front at piece m n within some e most least =
    let rest = drop at bytes in
    let front_is : front ≡ take n rest = e ∙ ap (take n) (take_rest bytes at) in
    let most_is : m ≡ min (length rest) (length into) = most ∙ ap (λ t. min (length t) (length into)) (take_rest bytes at) in
    let front_len : length front ≡ min n (length rest) = ap length front_is ∙ length-take n rest in
    let all_len = length-append front (drop n into) in
    let into_len = length-drop n into in
    let rest_len = length-drop at bytes in (
      moved bytes front (drop n into) at n front_is (omega (arith, front_len, most_is, least)),
      λ none there. drop_all (at + n) bytes (omega (arith, none, there, front_len, most_is, least, all_len, into_len, rest_len, some)),
    )

pub returns-clause-bytes : goal.returns-clause-bytes
returns-clause-bytes g c =
    rw (← c.self.view_is, ← c.deref-2.ensures.value)
    (copied c.deref-2.result.now c.args.into.now c.copy_from_slice.new.self _ _ _ _ (rw c.deref-2.ensures.value c.self.invariant.0) c.self.invariant.1
    c.copy_from_slice.ensures.after c.min.ensures c.min-count.ensures)
