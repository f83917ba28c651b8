-- The sink took the next bytes.
use Rattle.std.proofs.Common.{ℕ, ◌+◌, ◌-◌, List, ◌++◌, Option, length, take, drop, sym, ap, ◌∙◌, subst, arith, length-take}
use Rattle.std.proofs.Math.Seq.{take-add}
use Rattle.std.proofs.lemmas.List.{take_rest}
use Rattle.std.specs.Io.KnownBytes.{Appends}
use Rattle.std.proofs.KnownBytes.{Appends-trans}
use Rattle.tc_edge.proofs.streams.write_all.Goals as goal

taken_more : (a b c : Option (List ℕ)) (bytes : List ℕ) (i n : ℕ) → Appends a b (take i bytes)
    → Appends b c (take n (take (length bytes - i) (drop i bytes))) → Appends a c (take (i + n) bytes)
taken_more a b c bytes i n p q =
    subst (Appends a c) (ap (λ t. take i bytes ++ take n t) (take_rest bytes i) ∙ sym (take-add i n bytes)) (Appends-trans a b c _ _ p q)

pub loop-taken-preserved : goal.loop-taken-preserved
loop-taken-preserved g c =
    let (within, taken, kept) = c.loop-taken.invariant in
    let bound = c.in-Ok.ensures.bound in
    let cause = c.in-Ok.ensures.cause.kept in
    let there = length-take (length c.args.bytes.now - c.loop-taken.taken) (drop c.loop-taken.taken c.args.bytes.now) in
    (omega (arith, within, bound, there), taken_more _ _ _ _ _ _ taken c.in-Ok.ensures.bytes, omega (arith, kept, cause))
