-- Which generations the contents of a list cover.
use Rattle.std.proofs.Common.{◌≤◌, ◌<◌, ◌⊎◌, ℕ, List, [], ◌∷◌, ◌++◌, arith, inl, inr}
use Rattle.std.specs.Prelude.{All}
use Rattle.std.proofs.lemmas.List.Elements.{All-nil, All-cons}
use Rattle.tc_model.specs.Document.{Name}
use Rattle.tc_plain_model.specs.Writes.{Pairs, after_writes}
use Rattle.tc_lsm_model.specs.Contents.{Content, Partition}
use Rattle.tc_lsm_model.specs.Lists.{Covers, GoOn, last_after}
use Rattle.tc_lsm_model.proofs.ListLaws.{last_after-grows}

pub Covers-front : (xs ys : List Content) (from to : ℕ) → Covers xs from to → Covers (xs ++ ys) from to
Covers-front [] ys from to none = absurd none
Covers-front (c ∷ xs) ys from to (inl here) = inl here
Covers-front (c ∷ xs) ys from to (inr further) = inr (Covers-front xs ys from to further)

pub Covers-back : (xs ys : List Content) (from to : ℕ) → Covers ys from to → Covers (xs ++ ys) from to
Covers-back [] ys from to further = further
Covers-back (c ∷ xs) ys from to further = inr (Covers-back xs ys from to further)

pub Covers-either : (xs ys : List Content) (from to : ℕ) → Covers (xs ++ ys) from to → Covers xs from to ⊎ Covers ys from to
Covers-either [] ys from to further = inr further
Covers-either (c ∷ xs) ys from to (inl here) = inl (inl here)
Covers-either (c ∷ xs) ys from to (inr further) = elim (Covers-either xs ys from to further) [
  | inl front ↦ inl (inr front)
  | inr back ↦ inr back
]

-- what is covered lies within the generations of the list
pub covered_within : (part : Partition) (g : ℕ) (p : Pairs) (ns : List Name) (cs : List Content) (from to : ℕ) → GoOn part g p ns cs → Covers cs from to → (g < from) × (to ≤ last_after g cs)
covered_within part g p ns [] from to all none = absurd none
covered_within part g p ns (c ∷ cs) from to all (inl here) =
    (omega (arith, all.0.next, here.0), omega (arith, here.1, last_after-grows part c.to (after_writes p c.entries) c.names cs all.1))
covered_within part g p ns (c ∷ cs) from to all (inr further) =
    let rest = covered_within part c.to (after_writes p c.entries) c.names cs from to all.1 further in
    (omega (arith, all.0.next, all.0.content.order, rest.0), rest.1)

-- each content ends at the last generation of the list at the latest
pub ends_within : (part : Partition) (g : ℕ) (p : Pairs) (ns : List Name) (cs : List Content) → GoOn part g p ns cs → All (λ c. (c.from ≤ c.to) × (c.to ≤ last_after g cs)) cs
ends_within part g p ns [] all = All-nil (λ c. (c.from ≤ c.to) × (c.to ≤ g))
ends_within part g p ns (c ∷ cs) all =
    All-cons (λ x. (x.from ≤ x.to) × (x.to ≤ last_after c.to cs)) c cs (all.0.content.order, last_after-grows part c.to (after_writes p c.entries) c.names cs all.1) (ends_within part c.to (after_writes p c.entries) c.names cs all.1)
