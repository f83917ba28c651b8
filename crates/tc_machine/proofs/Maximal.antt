-- The contents that a picture opens as are those of its open components that lie within no other one.
use Rattle.std.proofs.Common.{◌≡◌, ◌<◌, ◌≤◌, ℕ, true, List, [], ◌∷◌, arith, inl, inr, Some}
use Rattle.std.specs.Prelude.{All}
use Rattle.std.proofs.lemmas.List.Elements.{All-head, All-tail}
use Rattle.tc_model.specs.Document.{Name}
use Rattle.tc_plain_model.specs.Writes.{Pairs, Write, after_writes}
use Rattle.tc_lsm_model.specs.Contents.{Content, Partition}
use Rattle.tc_lsm_model.specs.Lists.{Covers, GoOn}
use Rattle.tc_lsm_model.proofs.Covering.{covered_within}
use Rattle.tc_store.specs.Disk.{Picture, bytes_at}
use Rattle.tc_store.specs.Gate.{is_open_file}
use Rattle.tc_store.specs.declared.file_name.FileName.TheVariants.{Component}
use Rattle.tc_machine.specs.Components.{LeavesComponent, file_of}
use Rattle.tc_machine.specs.Pictures.{IsListed, IsMaximal, Opens}
use Rattle.tc_machine.proofs.ComponentHeads.{component_is_open}
use Rattle.tc_machine.proofs.OneWay.{component_at}

maximal_listed : (picture : Picture) (cs : List Content) (from to : ℕ) → All (λ c. LeavesComponent c (bytes_at picture (file_of c))) cs → IsMaximal picture from to → Covers cs from to → IsListed cs from to
maximal_listed picture [] from to there max none = absurd none
maximal_listed picture (c ∷ cs) from to there max (inl inside) =
    let here = component_at c (bytes_at picture (file_of c)) (All-head (λ c. LeavesComponent c (bytes_at picture (file_of c))) c cs there) in
    inl (max.alone c.from c.to here.0 here.1 (component_is_open c here.0 here.2) inside.0 inside.1)
maximal_listed picture (c ∷ cs) from to there max (inr further) =
    inr (maximal_listed picture cs from to (All-tail (λ c. LeavesComponent c (bytes_at picture (file_of c))) c cs there) max further)

-- an open component that no other one contains is listed
pub maximal_is_listed : (part : Partition) (picture : Picture) (cs : List Content) (ls : List (List Write)) → Opens part picture cs ls → (from to : ℕ) (b : List ℕ) → bytes_at picture (Component from to) ≡ Some b → is_open_file b ≡ true
    → IsMaximal picture from to → IsListed cs from to
maximal_is_listed part picture cs ls o from to b there is_open max = maximal_listed picture cs from to o.there max (o.components from to b there is_open).1

listed_within : (part : Partition) (g : ℕ) (p : Pairs) (ns : List Name) (cs : List Content) (from to : ℕ) → GoOn part g p ns cs → IsListed cs from to → (g < from) × (from ≤ to)
listed_within part g p ns [] from to all none = absurd none
listed_within part g p ns (c ∷ cs) from to all (inl here) = (omega (arith, here.0, all.0.next), omega (arith, here.0, here.1, all.0.content.order))
listed_within part g p ns (c ∷ cs) from to all (inr further) =
    let rest = listed_within part c.to (after_writes p c.entries) c.names cs from to all.1 further in
    (omega (arith, rest.0, all.0.next, all.0.content.order), rest.1)

-- what covers a listed content's generations is that content
covered_once : (part : Partition) (g : ℕ) (p : Pairs) (ns : List Name) (cs : List Content) (from to f t : ℕ) → GoOn part g p ns cs → IsListed cs from to → Covers cs f t → f ≤ from → to ≤ t → (f ≡ from) × (t ≡ to)
covered_once part g p ns [] from to f t all none covered low high = absurd none
covered_once part g p ns (c ∷ cs) from to f t all (inl here) (inl inside) low high = (omega (arith, here.0, inside.0, low), omega (arith, here.1, inside.1, high))
covered_once part g p ns (c ∷ cs) from to f t all (inl here) (inr further) low high =
    let w = covered_within part c.to (after_writes p c.entries) c.names cs f t all.1 further in absurd (omega (arith, w.0, here.0, low, all.0.content.order))
covered_once part g p ns (c ∷ cs) from to f t all (inr listed) (inl inside) low high =
    let w = listed_within part c.to (after_writes p c.entries) c.names cs from to all.1 listed in absurd (omega (arith, w.0, w.1, inside.1, high))
covered_once part g p ns (c ∷ cs) from to f t all (inr listed) (inr further) low high = covered_once part c.to (after_writes p c.entries) c.names cs from to f t all.1 listed further low high

-- and each listed one is contained in no other
pub listed_is_maximal : (part : Partition) (picture : Picture) (cs : List Content) (ls : List (List Write)) → Opens part picture cs ls → (from to : ℕ) → IsListed cs from to → IsMaximal picture from to
listed_is_maximal part picture cs ls o from to listed = record {
  alone = λ f t b there is_open low high. covered_once part 0 [] [] cs from to f t o.list listed (o.components f t b there is_open).1 low high;
}
