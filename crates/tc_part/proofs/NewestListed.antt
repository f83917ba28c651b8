-- The newest component of a list, by its position.
use Rattle.std.proofs.Common.{◌≡◌, ◌+◌, ℕ, zero, suc, List, [], ◌∷◌, Option, Some, None, length, map, slice_get, refl, ap, arith}
use Rattle.std.proofs.lemmas.Option.{same_Some}
use Rattle.tc_component.specs.Loading.{ComponentState}
use Rattle.tc_component.specs.Spelling.{Index}
use Rattle.tc_list.specs.Intervals.{last_after, last_of}
use Rattle.tc_part_model.specs.Newest.{newest_index, next_by}
use Rattle.tc_part_model.specs.PartState.{told_component}
use Rattle.tc_part.specs.Openings.{newest_in}

last_index : {F : Type 0} (content : F → Option (List ℕ)) (before : Option Index) (cs : List (ComponentState F)) (at : ℕ) (c : ComponentState F) → slice_get cs at ≡ Some c → length cs ≡ at + 1
    → newest_index before (map (told_component content) cs) ≡ Some c.index
last_index content before [] at c here long = absurd (cc)
last_index content before (d ∷ []) zero c here long = ap (λ (x : ComponentState _). Some x.index) (same_Some d c here)
last_index content before (d ∷ e ∷ cs) zero c here long = absurd (omega (arith, long))
last_index content before (d ∷ []) (suc at) c here long = absurd (omega (arith, long))
last_index content before (d ∷ e ∷ cs) (suc at) c here long = last_index content (Some d.index) (e ∷ cs) at c here (omega (arith, long))

-- the component at the last position is the newest
pub newest_at : {F : Type 0} (content : F → Option (List ℕ)) (cs : List (ComponentState F)) (at : ℕ) (c : ComponentState F) → slice_get cs at ≡ Some c → length cs ≡ at + 1 → newest_in content cs ≡ Some c.index
newest_at content cs at c here long = last_index content None cs at c here long

pub none_listed : {F : Type 0} (content : F → Option (List ℕ)) (cs : List (ComponentState F)) → length cs ≡ 0 → newest_in content cs ≡ None
none_listed content [] long = refl
none_listed content (c ∷ cs) long = absurd (omega (arith, long))

-- the generation behind it is that behind the list
behind_index : {F : Type 0} (content : F → Option (List ℕ)) (i : Index) (cs : List (ComponentState F)) → next_by (newest_index (Some i) (map (told_component content) cs)) ≡ last_after i.head.to cs + 1
behind_index content i [] = refl
behind_index content i (c ∷ cs) = behind_index content c.index cs

pub next_listed : {F : Type 0} (content : F → Option (List ℕ)) (cs : List (ComponentState F)) → next_by (newest_in content cs) ≡ last_of cs + 1
next_listed content [] = refl
next_listed content (c ∷ cs) = behind_index content c.index cs
