-- The cursors of a list of components.
use Rattle.std.proofs.Common.{◌≡◌, ◌∙◌, ◌<◌, ℕ, zero, suc, List, [], ◌∷◌, Option, None, Some, length, set, slice_get, replicate, refl, sym, subst, arith}
use Rattle.std.proofs.lemmas.Option.{same_Some, slice_get_within}
use Rattle.std.proofs.lemmas.Slice.Zip.{AllZip-long}
use Rattle.tc_component.specs.declared.slot.Slot.{Slot}
use Rattle.tc_component.specs.Cursors.{CursorState, holds_nothing, HoldsPart, HasBytes, part_held}
use Rattle.tc_component.specs.Fetching.{length_at, record_at, record_place}
use Rattle.tc_component.specs.Loading.{ComponentState}
use Rattle.tc_component.proofs.Windows.{part_told}
use Rattle.tc_audit.specs.Walking.{HoldParts}

module _ {F : Type 0} (told : F → Option (List ℕ)) where
  nothing : (content : Option (List ℕ)) → HoldsPart content holds_nothing
  nothing None = tt
  nothing (Some bytes) = refl

  pub none_held : (cs : List (ComponentState F)) (ks : List CursorState) → ks ≡ replicate (length cs) holds_nothing → HoldParts told cs ks
  none_held cs ks is = subst (HoldParts told cs) (sym is) (each cs)
    where
      each : (cs : List (ComponentState F)) → HoldParts told cs (replicate (length cs) holds_nothing)
      each [] = tt
      each (c ∷ cs) = (nothing (told c.file), each cs)

  pub part_at : (cs : List (ComponentState F)) (ks : List CursorState) (at : ℕ) (c : ComponentState F) (k : CursorState) → HoldParts told cs ks → slice_get cs at ≡ Some c → slice_get ks at ≡ Some k → HoldsPart (told c.file) k
  part_at [] ks at c k hold here there = absurd (cc)
  part_at (x ∷ cs) [] at c k hold here there = absurd hold
  part_at (x ∷ cs) (j ∷ ks) zero c k hold here there = subst (λ (y : ComponentState F). HoldsPart (told y.file) k) (same_Some x c here) (subst (HoldsPart (told x.file)) (same_Some j k there) hold.0)
  part_at (x ∷ cs) (j ∷ ks) (suc at) c k hold here there = part_at cs ks at c k hold.1 here there

  pub part_within : (cs : List (ComponentState F)) (ks : List CursorState) (at : ℕ) (c : ComponentState F) → HoldParts told cs ks → slice_get cs at ≡ Some c → at < length ks
  part_within cs ks at c hold here = let many = AllZip-long _ cs ks hold in omega (arith, many, slice_get_within cs at c here)

  pub set_part : (cs : List (ComponentState F)) (ks : List CursorState) (at : ℕ) (c : ComponentState F) (k : CursorState) → HoldParts told cs ks → slice_get cs at ≡ Some c → HoldsPart (told c.file) k → HoldParts told cs (set ks at k)
  set_part [] ks at c k hold here holds = absurd (cc)
  set_part (x ∷ cs) [] at c k hold here holds = absurd hold
  set_part (x ∷ cs) (j ∷ ks) zero c k hold here holds = (subst (λ (y : ComponentState F). HoldsPart (told y.file) k) (sym (same_Some x c here)) holds, hold.1)
  set_part (x ∷ cs) (j ∷ ks) (suc at) c k hold here holds = (hold.0, set_part cs ks at c k hold.1 here holds)

-- the bytes of a record that are held are those of the file
pub held_is : (content : Option (List ℕ)) (k : CursorState) (slots : List Slot) (at begin count : ℕ) (whole : List ℕ) → content ≡ Some whole → HoldsPart content k → HasBytes begin count k → begin ≡ record_place slots at → count ≡ length_at slots at
    → part_held begin count k ≡ record_at slots at whole
held_is content k slots at begin count whole tells holds has begins long =
    part_told whole k begin count (subst (λ o. HoldsPart o k) tells holds) has ∙ rw (begins, long) refl
