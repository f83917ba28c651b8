-- A record as it is written now.
use Rattle.std.proofs.Common.{◌≡◌, ◌∙◌, ℕ, false, List, inl, inr, refl, sym, ap, subst, arith}
use Rattle.std.specs.Prelude.{◌==◌, if◌then◌else◌}
use Rattle.std.proofs.lemmas.Bool.Decides.{nat_tests}
use Rattle.tc_compact.specs.Repacked.{repacked, IsRepackedOf}
use Rattle.tc_component.specs.Building.{IsWrittenRecord}
use Rattle.tc_component.specs.Fetching.{IsRecordWithin}
use Rattle.tc_component.specs.Spelling.{written_version}
use Rattle.tc_merge.specs.Merging.{rewritten}

-- of a file of version 1
pub first_rewritten : (version : ℕ) (bytes packed : List ℕ) → version ≡ 1 → IsRepackedOf bytes packed → packed ≡ rewritten version bytes
first_rewritten version bytes packed one made = made.same ∙ sym (ap (λ v. rewritten v bytes) one)

pub first_within : (version limit : ℕ) (bytes packed : List ℕ) → version ≡ 1 → IsRepackedOf bytes packed → IsRecordWithin version limit bytes → IsRecordWithin written_version limit (rewritten version bytes)
first_within version limit bytes packed one made is =
    let first = subst (λ v. IsRecordWithin v limit bytes) one is in
    subst (IsRecordWithin written_version limit) (first_rewritten version bytes packed one made)
    (record { told = inr refl; tree = first.tree; is_record = made.is_packed first.tree first.is_record; below = first.below })

-- and of one that is no longer of version 1
pub other_rewritten : (version : ℕ) (bytes : List ℕ) → (version ≡ 1 → ⊥) → bytes ≡ rewritten version bytes
other_rewritten version bytes other = sym (ap (λ b. if b then repacked bytes else bytes) (not_first version other))
  where
    not_first : (version : ℕ) → (version ≡ 1 → ⊥) → (version == 1) ≡ false
    not_first version other = grind (arith, nat_tests)

pub other_within : (version limit : ℕ) (bytes : List ℕ) → (version ≡ 1 → ⊥) → IsRecordWithin version limit bytes → IsRecordWithin written_version limit (rewritten version bytes)
other_within version limit bytes other is = elim is.told [
  | inl one ↦ absurd (other one)
  | inr two ↦ subst (IsRecordWithin written_version limit) (other_rewritten version bytes other) (subst (λ v. IsRecordWithin v limit bytes) two is)
]

pub other_written : (version limit : ℕ) (bytes : List ℕ) → (version ≡ 1 → ⊥) → IsRecordWithin version limit bytes → IsWrittenRecord bytes
other_written version limit bytes other is =
    let within = subst (IsRecordWithin written_version limit) (sym (other_rewritten version bytes other)) (other_within version limit bytes other is) in
    (within.tree, within.is_record)
