-- What is said of damage.
use Rattle.std.proofs.Common.{◌≡◌, ◌∙◌, ◌<◌, ℕ, List, length, take, drop, Option, Some, slice_get, sym, ap, subst}
use Rattle.std.specs.Prelude.{IfSome, Err, option_map, unwrap_or}
use Rattle.tc_store.specs.declared.file_name.FileName.{FileName}
use Rattle.tc_store.specs.Judging.{IfDamaged, IsNoDamage}
use Rattle.tc_store.specs.declared.damage.ReadFault.{ReadFault}
use Rattle.tc_store.specs.declared.damage.ReadFault.TheVariants.{Damaged as damage_read}
use Rattle.tc_record.specs.Borrowed.{Record}
use Rattle.tc_component.specs.declared.found.Span.{Span}
use Rattle.tc_component.specs.declared.slot.Slot.{Slot}
use Rattle.tc_component.specs.Fetching.{record_place, length_at, IsRecordWithin}
use Rattle.tc_component.specs.Spans.{IsSpan}
use Rattle.tc_component.proofs.Windows.{at_range}
use Rattle.tc_component.specs.Loading.{ComponentState}
use Rattle.tc_component.specs.Spelling.{name_of}
use Rattle.tc_merge.specs.declared.fault.MergeFault.{MergeFault}
use Rattle.tc_merge.specs.declared.fault.MergeFault.TheVariants.{Disk, Damaged, Memory}
use Rattle.tc_merge.specs.Faults.{IfHarmed, IsHarmOf, IsHarmIn}

pub harmed_then : (fault : MergeFault) (P Q : FileName → ℕ → List ℕ → Type 0) → ((file : FileName) (place : ℕ) (bytes : List ℕ) → P file place bytes → Q file place bytes) → IfHarmed fault P → IfHarmed fault Q
harmed_then Disk P Q f is = tt
harmed_then (Damaged file place bytes) P Q f is = f file place bytes is
harmed_then Memory P Q f is = tt

-- damage of one of a run is damage in the run
pub harm_in : {F : Type 0} (content : F → Option (List ℕ)) (run : List (ComponentState F)) (at : ℕ) (c : ComponentState F) (fault : MergeFault) → slice_get run at ≡ Some c
    → IfHarmed fault (λ file place bytes. IsHarmOf content c file place bytes) → IfHarmed fault (λ file place bytes. IsHarmIn content run file place bytes)
harm_in content run at c fault here is = harmed_then fault (λ file place bytes. IsHarmOf content c file place bytes) (λ file place bytes. IsHarmIn content run file place bytes) (λ file place bytes harm. record { at = at; component = c; here = here; harm = harm }) is

-- what was read without damage does no harm
pub no_harm : (fault : ReadFault) (made : MergeFault) (name : FileName) (P : FileName → ℕ → List ℕ → Type 0) → IsNoDamage {X = Unit {0}} (Err fault) → IfHarmed made (λ of at bytes. (of ≡ name) × (fault ≡ damage_read at bytes)) → IfHarmed made P
no_harm fault made name P none harmed =
    harmed_then made (λ of at bytes. (of ≡ name) × (fault ≡ damage_read at bytes)) P (λ of at bytes found. absurd (subst (λ f. IsNoDamage {X = Unit {0}} (Err f)) found.1 none)) harmed

-- bytes that were read at an entry with a record, and are damage, are damage of the component
pub read_harm : {F : Type 0} (content : F → Option (List ℕ)) (c : ComponentState F) (place : ℕ) (e : Span) (held : List ℕ) (fault : ReadFault) (made : MergeFault) (name : FileName) → IsSpan c.index.slots place e → 0 < e.count → name ≡ name_of c.index.head
    → IfSome (content c.file) (λ whole. held ≡ take e.count (drop e.begin whole))
    → IfDamaged {X = Record} (Err fault) (λ at kept. (at ≡ e.begin) × (kept ≡ held) × (length kept ≡ e.count) × (IsRecordWithin c.index.version (length c.index.names) kept → ⊥))
    → IfHarmed made (λ of at bytes. (of ≡ name) × (fault ≡ damage_read at bytes)) → IfHarmed made (λ file at bytes. IsHarmOf content c file at bytes)
read_harm {F} content c place e held fault made name is live named told damaged harmed = harmed_then made (λ of at bytes. (of ≡ name) × (fault ≡ damage_read at bytes)) (λ file at bytes. IsHarmOf content c file at bytes) harm harmed
  where
    long : e.count ≡ length_at c.index.slots place
    long = sym (ap (λ (o : Option Slot). unwrap_or (option_map (λ s. s.length) o) 0) is.here)

    harm : (of : FileName) (at : ℕ) (bytes : List ℕ) → (of ≡ name) × (fault ≡ damage_read at bytes) → IsHarmOf content c of at bytes
    harm of at bytes found =
        let broken = subst (λ f. IfDamaged {X = Record} (Err f) (λ at kept. (at ≡ e.begin) × (kept ≡ held) × (length kept ≡ e.count) × (IsRecordWithin c.index.version (length c.index.names) kept → ⊥))) found.1 damaged in
        record {
          entry = record { at = place };
          there = (e.key, (e.count, is.here, live));
          file_is = found.0 ∙ named;
          place_is = broken.0 ∙ is.begin;
          long = broken.2 ∙ long;
          broken = broken.3;
          told = at_range (λ p n. IfSome (content c.file) (λ whole. bytes ≡ take n (drop p whole))) e.begin (record_place c.index.slots place) e.count (length_at c.index.slots place) is.begin long
              (subst (λ bs. IfSome (content c.file) (λ whole. bs ≡ take e.count (drop e.begin whole))) (sym broken.1) told);
        }
