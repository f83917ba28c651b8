-- Damage at the place of an entry of a component.
use Rattle.std.proofs.Common.{◌≡◌, ◌∙◌, ◌-◌, ℕ, List, Option, inl, inr, length, take, drop, sym, ap, subst, arith}
use Rattle.std.specs.Prelude.{IfSome, Err}
use Rattle.std.proofs.lemmas.List.{length-drop, length-take-le}
use Rattle.tc_compact.specs.Meant.{IsRecordUnder}
use Rattle.tc_component.specs.Cursors.{CursorState, HasBytes, part_held}
use Rattle.tc_component.specs.Fetching.{IsPlace, record_place, length_at, record_at, IsRecordWithin}
use Rattle.tc_component.specs.Loading.{ComponentState}
use Rattle.tc_component.specs.Spelling.{name_of}
use Rattle.tc_component.specs.declared.found.Place.{Place}
use Rattle.tc_component.proofs.Windows.{at_range}
use Rattle.tc_model.specs.Document.{Document}
use Rattle.tc_query.specs.Faults.{OfDamage, IsUnharmed, AreNoRecord, IsHarmOf}
use Rattle.tc_query.specs.declared.fault.QueryFault.{QueryFault}
use Rattle.tc_query.proofs.Spelled.{of_damage_then}
use Rattle.tc_store.specs.Judging.{IsNoDamage}
use Rattle.tc_store.specs.declared.damage.ReadFault.{ReadFault}
use Rattle.tc_store.specs.declared.damage.ReadFault.TheVariants.{Damaged as ReadDamage}
use Rattle.tc_store.specs.declared.file_name.FileName.{FileName}

-- a fault of a file that is no damage
pub no_harm : (fault : ReadFault) (made : QueryFault) (name : FileName) → IsNoDamage {X = Unit {0}} (Err fault) → OfDamage made (λ of at bytes. (of ≡ name) × (fault ≡ ReadDamage at bytes)) → IsUnharmed made
no_harm fault made name none is = of_damage_then made _ _ (λ of at bytes found. absurd (subst (λ f. IsNoDamage {X = Unit {0}} (Err f)) found.1 none)) is

-- so many bytes are held as are wanted
pub part_long : (k : CursorState) (begin count : ℕ) → HasBytes begin count k → length (part_held begin count k) ≡ count
part_long k begin count has = length-take-le count (drop (begin - k.from) k.held) (let left = length-drop (begin - k.from) k.held in omega (arith, left, has.0, has.1))

-- bytes that were read where the record of an entry stands
module _ {F : Type 0} (told : F → Option (List ℕ)) (c : ComponentState F) (place : Place) (begin count : ℕ) (there : IsPlace c.index.slots place) (begins : begin ≡ record_place c.index.slots place.at) (counts : count ≡ length_at c.index.slots place.at)
    (held : List ℕ) (stands : IfSome (told c.file) (λ whole. held ≡ take count (drop begin whole))) where
  -- they are the record in the file, if that tells
  pub stands_there : IfSome (told c.file) (λ whole. held ≡ record_at c.index.slots place.at whole)
  stands_there = at_range (λ p n. IfSome (told c.file) (λ whole. held ≡ take n (drop p whole))) begin (record_place c.index.slots place.at) count (length_at c.index.slots place.at) begins counts stands

  harm : (file : FileName) (at : ℕ) (bytes : List ℕ) → file ≡ name_of c.index.head → at ≡ begin → bytes ≡ held → length held ≡ count → AreNoRecord c.index.version c.index.names bytes → IsHarmOf told c file at bytes
  harm file at bytes named here same long broken = record {
    entry = place;
    there = there;
    file_is = named;
    place_is = here ∙ begins;
    long = ap length same ∙ long ∙ counts;
    broken = broken;
    stands = subst (λ bs. IfSome (told c.file) (λ whole. bs ≡ record_at c.index.slots place.at whole)) (sym same) stands_there;
  }

  -- and are no record
  pub within_harm : (fault : QueryFault) → length held ≡ count → (IsRecordWithin c.index.version (length c.index.names) held → ⊥) → OfDamage fault (λ file at bytes. (file ≡ name_of c.index.head) × (at ≡ begin) × (bytes ≡ held))
      → OfDamage fault (λ file at bytes. IsHarmOf told c file at bytes)
  within_harm fault long none is =
      of_damage_then fault _ _ (λ file at bytes found. harm file at bytes found.0 found.1 found.2 long (inl (λ within. none (subst (IsRecordWithin c.index.version (length c.index.names)) found.2 within)))) is

  -- or spell no document
  pub spelled_harm : (fault : QueryFault) → length held ≡ count → OfDamage fault (λ file at bytes. (file ≡ name_of c.index.head) × (at ≡ begin) × (bytes ≡ held) × ((d : Document) → IsRecordUnder c.index.names d bytes → ⊥))
      → OfDamage fault (λ file at bytes. IsHarmOf told c file at bytes)
  spelled_harm fault long is = of_damage_then fault _ _ (λ file at bytes found. harm file at bytes found.0 found.1 found.2 long (inr found.3)) is
