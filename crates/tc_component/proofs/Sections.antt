-- What a section is judged to be, by what its reader answers.
use Rattle.std.proofs.Common.{◌≡◌, ◌≢◌, ◌∙◌, ◌<◌, ◌^◌, ℕ, List, Option, None, Some, Err, refl, ap}
use Rattle.tc_bytes.specs.Codec.{IsBytes}
use Rattle.tc_bytes.proofs.Whole.{whole_found, whole_again}
use Rattle.tc_model.specs.Document.{Name}
use Rattle.tc_model.specs.Dictionary.{IsDictionary}
use Rattle.tc_names.specs.Section.{section, read_section}
use Rattle.tc_names.proofs.Spelling.{dictionary_codec}
use Rattle.tc_schema_model.specs.Counted.{Counted}
use Rattle.tc_schema_model.specs.SchemaTree.{schema_tree}
use Rattle.tc_schema_model.specs.SchemaBytes.{schema_bytes, IsSchema}
use Rattle.tc_schema.specs.Reading.{read_schema}
use Rattle.tc_schema.proofs.SchemaCodec.{schema_found, schema_only, schema_refused}
use Rattle.tc_store.specs.declared.damage.ReadFault.{ReadFault}
use Rattle.tc_store.specs.declared.damage.ReadFault.TheVariants.{Disk, Damaged, Memory}
use Rattle.tc_store.specs.Judging.{damage, or_damage, Judges, IsDamageOr}

-- bytes that give nothing are damage
pub refused_judges : {X Y : Type 0} (view : X → Y) (o : Option Y) (fault : ReadFault) (place : ℕ) (bytes : List ℕ) → o ≡ None → IsDamageOr place bytes fault → Judges view (Err fault) (or_damage o (damage place bytes))
refused_judges view o (Damaged at kept) place bytes none is = rw (none, is.0, is.1) refl
refused_judges view o Disk place bytes none is = absurd is
refused_judges view o Memory place bytes none is = tt

pub names_read : (bytes : List ℕ) (names : List Name) → bytes ≡ section names → IsDictionary names → read_section bytes ≡ Some names
names_read bytes names spelled is = ap read_section spelled ∙ whole_again dictionary_codec names is

pub names_refused : (bytes : List ℕ) → IsBytes bytes → ((names : List Name) → IsDictionary names → bytes ≢ section names) → read_section bytes ≡ None
names_refused bytes each refused = known (read_section bytes) refl
  where
    known : (o : Option (List Name)) → read_section bytes ≡ o → o ≡ None
    known None reads = refl
    known (Some names) reads = let here = whole_found dictionary_codec bytes names each reads in absurd (refused names here.1 here.0)

pub schema_read : (limit : ℕ) (bytes : List ℕ) (d : Counted) → limit < 2 ^ 32 → bytes ≡ schema_bytes (schema_tree d) → IsSchema limit d → read_schema limit bytes ≡ Some d
schema_read limit bytes d few spelled is = known (read_schema limit bytes) refl
  where
    known : (o : Option Counted) → read_schema limit bytes ≡ o → o ≡ Some d
    known None reads = absurd (schema_refused limit bytes few reads d is spelled)
    known (Some other) reads = ap Some (schema_only limit bytes other few reads d is spelled)

pub schema_no : (limit : ℕ) (bytes : List ℕ) → limit < 2 ^ 32 → IsBytes bytes → ((d : Counted) → IsSchema limit d → bytes ≢ schema_bytes (schema_tree d)) → read_schema limit bytes ≡ None
schema_no limit bytes few each refused = known (read_schema limit bytes) refl
  where
    known : (o : Option Counted) → read_schema limit bytes ≡ o → o ≡ None
    known None reads = refl
    known (Some d) reads = let here = schema_found limit bytes d few each reads in absurd (refused d here.1 here.0)
