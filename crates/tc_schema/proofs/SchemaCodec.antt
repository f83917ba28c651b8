-- A schema is read from its bytes alone.
use Rattle.std.proofs.Common.{◌≡◌, ◌≢◌, ◌⊎◌, inl, inr, ℕ, zero, suc, ◌+◌, ◌<◌, ◌≤◌, ◌^◌, ◌==◌, Bool, true, false, List, ◌∷◌, ◌++◌, drop, Some, None, if◌then◌else◌, refl, sym, ap, ◌∙◌, subst, arith}
use Rattle.std.proofs.lemmas.Bool.{false≢true}
use Rattle.std.proofs.lemmas.Bool.Decides.{Decides-eqb}
use Rattle.std.proofs.lemmas.Option.{same_Some}
use Rattle.tc_bytes.specs.Reading.{◌>>=◌, whole}
use Rattle.tc_bytes.specs.Codec.{IsBytes, IsCodec}
use Rattle.tc_bytes.proofs.Codecs.{then_parts}
use Rattle.tc_bytes.proofs.Whole.{whole_found, whole_again, whole_refused}
use Rattle.tc_schema_model.specs.Counted.{Counted, counted, Below, no_item, an_item, Fields, no_fields, a_field, nothing, documents_of, counters_of, IsCanonical, IsBelowCanonical, AreFieldsCanonical, HasSmallCounters, BelowHasSmallCounters, FieldsHaveSmallCounters, CountsObjects}
use Rattle.tc_schema_model.specs.Levels.{levels_of, levels_of_item, levels_of_fields, max_levels}
use Rattle.tc_schema_model.specs.SchemaTree.{node_of, schema_tree}
use Rattle.tc_schema_model.specs.SchemaBytes.{node_bytes, schema_bytes, IsSchema}
use Rattle.tc_schema_model.proofs.RemovedLaws.{nothing_counted}
use Rattle.tc_schema.specs.Reading.{starts, place_at, root_at, read_schema, BelowFits, FieldsFit, PlaceFits}
use Rattle.tc_schema.proofs.ReadingLaws.{started}
use Rattle.tc_schema.proofs.PlaceCodec.{place_codec, no_place_is_empty}

-- ---- a place of the one form is one that is read

mutual
  fits_within : (limit levels : ℕ) (d : Counted) → IsCanonical limit d → 0 < documents_of d → HasSmallCounters d → levels_of d ≤ levels → PlaceFits limit levels d
  fits_within limit zero (counted c b fs) canonical some small enough = absurd (omega arith)
  fits_within limit (suc levels) (counted c b fs) canonical some small enough =
      record {
        some = some;
        small = small.0;
        no_items = canonical.0;
        no_members = canonical.1;
        below = below_within limit levels b canonical.2 small.1 (omega arith);
        fields = fields_within limit levels 0 fs canonical.3 small.2 (omega arith);
      }

  below_within : (limit levels : ℕ) (b : Below) → IsBelowCanonical limit b → BelowHasSmallCounters b → levels_of_item b ≤ levels → BelowFits (PlaceFits limit levels) b
  below_within limit levels no_item canonical small enough = tt
  below_within limit levels (an_item d) canonical small enough = fits_within limit levels d canonical.1 canonical.0 small enough

  fields_within : (limit levels low : ℕ) (fs : Fields) → AreFieldsCanonical limit low fs → FieldsHaveSmallCounters fs → levels_of_fields fs ≤ levels → FieldsFit (PlaceFits limit levels) limit low fs
  fields_within limit levels low no_fields canonical small enough = tt
  fields_within limit levels low (a_field n d fs) canonical small enough =
      (canonical.0, canonical.1, fits_within limit levels d canonical.3 canonical.2 small.0 (omega arith), fields_within limit levels (n + 1) fs canonical.4 small.1 (omega arith))

abbrev IsRead : ℕ → ℕ → Counted → Type 0
IsRead limit levels d = (0 < documents_of d) × IsCanonical limit d × HasSmallCounters d × (levels_of d ≤ levels)

below_read : (limit levels : ℕ) (b : Below) → ((d : Counted) → PlaceFits limit levels d → IsRead limit levels d) → BelowFits (PlaceFits limit levels) b
    → IsBelowCanonical limit b × BelowHasSmallCounters b × (levels_of_item b ≤ levels)
below_read limit levels no_item each fits = (tt, tt, omega arith)
below_read limit levels (an_item d) each fits = let here = each d fits in ((here.0, here.1), here.2, here.3)

fields_read : (limit levels low : ℕ) (fs : Fields) → ((d : Counted) → PlaceFits limit levels d → IsRead limit levels d) → FieldsFit (PlaceFits limit levels) limit low fs
    → AreFieldsCanonical limit low fs × FieldsHaveSmallCounters fs × (levels_of_fields fs ≤ levels)
fields_read limit levels low no_fields each fits = (tt, tt, omega arith)
fields_read limit levels low (a_field n d fs) each fits =
    let here = each d fits.2 in
    let later = fields_read limit levels (n + 1) fs each fits.3 in
    ((fits.0, fits.1, here.0, here.1, later.0), (here.2, later.1), omega (arith, here.3, later.2))

read_from : (limit levels : ℕ) (d : Counted) → PlaceFits limit levels d → IsRead limit levels d
read_from limit zero d fits = absurd fits
read_from limit (suc levels) (counted c b fs) fits =
    let below = below_read limit levels b (read_from limit levels) fits.below in
    let fields = fields_read limit levels 0 fs (read_from limit levels) fits.fields in
    (fits.some, (fits.no_items, fits.no_members, below.0, fields.0), (fits.small, below.1, fields.1), omega (arith, below.2, fields.2))

-- ---- the whole schema

abbrev RootFits : ℕ → ℕ → Counted → Type 0
RootFits limit levels d = (d ≡ nothing) ⊎ (PlaceFits limit levels d × CountsObjects d)

spells_place : (d : Counted) → 0 < documents_of d → schema_bytes (schema_tree d) ≡ node_bytes (node_of d)
spells_place d some = by_test (documents_of d == 0) (Decides-eqb (documents_of d) 0).0
  where
    by_test : (none : Bool) → (none ≡ true → documents_of d ≡ 0) → schema_bytes (if none then None else Some (node_of d)) ≡ node_bytes (node_of d)
    by_test true is = absurd (omega (arith, is refl, some))
    by_test false is = refl

root_codec : (limit levels : ℕ) → limit < 2 ^ 32 → IsCodec (root_at limit levels) (λ d. schema_bytes (schema_tree d)) (RootFits limit levels)
root_codec limit levels few = record { found = λ bytes d rest each gives. root_found bytes (d, rest) each gives; again = root_again }
  where
    Found : List ℕ → Counted × List ℕ → Type 0
    Found bytes q = (bytes ≡ schema_bytes (schema_tree q.0) ++ q.1) × IsBytes q.1 × RootFits limit levels q.0

    root_found : (bytes : List ℕ) (q : Counted × List ℕ) → IsBytes bytes → root_at limit levels bytes ≡ Some q → Found bytes q
    root_found bytes q each gives = by_test (starts 0 1 bytes) (started 0 1 bytes) gives
      where
        by_objects : (p : Counted × List ℕ) (same : Bool) → (same ≡ true → documents_of p.0 ≡ (counters_of p.0).objects) → (if same then Some p else None) ≡ Some q → (p ≡ q) × CountsObjects p.0
        by_objects p true is gives = (same_Some _ _ gives, is refl)
        by_objects p false is gives = cc

        by_test : (test : Bool) → (test ≡ true → (bytes ≡ 0 ∷ drop 1 bytes) × (0 < 1))
            → (if test then Some (nothing, drop 1 bytes) else (place_at limit levels bytes >>= λ d. if documents_of d.0 == (counters_of d.0).objects then Some d else None)) ≡ Some q → Found bytes q
        by_test true is gives = let front = (is refl).0 in subst (Found bytes) (same_Some _ _ gives) (front, (λ i. subst IsBytes front each (suc i)), inl refl)
        by_test false is gives =
            let parts = then_parts (place_at limit levels bytes) _ q gives in
            let here = (place_codec limit levels few).found bytes parts.0.0 parts.0.1 each parts.1 in
            let objects = by_objects parts.0 (documents_of parts.0.0 == (counters_of parts.0.0).objects) (Decides-eqb (documents_of parts.0.0) (counters_of parts.0.0).objects).0 parts.2 in
            let some = (read_from limit levels parts.0.0 here.2).0 in
            subst (Found bytes) objects.0 (here.0 ∙ ap (λ x. x ++ parts.0.1) (sym (spells_place parts.0.0 some)), here.1, inr (here.2, objects.1))

    root_again : (d : Counted) (rest : List ℕ) → RootFits limit levels d → root_at limit levels (schema_bytes (schema_tree d) ++ rest) ≡ Some (d, rest)
    root_again d rest (inl same) = subst (λ e. root_at limit levels (schema_bytes (schema_tree e) ++ rest) ≡ Some (e, rest)) (sym same) refl
    root_again d rest (inr fits) =
        let some = (read_from limit levels d fits.0).0 in
        let equal : (documents_of d == (counters_of d).objects) ≡ true = (Decides-eqb (documents_of d) (counters_of d).objects).1 fits.1 in
        subst (λ bytes. root_at limit levels (bytes ++ rest) ≡ Some (d, rest)) (sym (spells_place d some))
        (step (node_bytes (node_of d) ++ rest) (no_place_is_empty limit levels d rest few fits.0) ((place_codec limit levels few).again d rest fits.0) equal)
      where
        step : (bytes : List ℕ) → starts 0 1 bytes ≡ false → place_at limit levels bytes ≡ Some (d, rest) → (documents_of d == (counters_of d).objects) ≡ true → root_at limit levels bytes ≡ Some (d, rest)
        step bytes a b c = rw (a, b, c) refl

-- what all of the bytes spell is a schema, and every schema is spelled so
pub schema_found : (limit : ℕ) (bytes : List ℕ) (d : Counted) → limit < 2 ^ 32 → IsBytes bytes → read_schema limit bytes ≡ Some d → (bytes ≡ schema_bytes (schema_tree d)) × IsSchema limit d
unfolding read_schema
schema_found limit bytes d few each gives = let here = whole_found (root_codec limit max_levels few) bytes d each gives in (here.0, schema_from here.1)
  where
    schema_from : RootFits limit max_levels d → IsSchema limit d
    schema_from (inl same) = subst (IsSchema limit) (sym same) record { canonical = (λ _. refl, λ _. refl, tt, tt); of_objects = refl; small = (omega arith, tt, tt); shallow = omega arith }
    schema_from (inr fits) = let here = read_from limit max_levels d fits.0 in record { canonical = here.1; of_objects = fits.1; small = here.2; shallow = here.3 }

-- a schema is read within the levels that it may have
root_fits : (limit : ℕ) (d : Counted) → IsSchema limit d → RootFits limit max_levels d
root_fits limit d schema = by_test (documents_of d == 0) (Decides-eqb (documents_of d) 0)
  where
    by_test : (empty : Bool) → (empty ≡ true → documents_of d ≡ 0) × (documents_of d ≡ 0 → empty ≡ true) → RootFits limit max_levels d
    by_test true is = inl (nothing_counted limit d schema.canonical (is.0 refl))
    by_test false is =
        let some : documents_of d ≢ 0 = λ zero. false≢true (is.1 zero) in
        inr (fits_within limit max_levels d schema.canonical (omega arith) schema.small schema.shallow, schema.of_objects)

-- no other schema is spelled so
pub schema_only : (limit : ℕ) (bytes : List ℕ) (d : Counted) → limit < 2 ^ 32 → read_schema limit bytes ≡ Some d → (other : Counted) → IsSchema limit other → bytes ≡ schema_bytes (schema_tree other) → d ≡ other
unfolding read_schema
schema_only limit bytes d few gives other schema same =
    same_Some d other (sym gives ∙ ap (whole (root_at limit max_levels)) same ∙ whole_again (root_codec limit max_levels few) other (root_fits limit other schema))

pub schema_refused : (limit : ℕ) (bytes : List ℕ) → limit < 2 ^ 32 → read_schema limit bytes ≡ None → (d : Counted) → IsSchema limit d → bytes ≢ schema_bytes (schema_tree d)
unfolding read_schema
schema_refused limit bytes few none d schema same = whole_refused (root_codec limit max_levels few) bytes none d (root_fits limit d schema) same
