-- Places of the code by their parts: what is compared, what is in the one form, and how many places there are.
use Rattle.std.proofs.Common.{◌≡◌, ℕ, ◌+◌, List, [], Option, Some, None, map, reverse, length, bytes_eq, sym, ap, subst}
use Rattle.std.specs.List.{IsDistinct}
use Rattle.tc_model.specs.Document.{Name}
use Rattle.tc_model.specs.Kinds.{Kind}
use Rattle.tc_schema_model.specs.Occurrences.{each_item, field}
use Rattle.tc_schema_model.specs.Counted.{counter, Counted, counted, held, IsCanonical, IsBelowCanonical, AreFieldsCanonical}
use Rattle.tc_schema_model.specs.SchemaText.{name_at}
use Rattle.tc_schema.specs.Places.{place_counted, below_counted, fields_counted}
use Rattle.tc_schema.specs.declared.place.Node.{Node}
use Rattle.tc_schema.specs.declared.place.Field.{Field}
use Rattle.tc_schema.specs.declared.place.Field.TheViews.{out-Node}
use Rattle.tc_schema.proofs.PlaceViews.{place_parts}
use Rattle.tc_value.specs.Kinds.{kind_meant}
use Rattle.tc_value.specs.declared.names.Kind as code
use Rattle.tc_difference.specs.declared.met.Met.{Met}
use Rattle.tc_difference.specs.declared.met.Candidate.{Candidate}
use Rattle.tc_difference.specs.Differences.{IsFirstBetween}
use Rattle.tc_difference.specs.Comparing.{way_meant, met_meant, stepped, IsFirstKind, ShowTheSame, IsCompared, IsLeastBelow}
use Rattle.tc_difference.proofs.OneFirst.{same_difference}
use Rattle.tc_difference.proofs.PlaceLaws.{at_counters, at_items, at_fields, at_nothing}
use Rattle.tc_difference.proofs.PlaceSizes.{places_below, item_places, field_places}

abbrev parts_of : Node → Counted
parts_of p = counted (out-Node p).counts (below_counted (out-Node p).item) (fields_counted (out-Node p).fields.items)

pub canonical_parts : (limit : ℕ) (p : Node) → IsCanonical limit (place_counted p) → IsBelowCanonical limit (below_counted (out-Node p).item) × AreFieldsCanonical limit 0 (fields_counted (out-Node p).fields.items)
canonical_parts limit p canonical = let parts = subst (IsCanonical limit) (place_parts p) canonical in (parts.2, parts.3)

pub places_of_parts : (p : Node) → places_below (place_counted p) ≡ item_places (below_counted (out-Node p).item) + field_places (fields_counted (out-Node p).fields.items)
places_of_parts p = ap places_below (place_parts p)

-- ---- what comparing tells of two places

module _ (names : List Name) (p q : Node) where
  by_parts : (told : Option Met) → IsCompared names (parts_of p) (parts_of q) told → IsCompared names (place_counted p) (place_counted q) told
  by_parts told it =
      subst (λ d. IsCompared names d (place_counted q) told) (sym (place_parts p)) (subst (λ e. IsCompared names (parts_of p) e told) (sym (place_parts q)) it)

  -- their counters differ
  pub counters_differ : (k : code.Kind) (m : Met) → IsFirstKind (out-Node p).counts (out-Node q).counts (Some k) → m.back.items ≡ [] → m.kind ≡ k
      → m.kept ≡ counter (out-Node p).counts (kind_meant k) → m.counted ≡ counter (out-Node q).counts (kind_meant k) → IsCompared names (place_counted p) (place_counted q) (Some m)
  counters_differ k m first here kind kept other =
      by_parts (Some m) (subst (IsFirstBetween names (parts_of p) (parts_of q)) (sym (same_difference (met_meant names m) _ (ap (λ ws. map (way_meant names) (reverse ws)) here) (ap kind_meant kind) kept other))
      (at_counters names (out-Node p).counts (out-Node q).counts (below_counted (out-Node p).item) (below_counted (out-Node q).item) (fields_counted (out-Node p).fields.items) (fields_counted (out-Node q).fields.items) k first))

  -- these are the same
  module _ (counters : (t : Kind) → counter (out-Node p).counts t ≡ counter (out-Node q).counts t) where
    -- their items differ
    pub items_differ : (m stepped_back : Met) → IsFirstBetween names (held (below_counted (out-Node p).item)) (held (below_counted (out-Node q).item)) (met_meant names m)
        → met_meant names stepped_back ≡ stepped each_item (met_meant names m) → IsCompared names (place_counted p) (place_counted q) (Some stepped_back)
    items_differ m stepped_back it is =
        by_parts (Some stepped_back) (subst (IsFirstBetween names (parts_of p) (parts_of q)) (sym is)
        (at_items names (out-Node p).counts (out-Node q).counts (below_counted (out-Node p).item) (below_counted (out-Node q).item) (fields_counted (out-Node p).fields.items) (fields_counted (out-Node q).fields.items) (met_meant names m) counters it))

    -- these are the same
    module _ (items : ShowTheSame names (held (below_counted (out-Node p).item)) (held (below_counted (out-Node q).item))) (ones others : List Field) (one : ones ≡ (out-Node p).fields.items) (other : others ≡ (out-Node q).fields.items) where
      of_parts : (least : Option Candidate) → IsLeastBelow names (length names) (fields_counted ones) (fields_counted others) least → IsLeastBelow names (length names) (fields_counted (out-Node p).fields.items) (fields_counted (out-Node q).fields.items) least
      of_parts least is =
          subst (λ fs. IsLeastBelow names (length names) (fields_counted fs) (fields_counted (out-Node q).fields.items) least) one
          (subst (λ gs. IsLeastBelow names (length names) (fields_counted ones) (fields_counted gs) least) other is)

      -- their fields differ
      pub fields_differ : (f : Candidate) (stepped_back : Met) → IsDistinct bytes_eq names → IsLeastBelow names (length names) (fields_counted ones) (fields_counted others) (Some f)
          → met_meant names stepped_back ≡ stepped (field (name_at names f.number)) (met_meant names f.met) → IsCompared names (place_counted p) (place_counted q) (Some stepped_back)
      fields_differ f stepped_back distinct least is =
          by_parts (Some stepped_back) (subst (IsFirstBetween names (parts_of p) (parts_of q)) (sym is)
          (at_fields names (out-Node p).counts (out-Node q).counts (below_counted (out-Node p).item) (below_counted (out-Node q).item) (fields_counted (out-Node p).fields.items) (fields_counted (out-Node q).fields.items) f distinct counters items (of_parts (Some f) least)))

      -- nothing differs
      pub nothing_differs : IsLeastBelow names (length names) (fields_counted ones) (fields_counted others) None → IsCompared names (place_counted p) (place_counted q) None
      nothing_differs least =
          by_parts None (at_nothing names (out-Node p).counts (out-Node q).counts (below_counted (out-Node p).item) (below_counted (out-Node q).item) (fields_counted (out-Node p).fields.items) (fields_counted (out-Node q).fields.items) counters items (of_parts None least))
