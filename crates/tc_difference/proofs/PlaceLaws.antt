-- The first difference between two places, from their counters, their items and their fields.
use Rattle.std.proofs.Common.{◌≡◌, ℕ, ◌<◌, List, [], ◌∷◌, Option, Some, None, length, bytes_eq, unwrap_or, refl, sym, ap, ◌∙◌}
use Rattle.std.specs.declared.cmp.Ordering.{Ordering}
use Rattle.std.specs.declared.cmp.Ordering.TheVariants.{Less, Equal, Greater}
use Rattle.std.specs.Ordering.{nat_cmp, ordering_then, is_lt}
use Rattle.std.specs.List.{IsDistinct}
use Rattle.std.proofs.lemmas.Cmp.{ranked}
use Rattle.std.proofs.lemmas.Map.Lookups.{exact_bytes}
use Rattle.tc_model.specs.Document.{Name, name_cmp}
use Rattle.tc_model.specs.Dictionary.{number_of}
use Rattle.tc_model.specs.Kinds.{Kind, tag}
use Rattle.tc_schema_model.specs.Occurrences.{field, each_item, Path}
use Rattle.tc_schema_model.specs.Counted.{Counters, counter, counted, Below, Fields, held, field_at, numbered_field, shows}
use Rattle.tc_schema_model.specs.SchemaText.{name_at}
use Rattle.tc_schema_model.proofs.NumberLaws.{name_stands, number_of_name_at}
use Rattle.tc_value.specs.Kinds.{kind_meant}
use Rattle.tc_value.specs.declared.names.Kind as code
use Rattle.tc_difference.specs.declared.met.Candidate.{Candidate}
use Rattle.tc_difference.specs.Differences.{Difference, IsFirstBetween, path_cmp, place_cmp}
use Rattle.tc_difference.specs.Comparing.{met_meant, stepped, IsFirstKind, ShowTheSame, IsLeastBelow}

module _ (names : List Name) (c c' : Counters) (b b' : Below) (fs gs : Fields) where
  -- their counters differ
  pub at_counters : (k : code.Kind) → IsFirstKind c c' (Some k)
      → IsFirstBetween names (counted c b fs) (counted c' b' gs) (record { path = []; kind = kind_meant k; kept = counter c (kind_meant k); counted = counter c' (kind_meant k) })
  at_counters k first = record { kept_is = refl; counted_is = refl; differ = first.0; first = before }
    where
      before : (q : Path) (u : Kind) → place_cmp q u [] (kind_meant k) ≡ Less → shows names (counted c b fs) q u ≡ shows names (counted c' b' gs) q u
      before [] u less = first.1 u (ranked (tag u) (tag (kind_meant k)) Less (sym less))
      before (s ∷ q) u less = cc less

  -- their items do
  pub at_items : (x : Difference) → ((t : Kind) → counter c t ≡ counter c' t) → IsFirstBetween names (held b) (held b') x → IsFirstBetween names (counted c b fs) (counted c' b' gs) (stepped each_item x)
  at_items x counters it = record { kept_is = it.kept_is; counted_is = it.counted_is; differ = it.differ; first = before }
    where
      before : (q : Path) (u : Kind) → place_cmp q u (each_item ∷ x.path) x.kind ≡ Less → shows names (counted c b fs) q u ≡ shows names (counted c' b' gs) q u
      before [] u less = counters u
      before (each_item ∷ q) u less = it.first q u less
      before (field n ∷ q) u less = cc less

  -- the members of a name show the same where those of each number that it may have do
  by_number : (name : Name) (path : Path) (t : Kind) → ((n : ℕ) → n < length names → name_at names n ≡ name → shows names (field_at n fs) path t ≡ shows names (field_at n gs) path t)
      → shows names (counted c b fs) (field name ∷ path) t ≡ shows names (counted c' b' gs) (field name ∷ path) t
  by_number name path t same = by (number_of names name) (λ n known. let there = name_stands names name n known in same n there.0 (ap (λ o. unwrap_or o []) there.1))
    where
      by : (o : Option ℕ) → ((n : ℕ) → o ≡ Some n → shows names (field_at n fs) path t ≡ shows names (field_at n gs) path t) → shows names (numbered_field o fs) path t ≡ shows names (numbered_field o gs) path t
      by None same = refl
      by (Some n) same = same n refl

  -- their fields do
  pub at_fields : (f : Candidate) → IsDistinct bytes_eq names → ((t : Kind) → counter c t ≡ counter c' t) → ShowTheSame names (held b) (held b') → IsLeastBelow names (length names) fs gs (Some f)
      → IsFirstBetween names (counted c b fs) (counted c' b' gs) (stepped (field (name_at names f.number)) (met_meant names f.met))
  at_fields f distinct counters items least = record { kept_is = it.kept_is ∙ there fs; counted_is = it.counted_is ∙ there gs; differ = it.differ; first = before }
    where
      it : IsFirstBetween names (field_at f.number fs) (field_at f.number gs) (met_meant names f.met)
      it = least.1

      name : Name
      name = name_at names f.number

      there : (hs : Fields) → shows names (field_at f.number hs) (met_meant names f.met).path (kind_meant f.met.kind) ≡ shows names (numbered_field (number_of names name) hs) (met_meant names f.met).path (kind_meant f.met.kind)
      there hs = ap (λ o. shows names (numbered_field o hs) (met_meant names f.met).path (kind_meant f.met.kind)) (sym (number_of_name_at names f.number distinct least.0))

      before : (q : Path) (u : Kind) → place_cmp q u (field name ∷ (met_meant names f.met).path) (kind_meant f.met.kind) ≡ Less → shows names (counted c b fs) q u ≡ shows names (counted c' b' gs) q u
      before [] u less = counters u
      before (each_item ∷ q) u less = items q u
      before (field other ∷ q) u less = ordered (name_cmp other name) refl less
        where
          ordered : (o : Ordering) → name_cmp other name ≡ o → ordering_then (ordering_then o (path_cmp q (met_meant names f.met).path)) (nat_cmp (tag u) (tag (kind_meant f.met.kind))) ≡ Less
              → shows names (counted c b fs) (field other ∷ q) u ≡ shows names (counted c' b' gs) (field other ∷ q) u
          ordered Less is less = by_number other q u (λ n below named. least.2 n below (ap is_lt (ap (λ m. name_cmp m name) named ∙ is)) q u)
          ordered Equal is less =
              let number = ap (number_of names) (exact_bytes other name is) ∙ number_of_name_at names f.number distinct least.0 in
              ap (λ o. shows names (numbered_field o fs) q u) number ∙ it.first q u less ∙ sym (ap (λ o. shows names (numbered_field o gs) q u) number)
          ordered Greater is less = cc less

  -- nothing does
  pub at_nothing : ((t : Kind) → counter c t ≡ counter c' t) → ShowTheSame names (held b) (held b') → IsLeastBelow names (length names) fs gs None → ShowTheSame names (counted c b fs) (counted c' b' gs)
  at_nothing counters items least [] t = counters t
  at_nothing counters items least (each_item ∷ path) t = items path t
  at_nothing counters items least (field name ∷ path) t = by_number name path t (λ n below named. least n below path t)
