-- A schema with one shape more, under the dictionary that has learned the shape's names.
use Rattle.std.proofs.Common.{◌≡◌, ◌+◌, ◌<◌, ◌^◌, List, ◌∷◌, length, ap, ◌∙◌, arith}
use Rattle.tc_model.specs.Document.{Name, Document, ShapeTree, document_shape}
use Rattle.tc_schema_model.specs.Occurrences.{Path, occurrences}
use Rattle.tc_model.specs.Kinds.{Kind}
use Rattle.tc_schema_model.specs.Counted.{Counted, shows, total_at, IsCanonical}
use Rattle.tc_schema_model.specs.Added.{added, IsNamed}
use Rattle.tc_schema_model.specs.Stands.{StandsFor}
use Rattle.tc_schema_model.proofs.AddedLaws.{shows-added, canonical-added}
use Rattle.tc_model.specs.Dictionary.{Extends, all_learned}
use Rattle.tc_model.specs.ShapeNames.{names_within}
use Rattle.tc_schema_model.specs.Room.{DoesFit}
use Rattle.tc_schema_model.specs.Values.{values_at}
use Rattle.tc_model.proofs.LearnedNames.{Extends-all_learned, distinct-all_learned}
use Rattle.tc_schema_model.proofs.NamedShapes.{named-all_learned}
use Rattle.tc_schema_model.proofs.MoreNames.{canonical_newer, same_shown, added_fits}

-- under a dictionary that has the names
pub stands-added : (names : List Name) (s : ShapeTree) (d : Counted) → IsNamed names s → (docs : List Document) (doc : Document) → document_shape doc ≡ s → StandsFor names d docs → StandsFor names (added names s d) (doc ∷ docs)
stands-added names s d named docs doc is stands = record {
  canonical = canonical-added names s d named stands.canonical;
  distinct = stands.distinct;
  counts = λ path t. omega (arith, shows-added names s d named path t, stands.counts path t, ap (λ shape. occurrences shape path t) is);
}

module _ (known : List Name) (s : ShapeTree) where
  abbrev grown : List Name
  grown = all_learned known (names_within s)

  abbrev extends : Extends (all_learned known (names_within s)) known
  extends = Extends-all_learned known (names_within s)

  pub grown_canonical : (d : Counted) → IsCanonical (length known) d → IsCanonical (length grown) d
  grown_canonical d canonical = canonical_newer grown known d extends canonical

  pub grown_fits : (d : Counted) → IsCanonical (length known) d → ((path : Path) → total_at known d path + values_at s path < 2 ^ 64) → DoesFit grown (added grown s d)
  grown_fits d canonical fits = added_fits grown known s d extends canonical (named-all_learned known s) fits

  pub added_canonical : (d : Counted) → IsCanonical (length known) d → IsCanonical (length grown) (added grown s d)
  added_canonical d canonical = canonical-added grown s d (named-all_learned known s) (grown_canonical d canonical)

  pub added_shows : (d : Counted) → IsCanonical (length known) d → (path : Path) (t : Kind) → shows grown (added grown s d) path t ≡ shows known d path t + occurrences s path t
  added_shows d canonical path t = shows-added grown s d (named-all_learned known s) path t ∙ ap (λ n. n + occurrences s path t) (same_shown grown known d path t extends canonical)

  pub added_stands : (d : Counted) (docs : List Document) (doc : Document) → document_shape doc ≡ s → StandsFor known d docs → StandsFor grown (added grown s d) (doc ∷ docs)
  added_stands d docs doc is stands =
      let before : StandsFor grown d docs = record {
        canonical = grown_canonical d stands.canonical;
        distinct = distinct-all_learned known (names_within s) stands.distinct;
        counts = λ path t. same_shown grown known d path t extends stands.canonical ∙ stands.counts path t;
      } in
      stands-added grown s d (named-all_learned known s) docs doc is before
