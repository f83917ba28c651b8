-- When what is counted stands for a list of documents.
use Rattle.std.specs.Prelude.{◌≡◌, List, length, bytes_eq}
use Rattle.std.specs.List.{IsDistinct}
use Rattle.tc_model.specs.Document.{Name, Document}
use Rattle.tc_schema_model.specs.Occurrences.{Path, count}
use Rattle.tc_model.specs.Kinds.{Kind}
use Rattle.tc_schema_model.specs.Counted.{Counted, shows, IsCanonical}

-- It is in the one form, and its counters are the numbers of the documents' values, at every path and for every kind.
pub record StandsFor (names : List Name) (d : Counted) (docs : List Document) : Type 0 where
  pub canonical : IsCanonical (length names) d
  pub distinct : IsDistinct bytes_eq names
  pub counts : (path : Path) (t : Kind) → shows names d path t ≡ count docs path t
