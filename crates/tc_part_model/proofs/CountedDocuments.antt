-- What the root of a schema counts: the documents that it stands for.
use Rattle.std.proofs.Common.{◌≡◌, List, [], length, ◌∙◌}
use Rattle.tc_model.specs.Document.{Document, Name}
use Rattle.tc_schema_model.specs.Counted.{Counted, documents_of}
use Rattle.tc_schema_model.specs.Stands.{StandsFor}
use Rattle.tc_schema_model.proofs.ValueBounds.{total-stands}
use Rattle.tc_flush.proofs.ValuesAtRoot.{values_in-root}

pub counts_documents : (names : List Name) (d : Counted) (docs : List Document) → StandsFor names d docs → documents_of d ≡ length docs
counts_documents names d docs stands = total-stands names d docs stands [] ∙ values_in-root docs
