-- What a partition stores, and the names that it has taken.
use Rattle.std.specs.Prelude.{ℕ, List, [], Option}
use Rattle.tc_model.specs.Document.{Name, Document, document_shape}
use Rattle.tc_model.specs.Keyed.{value_of, with_value, without_key, values_in}
use Rattle.tc_model.specs.ShapeNames.{names_within, names_of_documents}
use Rattle.tc_model.specs.Dictionary.{all_learned}
use Rattle.tc_plain_model.specs.Writes.{Pairs, Write, after_writes}

-- What is stored, and the distinct names of all documents that were ever accepted, in the order in which they came.
-- Neither a delete nor a replacement gives a name back.
pub record Store : Type 0 where
  pub pairs : Pairs
  pub taken : List Name

abbrev pub empty : Store
empty = record { pairs = []; taken = [] }

-- the document of a key
abbrev pub stored : ℕ → Store → Option Document
stored n s = value_of n s.pairs

-- the documents, in ascending key
abbrev pub documents : Store → List Document
documents s = values_in s.pairs

-- taken names, and those of a document behind them
abbrev pub names_with : Document → List Name → List Name
names_with d names = all_learned names (names_within (document_shape d))

-- taken names, and behind them those of the documents that these writes leave of nothing, in ascending key
abbrev pub names_after : List Name → List Write → List Name
names_after names ws = all_learned names (names_of_documents (values_in (after_writes [] ws)))

-- the store with this document at a key
abbrev pub with_pair : ℕ → Document → Store → Store
with_pair n d s = record { pairs = with_value n d s.pairs; taken = names_with d s.taken }

-- the store without a key
abbrev pub without_pair : ℕ → Store → Store
without_pair n s = record { pairs = without_key n s.pairs; taken = s.taken }

-- What an opening finds: the documents that live in the components with the newest dictionary, under the writes in the
-- logs behind them. Of the names in the logs, those are taken again that stand in the last document set at a key.
abbrev pub reopened : Pairs → List Name → List Write → Store
reopened live dictionary logged = record {
  pairs = after_writes live logged;
  taken = names_after dictionary logged;
}
