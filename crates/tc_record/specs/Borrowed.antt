-- A record of any form, borrowed, and the tokens that it spells.
use Rattle.std.specs.Prelude.{◌≡◌, ◌<◌, ◌⊎◌, ℕ, Bool, true, false, List}
use Rattle.tc_model.specs.Tree.{relabel}
use Rattle.tc_model.specs.Document.{Document, Scalar}
use Rattle.tc_record.specs.Preorder.{Token, tokens_of}
use Rattle.tc_record.specs.Record.{NumberedTree, named_form, IsNumberedForm, IsRecordOf, IsNumberedRecordIn}
use Rattle.tc_record.specs.Walk.{Key, name, number}

pub record Record : Type 0 where
  pub bytes : List ℕ
  pub form : ℕ
  pub named : Bool
  pub tokens : List (Token Key Scalar)

-- the tokens of a document, with its names
abbrev pub named_tokens : Document → List (Token Key Scalar)
named_tokens d = tokens_of (relabel name (λ s. s) d)

-- the tokens of a numbered tree, with its numbers
abbrev pub numbered_tokens : NumberedTree → List (Token Key Scalar)
numbered_tokens n = tokens_of (relabel number (λ s. s) n)

-- bytes that are a record of one of the forms
abbrev pub IsRecord : List ℕ → Type 0
IsRecord bytes = ((d : Document) × IsRecordOf d bytes) ⊎ ((n : NumberedTree) × ((form : ℕ) × (IsNumberedForm form × IsNumberedRecordIn form n bytes)))

-- a record spells a document by its names
abbrev pub SpellsNames : Record → Document → Type 0
SpellsNames r d = (r.named ≡ true) × IsRecordOf d r.bytes × (r.tokens ≡ named_tokens d) × (r.form ≡ named_form)

-- and a numbered tree by the numbers of its names
abbrev pub SpellsNumbers : Record → NumberedTree → Type 0
SpellsNumbers r n = (r.named ≡ false) × IsNumberedRecordIn r.form n r.bytes × (r.tokens ≡ numbered_tokens n) × IsNumberedForm r.form

abbrev pub Spells : Record → Type 0
Spells r = ((d : Document) × SpellsNames r d) ⊎ ((n : NumberedTree) × SpellsNumbers r n)

-- the number that a member carries, if it carries one, is below a limit
abbrev pub IsBelow : ℕ → Key → Type 0
IsBelow limit (name n) = Unit {0}
IsBelow limit (number k) = k < limit
