-- What a lookup answers.
use Rattle.std.specs.Prelude.{◌≡◌, ℕ, List, Option, IfSome}
use Rattle.tc_model.specs.Document.{Document}
use Rattle.tc_request_model.specs.Rendered.{document_text}
use Rattle.tc_component.specs.Loading.{ComponentState}
use Rattle.tc_query.specs.Shown.{IsListedAs}

-- a text, if there is one, is that of a document under this key
abbrev pub IsDocumentText : ℕ → Option (List ℕ) → Type 0
IsDocumentText key text = IfSome text (λ t. (d : Document) × (t ≡ document_text key d))

-- a text, if there is one, is that of a document whose record was read, at the newest entry that components have of the key
abbrev pub IsListedText : {F : Type 0} → (F → Option (List ℕ)) → List (ComponentState F) → ℕ → Option (List ℕ) → Type 0
IsListedText told components key text = IfSome text (λ t. (d : Document) × (t ≡ document_text key d) × IsListedAs told components key d)
