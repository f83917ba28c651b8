-- What holds of labels that are kept.
use Rattle.std.proofs.Common.{◌≡◌, ◌∙◌, ◌<◌, ℕ, List, [], ◌∷◌, ◌++◌, length, slice_index_or, ap, sym}
use Rattle.std.proofs.lemmas.List.Elements.{All-nil, All-push}
use Rattle.tc_model.specs.Document.{Name}
use Rattle.tc_record_text.specs.Listed.{comma}
use Rattle.tc_record_text.specs.KeptLabels.{label_under, IsKeptUnder, AreLabels}
use Rattle.tc_record_text.specs.declared.memo.Kept.{Kept}

pub no_labels : (names : List Name) → AreLabels names []
unfolding AreLabels
no_labels names = All-nil (IsKeptUnder names)

-- what is kept for a number at a place is its label
pub label_at : (names : List Name) (kept : List Kept) (place k : ℕ) (one : Kept) → place < length kept → one ≡ slice_index_or kept place one → one.number ≡ k → AreLabels names kept
    → one.text.items ≡ comma ∷ label_under names k
unfolding AreLabels
label_at names kept place k one within at number are =
    ap (λ x. x.text.items) at ∙ are place one within ∙ ap (λ n. comma ∷ label_under names n) (ap (λ x. x.number) (sym at) ∙ number)

-- another label behind those that are kept
pub with_label : (names : List Name) (kept : List Kept) (one : Kept) → IsKeptUnder names one → AreLabels names kept → AreLabels names (kept ++ one ∷ [])
unfolding AreLabels
with_label names kept one is are = All-push (IsKeptUnder names) kept one are is
