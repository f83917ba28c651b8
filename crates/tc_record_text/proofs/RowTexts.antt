-- The text of a row, by the texts of its values.
use Rattle.std.proofs.Common.{◌≡◌, ◌∙◌, ℕ, List, [], ◌∷◌, ◌++◌, Bool, true, false, None, codes, refl, sym, ap, append_assoc, append-nil}
use Rattle.serde_json.proofs.OnLiterals.{serde_json_on_literals}
use Rattle.serde_json.specs.Written.{compact_text, items_text, comma_if}
use Rattle.tc_model.specs.Document.{Document}
use Rattle.tc_model.specs.Json.{data_of}
use Rattle.tc_request_model.specs.Reply.{row_data, values_data, count}
use Rattle.tc_request_model.specs.Rows.{row_of}
use Rattle.tc_record_text.specs.Listed.{comma, listed, row_texts, row_front, row_end}

-- values one after the other, with a comma between two
abbrev joined : Document → List Document → List ℕ
joined v [] = compact_text (data_of v)
joined v (w ∷ ws) = compact_text (data_of v) ++ comma ∷ joined w ws

-- with a comma after the last one, too
listed_is : (v : Document) (vs : List Document) → listed (v ∷ vs) ≡ joined v vs ++ comma ∷ []
listed_is v [] = append-nil (compact_text (data_of v) ++ comma ∷ [])
listed_is v (w ∷ ws) =
    let t = compact_text (data_of v) in
    append_assoc t (comma ∷ []) (listed (w ∷ ws)) ∙ ap (λ s. t ++ comma ∷ s) (listed_is w ws) ∙ sym (append_assoc t (comma ∷ joined w ws) (comma ∷ []))

items_are : (later : Bool) (v : Document) (vs : List Document) → items_text later (values_data (v ∷ vs)) ≡ comma_if later ++ (joined v vs ++ 93 ∷ [])
items_are later v [] = refl
items_are later v (w ∷ ws) =
    let t = compact_text (data_of v) in
    ap (λ s. comma_if later ++ (t ++ s)) (items_are true w ws) ∙ ap (λ s. comma_if later ++ s) (sym (append_assoc t (comma ∷ joined w ws) (93 ∷ [])))

row_is : (key : ℕ) (v : Document) (vs : List Document) → compact_text (row_data (record { key = key; values = v ∷ vs })) ≡ row_front key ++ (joined v vs ++ row_end)
unfolding serde_json_on_literals
row_is key v vs =
    let id = compact_text (count key) in
    let middle = codes ",\"values\":[" in
    ap (λ s. codes "{\"id\":" ++ (id ++ (middle ++ s))) (ap (λ s. s ++ 125 ∷ []) (items_are false v vs) ∙ append_assoc (joined v vs) (93 ∷ []) (125 ∷ []))
    ∙ ap (λ s. codes "{\"id\":" ++ s) (sym (append_assoc id middle (joined v vs ++ row_end)))

-- where values were put, there is a last comma, and the row is what stands before it and the end
pub row_text : (old now : List ℕ) (key : ℕ) (ds : List Document) → now ≡ (old ++ row_front key) ++ listed ds → (now ≡ old ++ row_front key → ⊥)
    → (before : List ℕ) × (now ≡ before ++ comma ∷ []) × (before ++ row_end ≡ old ++ row_texts (row_of None key ds))
row_text old now key [] is some = absurd (some (is ∙ append-nil (old ++ row_front key)))
row_text old now key (v ∷ vs) is some =
    let front = old ++ row_front key in
    let j = joined v vs in (
      front ++ j,
      is ∙ ap (λ s. front ++ s) (listed_is v vs) ∙ sym (append_assoc front j (comma ∷ [])),
      append_assoc front j row_end ∙ append_assoc old (row_front key) (j ++ row_end) ∙ ap (λ s. old ++ s) (sym (row_is key v vs) ∙ sym (append-nil (compact_text (row_data (record { key = key; values = v ∷ vs }))))),
    )

-- the pieces before the values
pub front_is : (o id : List ℕ) → (((o ++ codes "{\"id\":") ++ id) ++ codes ",\"values\":") ++ 91 ∷ [] ≡ o ++ (codes "{\"id\":" ++ (id ++ codes ",\"values\":["))
unfolding serde_json_on_literals
front_is o id =
    let a = codes "{\"id\":" in
    let y = codes ",\"values\":" in
    append_assoc ((o ++ a) ++ id) y (91 ∷ []) ∙ append_assoc (o ++ a) id (y ++ 91 ∷ []) ∙ append_assoc o a (id ++ (y ++ 91 ∷ []))
