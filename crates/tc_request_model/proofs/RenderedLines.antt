-- What a reply shows makes its line.
use Rattle.std.proofs.Common.{◌≡◌, ◌∙◌, ℕ, Bool, true, false, List, [], ◌∷◌, ◌++◌, map, codes, Some, None, refl, sym, ap, append_assoc}
use Rattle.serde_json.proofs.OnLiterals.{serde_json_on_literals}
use Rattle.serde_json.specs.Data.{Data, array}
use Rattle.serde_json.specs.Written.{compact_text, items_text, comma_if}
use Rattle.tc_request_model.specs.Reply.{Reply, Row, got, rows, collected, upserted, deleted, flushed, schemas, started, turned_down, row_data, rows_data, counts_data, schemas_data, reply_line}
use Rattle.tc_request_model.specs.Rendered.{rendered, rendered_line, row_text, document_text, texts_listed, texts_array, rows_array}

rows_are_items : (later : Bool) (rs : List Row) → texts_listed later (map (λ t. t.text) (map row_text rs)) ≡ items_text later (rows_data rs)
rows_are_items later [] = refl
rows_are_items later (r ∷ rs) = ap (λ more. comma_if later ++ (compact_text (row_data r) ++ more)) (rows_are_items true rs)

rows_are_array : (rs : List Row) → rows_array (map row_text rs) ≡ compact_text (array (rows_data rs))
rows_are_array rs = ap (λ more. 91 ∷ more) (rows_are_items false rs)

schemas_are_items : (later : Bool) (ds : List Data) → texts_listed later (map compact_text ds) ≡ items_text later (schemas_data ds)
schemas_are_items later [] = refl
schemas_are_items later (d ∷ ds) = ap (λ more. comma_if later ++ (compact_text d ++ more)) (schemas_are_items true ds)

schemas_are_array : (ds : List Data) → texts_array (map compact_text ds) ≡ compact_text (array (schemas_data ds))
schemas_are_array ds = ap (λ more. 91 ∷ more) (schemas_are_items false ds)

-- a line of one member: its value's text, the brace behind it and the line feed
one_member_line : (name all text : List ℕ) → all ≡ text → name ++ (all ++ codes "}\n") ≡ name ++ ((text ++ codes "}") ++ codes "\n")
one_member_line name all text e = ap (λ bytes. name ++ (bytes ++ codes "}\n")) e ∙ ap (λ more. name ++ more) (sym (append_assoc text (codes "}") (codes "\n")))

pub rendered_is_line : (r : Reply) → rendered_line (rendered r) ≡ reply_line r
unfolding serde_json_on_literals
rendered_is_line (upserted n replaced) = refl
rendered_is_line (deleted n found) = refl
rendered_is_line (got n None) = refl
rendered_is_line (got n (Some d)) = one_member_line (codes "{\"doc\":") _ (document_text n d) refl
rendered_is_line (rows rs) = one_member_line (codes "{\"rows\":") _ (compact_text (array (rows_data rs))) (rows_are_array rs)
rendered_is_line flushed = refl
rendered_is_line (schemas ds) = one_member_line (codes "{\"schemas\":") _ (compact_text (array (schemas_data ds))) (schemas_are_array ds)
rendered_is_line started = refl
rendered_is_line (collected rs upto) =
    let all = compact_text (array (rows_data rs)) in
    let counts = compact_text (array (counts_data upto)) in
    ap (λ bytes. codes "{\"rows\":" ++ (bytes ++ (codes ",\"upto\":" ++ (counts ++ codes "}\n")))) (rows_are_array rs)
    ∙ ap (λ more. codes "{\"rows\":" ++ (all ++ (codes ",\"upto\":" ++ more))) (sym (append_assoc counts (codes "}") (codes "\n")))
    ∙ ap (λ more. codes "{\"rows\":" ++ more) (sym (append_assoc all (codes ",\"upto\":" ++ (counts ++ codes "}")) (codes "\n")))
rendered_is_line (turned_down r) = refl
