-- The labels of a row, put together one by one.
use Rattle.std.proofs.Common.{◌≡◌, ◌≤◌, ◌+◌, ◌==◌, ◌∙◌, ℕ, suc, List, [], ◌∷◌, ◌++◌, Some, length, map, option_map, take, refl, sym, ap, arith, append_assoc, length-append}
use Rattle.std.proofs.Math.Dec.{eqb-suc-zero}
use Rattle.std.proofs.Math.Seq.{take-length}
use Rattle.std.proofs.lemmas.List.{length-map, map_push, take-append-le}
use Rattle.json.specs.Print.{quoted}
use Rattle.tc_model.specs.Document.{Name, Scalar}
use Rattle.tc_record.specs.Building.{name_told}
use Rattle.tc_record.specs.Preorder.{Token, token}
use Rattle.tc_record.specs.Record.{labels}
use Rattle.tc_record.specs.Walk.{Key}
use Rattle.tc_record.specs.WalkView.{key_of, token_of}
use Rattle.tc_record.specs.declared.token.Token.{Token as Taken}
use Rattle.tc_compact.specs.Meant.{key_meant}
use Rattle.tc_record_text.specs.FlatTexts.{label_text, row_labels}
use Rattle.tc_record_text.specs.FlatRows.{label_in, opening_of, IsRowUnder}
use Rattle.tc_record_text.specs.KeptLabels.{colon}
use Rattle.tc_record_text.specs.Listed.{comma}
use Rattle.tc_record_text.specs.declared.flat_rows.FlatRow.{FlatRow}
use Rattle.tc_record_text.specs.declared.staged.ShortText.{ShortText}

-- short texts are the labels of so many members, which stand between two places of a walk
pub record AreGathered (names : List Name) (start walk : List (Token Key Scalar)) (texts : List ShortText) (count : ℕ) : Type 0 where
  pub before : List Key
  pub between : labels start ≡ before ++ labels walk
  pub count_is : length before ≡ count
  pub texts_are : map label_in texts ≡ row_labels names before

-- what stands before a label, by how many members stand before
later_label : (names : List Name) (before : List Key) (k : Key) (text : List ℕ) → text ≡ opening_of (length before == 0) ++ label_text names k → row_labels names before ++ text ∷ [] ≡ row_labels names (before ++ k ∷ [])
later_label names [] k text is = ap (λ t. t ∷ []) is
later_label names (b ∷ bs) k text is =
    let all = row_labels names (b ∷ bs) in
    ap (λ t. all ++ t ∷ []) (is ∙ ap (λ first. opening_of first ++ label_text names k) (eqb-suc-zero (length bs))) ∙ ap (λ ls. row_labels names (b ∷ []) ++ ls) (sym (map_push (λ x. comma ∷ label_text names x) bs k))

-- the token behind a walk has a label: its text is one more
pub one_more : (names : List Name) (start walk left : List (Token Key Scalar)) (texts : List ShortText) (count : ℕ) (t : Taken) (k : Key) (text : ShortText) → AreGathered names start walk texts count
    → walk ≡ token_of t ∷ left → key_of t.label ≡ Some k → label_in text ≡ opening_of (count == 0) ++ (quoted (name_told (option_map (key_meant names) (key_of t.label))) ++ colon ∷ [])
    → AreGathered names start left (texts ++ text ∷ []) (count + 1)
one_more names start walk left texts count t k text are next label is =
    let before = are.before in
    let behind : labels walk ≡ k ∷ labels left = ap labels next ∙ ap (λ l. labels (token l (token_of t).piece ∷ left)) label in
    let name = ap (λ l. opening_of (count == 0) ++ (quoted (name_told (option_map (key_meant names) l)) ++ colon ∷ [])) label in
    let opening = ap (λ n. opening_of (n == 0) ++ label_text names k) (sym are.count_is) in
    let put = later_label names before k (label_in text) (is ∙ name ∙ opening) in
    record {
      before = before ++ k ∷ [];
      between = are.between ∙ ap (λ ls. before ++ ls) behind ∙ sym (append_assoc before (k ∷ []) (labels left));
      count_is = omega (arith, length-append before (k ∷ []), are.count_is);
      texts_are = map_push label_in texts text ∙ ap (λ ts. ts ++ label_in text ∷ []) are.texts_are ∙ put;
    }

length_labels : (names : List Name) (ks : List Key) → length (row_labels names ks) ≡ length ks
length_labels names [] = refl
length_labels names (k ∷ ks) = ap suc (length-map ks (λ x. comma ∷ label_text names x))

-- as many as the tags tell are a row's
pub row_is : (names : List Name) (row : FlatRow) (walk : List (Token Key Scalar)) (count : ℕ) → AreGathered names row.start walk row.labels.items count
    → 1 ≤ count → count ≤ 16 → length row.tags.now ≡ count + 2 → IsRowUnder names row
row_is names row walk count are some few told =
    let before = are.before in
    let texts = row.labels.items in
    let many : length texts ≡ length before = sym (length-map texts label_in) ∙ ap length are.texts_are ∙ length_labels names before in
    let all : length (labels row.start) ≡ length before + length (labels walk) = ap length are.between ∙ length-append before (labels walk) in
    let first : take (length before) (labels row.start) ≡ before = ap (take (length before)) are.between ∙ take-append-le (length before) before (labels walk) (omega arith) ∙ take-length before in
    record {
      some = omega (arith, some, many, are.count_is);
      few = omega (arith, few, many, are.count_is);
      told = omega (arith, told, many, are.count_is);
      enough = omega (arith, many, all);
      labels_are = are.texts_are ∙ ap (row_labels names) (sym (ap (λ n. take n (labels row.start)) many ∙ first));
    }
