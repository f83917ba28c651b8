-- What maps of replies and rows have when one more is put in.
use Rattle.std.proofs.Common.{◌≡◌, ◌∙◌, ap, sym, refl, ℕ, ◌<◌, Bool, true, false, List, [], ◌∷◌, ◌++◌, map, arith, append-nil}
use Rattle.std.specs.Prelude.{◌==◌, nat_lt, fold, flat_map, if◌then◌else◌, Option, option_map}
use Rattle.std.specs.Map.{keys_of, lookup, remove_entry}
use Rattle.std.specs.BTreeMap.{insert_entry, is_at}
use Rattle.std.specs.Ordering.{nat_cmp}
use Rattle.std.proofs.lemmas.Bool.Decides.{nat_tests}
use Rattle.std.proofs.lemmas.List.{map-append}
use Rattle.std.proofs.lemmas.List.Sums.{fold-append}
use Rattle.std.proofs.lemmas.Map.Keys.{sorted_head}
use Rattle.tc_model.specs.Keyed.{Keyed, Ascends, value_of, with_value, without_key, values_in, on_value}
use Rattle.tc_request_model.specs.Rendered.{RowText, Rendered}
use Rattle.tc_model.proofs.KeyedOrder.{sorted-with_value, sorted_nil}
use Rattle.tc_model.proofs.KeyedMaps.{option_map-lookup, map-insert_entry, map-remove_entry}
use Rattle.tc_model.proofs.Replacing.{below_all}
use Rattle.tc_run_model.proofs.UnitedPairs.{with_value-front, behind_first, rest_ascends}
use Rattle.tc_command.specs.declared.replies.Reply.{Reply as KeptReply}
use Rattle.tc_command.specs.Replies.{rendered_of}
use Rattle.tc_route.specs.declared.placed.Placed.{Placed}
use Rattle.tc_route.specs.Gathered.{beside_rendered, with_rendered, gathered_rendered, with_text, texts_in_order}
use Rattle.tc_route.specs.Meaning.{rendered_in}

-- one more of what is read by f
pub fold_more : {X Y S : Type 0} (step : S → Y → S) (f : X → Y) (s : S) (xs : List X) (x : X) → fold step s (map f (xs ++ x ∷ [])) ≡ step (fold step s (map f xs)) (f x)
fold_more step f s xs x = ap (fold step s) (map-append f xs (x ∷ [])) ∙ fold-append step s (map f xs) (f x ∷ [])

-- a value taken out and put in again
pub put_again : {V : Type 0} (n : ℕ) (v : V) (es : Keyed V) → Ascends es → with_value n v (without_key n es) ≡ with_value n v es
put_again n v [] ascends = refl
put_again n v (e ∷ es) ascends = cases (nat_lt n e.0) (n == e.0) refl refl (put_again n v es (rest_ascends e es ascends))
  where
    cases : (b c : Bool) → nat_lt n e.0 ≡ b → (n == e.0) ≡ c → with_value n v (without_key n es) ≡ with_value n v es
        → with_value n v (if c then es else e ∷ without_key n es) ≡ (if b then (n, v) ∷ e ∷ es else (if c then (e.0, v) ∷ es else e ∷ with_value n v es))
    cases true true less same more = absurd (grind (arith, nat_tests, less, same))
    cases true false less other more =
        let below : n < e.0 = grind (arith, nat_tests, less) in
        rw less (ap (λ rest. (n, v) ∷ e ∷ rest) (below_all n e.0 es below (sorted_head nat_cmp e.0 (keys_of es) ascends)))
    cases false true less same more =
        let at : n ≡ e.0 = grind (arith, nat_tests, same) in
        rw at (with_value-front e.0 v es (behind_first e es ascends))
    cases false false less other more = rw (less, other) (ap (λ rest. e ∷ rest) more)

-- ---- rows

values_read : {X Y : Type 0} (f : X → Y) (es : List (ℕ × X)) → map f (map (λ e. e.1) es) ≡ values_in (map (on_value f) es)
values_read f [] = refl
values_read f (e ∷ es) = ap (λ ys. f e.1 ∷ ys) (values_read f es)

pub rows_read : {X : Type 0} (f : X → RowText) (es : List (ℕ × X)) (first more : List RowText) → map (on_value f) es ≡ fold with_text (fold with_text [] first) more → map f (map (λ e. e.1) es) ≡ texts_in_order (first ++ more)
rows_read f es first more is = values_read f es ∙ ap values_in (is ∙ sym (fold-append with_text [] first more))

-- ---- replies

pub Ascends-replies : (all more : Keyed Rendered) → Ascends all → Ascends (fold with_rendered all more)
Ascends-replies all [] ascends = ascends
Ascends-replies all (a ∷ more) ascends = Ascends-replies (with_rendered all a) more (sorted-with_value a.0 (beside_rendered (value_of a.0 all) a.1) all ascends)

pub Ascends-gathered : (parts : List (Keyed Rendered)) → Ascends (gathered_rendered parts)
Ascends-gathered parts = Ascends-replies [] (flat_map (λ replies. replies) parts) sorted_nil

-- a reply put where the one that was there, if there was one, is taken out
pub put_in : (at : ℕ) (removed : Option KeptReply) (put : KeptReply) (a : Rendered) (es left now : List (ℕ × KeptReply)) → Ascends (map (on_value rendered_of) es) → removed ≡ lookup (is_at (nat_cmp at)) es
    → left ≡ remove_entry (is_at (nat_cmp at)) es → now ≡ insert_entry nat_cmp left at put → rendered_of put ≡ beside_rendered (option_map rendered_of removed) a
    → map (on_value rendered_of) now ≡ with_rendered (map (on_value rendered_of) es) (at, a)
put_in at removed put a es left now ascends was taken is joined =
    let all = map (on_value rendered_of) es in
    let found : option_map rendered_of removed ≡ value_of at all = ap (option_map rendered_of) was ∙ option_map-lookup rendered_of at es in
    ap (map (on_value rendered_of)) is ∙ map-insert_entry rendered_of at put left
    ∙ ap (λ xs. with_value at (rendered_of put) (map (on_value rendered_of) xs)) taken
    ∙ ap (with_value at (rendered_of put)) (map-remove_entry rendered_of at es)
    ∙ put_again at (rendered_of put) all ascends
    ∙ ap (λ v. with_value at v all) (joined ∙ ap (λ o. beside_rendered o a) found)

gathered_onto : (acc : Keyed Rendered) (parts : List (List Placed)) (part : List Placed)
    → fold with_rendered acc (flat_map (λ replies. replies) (map rendered_in (parts ++ part ∷ []))) ≡ fold with_rendered (fold with_rendered acc (flat_map (λ replies. replies) (map rendered_in parts))) (rendered_in part)
gathered_onto acc [] part = ap (fold with_rendered acc) (append-nil (rendered_in part))
gathered_onto acc (first ∷ parts) part =
    fold-append with_rendered acc (rendered_in first) (flat_map (λ replies. replies) (map rendered_in (parts ++ part ∷ [])))
    ∙ gathered_onto (fold with_rendered acc (rendered_in first)) parts part
    ∙ ap (λ all. fold with_rendered all (rendered_in part)) (sym (fold-append with_rendered acc (rendered_in first) (flat_map (λ replies. replies) (map rendered_in parts))))

pub gathered_more : (parts : List (List Placed)) (part : List Placed) → gathered_rendered (map rendered_in (parts ++ part ∷ [])) ≡ fold with_rendered (gathered_rendered (map rendered_in parts)) (rendered_in part)
gathered_more parts part = gathered_onto [] parts part
