-- Members put into an object one after the other: the order in which they come does not show.
use Rattle.std.proofs.Common.{◌≡◌, ◌⊎◌, List, [], ◌∷◌, refl, sym, ap, ◌∙◌, inl, inr}
use Rattle.std.specs.declared.cmp.Ordering.{Ordering}
use Rattle.std.specs.declared.cmp.Ordering.TheVariants.{Less, Equal, Greater}
use Rattle.std.specs.Ordering.{nat_cmp, ordering_reverse, is_eq}
use Rattle.std.specs.Cmp.Lexicographic.{slice_cmp}
use Rattle.std.proofs.lemmas.Cmp.{nat_list_cmp_total, tied_itself}
use Rattle.std.proofs.lemmas.Map.Text.{is_eq-slice_cmp}
use Rattle.std.proofs.lemmas.Slice.Eq.{bytes_eq-Decides}
use Rattle.serde_json.specs.Data as json
use Rattle.tc_model.specs.Document.{Name}

abbrev order : Name → Name → Ordering
order k l = slice_cmp nat_cmp k l

same_name : (k l : Name) → order k l ≡ Equal → k ≡ l
same_name k l tied = (bytes_eq-Decides k l).0 (sym (is_eq-slice_cmp k l) ∙ ap is_eq tied)

turned : (k l : Name) (o : Ordering) → order k l ≡ o → order l k ≡ ordering_reverse o
turned k l o is = nat_list_cmp_total.antisymm l k ∙ ap ordering_reverse is

-- ---- one put after another

put_swap : (k l : Name) (d e : json.Data) (ms : json.Members) → order k l ≡ Less → json.put k d (json.put l e ms) ≡ json.put l e (json.put k d ms)
put_swap k l d e json.no_members less = let greater = turned k l Less less in simp (less, greater)
put_swap k l d e (json.member m f ms) less = by_order (order k m) (order l m) refl refl (put_swap k l d e ms less)
  where
    by_order : (a b : Ordering) → order k m ≡ a → order l m ≡ b → json.put k d (json.put l e ms) ≡ json.put l e (json.put k d ms)
        → json.put k d (json.put l e (json.member m f ms)) ≡ json.put l e (json.put k d (json.member m f ms))
    by_order Less Less x y later = let greater = turned k l Less less in simp (less, greater, x, y)
    by_order Less Equal x y later = let greater = turned k l Less less in simp (less, greater, x, y)
    by_order Less Greater x y later = let greater = turned k l Less less in simp (less, greater, x, y)
    by_order Equal Greater x y later = simp (x, y)
    by_order Greater Greater x y later = simp (x, y) (ap (json.member m f) later)
    by_order Equal Less x y later = let through = nat_list_cmp_total.trans k l m less y in absurd (cc)
    by_order Greater Less x y later = let through = nat_list_cmp_total.trans k l m less y in absurd (cc)
    by_order Equal Equal x y later = let same = same_name l m y in absurd (cc)
    by_order Greater Equal x y later = let same = same_name l m y in absurd (cc)

put_again : (k : Name) (d : json.Data) (ms : json.Members) → json.put k d (json.put k d ms) ≡ json.put k d ms
put_again k d json.no_members = let itself = tied_itself nat_list_cmp_total k in simp (itself)
put_again k d (json.member m f ms) = by_order (order k m) refl (put_again k d ms)
  where
    by_order : (a : Ordering) → order k m ≡ a → json.put k d (json.put k d ms) ≡ json.put k d ms → json.put k d (json.put k d (json.member m f ms)) ≡ json.put k d (json.member m f ms)
    by_order Less x later = let itself = tied_itself nat_list_cmp_total k in simp (itself, x)
    by_order Equal x later = simp (x)
    by_order Greater x later = simp (x) (ap (json.member m f) later)

-- ---- names with what each of them has

abbrev pub by_names : (Name → json.Data) → List Name → json.Members → json.Members
by_names text [] ms = ms
by_names text (name ∷ names) ms = json.put name (text name) (by_names text names ms)

abbrev pub IsAmong : Name → List Name → Type 0
IsAmong name [] = ⊥
IsAmong name (first ∷ names) = (first ≡ name) ⊎ IsAmong name names

module _ (text : Name → json.Data) where
  put_any_swap : (k l : Name) (ms : json.Members) → json.put k (text k) (json.put l (text l) ms) ≡ json.put l (text l) (json.put k (text k) ms)
  put_any_swap k l ms = by_order (order k l) refl
    where
      by_order : (o : Ordering) → order k l ≡ o → json.put k (text k) (json.put l (text l) ms) ≡ json.put l (text l) (json.put k (text k) ms)
      by_order Less is = put_swap k l (text k) (text l) ms is
      by_order Equal is = let same = same_name k l is in rw same refl
      by_order Greater is = sym (put_swap l k (text l) (text k) ms (turned k l Greater is))

  put_past : (name : Name) (names : List Name) (ms : json.Members) → json.put name (text name) (by_names text names ms) ≡ by_names text names (json.put name (text name) ms)
  put_past name [] ms = refl
  put_past name (first ∷ names) ms = put_any_swap name first (by_names text names ms) ∙ ap (json.put first (text first)) (put_past name names ms)

  -- a name that is there changes nothing
  absorbed : (name : Name) (names : List Name) (ms : json.Members) → IsAmong name names → json.put name (text name) (by_names text names ms) ≡ by_names text names ms
  absorbed name [] ms among = absurd among
  absorbed name (first ∷ names) ms (inl same) = rw (← same) (put_again first (text first) (by_names text names ms))
  absorbed name (first ∷ names) ms (inr among) = put_any_swap name first (by_names text names ms) ∙ ap (json.put first (text first)) (absorbed name names ms among)

  all_absorbed : (xs ys : List Name) (ms : json.Members) → ((name : Name) → IsAmong name xs → IsAmong name ys) → by_names text xs (by_names text ys ms) ≡ by_names text ys ms
  all_absorbed [] ys ms among = refl
  all_absorbed (x ∷ xs) ys ms among =
      ap (json.put x (text x)) (all_absorbed xs ys ms (λ name there. among name (inr there))) ∙ absorbed x ys ms (among x (inl refl))

  swapped : (xs ys : List Name) (ms : json.Members) → by_names text xs (by_names text ys ms) ≡ by_names text ys (by_names text xs ms)
  swapped [] ys ms = refl
  swapped (x ∷ xs) ys ms = ap (json.put x (text x)) (swapped xs ys ms) ∙ put_past x ys (by_names text xs ms)

  -- the same names make the same object
  pub same_names : (xs ys : List Name) (ms : json.Members) → ((name : Name) → IsAmong name xs → IsAmong name ys) → ((name : Name) → IsAmong name ys → IsAmong name xs) → by_names text xs ms ≡ by_names text ys ms
  same_names xs ys ms into from = sym (all_absorbed ys xs ms from) ∙ swapped ys xs ms ∙ all_absorbed xs ys ms into
