-- Members put into an object in an order that keeps those of one name in turn: the object is the same, and where the names
-- ascend it has the first member of each name, one behind the other.
use Rattle.std.proofs.Common.{◌≡◌, ℕ, suc, ◌<◌, ◌≤◌, Bool, true, false, not, ◌&&◌, cond, List, [], ◌∷◌, length, map, filter, bytes_eq, get_or, refl, sym, ap, subst, ◌∙◌, inl, inr, arith, Ordering, Less, Equal, Greater, is_lt, is_eq}
use Rattle.std.specs.List.{dedup, dedup_from}
use Rattle.std.specs.List.Sorted.{IsSortedBy, IsStableBy, ties}
use Rattle.std.specs.Ordering.{ordering_reverse}
use Rattle.std.proofs.lemmas.Cmp.{nat_list_cmp_total, tied_itself, tied_back}
use Rattle.std.proofs.lemmas.List.Sorted.{ranks_by, sorted_far}
use Rattle.std.proofs.lemmas.Map.Text.{is_eq-slice_cmp}
use Rattle.std.proofs.lemmas.Slice.Eq.{bytes_eq-Decides}
use Rattle.serde_json.specs.Data as json
use Rattle.tc_model.specs.Document.{Name, name_cmp}
use Rattle.tc_schema.specs.Ordered.{in_turn}
use Rattle.tc_schema_model.proofs.PutLaws.{by_names, IsAmong, same_names}

same_name : (k l : Name) → bytes_eq k l ≡ true → k ≡ l
same_name k l is = (bytes_eq-Decides k l).0 is

own_name : (k : Name) → bytes_eq k k ≡ true
own_name k = (bytes_eq-Decides k k).1 refl

-- ---- two puts

put_over : (k : Name) (d e : json.Data) (ms : json.Members) → json.put k d (json.put k e ms) ≡ json.put k d ms
put_over k d e json.no_members = let itself = tied_itself nat_list_cmp_total k in simp (itself)
put_over k d e (json.member m f ms) = by_order (name_cmp k m) refl (put_over k d e ms)
  where
    by_order : (o : Ordering) → name_cmp k m ≡ o → json.put k d (json.put k e ms) ≡ json.put k d ms → json.put k d (json.put k e (json.member m f ms)) ≡ json.put k d (json.member m f ms)
    by_order Less is later = let itself = tied_itself nat_list_cmp_total k in simp (itself, is)
    by_order Equal is later = simp (is)
    by_order Greater is later = simp (is) (ap (json.member m f) later)

-- of different names, in either order
put_apart : (k l : Name) (d e : json.Data) (ms : json.Members) → bytes_eq l k ≡ false → json.put k d (json.put l e ms) ≡ json.put l e (json.put k d ms)
put_apart k l d e ms apart =
    let both = same_names (λ name. cond (bytes_eq name k) d e) (k ∷ l ∷ []) (l ∷ k ∷ []) ms (exchanged k l) (exchanged l k) in
    (λ i. json.put k (cond (sym (own_name k) i) d e) (json.put l (cond (sym apart i) d e) ms)) ∙ both ∙ (λ i. json.put l (cond (apart i) d e) (json.put k (cond (own_name k i) d e) ms))
  where
    exchanged : (m n name : Name) → IsAmong name (m ∷ n ∷ []) → IsAmong name (n ∷ m ∷ [])
    exchanged m n name (inl first) = inr (inl first)
    exchanged m n name (inr (inl second)) = inl second
    exchanged m n name (inr (inr none)) = inr (inr none)

-- what a name has below does not show where it is put again
put_hides : (k : Name) (d : json.Data) (text : Name → json.Data) (names : List Name)
    → json.put k d (by_names text names json.no_members) ≡ json.put k d (by_names (λ name. cond (bytes_eq name k) d (text name)) names json.no_members)
put_hides k d text [] = refl
put_hides k d text (l ∷ names) = by_test (bytes_eq l k) refl (put_hides k d text names)
  where
    below : json.Members
    below = by_names text names json.no_members

    hidden : json.Members
    hidden = by_names (λ name. cond (bytes_eq name k) d (text name)) names json.no_members

    by_test : (same : Bool) → bytes_eq l k ≡ same → json.put k d below ≡ json.put k d hidden → json.put k d (json.put l (text l) below) ≡ json.put k d (json.put l (cond (bytes_eq l k) d (text l)) hidden)
    by_test true is later = let same = same_name l k is in rw (is, same) (put_over k d (text k) below ∙ later ∙ sym (put_over k d d hidden))
    by_test false is later = rw is (put_apart k l d (text l) below is ∙ ap (json.put l (text l)) later ∙ sym (put_apart k l d (text l) hidden is))

module _ {X : Type 0} (name : X → Name) (text : X → json.Data) where
  -- elements as members, put one before the other
  abbrev pub put_all : List X → json.Members
  put_all [] = json.no_members
  put_all (x ∷ xs) = json.put (name x) (text x) (put_all xs)

  abbrev pub is_less : X → X → Bool
  is_less x y = is_lt (name_cmp (name x) (name y))

  abbrev pub has_name_of : X → X → Bool
  has_name_of x y = bytes_eq (name x) (name y)

  -- ---- in any order that keeps those of one name in turn

  abbrev is_named : Name → X → Bool
  is_named k x = bytes_eq k (name x)

  abbrev first_text : List X → Name → json.Data
  first_text [] k = json.null
  first_text (x ∷ xs) k = cond (bytes_eq k (name x)) (text x) (first_text xs k)

  put_by_names : (xs : List X) → put_all xs ≡ by_names (first_text xs) (map name xs) json.no_members
  put_by_names [] = refl
  put_by_names (x ∷ xs) = rw (own_name (name x)) (ap (json.put (name x) (text x)) (put_by_names xs) ∙ put_hides (name x) (text x) (first_text xs) (map name xs))

  first_of_named : (k : Name) (xs : List X) → first_text (filter (is_named k) xs) k ≡ first_text xs k
  first_of_named k [] = refl
  first_of_named k (x ∷ xs) = by_test (bytes_eq k (name x)) refl (first_of_named k xs)
    where
      by_test : (same : Bool) → bytes_eq k (name x) ≡ same → first_text (filter (is_named k) xs) k ≡ first_text xs k
          → first_text (cond same (x ∷ filter (is_named k) xs) (filter (is_named k) xs)) k ≡ cond same (text x) (first_text xs k)
      by_test true is later = rw is refl
      by_test false is later = later

  among_named : (k : Name) (xs : List X) → IsAmong k (map name xs) → IsAmong k (map name (filter (is_named k) xs))
  among_named k [] none = none
  among_named k (x ∷ xs) among = by_test (bytes_eq k (name x)) refl among (among_named k xs)
    where
      by_test : (same : Bool) → bytes_eq k (name x) ≡ same → IsAmong k (map name (x ∷ xs)) → (IsAmong k (map name xs) → IsAmong k (map name (filter (is_named k) xs)))
          → IsAmong k (map name (cond same (x ∷ filter (is_named k) xs) (filter (is_named k) xs)))
      by_test true is among later = inl (sym (same_name k (name x) is))
      by_test false is (inl here) later = let own = own_name k in absurd (cc)
      by_test false is (inr there) later = later there

  among_all : (p : X → Bool) (k : Name) (xs : List X) → IsAmong k (map name (filter p xs)) → IsAmong k (map name xs)
  among_all p k [] none = none
  among_all p k (x ∷ xs) among = by_test (p x) among (among_all p k xs)
    where
      by_test : (kept : Bool) → IsAmong k (map name (cond kept (x ∷ filter p xs) (filter p xs))) → (IsAmong k (map name (filter p xs)) → IsAmong k (map name xs)) → IsAmong k (map name (x ∷ xs))
      by_test true (inl here) later = inl here
      by_test true (inr there) later = inr (later there)
      by_test false there later = inr (later there)

  ties_by_name : (x y : X) → ties is_less x y ≡ bytes_eq (name x) (name y)
  ties_by_name x y = by_order (name_cmp (name x) (name y)) (nat_list_cmp_total.antisymm (name y) (name x)) ∙ is_eq-slice_cmp (name x) (name y)
    where
      by_order : (o : Ordering) → name_cmp (name y) (name x) ≡ ordering_reverse o → not (is_lt o) && not (is_lt (name_cmp (name y) (name x))) ≡ is_eq o
      by_order Less turned = refl
      by_order Equal turned = rw turned refl
      by_order Greater turned = rw turned refl

  -- the first that a filter keeps passes
  first_passes : (p : X → Bool) (xs : List X) (y : X) (ys : List X) → filter p xs ≡ y ∷ ys → p y ≡ true
  first_passes p [] y ys is = absurd (cc)
  first_passes p (x ∷ xs) y ys is = by_test (p x) refl is (first_passes p xs y ys)
    where
      by_test : (kept : Bool) → p x ≡ kept → cond kept (x ∷ filter p xs) (filter p xs) ≡ y ∷ ys → (filter p xs ≡ y ∷ ys → p y ≡ true) → p y ≡ true
      by_test true passes is later = let here : x ≡ y = cc in ap p (sym here) ∙ passes
      by_test false passes is later = later is

  module _ (xs ys : List X) (stable : IsStableBy is_less xs ys) where
    named_of : (k : Name) (x : X) → bytes_eq k (name x) ≡ true → filter (is_named k) ys ≡ filter (is_named k) xs
    named_of k x is =
        let tied : (y : X) → ties is_less x y ≡ is_named k y = λ y. ties_by_name x y ∙ ap (λ l. bytes_eq l (name y)) (sym (same_name k (name x) is)) in
        (λ i. filter (λ y. sym (tied y) i) ys) ∙ stable x ∙ (λ i. filter (λ y. tied y i) xs)

    same_named : (k : Name) → filter (is_named k) ys ≡ filter (is_named k) xs
    same_named k = by_found (filter (is_named k) xs) (filter (is_named k) ys) refl refl
      where
        by_found : (us vs : List X) → filter (is_named k) xs ≡ us → filter (is_named k) ys ≡ vs → filter (is_named k) ys ≡ filter (is_named k) xs
        by_found [] [] none nothing = nothing ∙ sym none
        by_found (u ∷ us) vs some is = named_of k u (first_passes (is_named k) xs u us some)
        by_found [] (v ∷ vs) none some = named_of k v (first_passes (is_named k) ys v vs some)

    pub put_in_turn : put_all ys ≡ put_all xs
    put_in_turn =
        let texts : (k : Name) → first_text ys k ≡ first_text xs k = λ k. sym (first_of_named k ys) ∙ ap (λ zs. first_text zs k) (same_named k) ∙ first_of_named k xs in
        put_by_names ys
        ∙ same_names (first_text ys) (map name ys) (map name xs) json.no_members
        (λ k among. among_all (is_named k) k xs (subst (λ zs. IsAmong k (map name zs)) (same_named k) (among_named k ys among)))
        (λ k among. among_all (is_named k) k ys (subst (λ zs. IsAmong k (map name zs)) (sym (same_named k)) (among_named k xs among)))
        ∙ (λ i. by_names (λ k. texts k i) (map name xs) json.no_members) ∙ sym (put_by_names xs)

  -- ---- in order

  put_in_front : (x y : X) (ys : List X) → name_cmp (name x) (name y) ≡ Less → json.put (name x) (text x) (in_turn name text (dedup_from has_name_of y ys)) ≡ json.member (name x) (text x) (in_turn name text (dedup_from has_name_of y ys))
  put_in_front x y [] less = rw less refl
  put_in_front x y (z ∷ ys) less = by_test (has_name_of z y) (put_in_front x y ys less)
    where
      by_test : (same : Bool) → json.put (name x) (text x) (in_turn name text (dedup_from has_name_of y ys)) ≡ json.member (name x) (text x) (in_turn name text (dedup_from has_name_of y ys))
          → json.put (name x) (text x) (in_turn name text (cond same (dedup_from has_name_of y ys) (y ∷ dedup_from has_name_of z ys))) ≡ json.member (name x) (text x) (in_turn name text (cond same (dedup_from has_name_of y ys) (y ∷ dedup_from has_name_of z ys)))
      by_test true later = later
      by_test false later = rw less refl

  -- each is followed by none that is less
  abbrev Ascends : X → List X → Type 0
  Ascends x [] = Unit {0}
  Ascends x (y ∷ ys) = (is_less y x ≡ false) × Ascends y ys

  first_of_each : (x : X) (xs : List X) → Ascends x xs → put_all (x ∷ xs) ≡ in_turn name text (dedup_from has_name_of x xs)
  first_of_each x [] up = refl
  first_of_each x (y ∷ xs) up = by_test (has_name_of y x) refl (first_of_each x xs) (first_of_each y xs up.1)
    where
      next : (same : name y ≡ name x) → (zs : List X) → Ascends y zs → Ascends x zs
      next same [] up = tt
      next same (z ∷ zs) up = (ap (λ k. is_lt (name_cmp (name z) k)) (sym same) ∙ up.0, up.1)

      less : (o : Ordering) → name_cmp (name x) (name y) ≡ o → bytes_eq (name y) (name x) ≡ false → is_lt (name_cmp (name y) (name x)) ≡ false → name_cmp (name x) (name y) ≡ Less
      less Less order differ not_less = order
      less Equal order differ not_less = let same = sym (is_eq-slice_cmp (name y) (name x)) ∙ ap is_eq (tied_back nat_list_cmp_total (name x) (name y) order) in absurd (cc)
      less Greater order differ not_less = let turned = nat_list_cmp_total.antisymm (name y) (name x) ∙ ap ordering_reverse order in absurd (cc)

      by_test : (same : Bool) → has_name_of y x ≡ same → (Ascends x xs → put_all (x ∷ xs) ≡ in_turn name text (dedup_from has_name_of x xs)) → put_all (y ∷ xs) ≡ in_turn name text (dedup_from has_name_of y xs)
          → json.put (name x) (text x) (put_all (y ∷ xs)) ≡ in_turn name text (cond same (dedup_from has_name_of x xs) (x ∷ dedup_from has_name_of y xs))
      by_test true is one later =
          let same = same_name (name y) (name x) is in
          ap (λ k. json.put (name x) (text x) (json.put k (text y) (put_all xs))) same ∙ put_over (name x) (text x) (text y) (put_all xs) ∙ one (next same xs up.1)
      by_test false is one later = ap (json.put (name x) (text x)) later ∙ put_in_front x y xs (less (name_cmp (name x) (name y)) refl is up.0)

  ascends : (x : X) (xs : List X) → ((i j : ℕ) (d : X) → i ≤ j → j < length (x ∷ xs) → is_less (get_or (x ∷ xs) j d) (get_or (x ∷ xs) i d) ≡ false) → Ascends x xs
  ascends x [] far = tt
  ascends x (y ∷ xs) far = (far 0 1 x (omega arith) (omega arith), ascends y xs (λ i j d low high. far (suc i) (suc j) d (omega arith) (omega arith)))

  pub put_ascending : (xs : List X) → IsSortedBy is_less xs → put_all xs ≡ in_turn name text (dedup has_name_of xs)
  put_ascending [] up = refl
  put_ascending (x ∷ xs) up = first_of_each x xs (ascends x xs (sorted_far is_less (ranks_by nat_list_cmp_total name) (x ∷ xs) up))
