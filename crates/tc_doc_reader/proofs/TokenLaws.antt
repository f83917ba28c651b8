-- The document that is read token by token is the one that the JSON value of the text means.
use Rattle.std.proofs.Common.{◌≡◌, ◌∙◌, ◌<◌, ◌≤◌, ◌-◌, ◌++◌, ℕ, ℤ, refl, ap, subst, List, [], ◌∷◌, length, Option, None, Some, IfSome, option_map, option_and_then, Ordering, Less, Equal, Greater}
use Rattle.std.specs.Ordering.{nat_cmp, match_ordering}
use Rattle.std.specs.Cmp.Lexicographic.{slice_cmp}
use Rattle.json.specs.Token.{Token}
use Rattle.json.specs.Json as json
use Rattle.json.specs.Json.{Parse, parse_map, after_end_array, read_key}
use Rattle.json.proofs.Found.{Some_inj, not_found}
use Rattle.json.proofs.Grammar.{items_end, items_more, members_end, members_more}
use Rattle.serde_json.specs.Data as values
use Rattle.serde_json.specs.Find.{as_i64}
use Rattle.serde_json.specs.Read.{of_json, of_items, of_members, number_of, converted}
use Rattle.tc_model.specs.Tree.{leaf, items_of, array, object, Items, no_items, item, Members, no_members, member}
use Rattle.tc_model.specs.Document.{Name, Document, Scalar, integer}
use Rattle.tc_model.specs.Json.{document_of, items_meant, members_meant}
use Rattle.tc_doc_reader.specs.Tokens.{document_in, items_in, with_member, members_in}

-- ---- options

taken : {A B : Type 0} (f : A → Option B) (o : Option A) (b : B) → option_and_then f o ≡ Some b → (a : A) × (o ≡ Some a) × (f a ≡ Some b)
taken f None b e = not_found b e
taken f (Some a) b e = (a, refl, e)

mapped : {A B : Type 0} (f : A → B) (o : Option A) (b : B) → option_map f o ≡ Some b → (a : A) × (o ≡ Some a) × (f a ≡ b)
mapped f None b e = not_found b e
mapped f (Some a) b e = (a, refl, Some_inj _ _ e)

-- what a conversion gives is that of what was read
converted_some : {A B : Type 0} (f : A → Option B) (o : Option (A × List Token)) (b : B) (r : List Token) → converted f o ≡ Some (b, r) → (a : A) × (o ≡ Some (a, r)) × (f a ≡ Some b)
converted_some f o b r e =
    let p = taken (λ q. option_map (λ x. (x, q.1)) (f q.0)) o (b, r) e in
    let y = mapped (λ x. (x, p.0.1)) (f p.0.0) (b, r) p.2 in
    (p.0.0, p.1 ∙ ap (λ s. Some (p.0.0, s)) (ap (λ z. z.1) y.2), y.1 ∙ ap (λ z. Some z.0) y.2)

-- ---- members

member_meant : (k : Name) (d : values.Data) (t : Document) (F : values.Members) (X : Members Name Scalar) → document_of d ≡ Some t → members_meant F ≡ Some X → members_meant (values.member k d F) ≡ Some (member k t X)
member_meant k d t F X one more = ap (option_and_then (λ x. option_map (member k x) (members_meant F))) one ∙ ap (option_map (member k t)) more

-- a member put among others means the member put among what they mean
put_meant : (k : Name) (d : values.Data) (t : Document) (F : values.Members) (X : Members Name Scalar) → document_of d ≡ Some t → members_meant F ≡ Some X → members_meant (values.put k d F) ≡ Some (with_member k t X)
put_meant k d t values.no_members X one more = member_meant k d t values.no_members no_members one refl ∙ ap (λ x. Some (with_member k t x)) (Some_inj _ _ more)
put_meant k d t (values.member l e F) X one more =
    let first = taken (λ u. option_map (member l u) (members_meant F)) (document_of e) X more in
    let u = first.0 in
    let rest = mapped (member l u) (members_meant F) X first.2 in
    subst (λ x. members_meant (values.put k d (values.member l e F)) ≡ Some (with_member k t x)) rest.2
    (at_order u rest.0 (slice_cmp nat_cmp k l) first.1 rest.1 (put_meant k d t F rest.0 one rest.1))
  where
    at_order : (u : Document) (Y : Members Name Scalar) (o : Ordering) → document_of e ≡ Some u → members_meant F ≡ Some Y → members_meant (values.put k d F) ≡ Some (with_member k t Y)
        → members_meant (match_ordering o (values.member k d (values.member l e F)) (values.member l d F) (values.member l e (values.put k d F)))
        ≡ Some (match_ordering o (member k t (member l u Y)) (member l t Y) (member l u (with_member k t Y)))
    at_order u Y Less here behind later = member_meant k d t (values.member l e F) (member l u Y) one (member_meant l e u F Y here behind)
    at_order u Y Equal here behind later = member_meant l d t F Y one behind
    at_order u Y Greater here behind later = member_meant l e u (values.put k d F) (with_member k t Y) here later

members_read : (ms : json.Members) (F : values.Members) (X Y : Members Name Scalar) → members_meant F ≡ Some X → members_in ms X ≡ Some Y → option_and_then members_meant (of_members ms F) ≡ Some Y
members_read json.no_members F X Y found e = found ∙ e
members_read (json.member k j ms) F X Y found e =
    let t = taken (λ u. members_in ms (with_member k u X)) (document_in j) Y e in
    let d = taken document_of (of_json j) t.0 t.1 in
    ap (λ o. option_and_then members_meant (option_and_then (λ x. of_members ms (values.put k x F)) o)) d.1
    ∙ members_read ms (values.put k d.0 F) (with_member k t.0 X) Y (put_meant k d.0 t.0 F X d.2 found) t.2

pub object_in : (ms : json.Members) (Y : Members Name Scalar) → members_in ms no_members ≡ Some Y → document_in (json.object ms) ≡ Some (object Y)
object_in ms Y e =
    let s = taken members_meant (of_members ms values.no_members) Y (members_read ms values.no_members no_members Y refl e) in
    ap (λ o. option_and_then document_of (option_map values.object o)) s.1 ∙ ap (option_map object) s.2

-- ---- items

items_read : (js : json.Items) (xs : Items Name Scalar) → items_in js ≡ Some xs → option_and_then items_meant (of_items js) ≡ Some xs
items_read json.no_items xs e = e
items_read (json.item j js) xs e =
    let t = taken (λ u. option_map (item u) (items_in js)) (document_in j) xs e in
    let rest = mapped (item t.0) (items_in js) xs t.2 in
    let d = taken document_of (of_json j) t.0 t.1 in
    let ds = taken items_meant (of_items js) rest.0 (items_read js rest.0 rest.1) in
    ap (λ o. option_and_then items_meant (option_and_then (λ x. option_map (values.item x) (of_items js)) o)) d.1
    ∙ ap (λ o. option_and_then items_meant (option_map (values.item d.0) o)) ds.1
    ∙ ap (option_and_then (λ x. option_map (item x) (items_meant ds.0))) d.2 ∙ ap (option_map (item t.0)) ds.2 ∙ ap Some rest.2

pub array_in : (js : json.Items) (xs : Items Name Scalar) → items_in js ≡ Some xs → document_in (json.array js) ≡ Some (array xs)
array_in js xs e =
    let ds = taken items_meant (of_items js) xs (items_read js xs e) in
    ap (λ o. option_and_then document_of (option_map values.array o)) ds.1 ∙ ap (option_map array) ds.2

-- ---- the grammar's loops, a turn at a time

pub array_next : (o : Option (json.Items × List Token)) (xs : Items Name Scalar) (r : List Token) → converted items_in o ≡ Some (xs, r) → converted document_in (parse_map json.array o) ≡ Some (array xs, r)
array_next o xs r e =
    let js = converted_some items_in o xs r e in
    ap (λ p. converted document_in (parse_map json.array p)) js.1 ∙ ap (option_map (λ t. (t, r))) (array_in js.0 xs js.2)

pub object_next : (o : Option (json.Members × List Token)) (Y : Members Name Scalar) (r : List Token) → converted (λ ms. members_in ms no_members) o ≡ Some (Y, r) → converted document_in (parse_map json.object o) ≡ Some (object Y, r)
object_next o Y r e =
    let ms = converted_some (λ ms. members_in ms no_members) o Y r e in
    ap (λ p. converted document_in (parse_map json.object p)) ms.1 ∙ ap (option_map (λ t. (t, r))) (object_in ms.0 Y ms.2)

with_item : (j : json.Json) (t : Document) → document_in j ≡ Some t → (o : Option (json.Items × List Token)) → converted items_in (parse_map (json.item j) o) ≡ parse_map (item t) (converted items_in o)
with_item j t e None = refl
with_item j t e (Some p) = ap (λ o. option_map (λ b. (b, p.1)) (option_and_then (λ x. option_map (item x) (items_in p.0)) o)) e ∙ twice (items_in p.0)
  where
    twice : (x : Option (Items Name Scalar)) → option_map (λ b. (b, p.1)) (option_map (item t) x) ≡ parse_map (item t) (option_map (λ b. (b, p.1)) x)
    twice None = refl
    twice (Some xs) = refl

with_next : (k : Name) (j : json.Json) (t : Document) (found : Members Name Scalar) → document_in j ≡ Some t → (o : Option (json.Members × List Token))
    → converted (λ ms. members_in ms found) (parse_map (json.member k j) o) ≡ converted (λ ms. members_in ms (with_member k t found)) o
with_next k j t found e None = refl
with_next k j t found e (Some p) = ap (λ o. option_map (λ b. (b, p.1)) (option_and_then (λ x. members_in p.0 (with_member k x found)) o)) e

module _ (p : Parse json.Json) where
  pub item_next : (n : ℕ) (ts r : List Token) (t : Document) → 0 < n → after_end_array ts ≡ None → converted document_in (p ts) ≡ Some (t, r)
      → converted items_in (json.items p n ts) ≡ parse_map (item t) (converted items_in (json.items p (n - 1) r))
  item_next n ts r t some going e = let j = converted_some document_in (p ts) t r e in ap (converted items_in) (items_more p n ts r j.0 some going j.1) ∙ with_item j.0 t j.2 _

  pub items_over : (n : ℕ) (ts r : List Token) → length ts ≤ n → after_end_array ts ≡ Some r → converted items_in (json.items p n ts) ≡ Some (no_items, r)
  items_over n ts r enough e = ap (converted items_in) (items_end p n ts r enough e)

  module _ (found : Members Name Scalar) where
    pub member_next : (n : ℕ) (k : List ℕ) (ts s r : List Token) (t : Document) → 0 < n → read_key ts ≡ Some (Some k, s) → converted document_in (p s) ≡ Some (t, r)
        → converted (λ ms. members_in ms found) (json.members p n ts) ≡ converted (λ ms. members_in ms (with_member k t found)) (json.members p (n - 1) r)
    member_next n k ts s r t some key e =
        let j = converted_some document_in (p s) t r e in
        ap (converted (λ ms. members_in ms found)) (members_more p n k ts s r j.0 some key j.1) ∙ with_next k j.0 t found j.2 _

    pub members_over : (n : ℕ) (ts r : List Token) → length ts ≤ n → read_key ts ≡ Some (None, r) → converted (λ ms. members_in ms found) (json.members p n ts) ≡ Some (found, r)
    members_over n ts r enough e = ap (converted (λ ms. members_in ms found)) (members_end p n ts r enough e)

-- ---- a list that grows at its end

abbrev pub items_before : List Document → Items Name Scalar → Items Name Scalar
items_before [] rest = rest
items_before (t ∷ ts) rest = item t (items_before ts rest)

pub items_before-no_items : (ts : List Document) → items_before ts no_items ≡ items_of ts
items_before-no_items [] = refl
items_before-no_items (t ∷ ts) = ap (item t) (items_before-no_items ts)

items_push : (ts : List Document) (t : Document) (rest : Items Name Scalar) → items_before ts (item t rest) ≡ items_before (ts ++ t ∷ []) rest
items_push [] t rest = refl
items_push (u ∷ ts) t rest = ap (item u) (items_push ts t rest)

pub one_more_item : (ts : List Document) (t : Document) (r : Option (Items Name Scalar × List Token)) → parse_map (items_before ts) (parse_map (item t) r) ≡ parse_map (items_before (ts ++ t ∷ [])) r
one_more_item ts t None = refl
one_more_item ts t (Some p) = ap (λ ds. Some (ds, p.1)) (items_push ts t p.0)

pub none_before : (r : Option (Items Name Scalar × List Token)) → r ≡ parse_map (λ a. a) r
none_before None = refl
none_before (Some p) = refl

-- ---- leaves

number_in : (s : List ℕ) (z : ℤ) → option_and_then as_i64 (number_of s) ≡ Some z → document_in (json.number s) ≡ Some (leaf (integer z))
number_in s z e =
    let n = taken as_i64 (number_of s) z e in
    ap (λ o. option_and_then (λ d. document_of d) (option_map values.number o)) n.1 ∙ ap (option_map (λ x. leaf (integer x))) n.2

pub number_told : (s : List ℕ) (z : Option ℤ) (t : Document) → IfSome z (λ x. option_and_then as_i64 (number_of s) ≡ Some x) → option_map (λ x. leaf (integer x)) z ≡ Some t → document_in (json.number s) ≡ Some t
number_told s None t h e = not_found t e
number_told s (Some x) t h e = number_in s x h ∙ e
