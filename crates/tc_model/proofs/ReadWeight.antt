-- A JSON value weighs no more than the text that it was read from.
use Rattle.std.proofs.Common.{ℕ, zero, suc, ◌+◌, ◌≤◌, List, [], ◌∷◌, length, Option, Some, None, option_map, option_and_then, Ordering, Less, Equal, Greater, arith}
use Rattle.std.specs.Prelude.{⊤}
use Rattle.std.specs.Ordering.{match_ordering}
use Rattle.json.specs.Token.{Token}
use Rattle.json.specs.Lex.{tokens}
use Rattle.json.specs.Json as json
use Rattle.json.specs.Json.{Json, Parse, parse_map, after_end_array, read_key, items_step, members_step, value_with}
use Rattle.serde_json.specs.Data as held
use Rattle.serde_json.specs.Data.{Data, put}
use Rattle.serde_json.specs.Read.{number_of, of_json, of_items, of_members, max_depth, read}
use Rattle.tc_model.proofs.TokenWeight.{tokens_weight, text_weight}

abbrev pub AtMost : {A : Type 0} → (A → ℕ) → ℕ → Option A → Type 0
AtMost f n None = ⊤
AtMost f n (Some a) = f a ≤ n

pub at_most-map : {A B : Type 0} (f : A → ℕ) (g : B → ℕ) (m n : ℕ) (h : A → B) → ((a : A) → f a ≤ m → g (h a) ≤ n) → (o : Option A) → AtMost f m o → AtMost g n (option_map h o)
at_most-map f g m n h more None light = tt
at_most-map f g m n h more (Some a) light = more a light

pub at_most-and_then : {A B : Type 0} (f : A → ℕ) (g : B → ℕ) (m n : ℕ) (h : A → Option B) → ((a : A) → f a ≤ m → AtMost g n (h a)) → (o : Option A) → AtMost f m o → AtMost g n (option_and_then h o)
at_most-and_then f g m n h more None light = tt
at_most-and_then f g m n h more (Some a) light = more a light

-- ---- of tokens

abbrev mutual
  json_weight : Json → ℕ
  json_weight json.null = 1
  json_weight (json.boolean b) = 1
  json_weight (json.number s) = 1
  json_weight (json.string s) = 1 + length s
  json_weight (json.array js) = 1 + json_items_weight js
  json_weight (json.object ms) = 1 + json_members_weight ms

  json_items_weight : json.Items → ℕ
  json_items_weight json.no_items = 0
  json_items_weight (json.item j js) = json_weight j + json_items_weight js

  json_members_weight : json.Members → ℕ
  json_members_weight json.no_members = 0
  json_members_weight (json.member k j ms) = length k + json_weight j + json_members_weight ms

-- what was parsed, with the tokens that are left, weighs no more than the tokens
abbrev Parsed : {A : Type 0} → (A → ℕ) → ℕ → Option (A × List Token) → Type 0
Parsed f n o = AtMost (λ p. f p.0 + tokens_weight p.1) n o

abbrev Weighs : {A : Type 0} → (A → ℕ) → Parse A → Type 0
Weighs f p = (ts : List Token) → Parsed f (tokens_weight ts) (p ts)

mapped : {A B : Type 0} (f : A → ℕ) (g : B → ℕ) (c m n : ℕ) (h : A → B) → ((a : A) → g (h a) ≤ c + f a) → c + m ≤ n → (o : Option (A × List Token)) → Parsed f m o → Parsed g n (parse_map h o)
mapped f g c m n h more room None light = tt
mapped f g c m n h more room (Some p) light = omega (arith, more p.0)

array_ends : (ts : List Token) → AtMost tokens_weight (tokens_weight ts) (after_end_array ts)
array_ends [] = tt
array_ends (Token.begin_object ∷ ts) = tt
array_ends (Token.end_object ∷ ts) = tt
array_ends (Token.begin_array ∷ ts) = tt
array_ends (Token.end_array ∷ ts) = omega arith
array_ends (Token.key s ∷ ts) = tt
array_ends (Token.string s ∷ ts) = tt
array_ends (Token.number s ∷ ts) = tt
array_ends (Token.boolean b ∷ ts) = tt
array_ends (Token.null ∷ ts) = tt
array_ends (Token.bad ∷ ts) = tt

abbrev key_weight : Option (List ℕ) → ℕ
key_weight None = 0
key_weight (Some k) = length k

key_read : Weighs key_weight read_key
key_read [] = tt
key_read (Token.begin_object ∷ ts) = tt
key_read (Token.end_object ∷ ts) = omega arith
key_read (Token.begin_array ∷ ts) = tt
key_read (Token.end_array ∷ ts) = tt
key_read (Token.key s ∷ ts) = omega arith
key_read (Token.string s ∷ ts) = tt
key_read (Token.number s ∷ ts) = tt
key_read (Token.boolean b ∷ ts) = tt
key_read (Token.null ∷ ts) = tt
key_read (Token.bad ∷ ts) = tt

-- a value before what is parsed behind it
and_more : {B : Type 0} (g : B → ℕ) (c n m : ℕ) (h : Json → B → B) → ((j : Json) (b : B) → g (h j b) ≤ c + json_weight j + g b) → c + n ≤ m → (more : Parse B) → Weighs g more
    → (o : Option (Json × List Token)) → Parsed json_weight n o → Parsed g m (option_and_then (λ q. parse_map (h q.0) (more q.1)) o)
and_more g c n m h is room more weighs None light = tt
and_more g c n m h is room more weighs (Some q) light =
    mapped g g (c + json_weight q.0) (tokens_weight q.1) m (h q.0) (λ b. is q.0 b) (omega arith) (more q.1) (weighs q.1)

module _ (p : Parse Json) (weighs : Weighs json_weight p) where
  item_turn : (more : Parse json.Items) → Weighs json_items_weight more → (ts : List Token) (o : Option (List Token)) → AtMost tokens_weight (tokens_weight ts) o
      → Parsed json_items_weight (tokens_weight ts) (items_step p more ts o)
  item_turn more again ts (Some r) light = omega arith
  item_turn more again ts None light = and_more json_items_weight 0 _ _ json.item (λ j b. omega arith) (omega arith) more again (p ts) (weighs ts)

  items_weigh : (n : ℕ) → Weighs json_items_weight (json.items p n)
  unfolding json.items
  items_weigh zero ts = tt
  items_weigh (suc n) ts = item_turn (json.items p n) (items_weigh n) ts (after_end_array ts) (array_ends ts)

  member_turn : (more : Parse json.Members) → Weighs json_members_weight more → (n : ℕ) (o : Option (Option (List ℕ) × List Token)) → Parsed key_weight n o
      → Parsed json_members_weight n (option_and_then (λ q. members_step p more q.0 q.1) o)
  member_turn more again n None light = tt
  member_turn more again n (Some (None, s)) light = omega arith
  member_turn more again n (Some (Some k, s)) light = and_more json_members_weight (length k) _ _ (json.member k) (λ j b. omega arith) (omega arith) more again (p s) (weighs s)

  members_weigh : (n : ℕ) → Weighs json_members_weight (json.members p n)
  unfolding json.members
  members_weigh zero ts = tt
  members_weigh (suc n) ts = member_turn (json.members p n) (members_weigh n) _ (read_key ts) (key_read ts)

one_level : (a : Parse json.Items) (o : Parse json.Members) → Weighs json_items_weight a → Weighs json_members_weight o → Weighs json_weight (value_with a o)
one_level a o p q [] = tt
one_level a o p q (Token.begin_object ∷ ts) = mapped json_members_weight json_weight 1 _ _ json.object (λ ms. omega arith) (omega arith) (o ts) (q ts)
one_level a o p q (Token.end_object ∷ ts) = tt
one_level a o p q (Token.begin_array ∷ ts) = mapped json_items_weight json_weight 1 _ _ json.array (λ js. omega arith) (omega arith) (a ts) (p ts)
one_level a o p q (Token.end_array ∷ ts) = tt
one_level a o p q (Token.key s ∷ ts) = tt
one_level a o p q (Token.string s ∷ ts) = omega arith
one_level a o p q (Token.number s ∷ ts) = omega arith
one_level a o p q (Token.boolean b ∷ ts) = omega arith
one_level a o p q (Token.null ∷ ts) = omega arith
one_level a o p q (Token.bad ∷ ts) = tt

values_weigh : (d : ℕ) → Weighs json_weight (json.value d)
unfolding json.value
values_weigh zero = one_level (λ ts. None) (λ ts. None) (λ ts. tt) (λ ts. tt)
values_weigh (suc d) =
    one_level (λ ts. json.items (json.value d) (length ts) ts) (λ ts. json.members (json.value d) (length ts) ts)
    (λ ts. items_weigh (json.value d) (values_weigh d) (length ts) ts) (λ ts. members_weigh (json.value d) (values_weigh d) (length ts) ts)

last_value : (n : ℕ) (o : Option (Json × List Token)) → Parsed json_weight n o → AtMost json_weight n (option_and_then (λ p. json.if_last p.0 p.1) o)
last_value n None light = tt
last_value n (Some (j, [])) light = omega arith
last_value n (Some (j, t ∷ ts)) light = tt

-- ---- of values

abbrev mutual
  pub data_weight : Data → ℕ
  data_weight held.null = 1
  data_weight (held.boolean b) = 1
  data_weight (held.number n) = 1
  data_weight (held.string s) = 1 + length s
  data_weight (held.array ds) = 1 + data_items_weight ds
  data_weight (held.object ms) = 1 + data_members_weight ms

  pub data_items_weight : held.Items → ℕ
  data_items_weight held.no_items = 0
  data_items_weight (held.item d ds) = data_weight d + data_items_weight ds

  pub data_members_weight : held.Members → ℕ
  data_members_weight held.no_members = 0
  data_members_weight (held.member k d ms) = length k + data_weight d + data_members_weight ms

matched : (o : Ordering) (a b c : held.Members) (n : ℕ) → data_members_weight a ≤ n → data_members_weight b ≤ n → data_members_weight c ≤ n → data_members_weight (match_ordering o a b c) ≤ n
matched Less a b c n p q r = p
matched Equal a b c n p q r = q
matched Greater a b c n p q r = r

put_weight : (k : List ℕ) (d : Data) (ms : held.Members) → data_members_weight (put k d ms) ≤ length k + data_weight d + data_members_weight ms
put_weight k d held.no_members = omega arith
put_weight k d (held.member l e ms) =
    matched _ (held.member k d (held.member l e ms)) (held.member l d ms) (held.member l e (put k d ms)) _ (omega arith) (omega arith) (omega (arith, put_weight k d ms))

pub flat : {A : Type 0} (o : Option A) → AtMost (λ _. 0) 0 o
flat None = tt
flat (Some a) = omega arith

mutual
  of_json_weight : (j : Json) (n : ℕ) → json_weight j ≤ n → AtMost data_weight n (of_json j)
  of_json_weight json.null n light = light
  of_json_weight (json.boolean b) n light = light
  of_json_weight (json.number s) n light = at_most-map (λ _. 0) data_weight 0 n held.number (λ a less. omega arith) (number_of s) (flat (number_of s))
  of_json_weight (json.string s) n light = light
  of_json_weight (json.array js) n light = at_most-map data_items_weight data_weight (json_items_weight js) n held.array (λ a less. omega arith) (of_items js) (of_items_weight js (json_items_weight js) (omega arith))
  of_json_weight (json.object ms) n light =
      at_most-map data_members_weight data_weight (json_members_weight ms) n held.object (λ a less. omega arith) (of_members ms held.no_members) (of_members_weight ms held.no_members (json_members_weight ms) (omega arith))

  of_items_weight : (js : json.Items) (n : ℕ) → json_items_weight js ≤ n → AtMost data_items_weight n (of_items js)
  of_items_weight json.no_items n light = light
  of_items_weight (json.item j js) n light =
      at_most-and_then data_weight data_items_weight (json_weight j) n _
      (λ d least. at_most-map data_items_weight data_items_weight (json_items_weight js) n (held.item d) (λ ds less. omega arith) (of_items js) (of_items_weight js (json_items_weight js) (omega arith)))
      (of_json j) (of_json_weight j (json_weight j) (omega arith))

  of_members_weight : (ms : json.Members) (found : held.Members) (n : ℕ) → data_members_weight found + json_members_weight ms ≤ n → AtMost data_members_weight n (of_members ms found)
  of_members_weight json.no_members found n light = omega arith
  of_members_weight (json.member k j ms) found n light =
      at_most-and_then data_weight data_members_weight (json_weight j) n _ (λ d least. of_members_weight ms (put k d found) n (omega (arith, put_weight k d found))) (of_json j) (of_json_weight j (json_weight j) (omega arith))

pub read_weight : (text : List ℕ) → AtMost data_weight (length text) (read text)
read_weight text =
    at_most-and_then json_weight data_weight (tokens_weight (tokens text)) (length text) of_json (λ j light. of_json_weight j (length text) (omega (arith, text_weight text)))
    _ (last_value (tokens_weight (tokens text)) (json.value max_depth (tokens text)) (values_weigh max_depth (tokens text)))
