-- The document of an upsert weighs no more than its line.
use Rattle.std.proofs.Common.{◌≡◌, ℕ, ◌≤◌, Bool, true, false, List, [], ◌∷◌, length, Option, Some, None, option_map, option_and_then, Ordering, Less, Equal, Greater, refl, subst, arith}
use Rattle.std.specs.Prelude.{ℤ, bytes_eq, codes, nat_le, if◌then◌else◌}
use Rattle.std.specs.Ordering.{match_ordering}
use Rattle.std.specs.Str.{is_utf8}
use Rattle.std.proofs.lemmas.Bool.Decides.{nat_tests}
use Rattle.serde_json.specs.Data as json
use Rattle.serde_json.specs.Find.{get_member, as_str, as_i64}
use Rattle.serde_json.specs.Read.{read}
use Rattle.tc_model.specs.Tree.{leaf, array, object, item, Members, no_members, member, depth}
use Rattle.tc_model.specs.Document.{Name, Document, Scalar, integer, member_at}
use Rattle.tc_model.specs.Json.{json_of, document_of, items_meant, members_meant, is_whole}
use Rattle.tc_request_model.specs.Request.{Request, delete, get, query, scan, refused, too_deep, not_whole, oversized, Ask, Form, upsert_form, delete_form, get_form, query_form, flush_form, schema_form, scan_form, collect_form, names_are, value_at, if_object, if_path, ask_form, bare_form, form_named, form_of, key_of, without, with_key, within_depth, upsert_of, ask_of, command_of, request_if_known, request_if_json, request_of}
use Rattle.tc_model.specs.Limits.{max_line, max_depth}
use Rattle.tc_model.specs.Weight.{weight, items_weight, members_weight}
use Rattle.tc_request_model.specs.Light.{IsLight}
use Rattle.tc_model.proofs.ReadWeight.{AtMost, at_most-map, at_most-and_then, flat, data_weight, data_items_weight, data_members_weight, read_weight}

-- ---- documents

integer_weight : (n : ℕ) (z : Option ℤ) → 1 ≤ n → AtMost weight n (option_map (λ z. leaf (integer z)) z)
integer_weight n None light = tt
integer_weight n (Some z) light = light

mutual
  document_weight : (d : json.Data) → AtMost weight (data_weight d) (document_of d)
  document_weight json.null = omega arith
  document_weight (json.boolean b) = omega arith
  document_weight (json.number n) = integer_weight 1 (as_i64 n) (omega arith)
  document_weight (json.string s) = omega arith
  document_weight (json.array ds) = at_most-map items_weight weight (data_items_weight ds) (data_weight (json.array ds)) array (λ xs least. omega arith) (items_meant ds) (items_meant_weight ds)
  document_weight (json.object ms) = at_most-map members_weight weight (data_members_weight ms) (data_weight (json.object ms)) object (λ xs least. omega arith) (members_meant ms) (members_meant_weight ms)

  items_meant_weight : (ds : json.Items) → AtMost items_weight (data_items_weight ds) (items_meant ds)
  items_meant_weight json.no_items = omega arith
  items_meant_weight (json.item d ds) =
      at_most-and_then weight items_weight (data_weight d) (data_items_weight (json.item d ds)) _
      (λ t least. at_most-map items_weight items_weight (data_items_weight ds) (data_items_weight (json.item d ds)) (item t) (λ xs less. omega arith) (items_meant ds) (items_meant_weight ds))
      (document_of d) (document_weight d)

  members_meant_weight : (ms : json.Members) → AtMost members_weight (data_members_weight ms) (members_meant ms)
  members_meant_weight json.no_members = omega arith
  members_meant_weight (json.member n d ms) =
      at_most-and_then weight members_weight (data_weight d) (data_members_weight (json.member n d ms)) _
      (λ t least. at_most-map members_weight members_weight (data_members_weight ms) (data_members_weight (json.member n d ms)) (member n t) (λ xs less. omega arith) (members_meant ms) (members_meant_weight ms))
      (document_of d) (document_weight d)

-- ---- requests

without_weight : (name : Name) (ms : Members Name Scalar) → members_weight (without name ms) ≤ members_weight ms
without_weight name no_members = omega arith
without_weight name (member m t ms) =
    elim (bytes_eq m name) as (λ b. members_weight (if b then without name ms else member m t (without name ms)) ≤ members_weight (member m t ms)) [
      | true ↦ omega (arith, without_weight name ms)
      | false ↦ omega (arith, without_weight name ms)
    ]

keyed : (limit : ℕ) (command : ℕ → Request) (n : Option ℕ) → ((n : ℕ) → IsLight limit (command n)) → IsLight limit (with_key command n)
keyed limit command None light = tt
keyed limit command (Some n) light = light n

upserted : (limit : ℕ) (d : Document) → weight d ≤ limit → IsLight limit (upsert_of d)
upserted limit (leaf s) light = tt
upserted limit (array xs) light = tt
upserted limit (object ms) light = keyed limit _ (option_and_then key_of (member_at (codes "id") ms)) (λ n. omega (arith, without_weight (codes "id") ms))

within : (limit : ℕ) (command : Document → Request) (d : Option Document) → ((t : Document) → d ≡ Some t → IsLight limit (command t)) → IsLight limit (within_depth command d)
within limit command None light = tt
within limit command (Some t) light =
    elim (nat_le (depth t) max_depth) as (λ b. IsLight limit (if b then command t else refused too_deep)) [
      | true ↦ light t refl
      | false ↦ tt
    ]

asked : (limit : ℕ) (command : Ask → Request) (path : json.Items) (eq : Option json.Data) → ((ask : Ask) → IsLight limit (command ask)) → IsLight limit (ask_of command path eq)
asked limit command path None light = light _
asked limit command path (Some eq) light = within limit _ (document_of eq) (λ t is. light _)

abbrev form_weight : Form → ℕ
form_weight (upsert_form d) = data_weight d
form_weight (delete_form d) = 0
form_weight (get_form d) = 0
form_weight (query_form path eq) = 0
form_weight flush_form = 0
form_weight schema_form = 0
form_weight (scan_form path eq) = 0
form_weight collect_form = 0

commanded : (limit : ℕ) (form : Form) → form_weight form ≤ limit → IsLight limit (command_of form)
commanded limit (upsert_form d) least =
    within limit upsert_of (document_of d) (λ t is. let light : weight t ≤ data_weight d = subst (AtMost weight (data_weight d)) is (document_weight d) in upserted limit t (omega arith))
commanded limit (delete_form d) least = keyed limit delete (option_and_then key_of (document_of d)) (λ n. tt)
commanded limit (get_form d) least = keyed limit get (option_and_then key_of (document_of d)) (λ n. tt)
commanded limit (query_form path eq) least = asked limit query path eq (λ ask. tt)
commanded limit flush_form least = tt
commanded limit schema_form least = tt
commanded limit (scan_form path eq) least = asked limit scan path eq (λ ask. tt)
commanded limit collect_form least = tt

-- ---- the form of a command

eased : {A : Type 0} (f : A → ℕ) (m n : ℕ) (o : Option A) → m ≤ n → AtMost f m o → AtMost f n o
eased f m n None room light = tt
eased f m n (Some a) room light = omega arith

either_way : {A : Type 0} (f : A → ℕ) (n : ℕ) (b : Bool) (o p : Option A) → AtMost f n o → AtMost f n p → AtMost f n (if b then o else p)
either_way f n true o p left right = left
either_way f n false o p left right = right

by_order : {A : Type 0} (f : A → ℕ) (n : ℕ) (c : Ordering) (o p q : Option A) → AtMost f n o → AtMost f n p → AtMost f n q → AtMost f n (match_ordering c o p q)
by_order f n Less o p q x y z = x
by_order f n Equal o p q x y z = y
by_order f n Greater o p q x y z = z

got_weight : (name : Name) (ms : json.Members) → AtMost data_weight (data_members_weight ms) (get_member name ms)
got_weight name json.no_members = tt
got_weight name (json.member k d ms) =
    let later = eased data_weight (data_members_weight ms) (data_members_weight (json.member k d ms)) (get_member name ms) (omega arith) (got_weight name ms) in
    by_order data_weight _ _ (get_member name ms) (Some d) (get_member name ms) later (omega arith) later

valued : (name : Name) (names : List Name) (ms : json.Members) → AtMost data_weight (data_members_weight ms) (value_at name names ms)
valued name names ms = either_way data_weight _ (names_are names ms) (get_member name ms) None (got_weight name ms) tt

object_weight : (n : ℕ) (d : json.Data) → data_weight d ≤ n → AtMost data_weight n (if_object d)
object_weight n json.null light = tt
object_weight n (json.boolean b) light = tt
object_weight n (json.number m) light = tt
object_weight n (json.string s) light = tt
object_weight n (json.array ds) light = tt
object_weight n (json.object ms) light = light

-- a form without a document weighs nothing
weightless : {A : Type 0} (n : ℕ) (form : A → Form) (o : Option A) → ((a : A) → form_weight (form a) ≡ 0) → AtMost form_weight n (option_map form o)
weightless n form None none = tt
weightless n form (Some a) none = omega (arith, none a)

ask_weight : (n : ℕ) (form : json.Items → Option json.Data → Form) (ms : json.Members) → ((path : json.Items) (eq : Option json.Data) → form_weight (form path eq) ≡ 0) → AtMost form_weight n (ask_form form ms)
ask_weight n form ms none =
    either_way form_weight n (names_are (codes "eq" ∷ codes "op" ∷ codes "path" ∷ []) ms) _ _
    (weightless n _ (option_and_then if_path (get_member (codes "path") ms)) (λ path. none path _))
    (weightless n _ (option_and_then if_path (value_at (codes "path") (codes "op" ∷ codes "path" ∷ []) ms)) (λ path. none path _))

bare_weight : (n : ℕ) (form : Form) (ms : json.Members) → form_weight form ≡ 0 → AtMost form_weight n (bare_form form ms)
bare_weight n form ms none = either_way form_weight n (names_are (codes "op" ∷ []) ms) (Some form) None (omega arith) tt

named_weight : (op : Name) (ms : json.Members) → AtMost form_weight (data_members_weight ms) (form_named op ms)
named_weight op ms =
    let n = data_members_weight ms in
    let doc = value_at (codes "doc") (codes "doc" ∷ codes "op" ∷ []) ms in
    let upserts = at_most-map data_weight form_weight n n upsert_form (λ d least. least) (option_and_then if_object doc) (at_most-and_then data_weight data_weight n n if_object (λ d least. object_weight n d least) doc (valued (codes "doc") (codes "doc" ∷ codes "op" ∷ []) ms)) in
    either_way form_weight n (bytes_eq op (codes "upsert")) _ _ upserts
    (either_way form_weight n (bytes_eq op (codes "delete")) _ _ (weightless n delete_form _ (λ d. refl))
    (either_way form_weight n (bytes_eq op (codes "get")) _ _ (weightless n get_form _ (λ d. refl))
    (either_way form_weight n (bytes_eq op (codes "query")) _ _ (ask_weight n query_form ms (λ path eq. refl))
    (either_way form_weight n (bytes_eq op (codes "flush")) _ _ (bare_weight n flush_form ms refl)
    (either_way form_weight n (bytes_eq op (codes "schema")) _ _ (bare_weight n schema_form ms refl)
    (either_way form_weight n (bytes_eq op (codes "scan")) _ _ (ask_weight n scan_form ms (λ path eq. refl))
    (either_way form_weight n (bytes_eq op (codes "collect")) _ None (bare_weight n collect_form ms refl) tt)))))))

formed : (d : json.Data) → AtMost form_weight (data_weight d) (form_of d)
formed json.null = tt
formed (json.boolean b) = tt
formed (json.number n) = tt
formed (json.string s) = tt
formed (json.array ds) = tt
formed (json.object ms) =
    at_most-and_then (λ op. 0) form_weight 0 (data_weight (json.object ms)) _ (λ op least. eased form_weight (data_members_weight ms) (data_weight (json.object ms)) (form_named op ms) (omega arith) (named_weight op ms))
    (option_and_then as_str (get_member (codes "op") ms)) (flat (option_and_then as_str (get_member (codes "op") ms)))

-- ---- lines

known : (limit : ℕ) (d : json.Data) (form : Option Form) → AtMost form_weight limit form → IsLight limit (request_if_known d form)
known limit d None light = tt
known limit d (Some form) light =
    elim (is_whole d) as (λ b. IsLight limit (if b then command_of form else refused not_whole)) [
      | true ↦ commanded limit form light
      | false ↦ tt
    ]

read_request : (limit : ℕ) (d : Option json.Data) → AtMost data_weight limit d → IsLight limit (request_if_json d)
read_request limit None light = tt
read_request limit (Some d) light = known limit d (form_of d) (eased form_weight (data_weight d) limit (form_of d) light (formed d))

judged : (line : List ℕ) (b : Bool) → nat_le (length line) max_line ≡ b → IsLight max_line (if b then request_if_json (json_of line) else refused oversized)
judged line true is =
    read_request max_line (json_of line) (either_way data_weight max_line (is_utf8 line) (read line) None (eased data_weight (length line) max_line (read line) (grind (arith, nat_tests)) (read_weight line)) tt)
judged line false is = tt

-- no document of an upsert weighs more than a line has room for
pub request_weight : (line : List ℕ) → IsLight max_line (request_of line)
request_weight line = judged line (nat_le (length line) max_line) refl

in_line : (line : List ℕ) (b : Bool) → IsLight (length line) (if b then request_if_json (json_of line) else refused oversized)
in_line line true = read_request (length line) (json_of line) (either_way data_weight (length line) (is_utf8 line) (read line) None (read_weight line) tt)
in_line line false = tt

-- nor more than its own line has bytes
pub request_in_line : (line : List ℕ) → IsLight (length line) (request_of line)
request_in_line line = in_line line (nat_le (length line) max_line)
