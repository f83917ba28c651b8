-- A line whose document is that of an upsert asks for this upsert.
use Rattle.std.proofs.Common.{◌≡◌, ◌∙◌, ◌≤◌, ℕ, List, codes, Bool, if◌then◌else◌, Option, None, Some, is_some, IfSome, option_map, option_and_then, nat_le, true, IsUtf8, refl, sym, ap, subst, arith}
use Rattle.std.proofs.lemmas.Bool.Decides.{nat_tests}
use Rattle.std.proofs.lemmas.Option.{none-some, same_Some, option_and_then_some}
use Rattle.serde_json.specs.Data as json
use Rattle.serde_json.specs.Find.{as_i64}
use Rattle.serde_json.specs.Read.{read}
use Rattle.tc_model.specs.Tree.{leaf, array, object, Members, no_members, member, depth}
use Rattle.tc_model.specs.Document.{Name, Document, Scalar, integer, text}
use Rattle.tc_model.specs.Limits.{max_depth}
use Rattle.tc_model.specs.Json.{json_of, document_of, items_meant, members_meant}
use Rattle.tc_request_model.specs.Request.{refused, too_deep, not_whole, request_if_json, within_depth, upsert_of}
use Rattle.tc_value.specs.Meaning.{tree_of}
use Rattle.tc_value.specs.declared.document.Doc.{Doc}
use Rattle.tc_command.proofs.Utf8Lemmas.{json_of-utf8}
use Rattle.tc_command_reader.specs.UpsertLine.{upsert_line}

-- ---- the JSON value whose document is that of an upsert

option_map_some : {A B P : Type 0} (f : A → B) (o : Option A) (y : B) → option_map f o ≡ Some y → ((x : A) → o ≡ Some x → f x ≡ y → P) → P
option_map_some f None y e k = absurd (none-some y e)
option_map_some f (Some x) y e k = k x refl (same_Some (f x) y e)

-- a value that means a text is that text
is_string : (v : json.Data) (s : List ℕ) → document_of v ≡ Some (leaf (text s)) → v ≡ json.string s
is_string json.null s e = cc
is_string (json.boolean b) s e = cc
is_string (json.number n) s e = option_map_some (λ z. leaf (integer z)) (as_i64 n) (leaf (text s)) e (λ z is clash. cc)
is_string (json.string t) s e = cc
is_string (json.array vs) s e = option_map_some array (items_meant vs) (leaf (text s)) e (λ xs is clash. cc)
is_string (json.object ms) s e = option_map_some object (members_meant ms) (leaf (text s)) e (λ xs is clash. cc)

-- members that mean one before others are a member before others
record BeginsWith (ms : json.Members) (n : Name) (d : Document) (xs : Members Name Scalar) : Type 0 where
  value : json.Data
  rest : json.Members
  is : ms ≡ json.member n value rest
  meant : document_of value ≡ Some d
  others : members_meant rest ≡ Some xs

begins_with : (ms : json.Members) (n : Name) (d : Document) (xs : Members Name Scalar) → members_meant ms ≡ Some (member n d xs) → BeginsWith ms n d xs
begins_with json.no_members n d xs e = absurd (cc)
begins_with (json.member m v rest) n d xs e =
    option_and_then_some (λ t. option_map (member m t) (members_meant rest)) (document_of v) (member n d xs) e (λ t meant more.
    option_map_some (member m t) (members_meant rest) (member n d xs) more (λ r others same. parts t r meant others same))
  where
    parts : (t : Document) (r : Members Name Scalar) → document_of v ≡ Some t → members_meant rest ≡ Some r → member m t r ≡ member n d xs → BeginsWith (json.member m v rest) n d xs
    parts t r meant others same =
        let name : m ≡ n = cc in
        let value : t ≡ d = cc in
        let behind : r ≡ xs = cc in
        record { value = v; rest = rest; is = ap (λ k. json.member k v rest) name; meant = meant ∙ ap Some value; others = others ∙ ap Some behind }

-- members that mean none are none
none_meant : (ms : json.Members) → members_meant ms ≡ Some no_members → ms ≡ json.no_members
none_meant json.no_members e = refl
none_meant (json.member m v rest) e =
    option_and_then_some (λ t. option_map (member m t) (members_meant rest)) (document_of v) no_members e (λ t meant more.
    option_map_some (member m t) (members_meant rest) no_members more (λ r others clash. cc))

-- the JSON value of a line that upserts what this value means
abbrev upserting : json.Data → json.Data
upserting v = json.object (json.member (codes "doc") v (json.member (codes "op") (json.string (codes "upsert")) json.no_members))

joined : (ms rest none : json.Members) (v w : json.Data) → ms ≡ json.member (codes "doc") v rest → rest ≡ json.member (codes "op") w none → w ≡ json.string (codes "upsert") → none ≡ json.no_members
    → json.object ms ≡ upserting v
joined ms rest none v w doc op is end = cc

record IsUpserting (line : json.Data) (d : Document) : Type 0 where
  value : json.Data
  is : line ≡ upserting value
  meant : document_of value ≡ Some d

is_upserting : (line : json.Data) (d : Document) → document_of line ≡ Some (upsert_line d) → IsUpserting line d
is_upserting json.null d e = absurd (cc)
is_upserting (json.boolean b) d e = absurd (cc)
is_upserting (json.number n) d e = option_map_some (λ z. leaf (integer z)) (as_i64 n) (upsert_line d) e (λ z is clash. absurd (cc))
is_upserting (json.string t) d e = absurd (cc)
is_upserting (json.array vs) d e = option_map_some array (items_meant vs) (upsert_line d) e (λ xs is clash. absurd (cc))
is_upserting (json.object ms) d e = option_map_some object (members_meant ms) (upsert_line d) e (λ xs is same. of_members xs is same)
  where
    of_members : (xs : Members Name Scalar) → members_meant ms ≡ Some xs → object xs ≡ upsert_line d → IsUpserting (json.object ms) d
    of_members xs is same =
        let inner : xs ≡ member (codes "doc") d (member (codes "op") (leaf (text (codes "upsert"))) no_members) = cc in
        let doc = begins_with ms (codes "doc") d (member (codes "op") (leaf (text (codes "upsert"))) no_members) (is ∙ ap Some inner) in
        let op = begins_with doc.rest (codes "op") (leaf (text (codes "upsert"))) no_members doc.others in
        record {
          value = doc.value;
          meant = doc.meant;
          is = joined ms doc.rest op.rest doc.value op.value doc.is op.is (is_string op.value (codes "upsert") op.meant) (none_meant op.rest op.others);
        }

-- ---- what it asks for

-- an upsert of a document within the depth is not refused for it
within : (d : Document) → depth d ≤ max_depth → within_depth upsert_of (Some d) ≡ upsert_of d
within d shallow = at_test (nat_le (depth d) max_depth) (grind (arith, nat_tests))
  where
    at_test : (b : Bool) → b ≡ true → (if b then upsert_of d else refused too_deep) ≡ upsert_of d
    at_test b is = ap (λ x. if x then upsert_of d else refused too_deep) is

-- what the line asks for where its document is an object, by what that means
at_object : (o : Option Document) (d : Document) → o ≡ Some d → depth d ≤ max_depth
    → (if is_some (option_map object (option_and_then (λ t. option_map (member (codes "doc") t) (Some (member (codes "op") (leaf (text (codes "upsert"))) no_members))) o))
    then within_depth upsert_of o else refused not_whole) ≡ upsert_of d
at_object o d is shallow =
    ap (λ p. if is_some (option_map object (option_and_then (λ t. option_map (member (codes "doc") t) (Some (member (codes "op") (leaf (text (codes "upsert"))) no_members))) p))
    then within_depth upsert_of p else refused not_whole) is
    ∙ within d shallow

asked_of : (v : json.Data) (d : Document) → document_of v ≡ Some d → depth d ≤ max_depth → request_if_json (Some (upserting v)) ≡ upsert_of d
asked_of json.null d e shallow = ap upsert_of (same_Some _ _ e)
asked_of (json.boolean b) d e shallow = ap upsert_of (same_Some _ _ e)
asked_of (json.number n) d e shallow = option_map_some (λ z. leaf (integer z)) (as_i64 n) d e (λ z is same. ap upsert_of same)
asked_of (json.string s) d e shallow = ap upsert_of (same_Some _ _ e)
asked_of (json.array vs) d e shallow = option_map_some array (items_meant vs) d e (λ xs is same. ap upsert_of same)
asked_of (json.object ms) d e shallow = at_object (document_of (json.object ms)) d e shallow

-- a line whose document is that of an upsert within the depth asks for this upsert
asked_in : (line : List ℕ) (d : Document) → json_of line ≡ read line → option_and_then document_of (read line) ≡ Some (upsert_line d) → depth d ≤ max_depth
    → request_if_json (json_of line) ≡ upsert_of d
asked_in line d is means shallow =
    option_and_then_some document_of (read line) (upsert_line d) means (λ value reads meant.
    let upsert = is_upserting value d meant in
    ap request_if_json (is ∙ reads ∙ ap Some upsert.is) ∙ asked_of upsert.value d upsert.meant shallow)

-- the same of the document that was found in what was read of the line's text
pub asked_by : (line bytes : List ℕ) (read_of : Option Doc) (whole : Doc) (found : Option Doc) → IsUtf8 line → bytes ≡ line
    → IfSome read_of (λ doc. option_and_then document_of (read bytes) ≡ Some (tree_of doc)) → read_of ≡ Some whole
    → IfSome found (λ doc. tree_of whole ≡ upsert_line (tree_of doc)) → IfSome found (λ doc. depth (tree_of doc) ≤ max_depth)
    → IfSome found (λ doc. request_if_json (json_of line) ≡ upsert_of (tree_of doc))
asked_by line bytes read_of whole None utf8 same meant is upserts shallow = tt
asked_by line bytes read_of whole (Some doc) utf8 same meant is upserts shallow =
    let means : option_and_then document_of (read bytes) ≡ Some (tree_of whole) = subst (λ o. IfSome o (λ d. option_and_then document_of (read bytes) ≡ Some (tree_of d))) is meant in
    asked_in line (tree_of doc) (json_of-utf8 line utf8) (ap (λ b. option_and_then document_of (read b)) (sym same) ∙ means ∙ ap Some upserts) shallow
