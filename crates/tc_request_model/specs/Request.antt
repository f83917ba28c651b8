-- What a line asks for. A line is one JSON object; the refusals are tested in the order in which they stand here.
use Rattle.std.specs.Prelude.{ℕ, ℤ, pos, List, [], ◌∷◌, length, codes, bytes_eq, Bool, true, false, ◌&&◌, nat_le, if◌then◌else◌, Option, Some, None, option_map, option_and_then}
use Rattle.serde_json.specs.Data as json
use Rattle.serde_json.specs.Find.{get_member, as_str}
use Rattle.tc_model.specs.Tree.{leaf, array, object, Items, no_items, item, Members, no_members, member, depth}
use Rattle.tc_model.specs.Document.{Name, Document, Scalar, integer, text, member_at}
use Rattle.tc_model.specs.Limits.{max_line, max_depth}
use Rattle.tc_model.specs.Json.{json_of, document_of, is_whole}

-- why a line is refused
pub data Refusal : Type 0 where
  oversized : Refusal
  malformed : Refusal
  unknown : Refusal
  not_whole : Refusal
  too_deep : Refusal
  no_key : Refusal
  names_full : Refusal
  full : Refusal
  busy : Refusal
  no_scan : Refusal

-- a step of a path: to a member by name, to an item by place, or to every item
pub data Hop : Type 0 where
  to_name : Name → Hop
  to_place : ℤ → Hop
  to_each : Hop

-- which documents and values a query asks for
pub record Ask : Type 0 where
  pub path : List Hop
  pub equal_to : Option Document

-- what a line asks for; the document of an upsert lacks its member `id`, which stands beside it as the key
pub data Request : Type 0 where
  upsert : ℕ → Document → Request
  delete : ℕ → Request
  get : ℕ → Request
  query : Ask → Request
  flush : Request
  schema : Request
  scan : Ask → Request
  collect : Request
  refused : Refusal → Request

-- ---- the form of a command: its `op`, and values under exactly the names that it has

pub data Form : Type 0 where
  upsert_form : json.Data → Form
  delete_form : json.Data → Form
  get_form : json.Data → Form
  query_form : json.Items → Option json.Data → Form
  flush_form : Form
  schema_form : Form
  scan_form : json.Items → Option json.Data → Form
  collect_form : Form

-- the members have exactly these names
abbrev pub names_are : List Name → json.Members → Bool
names_are [] json.no_members = true
names_are [] (json.member m d ms) = false
names_are (n ∷ ns) json.no_members = false
names_are (n ∷ ns) (json.member m d ms) = bytes_eq m n && names_are ns ms

-- the value under a name, where the members have exactly these names
abbrev pub value_at : Name → List Name → json.Members → Option json.Data
value_at name names ms = if names_are names ms then get_member name ms else None

abbrev pub if_object : json.Data → Option json.Data
if_object (json.object ms) = Some (json.object ms)
if_object _ = None

-- a text, a number or null
abbrev pub is_hop : json.Data → Bool
is_hop json.null = true
is_hop (json.number n) = true
is_hop (json.string s) = true
is_hop _ = false

abbrev pub are_hops : json.Items → Bool
are_hops json.no_items = true
are_hops (json.item d ds) = is_hop d && are_hops ds

abbrev pub if_path : json.Data → Option json.Items
if_path (json.array ds) = if are_hops ds then Some ds else None
if_path _ = None

-- the path and the `eq` of a query or a scan, where `eq` is free
abbrev pub ask_form : (json.Items → Option json.Data → Form) → json.Members → Option Form
ask_form form ms =
    if names_are (codes "eq" ∷ codes "op" ∷ codes "path" ∷ []) ms
    then option_map (λ path. form path (get_member (codes "eq") ms)) (option_and_then if_path (get_member (codes "path") ms))
    else option_map (λ path. form path None) (option_and_then if_path (value_at (codes "path") (codes "op" ∷ codes "path" ∷ []) ms))

-- a command with no other member than `op`
abbrev pub bare_form : Form → json.Members → Option Form
bare_form form ms = if names_are (codes "op" ∷ []) ms then Some form else None

abbrev pub form_named : Name → json.Members → Option Form
form_named op ms =
    if bytes_eq op (codes "upsert") then option_map upsert_form (option_and_then if_object (value_at (codes "doc") (codes "doc" ∷ codes "op" ∷ []) ms))
    else (if bytes_eq op (codes "delete") then option_map delete_form (value_at (codes "id") (codes "id" ∷ codes "op" ∷ []) ms)
    else (if bytes_eq op (codes "get") then option_map get_form (value_at (codes "id") (codes "id" ∷ codes "op" ∷ []) ms)
    else (if bytes_eq op (codes "query") then ask_form query_form ms
    else (if bytes_eq op (codes "flush") then bare_form flush_form ms
    else (if bytes_eq op (codes "schema") then bare_form schema_form ms
    else (if bytes_eq op (codes "scan") then ask_form scan_form ms
    else (if bytes_eq op (codes "collect") then bare_form collect_form ms
    else None)))))))

-- the form of a command, or none where the value is no command
abbrev pub form_of : json.Data → Option Form
form_of (json.object ms) = option_and_then (λ op. form_named op ms) (option_and_then as_str (get_member (codes "op") ms))
form_of _ = None

-- ---- the command, of which each number is whole

-- a key is a number that is not negative
abbrev pub key_of : Document → Option ℕ
key_of (leaf (integer (pos n))) = Some n
key_of _ = None

-- the members but the one of a name
abbrev pub without : Name → Members Name Scalar → Members Name Scalar
without n no_members = no_members
without n (member m t ms) = if bytes_eq m n then without n ms else member m t (without n ms)

abbrev pub with_key : (ℕ → Request) → Option ℕ → Request
with_key command None = refused no_key
with_key command (Some n) = command n

-- a document within the depth, or the refusal
abbrev pub within_depth : (Document → Request) → Option Document → Request
within_depth command None = refused not_whole
within_depth command (Some d) = if nat_le (depth d) max_depth then command d else refused too_deep

abbrev pub upsert_of : Document → Request
upsert_of (object ms) =
    with_key (λ n. upsert n (object (without (codes "id") ms))) (option_and_then key_of (member_at (codes "id") ms))
upsert_of _ = refused unknown

-- the step that a value of a path is
abbrev pub hop_of : Document → Hop
hop_of (leaf (integer z)) = to_place z
hop_of (leaf (text s)) = to_name s
hop_of _ = to_each

abbrev pub hops_of : Items Name Scalar → List Hop
hops_of no_items = []
hops_of (item d ds) = hop_of d ∷ hops_of ds

abbrev pub path_of : Option Document → List Hop
path_of (Some (array ds)) = hops_of ds
path_of _ = []

abbrev pub ask_of : (Ask → Request) → json.Items → Option json.Data → Request
ask_of command path None = command (record { path = path_of (document_of (json.array path)); equal_to = None })
ask_of command path (Some eq) =
    within_depth (λ d. command (record { path = path_of (document_of (json.array path)); equal_to = Some d })) (document_of eq)

abbrev pub command_of : Form → Request
command_of (upsert_form d) = within_depth upsert_of (document_of d)
command_of (delete_form d) = with_key delete (option_and_then key_of (document_of d))
command_of (get_form d) = with_key get (option_and_then key_of (document_of d))
command_of (query_form path eq) = ask_of query path eq
command_of flush_form = flush
command_of schema_form = schema
command_of (scan_form path eq) = ask_of scan path eq
command_of collect_form = collect

-- ---- a line

abbrev pub request_if_known : json.Data → Option Form → Request
request_if_known d None = refused unknown
request_if_known d (Some form) = if is_whole d then command_of form else refused not_whole

abbrev pub request_if_json : Option json.Data → Request
request_if_json None = refused malformed
request_if_json (Some d) = request_if_known d (form_of d)

-- what a line asks for
abbrev pub request_of : List ℕ → Request
request_of line = if nat_le (length line) max_line then request_if_json (json_of line) else refused oversized
