-- What the store answers: one line of compact JSON a request.
use Rattle.std.specs.Prelude.{ℕ, Bool, List, [], ◌∷◌, ◌++◌, codes, Option, Some, None}
use Rattle.serde_json.specs.Data as json
use Rattle.serde_json.specs.Written.{compact_text}
use Rattle.tc_model.specs.Tree.{leaf, array, object}
use Rattle.tc_model.specs.Document.{Document}
use Rattle.tc_model.specs.Json.{data_of, members_data}
use Rattle.tc_model.specs.Lines.{feed}
use Rattle.tc_request_model.specs.Request.{Refusal, oversized, malformed, unknown, not_whole, too_deep, no_key, names_full, full, busy, no_scan}

-- the values that a path reached in the document of a key
pub record Row : Type 0 where
  pub key : ℕ
  pub values : List Document

-- a reply; the document of `got` lacks its member `id`
pub data Reply : Type 0 where
  upserted : ℕ → Bool → Reply
  deleted : ℕ → Bool → Reply
  got : ℕ → Option Document → Reply
  rows : List Row → Reply
  flushed : Reply
  schemas : List json.Data → Reply
  started : Reply
  collected : List Row → List ℕ → Reply
  turned_down : Refusal → Reply

-- ---- its JSON, whose members stand in ascending order

-- a number that is not negative
abbrev pub count : ℕ → json.Data
count n = json.number (json.unsigned n)

abbrev pub refusal_name : Refusal → List ℕ
refusal_name oversized = codes "oversized"
refusal_name malformed = codes "malformed"
refusal_name unknown = codes "unknown"
refusal_name not_whole = codes "not_whole"
refusal_name too_deep = codes "too_deep"
refusal_name no_key = codes "key"
refusal_name names_full = codes "names_full"
refusal_name full = codes "full"
refusal_name busy = codes "busy"
refusal_name no_scan = codes "no_scan"

abbrev pub one_member : List ℕ → json.Data → json.Data
one_member name d = json.object (json.member name d json.no_members)

abbrev pub two_members : List ℕ → json.Data → List ℕ → json.Data → json.Data
two_members name d other e = json.object (json.member name d (json.member other e json.no_members))

-- a document with its member `id` put back
abbrev pub with_id : ℕ → Document → json.Data
with_id n (object ms) = json.object (json.put (codes "id") (count n) (members_data ms))
with_id n (array xs) = data_of (array xs)
with_id n (leaf s) = data_of (leaf s)

abbrev pub document_or_null : ℕ → Option Document → json.Data
document_or_null n None = json.null
document_or_null n (Some d) = with_id n d

abbrev pub values_data : List Document → json.Items
values_data [] = json.no_items
values_data (d ∷ ds) = json.item (data_of d) (values_data ds)

abbrev pub row_data : Row → json.Data
row_data r = two_members (codes "id") (count r.key) (codes "values") (json.array (values_data r.values))

abbrev pub rows_data : List Row → json.Items
rows_data [] = json.no_items
rows_data (r ∷ rs) = json.item (row_data r) (rows_data rs)

abbrev pub counts_data : List ℕ → json.Items
counts_data [] = json.no_items
counts_data (n ∷ ns) = json.item (count n) (counts_data ns)

abbrev pub schemas_data : List json.Data → json.Items
schemas_data [] = json.no_items
schemas_data (d ∷ ds) = json.item d (schemas_data ds)

abbrev pub reply_data : Reply → json.Data
reply_data (upserted n replaced) = two_members (codes "id") (count n) (codes "replaced") (json.boolean replaced)
reply_data (deleted n found) = two_members (codes "found") (json.boolean found) (codes "id") (count n)
reply_data (got n d) = one_member (codes "doc") (document_or_null n d)
reply_data (rows rs) = one_member (codes "rows") (json.array (rows_data rs))
reply_data flushed = one_member (codes "flush") (json.string (codes "done"))
reply_data (schemas ds) = one_member (codes "schemas") (json.array (schemas_data ds))
reply_data started = one_member (codes "scan") (json.string (codes "started"))
reply_data (collected rs upto) = two_members (codes "rows") (json.array (rows_data rs)) (codes "upto") (json.array (counts_data upto))
reply_data (turned_down r) = one_member (codes "refused") (json.string (refusal_name r))

-- the bytes of a reply: its compact text and a line feed
abbrev pub reply_line : Reply → List ℕ
reply_line r = compact_text (reply_data r) ++ feed ∷ []
