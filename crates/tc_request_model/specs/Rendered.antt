-- What a reply shows: the texts of its documents, rows and schemas in their places. Rows keep their keys, by which those of
-- several partitions are put in order.
use Rattle.std.specs.Prelude.{ℕ, Bool, true, false, List, [], ◌∷◌, ◌++◌, map, codes, Option, Some, None, option_map}
use Rattle.serde_json.specs.Data.{array}
use Rattle.serde_json.specs.Written.{compact_text, comma_if}
use Rattle.tc_model.specs.Document.{Document}
use Rattle.tc_request_model.specs.Request.{Refusal}
use Rattle.tc_request_model.specs.Reply.{Reply, Row, with_id, row_data, counts_data, reply_line}
use Rattle.tc_request_model.specs.Reply as reply

pub record RowText : Type 0 where
  pub key : ℕ
  pub text : List ℕ

pub data Rendered : Type 0 where
  upserted : ℕ → Bool → Rendered
  deleted : ℕ → Bool → Rendered
  got : ℕ → Option (List ℕ) → Rendered
  rows : List RowText → Rendered
  flushed : Rendered
  schemas : List (List ℕ) → Rendered
  started : Rendered
  collected : List RowText → List ℕ → Rendered
  turned_down : Refusal → Rendered

-- the text of a document with its member `id` put back, and that of a row
abbrev pub document_text : ℕ → Document → List ℕ
document_text n d = compact_text (with_id n d)

abbrev pub row_text : Row → RowText
row_text r = record { key = r.key; text = compact_text (row_data r) }

abbrev pub rendered : Reply → Rendered
rendered (reply.upserted n replaced) = upserted n replaced
rendered (reply.deleted n found) = deleted n found
rendered (reply.got n d) = got n (option_map (document_text n) d)
rendered (reply.rows rs) = rows (map row_text rs)
rendered reply.flushed = flushed
rendered (reply.schemas ds) = schemas (map compact_text ds)
rendered reply.started = started
rendered (reply.collected rs upto) = collected (map row_text rs) upto
rendered (reply.turned_down r) = turned_down r

-- ---- its line

abbrev pub text_or_null : Option (List ℕ) → List ℕ
text_or_null None = codes "null"
text_or_null (Some text) = text

-- texts with a comma between two, and the bracket behind the last, as the items of an array are written
abbrev pub texts_listed : Bool → List (List ℕ) → List ℕ
texts_listed later [] = 93 ∷ []
texts_listed later (t ∷ ts) = comma_if later ++ (t ++ texts_listed true ts)

abbrev pub texts_array : List (List ℕ) → List ℕ
texts_array ts = 91 ∷ texts_listed false ts

abbrev pub rows_array : List RowText → List ℕ
rows_array ts = texts_array (map (λ t. t.text) ts)

abbrev pub got_line : Option (List ℕ) → List ℕ
got_line text = codes "{\"doc\":" ++ (text_or_null text ++ codes "}\n")

abbrev pub rows_line : List RowText → List ℕ
rows_line ts = codes "{\"rows\":" ++ (rows_array ts ++ codes "}\n")

abbrev pub schemas_line : List (List ℕ) → List ℕ
schemas_line ts = codes "{\"schemas\":" ++ (texts_array ts ++ codes "}\n")

abbrev pub collected_line : List RowText → List ℕ → List ℕ
collected_line ts upto = codes "{\"rows\":" ++ (rows_array ts ++ (codes ",\"upto\":" ++ (compact_text (array (counts_data upto)) ++ codes "}\n")))

-- the bytes of the reply's line, by what it shows
abbrev pub rendered_line : Rendered → List ℕ
rendered_line (upserted n replaced) = reply_line (reply.upserted n replaced)
rendered_line (deleted n found) = reply_line (reply.deleted n found)
rendered_line (got n text) = got_line text
rendered_line (rows ts) = rows_line ts
rendered_line flushed = reply_line reply.flushed
rendered_line (schemas ts) = schemas_line ts
rendered_line started = reply_line reply.started
rendered_line (collected ts upto) = collected_line ts upto
rendered_line (turned_down r) = reply_line (reply.turned_down r)
