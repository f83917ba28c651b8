-- The replies of partitions put together, and what they show.
use Rattle.std.specs.Prelude.{◌≡◌, ℕ, List, [], ◌++◌, map, fold, flat_map, Option, Some, None}
use Rattle.tc_model.specs.Keyed.{Keyed, value_of, with_value, values_in, on_value}
use Rattle.tc_request_model.specs.Reply.{Reply, Row}
use Rattle.tc_request_model.specs.Reply as reply
use Rattle.tc_request_model.specs.Rendered.{Rendered, RowText}
use Rattle.tc_request_model.specs.Rendered as rendered

-- ---- rows, or their texts

-- rows by key, with one more
abbrev pub with_keyed : {R : Type 0} → (R → ℕ) → Keyed R → R → Keyed R
with_keyed key all r = with_value (key r) r all

-- rows in ascending key
abbrev pub in_key_order : {R : Type 0} → (R → ℕ) → List R → List R
in_key_order key rs = values_in (fold (with_keyed key) [] rs)

abbrev pub with_row : Keyed Row → Row → Keyed Row
with_row = with_keyed (λ r. r.key)

abbrev pub in_order : List Row → List Row
in_order = in_key_order (λ r. r.key)

abbrev pub with_text : Keyed RowText → RowText → Keyed RowText
with_text = with_keyed (λ t. t.key)

abbrev pub texts_in_order : List RowText → List RowText
texts_in_order = in_key_order (λ t. t.key)

-- ---- replies, or what they show

-- two replies to one request: rows of two partitions are one list of rows
abbrev pub joined : Reply → Reply → Reply
joined (reply.rows rs) (reply.rows more) = reply.rows (in_order (rs ++ more))
joined a b = a

abbrev pub joined_rendered : Rendered → Rendered → Rendered
joined_rendered (rendered.rows ts) (rendered.rows more) = rendered.rows (texts_in_order (ts ++ more))
joined_rendered a b = a

-- a reply beside the one that is there, if there is one
abbrev pub beside_by : {A : Type 0} → (A → A → A) → Option A → A → A
beside_by join None a = a
beside_by join (Some first) a = join first a

-- replies by place, with one more
abbrev pub with_reply_by : {A : Type 0} → (A → A → A) → Keyed A → ℕ × A → Keyed A
with_reply_by join all a = with_value a.0 (beside_by join (value_of a.0 all) a.1) all

-- the replies of several partitions, in ascending place
abbrev pub gathered_by : {A : Type 0} → (A → A → A) → List (Keyed A) → Keyed A
gathered_by join parts = fold (with_reply_by join) [] (flat_map (λ replies. replies) parts)

abbrev pub beside : Option Reply → Reply → Reply
beside = beside_by joined

abbrev pub with_reply : Keyed Reply → ℕ × Reply → Keyed Reply
with_reply = with_reply_by joined

abbrev pub gathered : List (Keyed Reply) → Keyed Reply
gathered = gathered_by joined

abbrev pub beside_rendered : Option Rendered → Rendered → Rendered
beside_rendered = beside_by joined_rendered

abbrev pub with_rendered : Keyed Rendered → ℕ × Rendered → Keyed Rendered
with_rendered = with_reply_by joined_rendered

abbrev pub gathered_rendered : List (Keyed Rendered) → Keyed Rendered
gathered_rendered = gathered_by joined_rendered

-- what replies render, put together, is what the replies render that are put together
abbrev pub AreRenderedGathered : Type 0
AreRenderedGathered = (parts : List (Keyed Reply)) → gathered_rendered (map (map (on_value rendered.rendered)) parts) ≡ map (on_value rendered.rendered) (gathered parts)
