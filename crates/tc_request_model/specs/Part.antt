-- What one partition answers to a request for it, what it writes, and what it then stores. A refused request changes
-- nothing.
use Rattle.std.specs.Prelude.{ℕ, List, [], ◌∷◌, ◌++◌, fold, is_some, Option, Some, None, if◌then◌else◌}
use Rattle.tc_model.specs.Document.{Document}
use Rattle.tc_request_model.specs.Request.{Request, upsert, delete, get, query, flush, schema, scan, collect, refused, Refusal, names_full, full, unknown}
use Rattle.tc_request_model.specs.Reply.{Reply, upserted, deleted, got, rows, turned_down}
use Rattle.tc_plain_model.specs.Writes.{Write, set, unset}
use Rattle.tc_plain_model.specs.Store.{Store, stored, with_pair, without_pair}
use Rattle.tc_plain_model.specs.Room.{Limits, lacks_names, lacks_room}
use Rattle.tc_request_model.specs.Rows.{rows_over}

-- ---- refusals

-- why an upsert is refused, if it is
abbrev pub upsert_refusal : Limits → ℕ → Document → Store → Option Refusal
upsert_refusal limits n d s =
    if lacks_names limits d s.taken then Some names_full
    else (if lacks_room limits n s then Some full else None)

-- what comes of an upsert: the one where it is accepted, the other where it is refused
abbrev pub unless_refused : {A : Type 0} → Option Refusal → A → (Refusal → A) → A
unless_refused None accepted otherwise = accepted
unless_refused (Some r) accepted otherwise = otherwise r

-- ---- one request

-- the reply; requests for the whole store are none for a partition
abbrev pub part_reply : Limits → Request → Store → Reply
part_reply limits (upsert n d) s = unless_refused (upsert_refusal limits n d s) (upserted n (is_some (stored n s))) turned_down
part_reply limits (delete n) s = deleted n (is_some (stored n s))
part_reply limits (get n) s = got n (stored n s)
part_reply limits (query ask) s = rows (rows_over ask s.pairs)
part_reply limits flush s = turned_down unknown
part_reply limits schema s = turned_down unknown
part_reply limits (scan ask) s = turned_down unknown
part_reply limits collect s = turned_down unknown
part_reply limits (refused r) s = turned_down r

-- the writes: that of an accepted upsert, and that of a delete which found its key
abbrev pub part_writes : Limits → Request → Store → List Write
part_writes limits (upsert n d) s = unless_refused (upsert_refusal limits n d s) (set n d ∷ []) (λ r. [])
part_writes limits (delete n) s = if is_some (stored n s) then unset n ∷ [] else []
part_writes limits (get n) s = []
part_writes limits (query ask) s = []
part_writes limits flush s = []
part_writes limits schema s = []
part_writes limits (scan ask) s = []
part_writes limits collect s = []
part_writes limits (refused r) s = []

-- what is stored afterwards
abbrev pub part_left : Limits → Request → Store → Store
part_left limits (upsert n d) s = unless_refused (upsert_refusal limits n d s) (with_pair n d s) (λ r. s)
part_left limits (delete n) s = without_pair n s
part_left limits (get n) s = s
part_left limits (query ask) s = s
part_left limits flush s = s
part_left limits schema s = s
part_left limits (scan ask) s = s
part_left limits collect s = s
part_left limits (refused r) s = s

-- ---- requests, one after the other

abbrev pub part_left_all : Limits → List Request → Store → Store
part_left_all limits rs s = fold (λ t r. part_left limits r t) s rs

abbrev pub part_writes_all : Limits → List Request → Store → List Write
part_writes_all limits [] s = []
part_writes_all limits (r ∷ rs) s = part_writes limits r s ++ part_writes_all limits rs (part_left limits r s)
