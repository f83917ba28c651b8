-- What requests leave is what their writes leave.
use Rattle.std.proofs.Common.{◌≡◌, ℕ, List, [], ◌∷◌, Option, Some, None, refl, ap, sym, ◌∙◌}
use Rattle.std.specs.Prelude.{is_some, if◌then◌else◌}
use Rattle.tc_model.specs.Document.{Document}
use Rattle.tc_model.specs.Keyed.{value_of, without_key}
use Rattle.tc_model.proofs.Replacing.{none_taken_out}
use Rattle.tc_plain_model.specs.Writes.{Pairs, set, unset, after_writes}
use Rattle.tc_plain_model.specs.Store.{Store, stored, with_pair}
use Rattle.tc_plain_model.specs.Room.{Limits}
use Rattle.tc_plain_model.proofs.WriteLaws.{after_writes-append}
use Rattle.tc_request_model.specs.Request.{Request, upsert, delete, get, query, flush, schema, scan, collect, refused, Refusal}
use Rattle.tc_request_model.specs.Part.{unless_refused, upsert_refusal, part_left, part_left_all, part_writes, part_writes_all}

by_refusal : (o : Option Refusal) (n : ℕ) (d : Document) (s : Store)
    → (unless_refused o (with_pair n d s) (λ r. s)).pairs ≡ after_writes s.pairs (unless_refused o (set n d ∷ []) (λ r. []))
by_refusal None n d s = refl
by_refusal (Some r) n d s = refl

by_key : (n : ℕ) (ps : Pairs) (o : Option Document) → value_of n ps ≡ o → without_key n ps ≡ after_writes ps (if is_some o then unset n ∷ [] else [])
by_key n ps None none = none_taken_out n ps none
by_key n ps (Some d) some = refl

-- of one request
pub part_left-writes : (limits : Limits) (r : Request) (s : Store) → (part_left limits r s).pairs ≡ after_writes s.pairs (part_writes limits r s)
part_left-writes limits (upsert n d) s = by_refusal (upsert_refusal limits n d s) n d s
part_left-writes limits (delete n) s = by_key n s.pairs (stored n s) refl
part_left-writes limits (get n) s = refl
part_left-writes limits (query ask) s = refl
part_left-writes limits flush s = refl
part_left-writes limits schema s = refl
part_left-writes limits (scan ask) s = refl
part_left-writes limits collect s = refl
part_left-writes limits (refused r) s = refl

-- of requests, one after the other
pub part_left_all-writes : (limits : Limits) (rs : List Request) (s : Store) → (part_left_all limits rs s).pairs ≡ after_writes s.pairs (part_writes_all limits rs s)
part_left_all-writes limits [] s = refl
part_left_all-writes limits (r ∷ rs) s =
    part_left_all-writes limits rs (part_left limits r s)
    ∙ ap (λ ps. after_writes ps (part_writes_all limits rs (part_left limits r s))) (part_left-writes limits r s)
    ∙ sym (after_writes-append s.pairs (part_writes limits r s) (part_writes_all limits rs (part_left limits r s)))
