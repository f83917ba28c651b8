-- Replies from a world are of the kinds of their requests, so that what is said where no world is known holds of each.
use Rattle.std.proofs.Common.{◌∙◌, ℕ, Bool, true, false, List, [], ◌∷◌, inl, inr, refl, sym, ap, subst, map}
use Rattle.std.specs.Prelude.{Option, Some, None, is_some, if◌then◌else◌}
use Rattle.tc_model.specs.Document.{Document}
use Rattle.tc_request_model.specs.Request.{Request, upsert, delete, get, query, flush, schema, scan, collect, refused, Ask, names_full, full, busy}
use Rattle.tc_request_model.specs.Rendered.{Rendered, rendered}
use Rattle.tc_request_model.specs.Reply.{Reply, upserted, started, turned_down}
use Rattle.tc_schema_model.specs.SchemaText.{schema_text}
use Rattle.tc_plain_model.specs.Store.{documents, stored}
use Rattle.tc_request_model.specs.Rows.{rows_over}
use Rattle.tc_plain_model.specs.Room.{lacks_names, lacks_room}
use Rattle.tc_request_model.specs.Part.{unless_refused}
use Rattle.tc_run_model.specs.World.{Scan, World, home_of, store_at, united, after}
use Rattle.tc_run_model.specs.Replies.{IsCollectReply, IsReply, AreReplies}
use Rattle.tc_run_model.specs.Kinds.{IsOfKind, AreOfKinds, AreRenderedOfKinds}
use Rattle.tc_run_model.specs.Known.{MayRender}

by_refusal : (names room : Bool) (n : ℕ) (d : Document) (replaced : Bool)
    → IsOfKind (upsert n d) (unless_refused (if names then Some names_full else (if room then Some full else None)) (upserted n replaced) turned_down)
by_refusal true room n d replaced = inr (inl refl)
by_refusal false true n d replaced = inr (inr refl)
by_refusal false false n d replaced = inl (replaced, refl)

by_running : (ask : Ask) (runs : Bool) → IsOfKind (scan ask) (if runs then turned_down busy else started)
by_running ask true = inr refl
by_running ask false = inl refl

by_scan : (running : Option Scan) (w : World) (a : Reply) → IsCollectReply running w a → IsOfKind collect a
by_scan None w a is = inr is
by_scan (Some s) w a is = inl (_, is.upto, is.is_over)

reply_has_kind : (r : Request) (w : World) (a : Reply) → IsReply r w a → IsOfKind r a
reply_has_kind (upsert n d) w a is =
    let s = store_at (home_of n w) w in
    subst (IsOfKind (upsert n d)) (sym is) (by_refusal (lacks_names w.limits d s.taken) (lacks_room w.limits n s) n d (is_some (stored n s)))
reply_has_kind (delete n) w a is = (is_some (stored n (store_at (home_of n w) w)), is)
reply_has_kind (get n) w a is = (stored n (store_at (home_of n w) w), is)
reply_has_kind (query ask) w a is = (rows_over ask (united (map (λ part. part.now.pairs) w.parts)), is)
reply_has_kind flush w a is = is
reply_has_kind schema w a is = (map (λ part. schema_text (documents part.now)) w.parts, is)
reply_has_kind (scan ask) w a is = subst (IsOfKind (scan ask)) (sym is) (by_running ask (is_some w.running))
reply_has_kind collect w a is = by_scan w.running w a is
reply_has_kind (refused r) w a is = is

pub replies_have_kinds : (rs : List Request) (w : World) (replies : List Reply) → AreReplies rs w replies → AreOfKinds rs replies
replies_have_kinds [] w [] given = tt
replies_have_kinds [] w (a ∷ more) given = absurd given
replies_have_kinds (r ∷ rs) w [] given = absurd given
replies_have_kinds (r ∷ rs) w (a ∷ more) given = (reply_has_kind r w a given.0, replies_have_kinds rs (after r w) more given.1)

-- what is rendered of each is rendered of all
pub kinds_rendered : (rs : List Request) (texts : List Rendered) → AreRenderedOfKinds rs texts → MayRender rs None texts
kinds_rendered [] [] are = ([], tt, refl)
kinds_rendered [] (text ∷ more) are = absurd are
kinds_rendered (r ∷ rs) [] are = absurd are
kinds_rendered (r ∷ rs) (text ∷ more) are =
    let first = are.0 in
    let rest = kinds_rendered rs more are.1 in
    (first.0 ∷ rest.0, (first.1, rest.1), ap (λ t. t ∷ more) first.2 ∙ ap (λ ts. rendered first.0 ∷ ts) rest.2)
