-- What replies show, put together, is what the replies show that are put together.
use Rattle.std.proofs.Common.{◌≡◌, ◌∙◌, ap, sym, refl, ℕ, List, [], ◌∷◌, ◌++◌, map}
use Rattle.std.specs.Prelude.{fold, flat_map, Option, Some, None, option_map}
use Rattle.std.proofs.lemmas.List.{map-append}
use Rattle.tc_model.specs.Keyed.{Keyed, value_of, with_value, values_in, on_value}
use Rattle.tc_model.proofs.ReadValues.{value_of-read, map-with_value}
use Rattle.tc_request_model.specs.Reply.{Reply, Row, upserted, deleted, got, rows, flushed, schemas, started, collected, turned_down}
use Rattle.tc_request_model.specs.Rendered.{rendered, row_text}
use Rattle.tc_request_model.specs.Rendered as renders
use Rattle.tc_route.specs.Gathered.{with_row, in_order, with_text, texts_in_order, joined, joined_rendered, beside_by, with_reply_by, gathered_by, gathered, gathered_rendered}

-- ---- rows

rows_folded : (all : Keyed Row) (rs : List Row) → map (on_value row_text) (fold with_row all rs) ≡ fold with_text (map (on_value row_text) all) (map row_text rs)
rows_folded all [] = refl
rows_folded all (r ∷ rs) = rows_folded (with_row all r) rs ∙ ap (λ texts. fold with_text texts (map row_text rs)) (map-with_value row_text r.key r all)

values_read : (es : Keyed Row) → map row_text (values_in es) ≡ values_in (map (on_value row_text) es)
values_read [] = refl
values_read (e ∷ es) = ap (λ ts. row_text e.1 ∷ ts) (values_read es)

rows_in_order : (rs : List Row) → map row_text (in_order rs) ≡ texts_in_order (map row_text rs)
rows_in_order rs = values_read (fold with_row [] rs) ∙ ap values_in (rows_folded [] rs)

-- ---- replies

both_rows : (rs more : List Row) → rendered (joined (rows rs) (rows more)) ≡ joined_rendered (rendered (rows rs)) (rendered (rows more))
both_rows rs more = ap renders.rows (rows_in_order (rs ++ more) ∙ ap texts_in_order (map-append row_text rs more))

rendered_joined : (a b : Reply) → rendered (joined a b) ≡ joined_rendered (rendered a) (rendered b)
rendered_joined (rows rs) (rows more) = both_rows rs more
rendered_joined (rows rs) (upserted n replaced) = refl
rendered_joined (rows rs) (deleted n found) = refl
rendered_joined (rows rs) (got n d) = refl
rendered_joined (rows rs) flushed = refl
rendered_joined (rows rs) (schemas ds) = refl
rendered_joined (rows rs) started = refl
rendered_joined (rows rs) (collected qs upto) = refl
rendered_joined (rows rs) (turned_down why) = refl
rendered_joined (upserted n replaced) b = refl
rendered_joined (deleted n found) b = refl
rendered_joined (got n d) b = refl
rendered_joined flushed b = refl
rendered_joined (schemas ds) b = refl
rendered_joined started b = refl
rendered_joined (collected qs upto) b = refl
rendered_joined (turned_down why) b = refl

-- ---- replies by place

module _ {A B : Type 0} (f : A → B) (join : A → A → A) (join' : B → B → B) (joins : (a b : A) → f (join a b) ≡ join' (f a) (f b)) where
  beside_read : (o : Option A) (a : A) → f (beside_by join o a) ≡ beside_by join' (option_map f o) (f a)
  beside_read None a = refl
  beside_read (Some first) a = joins first a

  reply_read : (all : Keyed A) (a : ℕ × A) → map (on_value f) (with_reply_by join all a) ≡ with_reply_by join' (map (on_value f) all) (on_value f a)
  reply_read all a =
      map-with_value f a.0 (beside_by join (value_of a.0 all) a.1) all
      ∙ ap (λ v. with_value a.0 v (map (on_value f) all)) (beside_read (value_of a.0 all) a.1 ∙ ap (λ o. beside_by join' o (f a.1)) (sym (value_of-read f a.0 all)))

  folded_read : (all more : Keyed A) → map (on_value f) (fold (with_reply_by join) all more) ≡ fold (with_reply_by join') (map (on_value f) all) (map (on_value f) more)
  folded_read all [] = refl
  folded_read all (a ∷ more) = folded_read (with_reply_by join all a) more ∙ ap (λ es. fold (with_reply_by join') es (map (on_value f) more)) (reply_read all a)

  parts_read : (parts : List (Keyed A)) → map (on_value f) (flat_map (λ replies. replies) parts) ≡ flat_map (λ replies. replies) (map (map (on_value f)) parts)
  parts_read [] = refl
  parts_read (part ∷ parts) = map-append (on_value f) part (flat_map (λ replies. replies) parts) ∙ ap (λ more. map (on_value f) part ++ more) (parts_read parts)

  gathered_read : (parts : List (Keyed A)) → map (on_value f) (gathered_by join parts) ≡ gathered_by join' (map (map (on_value f)) parts)
  gathered_read parts = folded_read [] (flat_map (λ replies. replies) parts) ∙ ap (fold (with_reply_by join') []) (parts_read parts)

pub rendered_gathered : (parts : List (Keyed Reply)) → gathered_rendered (map (map (on_value rendered)) parts) ≡ map (on_value rendered) (gathered parts)
rendered_gathered parts = sym (gathered_read rendered joined joined_rendered rendered_joined parts)
