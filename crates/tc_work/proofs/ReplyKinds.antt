-- Each reply is of the kind of its command, over every store.
use Rattle.std.proofs.Common.{◌≡◌, ◌∙◌, ℕ, List, [], ◌∷◌, ◌++◌, Option, Some, None, map, refl, ap, inl, inr, append_assoc}
use Rattle.std.proofs.lemmas.List.{map-append}
use Rattle.tc_model.specs.Document.{Document}
use Rattle.tc_model.specs.Keyed.{values_in}
use Rattle.tc_request_model.specs.Rendered.{Rendered, RowText, row_text}
use Rattle.tc_request_model.specs.Rendered as renders
use Rattle.tc_request_model.specs.Reply.{Row, got, rows}
use Rattle.tc_request_model.specs.Request.{Ask, delete, upsert, get, query}
use Rattle.tc_command.specs.Replies.{rendered_of}
use Rattle.tc_part.specs.Texts.{IsDocumentText}
use Rattle.tc_part.specs.declared.staging.Staged.{Staged}
use Rattle.tc_part.specs.declared.staging.Staged.TheVariants.{Done, NamesFull, Full}
use Rattle.tc_route.specs.declared.placed.Placed.{Placed}
use Rattle.tc_route.specs.Meaning.{placed_of, rendered_in}
use Rattle.tc_run_model.specs.Kinds.{IsOfKind, IsRenderedOfKind}
use Rattle.tc_work.specs.Replied.{reply_to_delete, reply_to_upsert}

pub kind_of_upsert : (key : ℕ) (d : Document) (staged : Staged) → IsOfKind (upsert key d) (reply_to_upsert key staged)
kind_of_upsert key d (Done was_live) = inl (was_live, refl)
kind_of_upsert key d NamesFull = inr (inl refl)
kind_of_upsert key d Full = inr (inr refl)

pub kind_of_delete : (key : ℕ) (staged : Staged) → IsOfKind (delete key) (reply_to_delete key staged)
kind_of_delete key (Done was_live) = (_, refl)
kind_of_delete key NamesFull = (_, refl)
kind_of_delete key Full = (_, refl)

-- what is rendered is the text of a document, or that there is none
pub kind_of_get : (key : ℕ) (text : Option (List ℕ)) → IsDocumentText key text → IsRenderedOfKind (get key) (renders.got key text)
kind_of_get key None is = (got key None, (None, refl), refl)
kind_of_get key (Some t) is = (got key (Some is.0), (Some is.0, refl), ap (λ t. renders.got key (Some t)) is.1)

pub kind_of_query : (ask : Ask) (texts : List RowText) (rs : List Row) → texts ≡ map row_text rs → IsRenderedOfKind (query ask) (renders.rows texts)
kind_of_query ask texts rs is = (rows rs, (rs, refl), ap renders.rows is)

-- one more reply stands before those to come
pub one_more_reply : (made items : List Placed) (placed : Placed) (more : List Rendered) → items ≡ made ++ placed ∷ [] → values_in (rendered_in items) ++ more ≡ values_in (rendered_in made) ++ rendered_of placed.reply ∷ more
one_more_reply made items placed more is =
    ap (λ (xs : List Placed). values_in (rendered_in xs) ++ more) is
    ∙ ap (λ xs. values_in xs ++ more) (map-append placed_of made (placed ∷ []))
    ∙ ap (λ xs. xs ++ more) (map-append (λ e. e.1) (rendered_in made) (placed_of placed ∷ []))
    ∙ append_assoc (values_in (rendered_in made)) (rendered_of placed.reply ∷ []) more
