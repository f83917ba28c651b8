-- The row of a key that the list of components has.
use Rattle.std.proofs.Common.{◌≡◌, ◌∙◌, ℕ, List, Option, Some, slice_get, map, ap, sym, subst}
use Rattle.std.specs.Prelude.{IfSome}
use Rattle.std.proofs.lemmas.Option.{same_Some}
use Rattle.tc_component.specs.Columns.{IsFound}
use Rattle.tc_component.specs.Fetching.{IsPlace, record_at}
use Rattle.tc_component.specs.Loading.{ComponentState}
use Rattle.tc_component.specs.Meaning.{IsRecordOfOne}
use Rattle.tc_component.specs.declared.found.Found.TheVariants.{At as FoundAt}
use Rattle.tc_component.specs.declared.found.Place.{Place}
use Rattle.tc_list.specs.Loaded.{HoldsLive}
use Rattle.tc_list.specs.Lookups.{IsWhere}
use Rattle.tc_list.specs.declared.whereabouts.Whereabouts.TheVariants.{At}
use Rattle.tc_lsm_model.specs.Contents.{Content}
use Rattle.tc_lsm_model.specs.Lists.{live}
use Rattle.tc_model.specs.Document.{Document}
use Rattle.tc_request_model.specs.Request.{Ask}
use Rattle.tc_request_model.specs.Paths.{reached}
use Rattle.tc_request_model.specs.Rows.{row_of}
use Rattle.tc_request_model.specs.Rendered.{RowText, row_text}
use Rattle.tc_query.proofs.RowSteps.{rows_of_one}
use Rattle.tc_query.specs.Rows.{texts_at}

-- the place that was found is one of the component there
pub place_there : {F : Type 0} (cs : List (ComponentState F)) (key n : ℕ) (m : ComponentState F) (place : Place) → slice_get cs n ≡ Some m → IsWhere cs key (At n place) → IsPlace m.index.slots place
place_there cs key n m place here newest = subst (λ (c : ComponentState _). IsPlace c.index.slots place) (same_Some newest.component m (sym newest.here ∙ here)) (key, newest.has)

pub found_there : {F : Type 0} (cs : List (ComponentState F)) (key n : ℕ) (m : ComponentState F) (place : Place) → slice_get cs n ≡ Some m → IsWhere cs key (At n place) → IsFound m.index.slots key (FoundAt place)
found_there cs key n m place here newest = subst (λ (c : ComponentState _). IsFound c.index.slots key (FoundAt place)) (same_Some newest.component m (sym newest.here ∙ here)) newest.has

-- the row of the record there is that of the live document
pub listed_row : {F : Type 0} (told : F → Option (List ℕ)) (cs : List (ComponentState F)) (contents : List Content) (key n : ℕ) (place : Place) (m : ComponentState F) (ask : Ask) (rows : List RowText)
    → HoldsLive told cs contents key n place → slice_get cs n ≡ Some m
    → ((d : Document) → IfSome (told m.file) (λ whole. IsRecordOfOne m.index.version m.index.names d (record_at m.index.slots place.at whole) → rows ≡ map row_text (row_of ask.equal_to key (reached ask.path d)))) → rows ≡ texts_at ask key (live contents)
listed_row told cs contents key n place m ask rows h here each =
    let same : h.component ≡ m = same_Some h.component m (sym h.here ∙ here) in
    let d = h.document in
    let one = subst (λ (c : ComponentState _). IsRecordOfOne c.index.version c.index.names d (record_at c.index.slots place.at h.bytes)) same h.record_is in
    let tells = subst (λ (c : ComponentState _). told c.file ≡ Some h.bytes) same h.tells in
    subst (λ o. IfSome o (λ whole. IsRecordOfOne m.index.version m.index.names d (record_at m.index.slots place.at whole) → rows ≡ map row_text (row_of ask.equal_to key (reached ask.path d)))) tells (each d) one
    ∙ ap (map row_text) (rows_of_one ask key (live contents) d h.live_is)
