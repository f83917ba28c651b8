-- Whether a document is among the values that are reached.
use Rattle.std.proofs.Common.{◌≡◌, ◌∙◌, Bool, true, false, [], ◌∷◌, ◌++◌, List, Option, Some, None, flat_map, if◌then◌else◌, option_to_list, refl, sym, ap, append-nil}
use Rattle.tc_model.specs.Tree.{leaf}
use Rattle.tc_model.specs.Document.{Document, Scalar}
use Rattle.tc_request_model.specs.Request.{Hop}
use Rattle.tc_request_model.specs.Paths.{reached}
use Rattle.tc_request_model.specs.Equal.{same_document}
use Rattle.tc_request_model.specs.Rows.{is_among}
use Rattle.tc_record.specs.Preorder.{Piece, scalar, array_opened, object_opened, closed}
use Rattle.tc_record.specs.Walk.{Key}
use Rattle.tc_record.specs.Building.{Levels, outer, value_read, levels_before}
use Rattle.tc_record_text.specs.Left.{array_left, object_left, items_left}
use Rattle.tc_record_text.specs.Skipped.{is_close}
use Rattle.tc_path.specs.Reached.{is_reached}

-- it is among the first ones, or else among those behind them
stops : (d : Document) (vs ws : List Document) → is_among d vs ≡ true → is_among d (vs ++ ws) ≡ true
stops d [] ws here = absurd (no here)
  where
    no : false ≡ true → ⊥
    no is = cc
stops d (v ∷ vs) ws here = step (same_document v d) (is_among d vs) (is_among d (vs ++ ws)) (stops d vs ws) here
  where
    step : (same at_rest at_all : Bool) → (at_rest ≡ true → at_all ≡ true) → (if same then true else at_rest) ≡ true → (if same then true else at_all) ≡ true
    step true at_rest at_all rest here = refl
    step false at_rest at_all rest here = rest here

passes : (d : Document) (vs ws : List Document) → is_among d vs ≡ false → is_among d (vs ++ ws) ≡ is_among d ws
passes d [] ws other = refl
passes d (v ∷ vs) ws other = step (same_document v d) (is_among d vs) (is_among d (vs ++ ws)) (is_among d ws) (passes d vs ws) other
  where
    step : (same at_rest at_all behind : Bool) → (at_rest ≡ false → at_all ≡ behind) → (if same then true else at_rest) ≡ false → (if same then true else at_all) ≡ behind
    step true at_rest at_all behind rest other = absurd (no other)
      where
        no : true ≡ false → ⊥
        no is = cc
    step false at_rest at_all behind rest other = rest other

one : (hops : List Hop) (e : Document) → flat_map (reached hops) (e ∷ []) ≡ reached hops e
one hops e = append-nil (reached hops e)

-- hops reach it from the first item
from_first : (d : Document) (hops : List Hop) (e : Document) (es : List Document) → is_reached d hops (e ∷ []) ≡ true → is_reached d hops (e ∷ es) ≡ true
from_first d hops e es found = stops d (reached hops e) (flat_map (reached hops) es) (ap (is_among d) (sym (one hops e)) ∙ found)

-- or else from those behind it
from_rest : (d : Document) (hops : List Hop) (e : Document) (es : List Document) → is_reached d hops (e ∷ []) ≡ false → is_reached d hops (e ∷ es) ≡ is_reached d hops es
from_rest d hops e es other = passes d (reached hops e) (flat_map (reached hops) es) (ap (is_among d) (sym (one hops e)) ∙ other)

-- so it is with the item that a token is or opens
pub from_item : (d : Document) (hops : List Hop) (l : Option Key) (o : Option Document) (levels : Levels) → is_reached d hops (option_to_list o) ≡ true
    → is_reached d hops (items_left (levels_before l o levels)) ≡ true
from_item d hops l None levels found = absurd (nowhere found)
  where
    nowhere : false ≡ true → ⊥
    nowhere is = cc
from_item d hops l (Some e) levels found = from_first d hops e (items_left levels) found

pub from_behind : (d : Document) (hops : List Hop) (l : Option Key) (p : Piece Scalar) (levels : Levels) → is_close p ≡ false → is_reached d hops (option_to_list (value_read p levels).0) ≡ false
    → is_reached d hops (items_left (levels_before l (value_read p levels).0 (value_read p levels).1)) ≡ is_reached d hops (items_left (value_read p levels).1)
from_behind d hops l (scalar s) levels value other = from_rest d hops (leaf s) (items_left levels) other
from_behind d hops l array_opened levels value other = from_rest d hops (array_left levels) (items_left (outer levels)) other
from_behind d hops l object_opened levels value other = from_rest d hops (object_left levels) (items_left (outer levels)) other
from_behind d hops l closed levels value other = absurd (no value)
  where
    no : true ≡ false → ⊥
    no is = cc

-- a value that is known is the only one that they start from
pub from_known : (doc : Document) (hops : List Hop) (o : Option Document) (d : Document) → o ≡ Some d → is_reached doc hops (option_to_list o) ≡ is_among doc (reached hops d)
from_known doc hops o d is = ap (λ v. is_reached doc hops (option_to_list v)) is ∙ ap (is_among doc) (one hops d)
