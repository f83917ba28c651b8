use Rattle.std.proofs.Common.{◌≡◌, ◌++◌, ℕ, List, IfSome, refl, rules}
use Rattle.std.proofs.lemmas.Result.{on_ok_weaker}
use Rattle.serde_json.specs.Written.{compact_text}
use Rattle.tc_model.specs.Document.{Scalar, null, boolean, integer, text}
use Rattle.tc_model.specs.Json.{data_of, scalar_data}
use Rattle.tc_record.specs.Building.{Levels, value_read}
use Rattle.tc_record.specs.Preorder.{scalar}
use Rattle.tc_record.specs.WalkView.{piece_of}
use Rattle.tc_record.specs.declared.token.Piece.{Piece}
use Rattle.tc_compact.specs.Meant.{levels_meant}
use Rattle.tc_record_text.proofs.values.+values.Goals as goal

-- a piece that opens nothing is a scalar, or no value
scalar_put : (p : Piece) (levels : Levels) (o o' : List ℕ) → (p ≡ Piece.Array → ⊥) → (p ≡ Piece.Object → ⊥) → ((s : Scalar) → piece_of p ≡ scalar s → o' ≡ o ++ compact_text (scalar_data s))
    → IfSome (value_read (piece_of p) levels).0 (λ d. o' ≡ o ++ compact_text (data_of d)) × levels ≡ (value_read (piece_of p) levels).1
scalar_put Piece.Null levels o o' no_array no_object put = (put null refl, refl)
scalar_put (Piece.Bool b) levels o o' no_array no_object put = (put (boolean b) refl, refl)
scalar_put (Piece.Int z) levels o o' no_array no_object put = (put (integer z) refl, refl)
scalar_put (Piece.Text t) levels o o' no_array no_object put = (put (text t.now) refl, refl)
scalar_put Piece.Array levels o o' no_array no_object put = absurd (no_array refl)
scalar_put Piece.Object levels o o' no_array no_object put = absurd (no_object refl)
scalar_put Piece.Close levels o o' no_array no_object put = (tt, refl)

pub put_value-returns-in_default : goal.put_value-returns-in_default
put_value-returns-in_default t c =
    let levels = levels_meant c.args.names.now c.args.cursor.now in
    let put = scalar_put c.args.token.value levels c.args.sheet.now c.put_scalar.new.self c.in_default.not-Array c.in_default.not-Object in
    record {
      text = on_ok_weaker c.put_scalar.result (λ text. (put text).0) c.put_scalar.ensures;
      behind = on_ok_weaker c.put_scalar.result (λ text. (put text).1) c.put_scalar.ensures;
      shorter = search rules;
      labels = c.requires;
    }
