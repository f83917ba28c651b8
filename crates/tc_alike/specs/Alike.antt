-- Tokens of numbered trees that are alike.
use Rattle.std.specs.Prelude.{◌≡◌, ℕ, List}
use Rattle.tc_model.specs.Document.{Scalar}
use Rattle.tc_record.specs.Preorder.{Token}
use Rattle.tc_record.specs.Record.{tags, labels}

-- they have the same tags, and their members the same numbers
pub record AreAlike (ts us : List (Token ℕ Scalar)) : Type 0 where
  pub tags_are : tags ts ≡ tags us
  pub numbers_are : labels ts ≡ labels us
