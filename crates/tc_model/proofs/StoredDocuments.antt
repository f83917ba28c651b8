-- A document that is stored without its key is an object.
use Rattle.tc_model.specs.Document.{Document}
use Rattle.tc_model.specs.Stored.{IsKeyless, IsObject}
use Rattle.tc_model.specs.Tree.{leaf, array, object}

pub keyless_object : (d : Document) → IsKeyless d → IsObject d
keyless_object (leaf s) keyless = absurd keyless
keyless_object (array xs) keyless = absurd keyless
keyless_object (object ms) keyless = tt
