-- How much a request holds at most: only the document of an upsert weighs.
use Rattle.std.specs.Prelude.{ℕ, ◌≤◌}
use Rattle.tc_model.specs.Weight.{weight}
use Rattle.tc_request_model.specs.Request.{Request, upsert}

abbrev pub IsLight : ℕ → Request → Type 0
IsLight limit (upsert n d) = weight d ≤ limit
IsLight limit _ = Unit {0}
