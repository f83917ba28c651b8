-- Replies of a part that are merged with those of the parts before it.
use Rattle.std.specs.Prelude.{ℕ, Bool, false, List, [], ◌∷◌, ◌++◌, nat_lt, fold}
use Rattle.tc_model.specs.Keyed.{Keyed}
use Rattle.tc_request_model.specs.Rendered.{Rendered}
use Rattle.tc_route.specs.declared.placed.Placed.{Placed}
use Rattle.tc_route.specs.Gathered.{with_rendered}
use Rattle.tc_route.specs.Meaning.{rendered_in}

-- the replies that are merged, and then those that are left, with more replies of a part
abbrev pub merging : List Placed → List Placed → Keyed Rendered → Keyed Rendered
merging merged left more = rendered_in merged ++ fold with_rendered (rendered_in left) more

-- whether the first of these replies is below a place
abbrev pub starts_below : ℕ → List Placed → Bool
starts_below limit [] = false
starts_below limit (first ∷ more) = nat_lt first.at limit
