-- The rows of several partitions, put together as a window's are that asks each of them.
use Rattle.std.specs.Prelude.{List, [], ◌∷◌, map}
use Rattle.tc_model.specs.Keyed.{Keyed}
use Rattle.tc_request_model.specs.Rendered.{Rendered, RowText, rows}
use Rattle.tc_route.specs.Gathered.{gathered_rendered}

-- the reply of these rows, by itself
abbrev pub alone : List RowText → Keyed Rendered
alone ts = (0, rows ts) ∷ []

abbrev pub rows_in : Rendered → List RowText
rows_in (rows ts) = ts
rows_in _ = []

-- the rows of the first reply, if it has some
abbrev pub first_rows : Keyed Rendered → List RowText
first_rows [] = []
first_rows (a ∷ more) = rows_in a.1

abbrev pub joined : List (List RowText) → List RowText
joined found = first_rows (gathered_rendered (map alone found))
