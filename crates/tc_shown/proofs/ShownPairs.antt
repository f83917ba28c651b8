-- The documents that are shown stand in ascending key.
use Rattle.std.proofs.Common.{ℕ, List, [], ◌∷◌, Option, sym, subst}
use Rattle.std.specs.Prelude.{All}
use Rattle.std.proofs.lemmas.List.Elements.{All-nil, All-cons}
use Rattle.tc_model.specs.Keyed.{Ascends}
use Rattle.tc_lsm_model.specs.Tables.{writes_of}
use Rattle.tc_lsm_model.proofs.ListLaws.{Ascends-live}
use Rattle.tc_plain_model.specs.Writes.{Pairs, after_writes}
use Rattle.tc_plain_model.proofs.WriteLookups.{Ascends-after_writes}
use Rattle.tc_view.specs.Changes.{Showing, showing_in}
use Rattle.tc_view.specs.Holding.{Holds}
use Rattle.tc_view.specs.Places.{kept_by}
use Rattle.tc_shown.specs.declared.scan.Pass.{Pass}
use Rattle.tc_shown.specs.Scans.{ShowAll}

held_ascend : {F : Type 0} (content : F → Option (List ℕ)) (s : Showing F) (pairs : Pairs) → Holds content s pairs → Ascends pairs
held_ascend content s pairs h =
    let listed : Ascends h.listed = subst (λ (ps : Pairs). Ascends ps) (sym h.list.is) (Ascends-live h.list.contents) in
    subst (λ (ps : Pairs). Ascends ps) (sym h.is) (Ascends-after_writes (after_writes h.listed (writes_of h.table)) h.writes (Ascends-after_writes h.listed (writes_of h.table) listed))

pub all_ascend : {F W : Type 0} (content : F → Option (List ℕ)) (passes : List (Pass F W)) (parts : List Pairs) → ShowAll content passes parts → All (λ (ps : Pairs). Ascends ps) parts
all_ascend content [] [] shows = All-nil (λ (ps : Pairs). Ascends ps)
all_ascend content [] (ps ∷ parts) shows = absurd shows
all_ascend content (p ∷ passes) [] shows = absurd shows
all_ascend content (p ∷ passes) (ps ∷ parts) shows =
    All-cons (λ (x : Pairs). Ascends x) ps parts (held_ascend content (showing_in (kept_by p.lens)) ps shows.0) (all_ascend content passes parts shows.1)
