-- The schema of the newest component stands for what is live in a list.
use Rattle.std.proofs.Common.{[], None, refl, sym, subst}
use Rattle.tc_model.specs.Keyed.{values_in}
use Rattle.tc_schema_model.specs.Counted.{nothing}
use Rattle.tc_schema_model.specs.Stands.{StandsFor}
use Rattle.tc_lsm_model.specs.Lists.{live, names_of}
use Rattle.tc_lsm_model.proofs.ListNewest.{newest_of_list}
use Rattle.tc_part_model.specs.Meaning.{IsPart}
use Rattle.tc_part_model.specs.Newest.{newest_index, names_by, schema_by}
use Rattle.tc_part_model.specs.PartState.{Told}
use Rattle.tc_part_model.specs.PartView.{PartView}
use Rattle.tc_part_model.proofs.NewestComponents.{names_are, schema_is}

pub newest_stands : (t : Told) (p : PartView) → IsPart t p → StandsFor (names_by (newest_index None t.components)) (schema_by (newest_index None t.components)) (values_in (live p.list))
newest_stands t p is =
    subst (λ ns. StandsFor ns (schema_by (newest_index None t.components)) (values_in (live p.list))) (sym (names_are None [] t.components p.list refl is.view.components))
    (subst (λ d. StandsFor (names_of p.list) d (values_in (live p.list))) (sym (schema_is None nothing t.components p.list refl is.view.components)) (newest_of_list p.part p.list is.memory.list).stands)
