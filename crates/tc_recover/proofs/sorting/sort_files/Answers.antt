use Rattle.std.proofs.Common.{◌≡◌, rules, sym, subst}
use Rattle.std.specs.Prelude.{All}
use Rattle.std.specs.List.Sorted.{IsStrictlySortedBy}
use Rattle.tc_store.specs.NameOrder.{name_cmp}
use Rattle.tc_recover.specs.Files.{IsLawfulName}
use Rattle.tc_recover.specs.Sorting.{open_names as names_of}
use Rattle.tc_recover.proofs.SortedNames.{open_ascend, open_lawful}
use Rattle.tc_recover.proofs.sorting.sort_files.Goals as goal

pub components_that_count-requires-clause-ascend : goal.components_that_count-requires-clause-ascend
components_that_count-requires-clause-ascend g c =
    let is : c.deref.result.now ≡ names_of c.args.files.now = search rules in
    subst (IsStrictlySortedBy name_cmp) (sym is) (open_ascend c.args.files.now c.requires.ascend)

pub components_that_count-requires-clause-lawful : goal.components_that_count-requires-clause-lawful
components_that_count-requires-clause-lawful g c =
    let is : c.deref.result.now ≡ names_of c.args.files.now = search rules in
    subst (All IsLawfulName) (sym is) (open_lawful c.args.files.now c.requires.lawful)
