use Rattle.std.proofs.Common.{◌≡◌, length, refl, ap, ◌∙◌, arith}
use Rattle.tc_schema_model.specs.Counted.{nothing, IsCanonical}
use Rattle.tc_schema_model.proofs.MoreNames.{canonical_newer}
use Rattle.tc_lsm_model.specs.Tables.{shapes_held}
use Rattle.tc_flush.specs.Recounting.{names_with, all_added}
use Rattle.tc_flush.proofs.CountedTables.{apart_decides}
use Rattle.tc_flush.proofs.DocumentNames.{Extends-names_with}
use Rattle.tc_flush.proofs.RecountedLaws.{canonical-all_added}
use Rattle.tc_flush.proofs.counting.have_values_room.Goals as goal

pub returns : goal.returns
returns c = λ t of.
    let names = c.args.names.now in
    let left = c.args.left.now in
    let known = c.count_entries.new.names in
    let apart = c.count_entries.new.schema in
    let known_is : known ≡ names_with names (shapes_held t) = c.in_ok-count_entries.ensures.learned t of ∙ ap (λ ns. names_with ns (shapes_held t)) c.in_ok-known.ensures.same in
    let apart_is : apart ≡ all_added names (shapes_held t) nothing =
    c.in_ok-count_entries.ensures.counted t of ∙ ap (λ ns. all_added ns (shapes_held t) c.empty-apart.result) c.in_ok-known.ensures.same ∙ ap (all_added names (shapes_held t)) c.empty-apart.ensures in
    let apart_canonical : IsCanonical (length known) apart = rw (known_is, apart_is) (canonical-all_added names (shapes_held t) nothing (λ _. refl, λ _. refl, tt, tt)) in
    let left_canonical : IsCanonical (length known) left = rw (known_is) (canonical_newer (names_with names (shapes_held t)) names left (Extends-names_with names (shapes_held t)) c.requires.canonical) in
    let fits = c.fit_together.ensures known c.len-known.ensures.dictionary apart_canonical left_canonical in
    let both = apart_decides names left apart known t c.requires.canonical known_is apart_is in (
      (λ yes path. omega (arith, fits.0 yes path, both path)),
      λ room. fits.1 (λ path. omega (arith, room path, both path)),
    )
