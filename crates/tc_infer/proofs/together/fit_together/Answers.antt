use Rattle.std.proofs.Common.{◌≡◌, ◌<◌, ◌^◌, sym, ap, ◌∙◌, subst, arith}
use Rattle.tc_schema_model.specs.Counted.{total_at, IsOrdered}
use Rattle.tc_schema_model.specs.Occurrences.{Path}
use Rattle.tc_schema_model.proofs.FieldLaws.{ordered_from_canonical}
use Rattle.tc_schema_model.proofs.SmallCounters.{small_from_paths}
use Rattle.tc_schema.specs.Places.{place_counted, most_names}
use Rattle.tc_infer.specs.Together.{do_fit}
use Rattle.tc_infer.proofs.TogetherLaws.{fits_at, fit_from_paths}
use Rattle.tc_infer.proofs.together.fit_together.Goals as goal

pub do_places_fit-requires : goal.do_places_fit-requires
do_places_fit-requires c = record { ordered = subst IsOrdered (sym c.root-2.ensures.counted) (ordered_from_canonical most_names c.args.other.now c.root-2.ensures.canonical) }

pub returns : goal.returns
returns c = λ names dictionary one_canonical other_canonical.
    let one = c.args.one.now in
    let other = c.args.other.now in
    let test : c.do_places_fit.result ≡ do_fit one other =
    c.do_places_fit.ensures ∙ ap (λ e. do_fit e (place_counted c.root-2.result.now)) c.root.ensures.counted ∙ ap (do_fit one) c.root-2.ensures.counted in
    let one_room : (path : Path) → total_at names one path < 2 ^ 64 = λ path. omega (arith, c.greatest.ensures.bound names path) in
    let other_room : (path : Path) → total_at names other path < 2 ^ 64 = λ path. omega (arith, c.greatest-2.ensures.bound names path) in (
      (λ fits. fits_at names one other (small_from_paths names dictionary.distinct one one_canonical one_room) other_canonical other_room (sym test ∙ fits)),
      λ fits. test ∙ fit_from_paths names dictionary.distinct one other one_canonical fits,
    )
