use Rattle.std.proofs.Common.{◌≡◌, ℕ, ◌<◌, ◌^◌, length, sym, ap, ◌∙◌, subst}
use Rattle.tc_schema_model.specs.Counted.{Counted, shows, IsCanonical, HasSmallCounters}
use Rattle.tc_schema_model.proofs.SmallCounters.{small_from_paths}
use Rattle.tc_schema.specs.Places.{place_counted, most_names}
use Rattle.tc_audit.specs.Times.{with_times}
use Rattle.tc_audit.proofs.TimesLaws.{shows_with_times, total_with_times, canonical_with_times}
use Rattle.tc_audit.proofs.times.add_times.Goals as goal

-- the same added to the same
same : {one e d x : Counted} (k : ℕ) → e ≡ one → x ≡ d → with_times k e x ≡ with_times k one d
same k first second = λ i. with_times k (first i) (second i)

pub add_place-requires-clause-small : goal.add_place-requires-clause-small
add_place-requires-clause-small c =
    let names = c.args.names.now in
    let k = c.args.times in
    let one = c.args.one.now in
    let d = c.args.schema.now in
    let whole = same k c.root-2.ensures.counted (c.into_root-root.ensures.counted ∙ c.replace.ensures.value) in
    subst HasSmallCounters (sym whole)
    (small_from_paths names c.len-known.ensures.dictionary.distinct (with_times k one d) (canonical_with_times (length names) k one d c.requires.some c.requires.one c.requires.canonical)
    (λ path. subst (λ n. n < 2 ^ 64) (sym (total_with_times names k one d c.requires.one path)) (c.requires.room path)))

pub of-requires : goal.of-requires
of-requires c =
    subst (IsCanonical most_names) (sym c.in_ok-add_place.ensures)
    (canonical_with_times most_names c.args.times (place_counted c.root-2.result.now) (place_counted c.into_root-root.result) c.requires.some
    (subst (IsCanonical most_names) (sym c.root-2.ensures.counted) c.root-2.ensures.canonical)
    (subst (IsCanonical most_names) (sym c.into_root-root.ensures.counted) c.into_root-root.ensures.canonical))

pub returns-clause-canonical : goal.returns-clause-canonical
returns-clause-canonical c =
    let names = c.args.names.now in
    let k = c.args.times in
    let one = c.args.one.now in
    let d = c.args.schema.now in
    let whole = c.of.ensures ∙ c.in_ok-add_place.ensures ∙ same k c.root-2.ensures.counted (c.into_root-root.ensures.counted ∙ c.replace.ensures.value) in
    subst (IsCanonical (length names)) (sym whole) (canonical_with_times (length names) k one d c.requires.some c.requires.one c.requires.canonical)

pub returns-clause-counted : goal.returns-clause-counted
returns-clause-counted c = λ path t.
    let names = c.args.names.now in
    let k = c.args.times in
    let whole = c.of.ensures ∙ c.in_ok-add_place.ensures ∙ same k c.root-2.ensures.counted (c.into_root-root.ensures.counted ∙ c.replace.ensures.value) in
    ap (λ d. shows names d path t) whole ∙ shows_with_times names k c.args.one.now c.args.schema.now c.requires.one path t
