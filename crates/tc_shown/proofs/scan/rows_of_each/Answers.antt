use Rattle.std.proofs.Common.{◌≡◌, ◌∙◌, ◌<◌, ◌++◌, ◌∷◌, [], ap, sym, subst, map, set, length, arith, Err}
use Rattle.std.specs.Prelude.{All}
use Rattle.std.specs.List.{AllZip}
use Rattle.std.proofs.lemmas.List.{length-map, map-append, take_all}
use Rattle.tc_bytes.specs.Counts.{Rose}
use Rattle.tc_command.specs.Commands.{ask_of}
use Rattle.tc_component.specs.Loaded.{IsLoadedOf}
use Rattle.tc_log.specs.Writes.{IsWrite}
use Rattle.tc_request_model.specs.Rendered.{row_text}
use Rattle.tc_request_model.specs.Rows.{rows_over}
use Rattle.tc_plain_model.specs.Writes.{Pairs}
use Rattle.tc_query.specs.Faults.{OfDamage, IsHarmIn}
use Rattle.tc_view.specs.Changes.{showing_in}
use Rattle.tc_view.specs.Holding.{Holds}
use Rattle.tc_view.specs.Places.{kept_by, shown_by}
use Rattle.tc_shown.specs.declared.scan.Pass.{Pass}
use Rattle.tc_shown.specs.Joined.{joined}
use Rattle.tc_shown.specs.Scans.{IsFaultOf, IsRead}
use Rattle.tc_shown.proofs.PassLaws.{fault_there, read_same}
use Rattle.tc_shown.proofs.ShownPairs.{all_ascend}
use Rattle.tc_shown.proofs.Turns.{all_at, map_at, take_next, turned_all, turned_many, turned_more, turned_next, zip_length, zip_same}
use Rattle.tc_shown.proofs.UnitedRows.{joined_united, rows_joined, texts_joined}
use Rattle.tc_shown.proofs.scan.rows_of_each.Goals as goal

pub returns-in_err-found-clause-read : goal.returns-in_err-found-clause-read
returns-in_err-found-clause-read g c = zip_same (IsRead g.F.Watch.Watch.counts) (read_same g.F.Watch.Watch.counts) c.args.passes.now

pub rows_of-requires-clause-shown : goal.rows_of-requires-clause-shown
rows_of-requires-clause-shown g c κs within =
    let l = c.loop-at in
    let R : Pass _ _ → Pass _ _ → Type 0 = IsRead g.F.Watch.Watch.counts in
    let olds = c.args.passes.now in
    let s : Pass _ _ = c.index-passes-at.result in
    let many = turned_many R l.at olds l.passes l.invariant.0 in
    let below : l.at < length l.passes = omega (arith, c.loop-at-test.true, many) in
    let old : s ≡ _ = turned_next R l.at olds l.passes s l.invariant.0 below c.index-passes-at.is in
    let snaps : l.at < length c.args.snapshots.now = omega (arith, below, many, length-map olds (λ (p : Pass _ _). kept_by p.lens), length-map c.args.snapshots.now shown_by, ap (λ xs. length xs) c.requires.shown) in
    subst (λ (p : Pass _ _). shown_by c.index-snapshots-at.result ≡ kept_by p.lens) c.index-passes-at.is
    (map_at shown_by (λ (p : Pass _ _). kept_by p.lens) c.args.snapshots.now olds l.at c.index-snapshots-at.result s c.requires.shown snaps c.index-snapshots-at.is old)

pub rows_of-requires-clause-stored : goal.rows_of-requires-clause-stored
rows_of-requires-clause-stored g c κs within =
    let l = c.loop-at in
    let R : Pass _ _ → Pass _ _ → Type 0 = IsRead g.F.Watch.Watch.counts in
    let olds = c.args.passes.now in
    let s : Pass _ _ = c.index-passes-at.result in
    let many = turned_many R l.at olds l.passes l.invariant.0 in
    let below : l.at < length l.passes = omega (arith, c.loop-at-test.true, many) in
    subst (λ (p : Pass _ _). All IsWrite (kept_by p.lens).written) c.index-passes-at.is
    (all_at (λ (p : Pass _ _). All IsWrite (kept_by p.lens).written) olds l.at s c.requires.stored (omega (arith, below, many)) (turned_next R l.at olds l.passes s l.invariant.0 below c.index-passes-at.is))

pub returns-in_err-push-in-Ok-clause-read : goal.returns-in_err-push-in-Ok-clause-read
returns-in_err-push-in-Ok-clause-read g c =
    let l = c.loop-at in
    let R : Pass _ _ → Pass _ _ → Type 0 = IsRead g.F.Watch.Watch.counts in
    let olds = c.args.passes.now in
    let s : Pass _ _ = c.index-passes-at.result in
    let below : l.at < length l.passes = omega (arith, c.loop-at-test.true, turned_many R l.at olds l.passes l.invariant.0) in
    let done : R s c.rows_of.new.pass = subst (λ (p : Pass _ _). R p c.rows_of.new.pass) (sym c.index-passes-at.is) c.rows_of.ensures.read in
    turned_all R (read_same g.F.Watch.Watch.counts) _ olds _ (turned_more R l.at olds l.passes s c.rows_of.new.pass l.invariant.0 below c.index-passes-at.is done)

pub returns-in-Err-clause-read : goal.returns-in-Err-clause-read
returns-in-Err-clause-read g c =
    let l = c.loop-at in
    let R : Pass _ _ → Pass _ _ → Type 0 = IsRead g.F.Watch.Watch.counts in
    let olds = c.args.passes.now in
    let s : Pass _ _ = c.index-passes-at.result in
    let below : l.at < length l.passes = omega (arith, c.loop-at-test.true, turned_many R l.at olds l.passes l.invariant.0) in
    let done : R s c.rows_of.new.pass = subst (λ (p : Pass _ _). R p c.rows_of.new.pass) (sym c.index-passes-at.is) c.rows_of.ensures.read in
    turned_all R (read_same g.F.Watch.Watch.counts) _ olds _ (turned_more R l.at olds l.passes s c.rows_of.new.pass l.invariant.0 below c.index-passes-at.is done)

pub returns-in-Err-clause-fault : goal.returns-in-Err-clause-fault
returns-in-Err-clause-fault g c =
    let l = c.loop-at in
    let counts = g.F.Watch.Watch.counts in
    let R : Pass _ _ → Pass _ _ → Type 0 = IsRead counts in
    let olds = c.args.passes.now in
    let s : Pass _ _ = c.index-passes-at.result in
    let t : Pass _ _ = c.rows_of.new.pass in
    let many = turned_many R l.at olds l.passes l.invariant.0 in
    let below : l.at < length l.passes = omega (arith, c.loop-at-test.true, many) in
    let is : s ≡ _ = c.index-passes-at.is in
    let done : R s t = subst (λ (p : Pass _ _). R p t) (sym is) c.rows_of.ensures.read in
    subst (IsFaultOf (λ file. g.F.Frozen.content file) counts olds (set l.passes l.at t)) (sym c.of_query.ensures)
    (fault_there (λ file. g.F.Frozen.content file) counts olds l.passes l.at s t c.in-Err.fault (omega (arith, below, many)) below (turned_next R l.at olds l.passes s l.invariant.0 below is) done
    (λ disk. subst (λ (p : Pass _ _). Rose (counts p.watch).faults (counts t.watch).faults) (sym is) (c.in-Err.ensures.cause (ap (λ f. Err f) disk)))
    (subst (λ (p : Pass _ _). OfDamage c.in-Err.fault (λ file place bytes. IsHarmIn (λ f. g.F.Frozen.content f) (kept_by p.lens).list file place bytes)) (sym is) c.in-Err.ensures.harmed)
    (λ cs loaded. c.in-Err.ensures.unharmed cs (subst (λ (p : Pass _ _). AllZip (IsLoadedOf g.F.Frozen.content) (kept_by p.lens).list cs) is loaded)))

pub loop-at-preserved : goal.loop-at-preserved
loop-at-preserved g c =
    let l = c.loop-at in
    let R : Pass _ _ → Pass _ _ → Type 0 = IsRead g.F.Watch.Watch.counts in
    let olds = c.args.passes.now in
    let s : Pass _ _ = c.index-passes-at.result in
    let many = turned_many R l.at olds l.passes l.invariant.0 in
    let below : l.at < length l.passes = omega (arith, c.loop-at-test.true, many) in
    let is : s ≡ _ = c.index-passes-at.is in
    let done : R s c.rows_of.new.pass = subst (λ (p : Pass _ _). R p c.rows_of.new.pass) (sym is) c.rows_of.ensures.read in (
      turned_more R l.at olds l.passes s c.rows_of.new.pass l.invariant.0 below is done,
      λ parts shows. c.in_ok-push-in-Ok.ensures.items
          ∙ take_next (λ (p : Pass _ _) (ps : Pairs). Holds g.F.Frozen.content (showing_in (kept_by p.lens)) ps) (λ ps. map row_text (rows_over (ask_of c.args.ask.now) ps)) olds parts l.at s l.found.items _ shows (omega (arith, below, many))
          (turned_next R l.at olds l.passes s l.invariant.0 below is) (l.invariant.1 parts shows)
          (λ ps holds. c.in-Ok.ensures.rows ps (subst (λ (p : Pass _ _). Holds g.F.Frozen.content (showing_in (kept_by p.lens)) ps) is holds)),
      let before = l.invariant.2 in
          let one = c.in-Ok.ensures.texts in
          (before.0 ++ one.0 ∷ [], c.in_ok-push-in-Ok.ensures.items ∙ ap (λ found. found ++ c.in-Ok.rows ∷ []) before.1 ∙ ap (λ rows. map (map row_text) before.0 ++ rows ∷ []) one.1 ∙ sym (map-append (map row_text) before.0 (one.0 ∷ []))),
    )

pub returns-in_err-joined_rows-clause-read : goal.returns-in_err-joined_rows-clause-read
returns-in_err-joined_rows-clause-read g c = turned_all (IsRead g.F.Watch.Watch.counts) (read_same g.F.Watch.Watch.counts) c.loop-at.at c.args.passes.now c.loop-at.passes c.loop-at.invariant.0

pub returns-clause-read : goal.returns-clause-read
returns-clause-read g c = turned_all (IsRead g.F.Watch.Watch.counts) (read_same g.F.Watch.Watch.counts) c.loop-at.at c.args.passes.now c.loop-at.passes c.loop-at.invariant.0

pub returns-clause-rows : goal.returns-clause-rows
returns-clause-rows g c = λ parts shows own.
    let l = c.loop-at in
    let olds = c.args.passes.now in
    let many : length parts ≡ length olds = zip_length (λ (p : Pass _ _) (ps : Pairs). Holds g.F.Frozen.content (showing_in (kept_by p.lens)) ps) olds parts shows in
    c.in_ok-joined_rows.ensures
    ∙ ap joined (l.invariant.1 parts shows ∙ ap (map (λ ps. map row_text (rows_over (ask_of c.args.ask.now) ps))) (take_all l.at parts (omega (arith, c.loop-at-test.false, many))))
    ∙ joined_united c.replies_are_gathered.ensures c.rendered_are_gathered.ensures (ask_of c.args.ask.now) parts (all_ascend g.F.Frozen.content olds parts shows) own

pub returns-clause-texts : goal.returns-clause-texts
returns-clause-texts g c =
    let found = c.loop-at.invariant.2 in
    (rows_joined found.0, c.in_ok-joined_rows.ensures ∙ ap joined found.1 ∙ texts_joined c.rendered_are_gathered.ensures found.0)
