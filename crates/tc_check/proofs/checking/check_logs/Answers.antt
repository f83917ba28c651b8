use Rattle.std.proofs.Common.{◌∙◌, arith, inr, subst}
use Rattle.std.specs.List.{AllByRecursion}
use Rattle.tc_lawful.specs.Logs.{IsShort}
use Rattle.tc_check.specs.Counting.{writes_in}
use Rattle.tc_check.specs.Long.{IsFirstLong}
use Rattle.tc_check.specs.Naming.{FitBehind}
use Rattle.tc_check.proofs.CheckedReads.{indexes}
use Rattle.tc_check.proofs.RightLogs.{never_long, never_many, never_many_names, right_logs, rightly, too_many, too_many_names}
use Rattle.tc_check.proofs.checking.check_logs.Goals as goal

-- ---- a long record

pub returns-in-Some-clause-lawful : goal.returns-in-Some-clause-lawful
returns-in-Some-clause-lawful g c = λ part cs kept audited live.
    let first = subst (λ logs. IsFirstLong (writes_in logs) c.in-Some.number) c.deref.ensures.value c.in-Some.ensures.first in
    absurd (never_long c.short_writes_are_stored.ensures.stored c.args.logs.items kept c.in-Some.number audited.kept audited.storable first)

pub returns-in-Some-clause-wrong : goal.returns-in-Some-clause-wrong
returns-in-Some-clause-wrong g c = λ part cs right live. inr (cs, right, subst (λ logs. IsFirstLong (writes_in logs) c.in-Some.number) c.deref.ensures.value c.in-Some.ensures.first)

-- ---- documents

pub returns-then-documents-ge-MOST-clause-lawful : goal.returns-then-documents-ge-MOST-clause-lawful
returns-then-documents-ge-MOST-clause-lawful g c = λ part cs kept audited live.
    let shows = c.loaded_components_show_contents.ensures.shown c.args.list.now cs audited.loaded in
    absurd (never_many cs c.args.logs.items c.in_ok-documents.documents kept (λ logs same. c.in_ok-documents.ensures part cs logs audited.listed shows live (c.deref-2.ensures.value ∙ same)) audited.kept audited.room (omega (arith, c.if-documents-ge-MOST.true)))

pub returns-then-documents-ge-MOST-clause-wrong : goal.returns-then-documents-ge-MOST-clause-wrong
returns-then-documents-ge-MOST-clause-wrong g c = λ part cs right live.
    let shows = c.loaded_components_show_contents.ensures.shown c.args.list.now cs right.loaded in
    let short = subst (λ logs. AllByRecursion IsShort (writes_in logs)) c.deref.ensures.value c.in_default.ensures.none in
    inr (
      cs,
      right,
      too_many c.short_writes_are_stored.ensures.stored cs c.args.logs.items c.in_ok-documents.documents c.requires short (λ kept same. c.in_ok-documents.ensures part cs kept right.listed shows live (c.deref-2.ensures.value ∙ same)) (omega (arith, c.if-documents-ge-MOST.true)),
    )

-- ---- names

pub returns-then-fit-clause-right : goal.returns-then-fit-clause-right
returns-then-fit-clause-right g c = λ part cs right live.
    let shows = c.loaded_components_show_contents.ensures.shown c.args.list.now cs right.loaded in
    let short = subst (λ logs. AllByRecursion IsShort (writes_in logs)) c.deref.ensures.value c.in_default.ensures.none in
    let names = c.inputs_are_newest.ensures.names c.args.list.now cs (indexes g.F.Frozen.content c.args.list.now cs right.loaded) in
    let fits = subst (λ known. FitBehind c.args.logs.items known c.in_ok-fit.fit) names c.in_ok-fit.ensures in
    right_logs c.short_writes_are_stored.ensures.stored cs c.args.logs.items c.in_ok-documents.documents c.in_ok-fit.fit c.requires short
    (λ kept same. c.in_ok-documents.ensures part cs kept right.listed shows live (c.deref-2.ensures.value ∙ same)) (omega (arith, c.if-documents-ge-MOST.false)) fits c.if-fit.true

pub returns-then-fit-clause-lawful : goal.returns-then-fit-clause-lawful
returns-then-fit-clause-lawful g c = λ part cs kept audited live.
    let shows = c.loaded_components_show_contents.ensures.shown c.args.list.now cs audited.loaded in
    rightly cs c.args.logs.items c.in_ok-documents.documents kept (λ logs same. c.in_ok-documents.ensures part cs logs audited.listed shows live (c.deref-2.ensures.value ∙ same)) audited.kept

pub returns-else-fit-clause-lawful : goal.returns-else-fit-clause-lawful
returns-else-fit-clause-lawful g c = λ part cs kept audited live.
    let names = c.inputs_are_newest.ensures.names c.args.list.now cs (indexes g.F.Frozen.content c.args.list.now cs audited.loaded) in
    let fits = subst (λ known. FitBehind c.args.logs.items known c.in_ok-fit.fit) names c.in_ok-fit.ensures in
    absurd (never_many_names cs c.args.logs.items kept c.in_ok-fit.fit fits audited.kept audited.storable audited.few c.if-fit.false)

pub returns-else-fit-clause-wrong : goal.returns-else-fit-clause-wrong
returns-else-fit-clause-wrong g c = λ part cs right live.
    let shows = c.loaded_components_show_contents.ensures.shown c.args.list.now cs right.loaded in
    let short = subst (λ logs. AllByRecursion IsShort (writes_in logs)) c.deref.ensures.value c.in_default.ensures.none in
    let names = c.inputs_are_newest.ensures.names c.args.list.now cs (indexes g.F.Frozen.content c.args.list.now cs right.loaded) in
    let fits = subst (λ known. FitBehind c.args.logs.items known c.in_ok-fit.fit) names c.in_ok-fit.ensures in
    inr (
      cs,
      right,
      too_many_names c.short_writes_are_stored.ensures.stored cs c.args.logs.items c.in_ok-documents.documents c.in_ok-fit.fit c.requires short
          (λ kept same. c.in_ok-documents.ensures part cs kept right.listed shows live (c.deref-2.ensures.value ∙ same)) (omega (arith, c.if-documents-ge-MOST.false)) fits c.if-fit.false,
    )
