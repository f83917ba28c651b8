use Rattle.std.proofs.Common.{◌≡◌, ◌∙◌, ◌<◌, ◌≤◌, ◌^◌, List, refl, sym, ap, subst, inr}
use Rattle.std.specs.Prelude.{IfNone, IfSome}
use Rattle.tc_model.specs.Document.{Document}
use Rattle.tc_schema_model.specs.Counted.{documents_of}
use Rattle.tc_schema_model.specs.Stands.{StandsFor}
use Rattle.tc_difference.specs.Differences.{IsFirstDifference}
use Rattle.tc_difference.specs.Found.{found_meant}
use Rattle.tc_audit.proofs.Rooms.{below}
use Rattle.tc_audit.proofs.auditing.judge_schema.Goals as goal

pub first_difference-requires-clause-kept : goal.first_difference-requires-clause-kept
first_difference-requires-clause-kept g c = rw (c.names.ensures, c.in_ok-kept.ensures) c.file_len-lawful.ensures.lawful.schema.canonical

pub first_difference-requires-clause-counted : goal.first_difference-requires-clause-counted
first_difference-requires-clause-counted g c = rw c.names.ensures c.requires.canonical

pub returns-then-is_full-clause-wrong : goal.returns-then-is_full-clause-wrong
returns-then-is_full-clause-wrong g c = (refl, inr (subst (λ n. 2 ^ 32 ≤ n) c.documents.ensures (c.is_full.ensures.0 c.if-is_full.true)))

pub returns-in-None-clause-same : goal.returns-in-None-clause-same
returns-in-None-clause-same g c =
    let same = subst (λ o. IfNone o (c.in_ok-kept.kept ≡ c.args.recount.schema)) c.in-None.is c.in_ok-found.ensures.none in
    (c.into_schema.ensures, c.into_schema.ensures ∙ sym same ∙ c.in_ok-kept.ensures)

pub returns-in-None-clause-few : goal.returns-in-None-clause-few
returns-in-None-clause-few g c =
    let short = below c.documents.result (2 ^ 32) c.is_full.result c.if-is_full.false c.is_full.ensures.1 in
    subst (λ n. n < 2 ^ 32) (c.documents.ensures ∙ ap documents_of (sym c.into_schema.ensures)) short

pub returns-in-Some-clause-wrong : goal.returns-in-Some-clause-wrong
returns-in-Some-clause-wrong g c =
    let m = c.args.component.now in
    let short = below c.documents.result (2 ^ 32) c.is_full.result c.if-is_full.false c.is_full.ensures.1 in (
      refl,
      c.requires.few,
      subst (λ n. n < 2 ^ 32) c.documents.ensures short,
      rw (← c.names.ensures, ← c.in_ok-kept.ensures)
          (subst (λ o. IfSome o (λ x. (docs : List Document) → StandsFor c.names.result.now c.args.recount.schema docs → IsFirstDifference c.names.result.now c.in_ok-kept.kept docs (found_meant x))) c.in-Some.is c.in_ok-found.ensures.documents),
    )
