use Rattle.std.proofs.Common.{rules, ◌≡◌, ◌∙◌, ◌∷◌, [], length, refl, sym, ap, subst, arith}
use Rattle.std.specs.Prelude.{All}
use Rattle.std.proofs.lemmas.Bool.{false≢true}
use Rattle.std.proofs.lemmas.List.Elements.{All-head, All-tail}
use Rattle.tc_lsm_model.specs.Tables.{shapes_held}
use Rattle.tc_memory.specs.DocumentTables.{IsTableOf}
use Rattle.tc_memory.specs.Meaning.{entry_of}
use Rattle.tc_memory.specs.Table.{IsLawfulEntry}
use Rattle.tc_flush.specs.Recounting.{names_with}
use Rattle.tc_flush.proofs.CountingSteps.{names_with-first}
use Rattle.tc_flush.proofs.DocumentNames.{length-names_with}
use Rattle.tc_flush.proofs.EntrySteps.{lawful_held}
use Rattle.tc_flush.proofs.KeptEntries.{cut, none_left}
use Rattle.tc_flush.proofs.learning.names_fit.Goals as goal

pub learn_entry-requires : goal.learn_entry-requires
learn_entry-requires c =
    let l = c.loop-entry in
    let here : l.entries ≡ entry_of c.in-Some.entry ∷ c.next.new.self = search rules in
    let lawful = All-head IsLawfulEntry (entry_of c.in-Some.entry) c.next.new.self (subst (All IsLawfulEntry) here l.invariant.lawful) in
    lawful_held c.in-Some.entry.held (entry_of c.in-Some.entry).1.below lawful.lawful

pub returns-then-not-branch : goal.returns-then-not-branch
returns-then-not-branch c = λ t of.
    let l = c.loop-entry in
    let here : l.entries ≡ entry_of c.in-Some.entry ∷ c.next.new.self = search rules in
    let was = l.invariant.up t of in
    let parts = cut was.0 (entry_of c.in-Some.entry) c.next.new.self (subst (IsTableOf was.0) here was.1) in
    let first = names_with l.known (shapes_held (parts.first ∷ [])) in
    let total : names_with c.args.names.now (shapes_held t) ≡ names_with first (shapes_held parts.rest) =
    was.2 ∙ ap (λ r. names_with l.known (shapes_held r)) parts.is ∙ names_with-first l.known parts.first parts.rest in (
      (λ no. absurd (false≢true no)),
      λ few. absurd (omega (arith, few, ap length total, length-names_with first (shapes_held parts.rest), c.in_ok-learn_entry.ensures.full c.if-not-branch.true (parts.first ∷ []) parts.first_of)),
    )

pub loop-entry-preserved : goal.loop-entry-preserved
loop-entry-preserved c =
    let l = c.loop-entry in
    let e = entry_of c.in-Some.entry in
    let here : l.entries ≡ entry_of c.in-Some.entry ∷ c.next.new.self = search rules in
    record {
      lawful = All-tail IsLawfulEntry e c.next.new.self (subst (All IsLawfulEntry) here l.invariant.lawful);
      up = λ t of.
          let was = l.invariant.up t of in
          let parts = cut was.0 e c.next.new.self (subst (IsTableOf was.0) here was.1) in (
            parts.rest,
            parts.rest_of,
            was.2 ∙ ap (λ r. names_with l.known (shapes_held r)) parts.is ∙ names_with-first l.known parts.first parts.rest
                ∙ ap (λ names. names_with names (shapes_held parts.rest)) (sym (c.in_ok-learn_entry.ensures.learned c.if-not-branch.false (parts.first ∷ []) parts.first_of)),
          );
    }

pub returns : goal.returns
returns c = λ t of.
    let l = c.loop-entry in
    let none : l.entries ≡ [] = search rules in
    let was = l.invariant.up t of in
    let nothing : was.0 ≡ [] = none_left was.0 (subst (IsTableOf was.0) none was.1) in
    ((λ _. omega (arith, c.len-all.ensures.dictionary.few, ap length (was.2 ∙ ap (λ r. names_with l.known (shapes_held r)) nothing))), λ _. refl)
