use Rattle.std.proofs.Common.{◌≡◌, ◌+◌, ◌∷◌, [], length, sym, ap, ◌∙◌, subst, arith, rules}
use Rattle.std.specs.Prelude.{All}
use Rattle.std.proofs.lemmas.List.Elements.{All-tail}
use Rattle.tc_lsm_model.specs.Tables.{Table}
use Rattle.tc_memory.specs.DocumentTables.{IsTableOf}
use Rattle.tc_memory.specs.Meaning.{entry_of}
use Rattle.tc_memory.specs.Table.{IsLawfulEntry}
use Rattle.tc_flush.specs.Counting.{names_held}
use Rattle.tc_flush.proofs.CountedTables.{length-names_held, saturated}
use Rattle.tc_flush.proofs.KeptEntries.{cut, none_left}
use Rattle.tc_flush.proofs.counting.member_count.Goals as goal

pub loop-entry-preserved : goal.loop-entry-preserved
loop-entry-preserved c =
    let l = c.loop-entry in
    let e = entry_of c.in-Some.entry in
    let left = c.next.new.self in
    let here : l.entries ≡ entry_of c.in-Some.entry ∷ c.next.new.self = search rules in
    record {
      fits = omega (arith, c.saturating_add-members.ensures);
      lawful = All-tail IsLawfulEntry e left (subst (All IsLawfulEntry) here l.invariant.lawful);
      rest = λ m each t of.
          let total : (x : Table) → IsTableOf x l.entries → length (names_held x) ≡ c.members_of.result + m = λ x of_x.
          let parts = cut x e left (subst (IsTableOf x) here of_x) in
          omega (arith, ap (λ y. length (names_held y)) parts.is, length-names_held parts.first parts.rest, c.members_of.ensures (parts.first ∷ []) parts.first_of, each parts.rest parts.rest_of) in
          l.invariant.rest (c.members_of.result + m) total t of ∙ saturated l.members c.members_of.result m c.saturating_add-members.result c.saturating_add-members.ensures;
    }

pub returns : goal.returns
returns c = λ t of.
    let l = c.loop-entry in
    let none : l.entries ≡ [] = search rules in
    sym (l.invariant.rest 0 (λ x of_x. ap (λ y. length (names_held y)) (none_left x (subst (IsTableOf x) none of_x))) t of ∙ omega (arith, l.invariant.fits))
