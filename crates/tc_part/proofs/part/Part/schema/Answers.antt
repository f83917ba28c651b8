use Rattle.std.proofs.Common.{◌∙◌, ◌-◌, sym, ap, subst, arith}
use Rattle.serde_json.specs.Written.{compact_text}
use Rattle.tc_model.specs.Keyed.{values_in}
use Rattle.tc_schema_model.specs.SchemaText.{tree_text}
use Rattle.tc_schema_model.specs.SchemaTree.{schema_tree}
use Rattle.tc_schema_model.specs.Stands.{StandsFor}
use Rattle.tc_lsm_model.specs.Lists.{live}
use Rattle.tc_part_model.specs.Newest.{names_by, schema_by}
use Rattle.tc_part.specs.Openings.{newest_in}
use Rattle.tc_part.proofs.NewestListed.{newest_at, none_listed}
use Rattle.tc_part.proofs.SchemaTexts.{newest_stands}
use Rattle.tc_part.proofs.Spelled.{if_ok_then}
use Rattle.tc_part.proofs.part.Part.schema.Goals as goal

pub returns-then-count-eq0-clause-documents : goal.returns-then-count-eq0-clause-documents
returns-then-count-eq0-clause-documents g c =
    let content = g.S.Frozen.Frozen.content in
    let list = c.self.inside.list in
    let none = none_listed content list (sym c.len-count.ensures ∙ c.if-count-eq0.true) in
    rw (← c.self.view_is) λ p is.
    let docs = values_in (live p.list) in
    let stands = subst (λ d. StandsFor (names_by (newest_in content list)) d docs) (ap schema_by none ∙ sym c.empty-nothing.ensures) (newest_stands _ p is) in
    if_ok_then c.text_of.result _ _ (λ text _ of. of docs (subst (λ ns. StandsFor ns c.empty-nothing.result docs) (ap names_by none ∙ sym c.new-names.ensures.empty) stands)) c.text_of.ensures.documents

pub returns-then-count-eq0-clause-tree : goal.returns-then-count-eq0-clause-tree
returns-then-count-eq0-clause-tree g c =
    let content = g.S.Frozen.Frozen.content in
    let list = c.self.inside.list in
    let none = none_listed content list (sym c.len-count.ensures ∙ c.if-count-eq0.true) in
    rw (← c.self.view_is)
    (if_ok_then c.text_of.result _ _
    (λ text _ is. is ∙ ap (λ ns. compact_text (tree_text ns (schema_tree c.empty-nothing.result))) (c.new-names.ensures.empty ∙ sym (ap names_by none)) ∙ ap (λ d. compact_text (tree_text (names_by (newest_in content list)) (schema_tree d))) (c.empty-nothing.ensures ∙ sym (ap schema_by none)))
    c.text_of.ensures.tree)

pub returns-clause-documents : goal.returns-clause-documents
returns-clause-documents g c =
    let content = g.S.Frozen.Frozen.content in
    let list = c.self.inside.list in
    let names = c.names.result.now in
    let newest = newest_at content list (c.len-count.result - 1) c.component_at-newest.result.now c.component_at-newest.ensures (omega (arith, c.len-count.ensures, c.if-count-eq0.false)) in
    rw (← c.self.view_is) λ p is.
    let docs = values_in (live p.list) in
    let stands = subst (λ d. StandsFor (names_by (newest_in content list)) d docs) (ap schema_by newest ∙ sym c.in_ok-schema.ensures) (newest_stands _ p is) in
    if_ok_then c.text_of-2.result _ _ (λ text _ of. of docs (subst (λ ns. StandsFor ns c.in_ok-schema.schema docs) (ap names_by newest ∙ sym c.names.ensures) stands)) c.text_of-2.ensures.documents

pub returns-clause-tree : goal.returns-clause-tree
returns-clause-tree g c =
    let content = g.S.Frozen.Frozen.content in
    let list = c.self.inside.list in
    let newest = newest_at content list (c.len-count.result - 1) c.component_at-newest.result.now c.component_at-newest.ensures (omega (arith, c.len-count.ensures, c.if-count-eq0.false)) in
    rw (← c.self.view_is)
    (if_ok_then c.text_of-2.result _ _
    (λ text _ is. is ∙ ap (λ ns. compact_text (tree_text ns (schema_tree c.in_ok-schema.schema))) (c.names.ensures ∙ sym (ap names_by newest)) ∙ ap (λ d. compact_text (tree_text (names_by (newest_in content list)) (schema_tree d))) (c.in_ok-schema.ensures ∙ sym (ap schema_by newest)))
    c.text_of-2.ensures.tree)
