use Rattle.std.proofs.Common.{◌≡◌, ap, subst, sym}
use Rattle.std.specs.Prelude.{IfOk}
use Rattle.serde_json.specs.Written.{compact_text}
use Rattle.tc_model.specs.Keyed.{values_in}
use Rattle.tc_part_model.specs.Meaning.{IsPart}
use Rattle.tc_part_model.specs.PartState.{PartState, told}
use Rattle.tc_plain_model.specs.Writes.{Pairs}
use Rattle.tc_schema_model.specs.SchemaText.{schema_text}
use Rattle.tc_work.specs.EngineState.{EngineState}
use Rattle.tc_work.proofs.EmptyLogs.{all_listed, unwritten}
use Rattle.tc_work.proofs.OpenEngines.{inside_is}
use Rattle.tc_work.proofs.engine.Engine.schema.Goals as goal

pub returns-clause-documents : goal.returns-clause-documents
returns-clause-documents g c = λ p is.
    let same = inside_is c.self.inside.part c.self.inside.failed c.args.self.now.part (ap (λ (e : EngineState _ _ _ _). e.part) c.self.view_is) is.sound c.self.invariant in
    c.schema.ensures.documents p (subst (λ (s : PartState _ _ _ _). IsPart (told g.S.Store.history g.S.Device.Device.history g.S.Frozen.Frozen.content s) p) (sym same) is)

pub returns-clause-text : goal.returns-clause-text
returns-clause-text g c = λ p is tells none_sealed short.
    let t = told g.S.Store.history g.S.Device.Device.history g.S.Frozen.Frozen.content c.args.self.now.part in
    let laws = g.met.S.Device.Device g.world.𝓛 g.world.𝓜 g.world.𝓡 ((λ s x. x), (λ x. x), (λ x. x), λ x. x) in
    let device = c.args.self.now.part.log.device in
    let none = unwritten t p (g.S.Device.Device.size device) is tells.store (laws.told_size device) (laws.content_may_stay device) short in
    subst (λ (pairs : Pairs). IfOk c.schema.result (λ text. text ≡ compact_text (schema_text (values_in pairs)))) (sym (all_listed t p is none_sealed none)) (returns-clause-documents g c p is)

pub returns-clause-tree : goal.returns-clause-tree
returns-clause-tree g c = rw (← c.self.view_is) c.schema.ensures.tree
