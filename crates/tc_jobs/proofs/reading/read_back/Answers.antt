use Rattle.std.proofs.Common.{◌≡◌, ◌∙◌, ap, subst}
use Rattle.std.specs.Prelude.{IfSome}
use Rattle.std.proofs.lemmas.Result.{IfOk-weaker}
use Rattle.tc_store.specs.StoreCalls.{content_now}
use Rattle.tc_component.specs.Loading.{index_in}
use Rattle.tc_component.specs.Spelling.{name_of}
use Rattle.tc_jobs.specs.ReadBack.{JudgesFile, own_judged}
use Rattle.tc_jobs.proofs.Loads.{loads, sound}
use Rattle.tc_jobs.proofs.reading.read_back.Goals as goal

pub returns-clause-sound : goal.returns-clause-sound
returns-clause-sound g c =
    let judged = subst (λ o. IfSome o (λ bytes. JudgesFile (name_of c.args.head) index_in c.load_own.result (own_judged c.args.head bytes))) c.in_ok-file.ensures.content c.load_own.ensures.judged in
    sound c.args.head c.components_are_contents.ensures.judged (content_now (g.S.Device.Device.history c.args.device)) c.load_own.result judged

pub returns-clause-loaded : goal.returns-clause-loaded
returns-clause-loaded g c =
    let told = g.S.Frozen.Frozen.content in
    let content = content_now (g.S.Device.Device.history c.args.device) in
    let judged = subst (λ o. IfSome o (λ bytes. JudgesFile (name_of c.args.head) index_in c.load_own.result (own_judged c.args.head bytes))) c.in_ok-file.ensures.content c.load_own.ensures.judged in
    loads told c.args.head c.components_are_contents.ensures.judged content c.load_own.result
    (IfOk-weaker c.load_own.result _ (λ m. told m.file ≡ content) (λ m same. ap told same ∙ c.in_ok-file.ensures.content) c.load_own.ensures.file) judged
