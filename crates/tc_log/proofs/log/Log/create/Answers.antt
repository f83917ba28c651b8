use Rattle.std.proofs.Common.{◌≡◌, ◌∙◌, None, sym, ap, subst, [], length, rules}
use Rattle.tc_store.specs.Moments.{goes_on, IfTold, LeavesAt, LeavesOnly}
use Rattle.tc_store.specs.DiskFile.{written}
use Rattle.tc_store.proofs.GateLemmas.{told_from}
use Rattle.tc_store.proofs.MomentLemmas.{told_map}
use Rattle.tc_store.specs.Gate.{IsShutOr, IsShutOrWhole}
use Rattle.tc_log.specs.Spelling.{IsHead, log_at_rest}
use Rattle.tc_log.proofs.Appended.{created_means}
use Rattle.tc_log.proofs.Created.{begun_moments, created_file, filled_moments, opened_moments}
use Rattle.tc_log.proofs.log.Log.create.Goals as goal

pub returns-in-Err-clause-broken_moments : goal.returns-in-Err-clause-broken_moments
returns-in-Err-clause-broken_moments g c before =
    told_from (g.D.Device.history c.args.device) _ λ f past is shut.
    begun_moments before (log_at_rest c.args.head []) (g.D.Device.history c.args.device) (g.D.Device.history c.in-Err.broken.device) (c.in-Err.ensures.broken_moments before (rw is shut))

pub returns-in-Err-write-clause-broken_moments : goal.returns-in-Err-write-clause-broken_moments
returns-in-Err-write-clause-broken_moments g c before =
    told_from (g.D.Device.history c.args.device) _ λ f past is shut.
    let all = filled_moments before (log_at_rest c.args.head []) (g.D.Device.history c.args.device) (g.D.Device.history c.in-Ok.gated) (g.D.Device.history c.write.new.self) (c.in-Ok.ensures.moments before (rw is shut)) c.write.ensures.moments in
    subst (λ d. LeavesOnly (IsShutOrWhole before (log_at_rest c.args.head [])) (g.D.Device.history c.args.device) (g.D.Device.history d)) (sym c.give_back.ensures.same) all

pub returns-in-Ok-open_gate-clause-moments : goal.returns-in-Ok-open_gate-clause-moments
returns-in-Ok-open_gate-clause-moments g c before =
    told_from (g.D.Device.history c.args.device) _ λ f past is shut.
    let laws = g.met.D.Device g.world.𝓛 g.world.𝓜 g.world.𝓡 ((λ s x. x), (λ x. x), (λ x. x), λ x. x) in
    let size : g.D.Device.size c.args.device ≡ length f.content = subst (λ moments. IfTold moments (λ f. g.D.Device.size c.args.device ≡ length f.content)) is (laws.told_size c.args.device) in
    opened_moments before c.args.head f past (g.D.Device.history c.args.device) (g.D.Device.history c.in-Ok.gated) (g.D.Device.history c.write.new.self) (g.D.Device.history c.in-Ok-open_gate.device)
    (sym size ∙ c.requires.empty) is c.in-Ok.ensures.begun (c.in_default.ensures.written ∙ ap (λ bytes. goes_on (written 1 bytes) (g.D.Device.history c.in-Ok.gated)) c.head_and_gate.ensures) (c.in-Ok.ensures.moments before (rw is shut)) c.write.ensures.moments c.in-Ok-open_gate.ensures.moments

pub returns-in-Err-open_gate-clause-broken_moments :
    goal.returns-in-Err-open_gate-clause-broken_moments
returns-in-Err-open_gate-clause-broken_moments g c before =
    told_from (g.D.Device.history c.args.device) _ λ f past is shut.
    let laws = g.met.D.Device g.world.𝓛 g.world.𝓜 g.world.𝓡 ((λ s x. x), (λ x. x), (λ x. x), λ x. x) in
    let size : g.D.Device.size c.args.device ≡ length f.content = subst (λ moments. IfTold moments (λ f. g.D.Device.size c.args.device ≡ length f.content)) is (laws.told_size c.args.device) in
    opened_moments before c.args.head f past (g.D.Device.history c.args.device) (g.D.Device.history c.in-Ok.gated) (g.D.Device.history c.write.new.self) (g.D.Device.history c.in-Err-open_gate.broken.device)
    (sym size ∙ c.requires.empty) is c.in-Ok.ensures.begun (c.in_default.ensures.written ∙ ap (λ bytes. goes_on (written 1 bytes) (g.D.Device.history c.in-Ok.gated)) c.head_and_gate.ensures) (c.in-Ok.ensures.moments before (rw is shut)) c.write.ensures.moments c.in-Err-open_gate.ensures.broken_moments

pub returns-in-Err-clause-untold : goal.returns-in-Err-clause-untold
returns-in-Err-clause-untold g c none =
    (c.in-Err.ensures.broken_moments None (subst (λ moments. IfTold moments (LeavesAt (IsShutOr None))) (sym none) tt)).untold none

pub returns-in-Ok-open_gate-clause-means : goal.returns-in-Ok-open_gate-clause-means
returns-in-Ok-open_gate-clause-means g c =
    let is : IsHead c.args.head = search rules in
    let laws = g.met.D.Device g.world.𝓛 g.world.𝓜 g.world.𝓡 ((λ s x. x), (λ x. x), (λ x. x), λ x. x) in
    let old = g.D.Device.history c.args.device in
    let empty : IfTold old (λ f. length f.content ≡ 0) =
    told_map (λ f. g.D.Device.size c.args.device ≡ length f.content) (λ f. length f.content ≡ 0) old (λ f size. sym size ∙ c.requires.empty) (laws.told_size c.args.device) in
    created_means (g.D.Device.history c.in-Ok-open_gate.device) c.args.head is
    (created_file c.args.head old (g.D.Device.history c.in-Ok.gated) (g.D.Device.history c.write.new.self) (g.D.Device.history c.in-Ok-open_gate.device) empty
    c.in-Ok.ensures.begun (c.in_default.ensures.written ∙ ap (λ bytes. goes_on (written 1 bytes) (g.D.Device.history c.in-Ok.gated)) c.head_and_gate.ensures) c.in-Ok-open_gate.ensures.open)
