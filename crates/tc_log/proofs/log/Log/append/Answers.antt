use Rattle.std.proofs.Common.{◌∙◌, sym, ap, subst, arith}
use Rattle.tc_store.specs.Moments.{IfTold}
use Rattle.tc_log.specs.Appending.{IsAtRest}
use Rattle.tc_log.proofs.Appended.{tells_on, told_appends, told_after, told_rest, told_durable}
use Rattle.tc_log.proofs.log.Log.append.Goals as goal

pub returns-in_err-write_frame-clause-moments : goal.returns-in_err-write_frame-clause-moments
returns-in_err-write_frame-clause-moments g c =
    let laws = g.met.D.Device g.world.𝓛 g.world.𝓜 g.world.𝓡 ((λ s x. x), (λ x. x), (λ x. x), λ x. x) in
    let device = c.self.inside.device in
    let rest = (c.self.invariant (ap (λ s. s.failed) c.self.view_is ∙ c.requires)).1 in
    rw (← c.self.view_is) (λ head writes means.
    c.write_frame.ensures.moments head writes c.args.frame (told_appends (g.D.Device.history device) (g.D.Device.size device) c.bytes.result.now head writes c.args.frame rest (laws.told_size device) c.bytes.ensures means))

pub returns-in_err-write_frame-clause-after : goal.returns-in_err-write_frame-clause-after
returns-in_err-write_frame-clause-after g c =
    let device = c.self.inside.device in
    let rest = (c.self.invariant (ap (λ s. s.failed) c.self.view_is ∙ c.requires)).1 in
    λ head writes means.
    told_after (g.D.Device.history c.args.self.now.device) (g.D.Device.history c.write_frame.new.device) head writes c.args.frame (rw (← c.self.view_is) rest) means (returns-in_err-write_frame-clause-moments g c head writes means)

pub invariant_of-self-2 : goal.invariant_of-self-2
invariant_of-self-2 g c = λ ok.
    let laws = g.met.D.Device g.world.𝓛 g.world.𝓜 g.world.𝓡 ((λ s x. x), (λ x. x), (λ x. x), λ x. x) in
    let device = c.self.inside.device in
    let was = c.self.invariant (ap (λ s. s.failed) c.self.view_is ∙ c.requires) in (
      omega (arith, was.0, c.in_ok-write_frame.ensures.longer),
      subst (λ moments. IfTold moments IsAtRest) (sym c.in_ok-write_frame.ensures.appended) (told_rest (g.D.Device.history device) (g.D.Device.size device) c.bytes.result.now c.args.frame was.1 (laws.told_size device) c.bytes.ensures),
    )

pub returns-clause-durable : goal.returns-clause-durable
returns-clause-durable g c =
    let laws = g.met.D.Device g.world.𝓛 g.world.𝓜 g.world.𝓡 ((λ s x. x), (λ x. x), (λ x. x), λ x. x) in
    let device = c.self.inside.device in
    let rest = (c.self.invariant (ap (λ s. s.failed) c.self.view_is ∙ c.requires)).1 in
    rw (← c.self.view_is) (λ head writes means.
    rw c.in_ok-write_frame.ensures.appended (told_durable (g.D.Device.history device) (g.D.Device.size device) c.bytes.result.now head writes c.args.frame rest (laws.told_size device) c.bytes.ensures means))

pub returns-clause-moments : goal.returns-clause-moments
returns-clause-moments g c =
    let laws = g.met.D.Device g.world.𝓛 g.world.𝓜 g.world.𝓡 ((λ s x. x), (λ x. x), (λ x. x), λ x. x) in
    let device = c.self.inside.device in
    let rest = (c.self.invariant (ap (λ s. s.failed) c.self.view_is ∙ c.requires)).1 in
    rw (← c.self.view_is) (λ head writes means.
    c.write_frame.ensures.moments head writes c.args.frame (told_appends (g.D.Device.history device) (g.D.Device.size device) c.bytes.result.now head writes c.args.frame rest (laws.told_size device) c.bytes.ensures means))

pub returns-clause-after : goal.returns-clause-after
returns-clause-after g c =
    let rest = (c.self.invariant (ap (λ s. s.failed) c.self.view_is ∙ c.requires)).1 in
    λ head writes means.
    told_after (g.D.Device.history c.args.self.now.device) (g.D.Device.history c.write_frame.new.device) head writes c.args.frame (rw (← c.self.view_is) rest) means (returns-clause-moments g c head writes means)

-- ---- whether it tells

pub returns-in_err-write_frame-clause-tells : goal.returns-in_err-write_frame-clause-tells
returns-in_err-write_frame-clause-tells g c =
    let rest = (c.self.invariant (ap (λ s. s.failed) c.self.view_is ∙ c.requires)).1 in
    tells_on (g.D.Device.history c.args.self.now.device) (g.D.Device.history c.write_frame.new.device) c.args.frame (rw (← c.self.view_is) rest) (returns-in_err-write_frame-clause-moments g c)

pub returns-clause-tells : goal.returns-clause-tells
returns-clause-tells g c =
    let rest = (c.self.invariant (ap (λ s. s.failed) c.self.view_is ∙ c.requires)).1 in
    tells_on (g.D.Device.history c.args.self.now.device) (g.D.Device.history c.write_frame.new.device) c.args.frame (rw (← c.self.view_is) rest) (returns-clause-moments g c)
