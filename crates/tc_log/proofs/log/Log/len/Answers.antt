use Rattle.std.proofs.Common.{◌≡◌, ◌↔◌, List, [], sym, subst}
use Rattle.tc_store.specs.Moments.{IfTold}
use Rattle.tc_log.specs.declared.head.LogHead.{LogHead}
use Rattle.tc_log.specs.declared.write.Write.{Write}
use Rattle.tc_log.specs.Layout.{empty_size}
use Rattle.tc_log.specs.Spelling.{Means}
use Rattle.tc_log.proofs.Appended.{told_empty}
use Rattle.tc_log.proofs.log.Log.len.Goals as goal

pub returns-clause-empty : goal.returns-clause-empty
returns-clause-empty g c =
    let laws = g.met.D.Device g.world.𝓛 g.world.𝓜 g.world.𝓡 ((λ s x. x), (λ x. x), (λ x. x), λ x. x) in
    let device = c.self.inside.device in
    rw (← c.self.view_is) (λ sound.
    subst (λ n. IfTold (g.D.Device.history device) (λ f. (head : LogHead) (writes : List Write) → Means f.content head writes → (n ≡ empty_size) ↔ (writes ≡ []))) (sym c.len.ensures.exact)
    (told_empty (g.D.Device.history device) (g.D.Device.size device) (c.self.invariant sound).1 (laws.told_size device)))
