-- The part of an engine that has not failed is what contracts see of the engine.
use Rattle.std.proofs.Common.{◌≡◌, ◌∙◌, ◌≤◌, ◌+◌, ℕ, Bool, true, false, List, Option, ap, sym, subst, arith}
use Rattle.std.specs.Prelude.{Result, Ok, Err}
use Rattle.tc_component.specs.Loading.{ComponentState}
use Rattle.tc_list.specs.Intervals.{last_of}
use Rattle.tc_list.specs.declared.policy.Policy.{Policy}
use Rattle.tc_part.specs.Ready.{active_generation}
use Rattle.tc_part_model.specs.PartState.{PartState}
use Rattle.tc_running.specs.Jobs.{JobsState}
use Rattle.tc_work.specs.declared.fault.EngineFault.{EngineFault}
use Rattle.tc_work.specs.EngineState.{IsAwake}
use Rattle.tc_work.specs.Moving.{Eyes, beside, MovesOver}
use Rattle.tc_work.proofs.GivenBack.{keeps_given_up}
use Rattle.tc_work.proofs.OnResults.{on_err_only}

pub inside_is : {S D F W : Type 0} {size : F → ℕ} {policy : Policy} (part : PartState S D F W) (failed : Bool) (seen : PartState S D F W) → record part { failed = failed } ≡ seen → seen.failed ≡ false → (failed ≡ false → IsAwake size policy part) → part ≡ seen
inside_is {S = S} {D = D} {F = F} {W = W} part failed seen is sound invariant =
    let flag : failed ≡ false = ap (λ (s : PartState S D F W). s.failed) is ∙ sound in
    ap (λ b. record part { failed = b }) ((invariant flag).sound ∙ sym flag) ∙ is

pub closed_sound : {S D F W : Type 0} (part : PartState S D F W) → part.failed ≡ false → part ≡ record part { failed = false }
closed_sound part sound = ap (λ b. record part { failed = b }) sound

-- it takes writes whether the reader's watch is at home or out
pub awake_as_read : {S D F W : Type 0} {size : F → ℕ} {policy : Policy} (old new : PartState S D F W) (reader : Option W) → new ≡ record old { reader = reader } → IsAwake size policy old → IsAwake size policy new
awake_as_read {S = S} {D = D} {F = F} {W = W} {size = size} {policy = policy} old new reader same awake =
    subst (λ (s : PartState S D F W). IsAwake size policy s) (sym same) (record { sound = awake.sound; nothing_staged = awake.nothing_staged; flushing = awake.flushing; picked = awake.picked })

-- a call of the part ended well, of an engine that has not failed then
pub closed_well : {S D F W : Type 0} (e : Eyes S D F W) (inside seen new : PartState S D F W) (jobs now : JobsState F D W) → inside ≡ seen → MovesOver e (Ok tt) (beside inside jobs) (beside new now) → MovesOver e (Ok tt) (beside seen jobs) (beside (record new { failed = false }) now)
closed_well {S = S} {D = D} {F = F} {W = W} e inside seen new jobs now same moves =
    subst (λ (s : PartState S D F W). MovesOver e (Ok tt) (beside seen jobs) (beside s now)) (closed_sound new moves.well.sound) (subst (λ (s : PartState S D F W). MovesOver e (Ok tt) (beside s jobs) (beside new now)) same moves)

-- and one that failed leaves it failed
pub closed_failed : {S D F W : Type 0} (e : Eyes S D F W) (inside seen new : PartState S D F W) (jobs now : JobsState F D W) (r : Result (Unit {0}) EngineFault)
    (fault : EngineFault) → r ≡ Err fault → inside ≡ seen → MovesOver e r (beside inside jobs) (beside new now)
    → MovesOver e r (beside seen jobs) (beside (record new { failed = true }) now)
closed_failed {S = S} {D = D} {F = F} {W = W} e inside seen new jobs now r fault is same moves = subst (λ (s : PartState S D F W). MovesOver e r (beside s jobs) (beside (record new { failed = true }) now)) same (record {
  keeps = keeps_given_up e _ (beside inside jobs) (beside new now) moves.keeps;
  well = on_err_only r fault _ is;
  failed = moves.failed;
  moments = moves.moments;
  next_log = moves.next_log;
  untold_log = moves.untold_log;
  damaged = moves.damaged;
  undamaged = moves.undamaged;
  spent = moves.spent;
  unmoved = moves.unmoved;
  log_out_spent = moves.log_out_spent;
})

-- a part that has not failed has two generations behind its components at most
pub few_outside : {F : Type 0} (list : List (ComponentState F)) (sealed : Bool) (generation : ℕ) → generation ≡ active_generation list sealed → generation ≤ last_of list + 2
few_outside list false generation is = omega (arith, is)
few_outside list true generation is = omega (arith, is)
