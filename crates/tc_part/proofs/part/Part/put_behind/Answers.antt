use Rattle.std.proofs.Common.{◌≡◌, ◌∙◌, ◌+◌, ◌-◌, ◌<◌, ◌^◌, ℕ, Bool, true, is_some, List, sym, ap, subst, arith}
use Rattle.std.specs.Arc.{arc_value}
use Rattle.tc_component.specs.Loading.{ComponentState}
use Rattle.tc_list.specs.Intervals.{last_of}
use Rattle.tc_part.specs.Ready.{active_generation}
use Rattle.tc_part.proofs.Handing.{still_some}
use Rattle.tc_store.specs.declared.file_name.FileName.TheVariants.{Log}
use Rattle.tc_part.proofs.part.Part.put_behind.Goals as goal

same_before : (n : ℕ) → n ≡ n + 1 - 1
same_before n = omega arith

later : {F : Type 0} (generation : ℕ) (sealed : Bool) (list : List (ComponentState F)) → sealed ≡ true → generation ≡ last_of list + 1 → generation + 1 ≡ active_generation list sealed
later generation sealed list is behind = subst (λ b. generation + 1 ≡ active_generation list b) (sym is) (omega (arith, behind))

pub invariant_of-self : goal.invariant_of-self
invariant_of-self g c =
    let sealed : is_some c.self.inside.sealed ≡ true = sym (still_some arc_value c.self.inside.sealed) ∙ ap (λ s. is_some s.sealed) c.self.view_is ∙ c.requires.sealed in
    record {
      frame = c.self.invariant.frame;
      few_writes = c.self.invariant.few_writes;
      first = omega arith;
      last = subst (λ s. s.generation + 1 < 2 ^ 63) (sym c.self.view_is) c.requires.next;
      log_name = ap (λ l. g.S.Device.Device.name l.device) c.replace.ensures.after ∙ c.requires.name ∙ ap (λ s. Log (s.generation + 1)) (sym c.self.view_is);
      sealed_name = ap (λ l. g.S.Device.Device.name l.device) c.replace.ensures.value ∙ c.self.invariant.log_name ∙ ap (λ n. Log n) (same_before c.self.inside.generation);
      log_sound = λ _. ap (λ l. l.failed) c.replace.ensures.after ∙ c.requires.sound;
      sealed_sound = λ _. ap (λ l. l.failed) c.replace.ensures.value ∙ ap (λ s. s.log.failed) c.self.view_is ∙ c.requires.old_sound;
      merge = c.self.invariant.merge;
      listed = c.self.invariant.listed;
      named = c.self.invariant.named;
      run = c.self.invariant.run;
      behind = λ _. later _ _ c.self.inside.list sealed (ap (λ s. s.generation) c.self.view_is ∙ c.requires.behind ∙ ap (λ s. last_of s.list + 1) (sym c.self.view_is));
      sealed_both = λ _. sym sealed;
      flush = λ _ _. sealed;
    }
