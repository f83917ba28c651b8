use Rattle.std.proofs.Common.{◌≡◌, ◌∙◌, ◌+◌, ℕ, Bool, true, false, is_some, List, ap, sym, subst}
use Rattle.std.specs.Prelude.{IfSome}
use Rattle.std.specs.Arc.{arc_value}
use Rattle.tc_component.specs.Loading.{ComponentState}
use Rattle.tc_list.specs.Intervals.{last_of}
use Rattle.tc_part.specs.Ready.{active_generation}
use Rattle.tc_part.proofs.Handing.{still_some}
use Rattle.tc_part.proofs.part.Part.flush_with.Goals as goal

later : {F : Type 0} (generation : ℕ) (sealed : Bool) (list : List (ComponentState F)) → sealed ≡ true → generation ≡ last_of list + 2 → generation ≡ active_generation list sealed
later generation sealed list is behind = subst (λ b. generation ≡ active_generation list b) (sym is) behind

pub invariant_of-self : goal.invariant_of-self
invariant_of-self g c =
    let sealed : is_some c.self.inside.sealed ≡ true = sym (still_some arc_value c.self.inside.sealed) ∙ ap (λ s. is_some s.sealed) c.self.view_is ∙ c.requires.sealed in
    record {
      frame = c.self.invariant.frame;
      few_writes = c.self.invariant.few_writes;
      first = c.self.invariant.first;
      last = c.self.invariant.last;
      log_name = c.self.invariant.log_name;
      sealed_name = c.self.invariant.sealed_name;
      log_sound = λ _. ap (λ s. s.log.failed) c.self.view_is ∙ c.requires.sound;
      sealed_sound = λ _. subst (λ s. IfSome s.sealed_log (λ l. l.failed ≡ false)) (sym c.self.view_is) c.requires.sealed_sound;
      merge = c.self.invariant.merge;
      listed = c.self.invariant.listed;
      named = c.self.invariant.named;
      run = c.self.invariant.run;
      behind = λ _. later _ _ c.self.inside.list sealed (ap (λ s. s.generation) c.self.view_is ∙ c.requires.behind ∙ ap (λ s. last_of s.list + 2) (sym c.self.view_is));
      sealed_both = λ _. ap (λ s. is_some s.sealed_log) c.self.view_is ∙ c.requires.sealed_both ∙ sym sealed;
      flush = λ _ _. sealed;
    }
