-- An engine that fails keeps what its part kept.
use Rattle.std.proofs.Common.{◌≡◌, ◌∙◌, List, [], ◌++◌, Option, Some, None, length, refl, ap, subst, inl, inr, is_some}
use Rattle.std.specs.Prelude.{IfSome}
use Rattle.tc_memory.specs.Table as memory
use Rattle.tc_machine.specs.State.{Sealed}
use Rattle.tc_plain_model.specs.Writes.{Write}
use Rattle.tc_part.specs.Closing.{HasLogsOf}
use Rattle.tc_part_model.specs.Meaning.{IsPart, HasFailedAs, KeepsSealed}
use Rattle.tc_part_model.specs.PartState.{Told, AreTold}
use Rattle.tc_part_model.specs.PartView.{PartView}
use Rattle.tc_work.specs.Failing.{HasFailedWith}
use Rattle.tc_work.specs.Windowed.{staged_as}

-- where a part fails while its logs are as they were, they are those of what it meant
pub logs_stay : (t u : Told) (p : PartView) → IsPart t p → u.generation ≡ t.generation → u.sealed_log ≡ t.sealed_log → HasLogsOf u p
logs_stay t u p is generation sealed_log = record { generation = generation ∙ is.view.generation; sealed_log = ap is_some sealed_log ∙ is.view.sealed_log; one = one p.sealed t.sealed is.view.sealed }
  where
    one : (sealed : Option Sealed) (kept : Option memory.Table) → KeepsSealed (AreTold t.components) sealed kept → IfSome sealed (λ d. length d.logs ≡ 1)
    one None kept keeps = tt
    one (Some d) None keeps = absurd keeps
    one (Some d) (Some kept) keeps = keeps.0

-- a window that fails before its commit
pub failed_without : (Works : PartView → Type 0) (t u : Told) (p : PartView) (ws : List Write) → IsPart t p → HasFailedAs u p None → u.generation ≡ t.generation → u.sealed_log ≡ t.sealed_log → Works p → HasFailedWith Works ws u p
failed_without Works t u p ws is files generation sealed_log jobs = inl (record { view = p; here = refl; holds = refl; files = files; logs = logs_stay t u p is generation sealed_log; jobs = jobs })

-- and one whose commit fails
pub failed_with : (Works : PartView → Type 0) (t u : Told) (p : PartView) (ws : List Write) → p.staged ≡ [] → IsPart t (staged_as ws p)
    → HasFailedAs u (staged_as ws p) (Some (staged_as ws p).staged) → u.generation ≡ t.generation → u.sealed_log ≡ t.sealed_log → Works (staged_as ws p)
    → HasFailedWith Works ws u p
failed_with Works t u p ws none is files generation sealed_log jobs = inr (record {
  view = staged_as ws p;
  here = refl;
  holds = refl;
  files = subst (λ (frame : List Write). HasFailedAs u (staged_as ws p) (Some frame)) (ap (λ (staged : List Write). staged ++ ws) none) files;
  logs = logs_stay t u (staged_as ws p) is generation sealed_log;
  jobs = jobs;
})
