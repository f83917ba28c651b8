-- The generations of logs, and of what jobs make.
use Rattle.std.proofs.Common.{◌≡◌, ◌≢◌, ◌<◌, ◌≤◌, ◌+◌, ℕ, List, [], ◌∷◌, length, refl, subst, arith, inl, inr, Option, Some, None, length-append}
use Rattle.std.specs.Prelude.{All}
use Rattle.std.proofs.lemmas.List.Elements.{All-nil, All-cons, All-weaker}
use Rattle.tc_lsm_model.specs.Contents.{Content, Partition}
use Rattle.tc_lsm_model.specs.Lists.{Covers, IsList, last_of}
use Rattle.tc_lsm_model.specs.Merges.{swapped}
use Rattle.tc_lsm_model.proofs.Covering.{covered_within, ends_within}
use Rattle.tc_lsm_model.proofs.MergeLaws.{Replaces, swapped_replaces}
use Rattle.tc_store.specs.declared.file_name.FileName.TheVariants.{Component, Log}
use Rattle.tc_machine.specs.Components.{file_of}
use Rattle.tc_machine.specs.Kept.{MergeFits}
use Rattle.tc_machine.specs.Sound.{IsFlushOf}
use Rattle.tc_machine.specs.State.{Active, Flushing, Merging, Sealed, State, active_generation, active_logs, next_generation, sealed_logs}

pub length-active : (active : Option Active) (d : Active) → active ≡ Some d → length (active_logs active) ≡ 1
length-active active d is = rw is refl

pub active_below_next : (s : State) (d : Active) → s.active ≡ Some d → active_generation s + 1 ≡ next_generation s
active_below_next s d is = omega (arith, length-append (sealed_logs s.sealed) (active_logs s.active), length-active s.active d is)

pub file_from : (c d : Content) → file_of c ≡ file_of d → c.from ≡ d.from
file_from c d same = cc

pub log_generation : (g h : ℕ) → Log g ≡ Log h → g ≡ h
log_generation g h same = cc

pub file_not_log : (from to g : ℕ) → Component from to ≢ Log g
file_not_log from to g e = cc

-- a content that begins behind a list has another name
pub beyond_list : (part : Partition) (cs : List Content) (from to : ℕ) → IsList part cs → last_of cs < from → All (λ x. file_of x ≢ Component from to) cs
beyond_list part cs from to all beyond =
    All-weaker (λ x. (x.from ≤ x.to) × (x.to ≤ last_of cs)) (λ x. file_of x ≢ Component from to) (λ x within same. absurd (omega (arith, within.0, within.1, beyond, first_of x same))) cs (ends_within part 0 [] [] cs all)
  where
    first_of : (x : Content) → file_of x ≡ Component from to → x.from ≡ from
    first_of x e = cc

-- where the generations of a name are not covered, no content has the name
pub uncovered_apart : (cs : List Content) (from to : ℕ) → (Covers cs from to → ⊥) → All (λ c. file_of c ≢ Component from to) cs
uncovered_apart [] from to never = All-nil (λ c. file_of c ≢ Component from to)
uncovered_apart (c ∷ cs) from to never =
    All-cons (λ c. file_of c ≢ Component from to) c cs (λ same. never (inl (omega (arith, first same), omega (arith, last same)))) (uncovered_apart cs from to (λ further. never (inr further)))
  where
    first : file_of c ≡ Component from to → c.from ≡ from
    first e = cc

    last : file_of c ≡ Component from to → c.to ≡ to
    last e = cc

pub record FlushTarget (cs : List Content) (sealed : Option Sealed) (j : Flushing) : Type 0 where
  pub table : Sealed
  pub is_sealed : sealed ≡ Some table
  pub from : j.from ≡ last_of cs + 1
  pub order : j.from ≤ j.to
  pub to : j.to ≡ last_of cs + length table.logs

pub flush_target : (cs : List Content) (sealed : Option Sealed) (flush : Option Flushing) (j : Flushing) → flush ≡ Some j → IsFlushOf cs sealed flush → FlushTarget cs sealed j
flush_target cs sealed flush j is fits = given sealed (subst (λ f. IsFlushOf cs sealed f) is fits)
  where
    given : (sealed : Option Sealed) → IsFlushOf cs sealed (Some j) → FlushTarget cs sealed j
    given None fits = absurd fits
    given (Some d) fits = record { table = d; is_sealed = refl; from = fits.from; order = omega (arith, fits.from, fits.to, fits.some); to = fits.to }

pub record MergeTarget (cs : List Content) (m : Merging) : Type 0 where
  pub order : m.target.from ≤ m.target.to
  pub to : m.target.to ≤ last_of cs

pub merge_target : (part : Partition) (cs : List Content) (m : Merging) → IsList part cs → MergeFits cs m → MergeTarget cs m
merge_target part cs m all fits =
    let r : Replaces part cs (swapped m.run m.target cs) m.target = swapped_replaces part m.run cs m.target all fits.is_merge in
    let within = covered_within part 0 [] [] (swapped m.run m.target cs) m.target.from m.target.to r.list r.covered in
    record { order = r.content.order; to = omega (arith, within.1, r.last) }
