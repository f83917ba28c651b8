-- Engines are closed from the greatest on, each kit before those that are there.
use Rattle.std.proofs.Common.{◌≡◌, ◌≤◌, ◌∙◌, ◌+◌, ℕ, suc, List, [], ◌∷◌, ◌++◌, All, map, length, length-append, append_assoc, append-nil, arith, refl, ap, sym, subst}
use Rattle.std.proofs.lemmas.List.{nil_from_length}
use Rattle.std.proofs.lemmas.List.Elements.{All-cons, All-head, All-nil, All-tail}
use Rattle.std.specs.Prelude.{None, Option, Result}
use Rattle.tc_keeper.specs.Places.{AtEach}
use Rattle.tc_work.specs.declared.fault.EngineFault.{EngineFault}
use Rattle.tc_server.specs.Kits.{fault_before, least_fault}
use Rattle.tc_keeper.specs.declared.fault.RunFault.{RunFault}
use Rattle.tc_keeper.proofs.EachLaws.{at_each-shifted}

module _ {E F K : Type 0} (R : E → F → Type 0) (kit : F → K) (outcome : F → Result (Unit {0}) EngineFault) (engines : List E) (before : List K) where
  -- The last of the engines are closed, and their kits stand before those that were there. The fault is that of the least of them.
  pub record Closing (left : List E) (now : List K) (fault : Option RunFault) : Type 0 where
    pub rest : List E
    pub ended : List F
    pub all : engines ≡ left ++ rest
    pub put : now ≡ map kit ended ++ before
    pub told : fault ≡ least_fault (length left) (map outcome ended)
    pub closed : AtEach (λ p e f. R e f) 0 rest ended

  pub closing_none : Closing engines before None
  closing_none = record { rest = []; ended = []; all = sym (append-nil engines); put = refl; told = refl; closed = tt }

  pub closing_more : (left left' : List E) (now now' : List K) (fault fault' : Option RunFault) (e : E) (f : F) → Closing left now fault → left ≡ left' ++ e ∷ [] → now' ≡ kit f ∷ now → fault' ≡ fault_before (length left') (outcome f) fault → R e f → Closing left' now' fault'
  closing_more left left' now now' fault fault' e f c last put told closed = record {
    rest = e ∷ c.rest;
    ended = f ∷ c.ended;
    all = c.all ∙ ap (λ es. es ++ c.rest) last ∙ append_assoc left' (e ∷ []) c.rest;
    put = put ∙ ap (λ ks. kit f ∷ ks) c.put;
    told = told ∙ ap (fault_before (length left') (outcome f)) (c.told ∙ ap (λ n. least_fault n (map outcome c.ended)) longer);
    closed = (closed, at_each-shifted R 0 1 c.rest c.ended c.closed);
  }
    where
      longer : length left ≡ suc (length left')
      longer = ap length last ∙ omega (arith, length-append left' (e ∷ []))

  pub closing_all : (now : List K) (fault : Option RunFault) → Closing [] now fault → (ended : List F) × (now ≡ map kit ended ++ before) × (fault ≡ least_fault 0 (map outcome ended)) × AtEach (λ p e f. R e f) 0 engines ended
  closing_all now fault c = (c.ended, c.put, c.told, subst (λ es. AtEach (λ p e f. R e f) 0 es c.ended) (sym c.all) c.closed)

-- the last of them was taken
pub one_fewer : {E : Type 0} (old new : List E) (e : E) → old ≡ new ++ e ∷ [] → length old ≡ length new + 1
one_fewer old new e last = ap length last ∙ length-append new (e ∷ [])

pub none_left : {E : Type 0} (left : List E) (closed total : ℕ) → length left + closed ≡ total → total ≤ closed → left ≡ []
none_left left closed total all over = nil_from_length left (omega (arith, all, over))

-- what holds of each holds of the last, and of those before it
front_all : {E : Type 0} (P : E → Type 0) (new : List E) (e : E) → All P (new ++ e ∷ []) → All P new × P e
front_all P [] e all = (All-nil P, All-head P e [] all)
front_all P (x ∷ new) e all =
    let more = front_all P new e (All-tail P x (new ++ e ∷ []) all) in
    (All-cons P x new (All-head P x (new ++ e ∷ []) all) more.0, more.1)

pub fewer_all : {E : Type 0} (P : E → Type 0) (old new : List E) (e : E) → old ≡ new ++ e ∷ [] → All P old → All P new × P e
fewer_all P old new e last all = front_all P new e (subst (All P) last all)
