-- What calls that stop where something is wrong hand on.
use Rattle.std.proofs.Common.{◌≡◌, ◌∙◌, ◌≤◌, ℕ, List, Result, Ok, Err, refl, sym, ap, subst, arith}
use Rattle.std.specs.Prelude.{IfOk, OnOk, IsErrOf}
use Rattle.std.proofs.lemmas.Grind.{common_steps}
use Rattle.std.proofs.lemmas.Result.{IfErr-at_err}
use Rattle.tc_bytes.specs.Counts.{Rose}
use Rattle.tc_store.specs.Counted.{Counts, IsCountedOnce}
use Rattle.tc_store.specs.Judging.{IfDamaged, IsDamageOr}
use Rattle.tc_store.specs.declared.damage.ReadFault.{ReadFault}
use Rattle.tc_store.specs.declared.damage.ReadFault.TheVariants as read
use Rattle.tc_audit.specs.Reasons.{IsWatched}
use Rattle.tc_audit.specs.Stops.{IfWrong, IsOfRead, position_of}
use Rattle.tc_audit.specs.declared.stop.Stop.{Stop}
use Rattle.tc_audit.specs.declared.stop.Stop.TheVariants.{Wrong, Disk, Memory}
use Rattle.tc_audit.specs.declared.verdict.Wrong.{Wrong as Reason}
use Rattle.tc_audit.specs.declared.verdict.Wrong.TheVariants.{Record}

pub wrong_then : {X : Type 0} (r : Result X Stop) (P Q : Reason → Type 0) → ((w : Reason) → P w → Q w) → IfWrong r P → IfWrong r Q
wrong_then (Ok x) P Q go is = tt
wrong_then (Err (Wrong w)) P Q go is = go w is
wrong_then (Err Disk) P Q go is = tt
wrong_then (Err Memory) P Q go is = tt

-- what is known of each thing that may stop
pub stop_told : (stop : Stop) (P : Reason → Type 0) → ((w : Reason) → stop ≡ Wrong w → P w) → IfWrong {X = Unit {0}} (Err stop) P
stop_told (Wrong w) P told = told w refl
stop_told Disk P told = tt
stop_told Memory P told = tt

pub stopped : (stop : Stop) (w : Reason) (P : Reason → Type 0) → stop ≡ Wrong w → IfWrong {X = Unit {0}} (Err stop) P → P w
stopped stop w P is told = subst (λ s. IfWrong {X = Unit {0}} (Err s) P) is told

-- a fault of reading, as what stops
pub read_wrong : (component : ℕ) (fault : ReadFault) (stop : Stop) (P : ℕ → List ℕ → Type 0) (Q : Reason → Type 0) → IsOfRead component fault stop → IfDamaged {X = Unit {0}} (Err fault) P
    → ((place : ℕ) (bytes : List ℕ) → P place bytes → Q (Record component place bytes)) → IfWrong {X = Unit {0}} (Err stop) Q
read_wrong component read.Disk stop P Q is damaged go = subst (λ s. IfWrong {X = Unit {0}} (Err s) Q) (sym is) tt
read_wrong component (read.Damaged place bytes) stop P Q is damaged go = subst (λ s. IfWrong {X = Unit {0}} (Err s) Q) (sym is) (go place bytes damaged)
read_wrong component read.Memory stop P Q is damaged go = subst (λ s. IfWrong {X = Unit {0}} (Err s) Q) (sym is) tt

pub read_position : (component : ℕ) (fault : ReadFault) (stop : Stop) → IsOfRead component fault stop → IfWrong {X = Unit {0}} (Err stop) (λ w. position_of w ≡ component)
read_position component read.Disk stop is = subst (λ s. IfWrong {X = Unit {0}} (Err s) (λ w. position_of w ≡ component)) (sym is) tt
read_position component (read.Damaged place bytes) stop is = subst (λ s. IfWrong {X = Unit {0}} (Err s) (λ w. position_of w ≡ component)) (sym is) refl
read_position component read.Memory stop is = subst (λ s. IfWrong {X = Unit {0}} (Err s) (λ w. position_of w ≡ component)) (sym is) tt

disk_read : (component : ℕ) (fault : ReadFault) (stop : Stop) → IsOfRead component fault stop → stop ≡ Disk → fault ≡ read.Disk
disk_read component read.Disk stop is disk = refl
disk_read component (read.Damaged place bytes) stop is disk = absurd (let other = sym is ∙ disk in cc)
disk_read component read.Memory stop is disk = absurd (let other = sym is ∙ disk in cc)

-- a call that reads once, watched
pub read_watched : {Y : Type 0} (component : ℕ) (fault : ReadFault) (stop : Stop) (Failed Done : Type 0) (old new : Counts) → IsOfRead component fault stop → IsCountedOnce Failed Done old new → (fault ≡ read.Disk → Failed) → IsWatched (IsErrOf {T = Y} (Err stop) Disk) old new
read_watched component fault stop Failed Done old new is counted failed = record {
  faults = counted.faults;
  cause = λ e. counted.cause (failed (disk_read component fault stop is (IfErr-at_err (λ (s : Stop). stop ≡ s) e refl)));
}

-- damage that was found, as what stops
pub damage_stop : (component : ℕ) (fault : ReadFault) (stop : Stop) (place : ℕ) (bytes : List ℕ) → IsOfRead component fault stop → IsDamageOr place bytes fault → (w : Reason) → stop ≡ Wrong w → w ≡ Record component place bytes
damage_stop component read.Disk stop place bytes is damage w stops = absurd damage
damage_stop component (read.Damaged at kept) stop place bytes is damage w stops =
    let same : Record component at kept ≡ w = let both = sym is ∙ stops in cc in
    sym same ∙ rw (damage.0, damage.1) refl
damage_stop component read.Memory stop place bytes is damage w stops = absurd (let other = sym is ∙ stops in cc)

pub damage_no_disk : (component : ℕ) (fault : ReadFault) (stop : Stop) (place : ℕ) (bytes : List ℕ) → IsOfRead component fault stop → IsDamageOr place bytes fault → stop ≡ Disk → ⊥
damage_no_disk component fault stop place bytes is damage disk = none fault (disk_read component fault stop is disk) damage
  where
    none : (f : ReadFault) → f ≡ read.Disk → IsDamageOr place bytes f → ⊥
    none f same harm = subst (λ g. IsDamageOr place bytes g) same harm

-- a call that stops hands on what stops it, behind others
pub watched_behind : (Failed : Type 0) (first second third : Counts) → first.faults ≤ second.faults → IsWatched Failed second third → IsWatched Failed first third
watched_behind Failed first second third order watched = record {
  faults = omega (arith, order, watched.faults);
  cause = λ failed. let rose : Rose second.faults third.faults = watched.cause failed in grind (arith, common_steps);
}

-- two things that are said of damage
pub both_damaged : (P Q : ℕ → List ℕ → Type 0) (fault : ReadFault) → IfDamaged {X = Unit {0}} (Err fault) P → IfDamaged {X = Unit {0}} (Err fault) Q → IfDamaged {X = Unit {0}} (Err fault) (λ place bytes. P place bytes × Q place bytes)
both_damaged P Q read.Disk one other = tt
both_damaged P Q (read.Damaged place bytes) one other = (one, other)
both_damaged P Q read.Memory one other = tt

pub ok_and : {X E : Type 0} (r : Result X E) {P Q R : Type 0} → OnOk r P → OnOk r Q → (P → Q → R) → OnOk r R
ok_and (Ok x) one other go = go one other
ok_and (Err e) one other go = tt

pub ok_both : {X E : Type 0} (r : Result X E) (P Q : Type 0) → OnOk r P → OnOk r Q → OnOk r (P × Q)
ok_both (Ok x) P Q one other = (one, other)
ok_both (Err e) P Q one other = tt

-- what a `?` hands out
pub wrong_out : {Z : Type 0} (r : Result Z Stop) (stop : Stop) (P : Reason → Type 0) → (y : Stop) × (r ≡ Err y) × (y ≡ stop) → IfWrong {X = Z} (Err stop) P → IfWrong r P
wrong_out {Z = Z} r stop P (y, err, same) is = subst (λ q. IfWrong q P) (sym err) (subst (λ s. IfWrong {X = Z} (Err s) P) (sym same) is)

pub watched_out : {Y Z : Type 0} (r : Result Z Stop) (stop : Stop) (old new : Counts) → (y : Stop) × (r ≡ Err y) × (y ≡ stop) → IsWatched (IsErrOf {T = Y} (Err stop) Disk) old new → IsWatched (IsErrOf r Disk) old new
watched_out r stop old new (y, err, same) is = record {
  faults = is.faults;
  cause = λ failed. let disk : y ≡ Disk = IfErr-at_err (λ (s : Stop). y ≡ s) (sym err ∙ failed) refl in is.cause (ap Err (sym same ∙ disk));
}

pub ok_by_both : {X : Type 0} (r : Result X Stop) (P Q S : X → Type 0) → ((x : X) → P x → Q x → S x) → IfOk r P → IfOk r Q → IfOk r S
ok_by_both (Ok x) P Q S go one other = go x one other
ok_by_both (Err e) P Q S go one other = tt
