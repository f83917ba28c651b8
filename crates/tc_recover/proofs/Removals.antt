-- Files are removed one after the other.
use Rattle.std.proofs.Common.{◌≡◌, ◌∙◌, ◌≤◌, ℕ, filter, List, [], ◌∷◌, ◌++◌, refl, sym, subst, ap, append_assoc, append-nil, arith}
use Rattle.std.specs.Prelude.{true, false, OnErr, Result, Ok, Err}
use Rattle.tc_store.specs.declared.file_name.FileName.{FileName}
use Rattle.tc_store.specs.Counted.{Counts}
use Rattle.tc_store.specs.Disk.{Disk}
use Rattle.tc_store.specs.StoreCalls.{removes}
use Rattle.tc_recover.specs.declared.taken.Taken.{Taken}
use Rattle.tc_recover.specs.Loads.{is_log}
use Rattle.tc_recover.specs.Removing.{needless_names, removes_all, RemovesFirst}

-- what is left to be removed, and the logs that stay
pub record AreNeedlessLeft {F W : Type 0} (name : F → FileName) (last : ℕ) (all ts logs : List (Taken F W)) (old new : List Disk) (before now : Counts) : Type 0 where
  pub first : List FileName
  pub names : needless_names name last all ≡ first ++ needless_names name last ts
  pub removed : new ≡ removes_all first old
  pub kept : filter (is_log last) all ≡ logs ++ filter (is_log last) ts
  pub faults : before.faults ≤ now.faults
  pub reads : now.reads ≡ before.reads

removes_one_more : (names : List FileName) (n : FileName) (disks : List Disk) → removes_all (names ++ n ∷ []) disks ≡ removes n (removes_all names disks)
removes_one_more [] n disks = refl
removes_one_more (m ∷ names) n disks = removes_one_more names n (removes m disks)

none_removed : {F W : Type 0} (name : F → FileName) (last : ℕ) (all : List (Taken F W)) (old : List Disk) (now : Counts) → AreNeedlessLeft name last all all [] old old now now
none_removed name last all old now = record { first = []; names = refl; removed = refl; kept = refl; faults = omega arith; reads = refl }

pub all_needless : {F W : Type 0} (name : F → FileName) (last : ℕ) (all us logs : List (Taken F W)) (old : List Disk) (now : Counts) → us ≡ all → logs ≡ [] → AreNeedlessLeft name last all us logs old old now now
all_needless name last all us logs old now items none =
    subst (λ vs. AreNeedlessLeft name last all vs logs old old now now) (sym items) (subst (λ kept. AreNeedlessLeft name last all all kept old old now now) (sym none) (none_removed name last all old now))

pub one_kept : {F W : Type 0} (name : F → FileName) (last : ℕ) (all us ts logs more : List (Taken F W)) (t : Taken F W) (old new : List Disk) (before now : Counts) → AreNeedlessLeft name last all us logs old new before now → us ≡ t ∷ ts
    → is_log last t ≡ true → more ≡ logs ++ t ∷ [] → AreNeedlessLeft name last all ts more old new before now
one_kept {F = F} {W = W} name last all us ts logs more t old new before now p items is pushed =
    subst (λ kept. AreNeedlessLeft name last all ts kept old new before now) (sym pushed) (next (subst (λ vs. AreNeedlessLeft name last all vs logs old new before now) items p))
  where
    passed : needless_names name last (t ∷ ts) ≡ needless_names name last ts
    passed = rw is refl

    stays : filter (is_log last) (t ∷ ts) ≡ t ∷ filter (is_log last) ts
    stays = rw is refl

    next : AreNeedlessLeft name last all (t ∷ ts) logs old new before now → AreNeedlessLeft name last all ts (logs ++ t ∷ []) old new before now
    next q = record {
      first = q.first;
      names = q.names ∙ ap (λ ns. q.first ++ ns) passed;
      removed = q.removed;
      kept = q.kept ∙ (ap (λ vs. logs ++ vs) stays ∙ sym (append_assoc logs (t ∷ []) (filter (is_log last) ts)));
      faults = q.faults;
      reads = q.reads;
    }

pub one_removed : {F W : Type 0} (name : F → FileName) (last : ℕ) (all us ts logs : List (Taken F W)) (t : Taken F W) (old new later : List Disk) (before now after : Counts) → AreNeedlessLeft name last all us logs old new before now → us ≡ t ∷ ts
    → is_log last t ≡ false → later ≡ removes (name t.file) new → now.faults ≤ after.faults → after.reads ≡ now.reads → AreNeedlessLeft name last all ts logs old later before after
one_removed {F = F} {W = W} name last all us ts logs t old new later before now after p items other laters risen read = next (subst (λ vs. AreNeedlessLeft name last all vs logs old new before now) items p)
  where
    passed : needless_names name last (t ∷ ts) ≡ name t.file ∷ needless_names name last ts
    passed = rw other refl

    stays : filter (is_log last) (t ∷ ts) ≡ filter (is_log last) ts
    stays = rw other refl

    next : AreNeedlessLeft name last all (t ∷ ts) logs old new before now → AreNeedlessLeft name last all ts logs old later before after
    next q = record {
      first = q.first ++ name t.file ∷ [];
      names = q.names ∙ (ap (λ ns. q.first ++ ns) passed ∙ sym (append_assoc q.first (name t.file ∷ []) (needless_names name last ts)));
      removed = laters ∙ (ap (λ disks. removes (name t.file) disks) q.removed ∙ sym (removes_one_more q.first (name t.file) old));
      kept = q.kept ∙ ap (λ vs. logs ++ vs) stays;
      faults = omega (arith, q.faults, risen);
      reads = read ∙ q.reads;
    }

-- some were removed where the loop ends early
pub some_removed : {F W : Type 0} (name : F → FileName) (last : ℕ) (all us logs : List (Taken F W)) (old new : List Disk) (before now : Counts) → AreNeedlessLeft name last all us logs old new before now → RemovesFirst (needless_names name last all) old new
some_removed name last all us logs old new before now p = (p.first, needless_names name last us, p.names, p.removed)

-- and all of them at its end
pub all_removed : {F W : Type 0} (name : F → FileName) (last : ℕ) (all us logs : List (Taken F W)) (old new : List Disk) (before now : Counts) → AreNeedlessLeft name last all us logs old new before now → us ≡ []
    → new ≡ removes_all (needless_names name last all) old
all_removed name last all us logs old new before now p nothing =
    let names = subst (λ vs. needless_names name last all ≡ p.first ++ needless_names name last vs) nothing p.names ∙ append-nil p.first in
    p.removed ∙ ap (λ ns. removes_all ns old) (sym names)

pub all_kept : {F W : Type 0} (name : F → FileName) (last : ℕ) (all us logs : List (Taken F W)) (old new : List Disk) (before now : Counts) → AreNeedlessLeft name last all us logs old new before now → us ≡ []
    → logs ≡ filter (is_log last) all
all_kept name last all us logs old new before now p nothing = sym (subst (λ vs. filter (is_log last) all ≡ logs ++ filter (is_log last) vs) nothing p.kept ∙ append-nil logs)

pub partly_result : {T E : Type 0} (result : Result T E) (names : List FileName) (old new : List Disk) → RemovesFirst names old new → OnErr result (RemovesFirst names old new)
partly_result (Ok x) names old new some = tt
partly_result (Err e) names old new some = some
