-- What is stored stays while tables are flushed and components are merged.
use Rattle.std.proofs.Common.{◌≡◌, ◌∙◌, ℕ, true, List, [], ◌∷◌, ◌++◌, Option, None, map, refl, sym, ap, subst}
use Rattle.std.specs.Prelude.{IsSome}
use Rattle.std.proofs.lemmas.List.{map-append}
use Rattle.std.proofs.lemmas.List.Elements.{All-append, All-cons, All-nil}
use Rattle.tc_model.specs.Document.{Name}
use Rattle.tc_store.specs.Disk.{Disk}
use Rattle.tc_store.specs.DiskFile.{DiskFile}
use Rattle.tc_store.specs.Moments.{IfTold}
use Rattle.tc_store.specs.StoreCalls.{content_now}
use Rattle.tc_component.specs.Loading.{ComponentState}
use Rattle.tc_lsm_model.specs.Contents.{Partition}
use Rattle.tc_plain_model.specs.Writes.{Pairs, Write, after_writes}
use Rattle.tc_part.specs.Closing.{HasFailedWhole}
use Rattle.tc_part_model.specs.Meaning.{IsPart, HasFailedAs, plain_of}
use Rattle.tc_part_model.specs.PartState.{Told, ToldComponent, AreTold, IsTold, told_component}
use Rattle.tc_part_model.specs.PartView.{PartView, store_of, stored_with}
use Rattle.tc_work.specs.Failing.{HasFailedKeeping}
use Rattle.tc_work.specs.Settling.{StoresStill, TellsFiles}
use Rattle.tc_work.proofs.Failures.{logs_stay}

-- ---- what a part stores

same_plain : (t v : Told) (p q : PartView) → store_of q ≡ store_of p → q.staged ≡ p.staged → v.taken ≡ t.taken → plain_of v q ≡ plain_of t p
same_plain t v p q stores staged taken = ap (λ (pairs : Pairs). record { pairs = after_writes pairs q.staged; taken = v.taken }) stores
    ∙ ap (λ (ws : List Write). record { pairs = after_writes (store_of p) ws; taken = v.taken }) staged
    ∙ ap (λ (names : List Name). record { pairs = stored_with p; taken = names }) taken

pub still : (Works : PartView → Type 0) (t v : Told) (p q : PartView) → IsPart v q → q.part ≡ p.part → store_of q ≡ store_of p → q.staged ≡ p.staged → v.taken ≡ t.taken → TellsFiles v → Works q → StoresStill Works t p v
still Works t v p q is here stores staged taken tells jobs = record { view = q; is = is; here = here; stores = stores; plain = same_plain t v p q stores staged taken; tells = tells; jobs = jobs }

-- behind two calls
pub still_then : (Works WorksNow : PartView → Type 0) (t u v : Told) (p : PartView) (one : StoresStill Works t p u) → StoresStill WorksNow u one.view v → StoresStill WorksNow t p v
still_then Works WorksNow t u v p one two = record { view = two.view; is = two.is; here = two.here ∙ one.here; stores = two.stores ∙ one.stores; plain = two.plain ∙ one.plain; tells = two.tells; jobs = two.jobs }

-- ---- where the store tells, so do its components

-- a store that tells nothing goes on so
abbrev pub GoesOnUntold : List Disk → List Disk → Type 0
GoesOnUntold old new = old ≡ [] → new ≡ []

pub told_now : {X : Type 0} (xs : List X) (P : X → Type 0) → (IsTold xs → (x : X) → P x) → IfTold xs P
told_now [] P give = tt
told_now (x ∷ xs) P give = give tt x

-- so it is behind a call, where a store that tells nothing tells nothing behind it
pub components_still : (t u : Told) → (t.disks ≡ [] → u.disks ≡ []) → IfTold t.disks (λ disk. AreTold t.components) → (IsTold t.disks → AreTold t.components → AreTold u.components) → IfTold u.disks (λ disk. AreTold u.components)
components_still t u untold are_told go = at t.disks refl are_told
  where
    at : (disks : List Disk) → t.disks ≡ disks → IfTold disks (λ disk. AreTold t.components) → IfTold u.disks (λ disk. AreTold u.components)
    at [] same all = subst (λ (ds : List Disk). IfTold ds (λ disk. AreTold u.components)) (sym (untold same)) tt
    at (disk ∷ past) same all = told_now u.disks (λ d. AreTold u.components) (λ told d. go (subst (λ (ds : List Disk). IsTold ds) (sym same) tt) all)

-- ---- where a call fails

pub as_failed : (Works : PartView → Type 0) (t : Told) (part : Partition) (pairs : Pairs) (frame : Option (List Write)) → HasFailedKeeping Works t part pairs frame → HasFailedKeeping Works (record t { failed = true }) part pairs frame
as_failed Works t part pairs frame has = record {
  view = has.view;
  here = has.here;
  holds = has.holds;
  files = record { failed = refl; tells = has.files.tells; files = has.files.files };
  logs = record { generation = has.logs.generation; sealed_log = has.logs.sealed_log; one = has.logs.one };
  jobs = has.jobs;
}

-- what failed as a part that stores the same keeps that
pub whole_keeps : (Works : PartView → Type 0) (t : Told) (p q : PartView) → q.part ≡ p.part → store_of q ≡ store_of p → HasFailedWhole t q → Works q → HasFailedKeeping Works (record t { failed = true }) p.part (store_of p) None
whole_keeps Works t p q here holds has jobs = as_failed Works t p.part (store_of p) None (record { view = q; here = here; holds = holds; files = has.0; logs = has.1; jobs = jobs })

-- a call that fails as the part that it was, whose logs are as they were
pub failed_keeps : (Works : PartView → Type 0) (t u : Told) (p q : PartView) → IsPart t q → q.part ≡ p.part → store_of q ≡ store_of p → HasFailedAs u q None
    → u.generation ≡ t.generation → u.sealed_log ≡ t.sealed_log → Works q → HasFailedKeeping Works (record u { failed = true }) p.part (store_of p) None
failed_keeps Works t u p q is here holds files generation sealed_log jobs = whole_keeps Works u p q here holds (files, logs_stay t u q is generation sealed_log) jobs

-- and of one that stores the same
pub keeps_of : (Works : PartView → Type 0) (t : Told) (p q : PartView) → q.part ≡ p.part → store_of q ≡ store_of p → HasFailedKeeping Works t q.part (store_of q) None → HasFailedKeeping Works t p.part (store_of p) None
keeps_of Works t p q here holds has = record { view = has.view; here = has.here ∙ here; holds = has.holds ∙ holds; files = has.files; logs = has.logs; jobs = has.jobs }

-- ---- components that are told

pub content_told : (device : List DiskFile) → IsTold device → IsSome (content_now device)
content_told [] tells = absurd tells
content_told (f ∷ past) tells = refl

pub told_behind : {F : Type 0} (content : F → Option (List ℕ)) (list : List (ComponentState F)) (c : ComponentState F) → AreTold (map (told_component content) list) → IsSome (content c.file) → AreTold (map (told_component content) (list ++ c ∷ []))
told_behind content list c all one =
    subst AreTold (sym (map-append (told_component content) list (c ∷ [])))
    (All-append (λ (x : ToldComponent). IsSome x.content) (map (told_component content) list) (told_component content c ∷ []) all (All-cons (λ (x : ToldComponent). IsSome x.content) (told_component content c) [] one (All-nil (λ (x : ToldComponent). IsSome x.content))))
