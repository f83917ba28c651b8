-- A partition between two steps of its opening, where its files are lawful.
use Rattle.std.proofs.Common.{◌≡◌, ◌∙◌, ◌++◌, ℕ, List, [], ◌∷◌, refl, sym, ap, subst, arith, inl, inr, Option, None}
use Rattle.std.specs.Prelude.{Contains}
use Rattle.std.specs.List.{AllZip}
use Rattle.std.proofs.lemmas.Bool.{cases_Bool}
use Rattle.tc_store.specs.declared.file_name.FileName.{FileName}
use Rattle.tc_store.specs.declared.file_name.FileName.TheVariants.{Component, Log}
use Rattle.tc_store.specs.Disk.{Disk, is_still}
use Rattle.tc_store.specs.Moments.{EachSince, IfTold}
use Rattle.tc_store.specs.StoreCalls.{removes, RemovesSome}
use Rattle.tc_store.proofs.MomentLemmas.{EachSince-trans}
use Rattle.tc_store.proofs.StopLaws.{since_weaker}
use Rattle.tc_plain_model.specs.Writes.{Pairs, Write, after_writes}
use Rattle.tc_lsm_model.specs.Contents.{Content, Partition}
use Rattle.tc_lsm_model.specs.Lists.{Covers, live, names_of}
use Rattle.tc_lsm_model.proofs.FlushLaws.{names_of-push}
use Rattle.tc_component.specs.Loaded.{IsLoadedOf}
use Rattle.tc_component.specs.Loading.{ComponentState}
use Rattle.tc_component.specs.Spelling.{Index, name_of}
use Rattle.tc_machine.specs.Kept.{IsKept}
use Rattle.tc_machine.specs.Logs.{all_writes}
use Rattle.tc_machine.specs.Pictures.{recovered}
use Rattle.tc_machine.specs.Steps.{IsExpected}
use Rattle.tc_machine.proofs.MemorySteps.{opened_logs}
use Rattle.tc_part_model.specs.Leaving.{KeepsStore}
use Rattle.tc_part_model.specs.PartState.{IsTold}
use Rattle.tc_jobs.specs.Lists.{file_names}
use Rattle.tc_recover.specs.Removing.{RemovesFirst, removes_all}
use Rattle.tc_recover.proofs.Members.{member_cases, no_member}
use Rattle.tc_open.specs.BeingOpened.{AreIn, IsOpening, LeavesLogged, opening_at}
use Rattle.tc_open.specs.Openings.{LeavesStored}
use Rattle.tc_open.specs.Resting.{AreOwn, IsTidy}
use Rattle.tc_open.specs.Steps.{Keeps, Stands}
use Rattle.tc_open.proofs.KeptStores.{kept_holds}
use Rattle.tc_open.proofs.OwnFiles.{rests}

-- ---- moments

pub if_tells : {X : Type 0} (P : Type 0) (moments : List X) → IsTold moments → IfTold moments (λ now. P) → P
if_tells P [] tells is = absurd tells
if_tells P (now ∷ past) tells is = is

-- a stop leaves of kept files what is recovered
pub files_keep : (part : Partition) (cs : List Content) (logs : List (List Write)) (disk : Disk) → IsKept part (opening_at cs logs disk) → KeepsStore part (recovered cs logs).pairs None disk
files_keep part cs logs disk k = subst (λ (pairs : Pairs). KeepsStore part pairs None disk) (ap (λ ls. after_writes (live cs) (all_writes ls)) (opened_logs [] cs logs)) (kept_holds part (opening_at cs logs disk) k refl)

pub opening_keeps : (part : Partition) (cs : List Content) (logs : List (List Write)) (disks later : List Disk) → IsOpening part cs logs later → EachSince (LeavesLogged part cs logs) disks later → Keeps part (recovered cs logs).pairs disks later
opening_keeps part cs logs disks later is since = record {
  moments = since_weaker (LeavesLogged part cs logs) (LeavesStored part (recovered cs logs).pairs) disks later (λ disk leaves. inr (inl (record { list = cs; logs = logs; holds = refl; leaves = leaves }))) since;
  kept = now later is.kept is.home;
}
  where
    now : (ds : List Disk) → IfTold ds (λ disk. IsKept part (opening_at cs logs disk)) → IfTold ds AreIn → IfTold ds (λ disk. AreIn disk × KeepsStore part (recovered cs logs).pairs None disk)
    now [] kept home = tt
    now (disk ∷ past) kept home = (home, files_keep part cs logs disk kept)

pub keeps_on : (part : Partition) (pairs : Pairs) (first second third : List Disk) → Keeps part pairs first second → Keeps part pairs second third → Keeps part pairs first third
keeps_on part pairs first second third before after = record { moments = EachSince-trans (LeavesStored part pairs) first second third before.moments after.moments; kept = after.kept }

-- ---- files are removed

all_some : (names : List FileName) (disks : List Disk) → RemovesSome names disks (removes_all names disks)
all_some [] disks = refl
all_some (name ∷ names) disks = inr (all_some names (removes name disks))

pub none_some : (names : List FileName) (old new : List Disk) → new ≡ old → RemovesSome names old new
none_some [] old new same = same
none_some (name ∷ names) old new same = inl (none_some names old new same)

first_some : (first rest : List FileName) (disks : List Disk) → RemovesSome (first ++ rest) disks (removes_all first disks)
first_some [] rest disks = none_some rest disks disks refl
first_some (name ∷ first) rest disks = inr (first_some first rest (removes name disks))

pub removed_some : (names : List FileName) (old new : List Disk) → new ≡ removes_all names old → RemovesSome names old new
removed_some names old new is = subst (λ disks. RemovesSome names old disks) (sym is) (all_some names old)

pub partly_some : (names : List FileName) (old new : List Disk) → RemovesFirst names old new → RemovesSome names old new
partly_some names old new (first, rest, are, is) = subst (λ ns. RemovesSome ns old new) (sym are) (subst (λ disks. RemovesSome (first ++ rest) old disks) (sym is) (first_some first rest old))

removed_tells : (name : FileName) (disks : List Disk) → IsTold disks → IsTold (removes name disks)
removed_tells name [] tells = tells
removed_tells name (disk ∷ past) tells = elim (cases_Bool (is_still (disk name))) [
  | inl found ↦ rw found tt
  | inr other ↦ rw other tt
]

pub removes_tells : (names : List FileName) (disks : List Disk) → IsTold disks → IsTold (removes_all names disks)
removes_tells [] disks tells = tells
removes_tells (name ∷ names) disks tells = removes_tells names (removes name disks) (removed_tells name disks tells)

-- ---- listed components

pub no_log_listed : {F : Type 0} (list : List (ComponentState F)) (generation : ℕ) → Contains (file_names list) (Log generation) → ⊥
no_log_listed [] generation among = no_member (Log generation) among
no_log_listed (c ∷ list) generation among = elim (member_cases (name_of c.index.head) (file_names list) (Log generation) among) [
  | inl same ↦ cc
  | inr further ↦ no_log_listed list generation further
]

module _ {F : Type 0} (content : F → Option (List ℕ)) where
  pub listed_covers : (list : List (ComponentState F)) (cs : List Content) (from to : ℕ) → AllZip (IsLoadedOf content) list cs → Contains (file_names list) (Component from to) → Covers cs from to
  listed_covers [] cs from to all among = absurd (no_member (Component from to) among)
  listed_covers (m ∷ list) [] from to all among = absurd all
  listed_covers (m ∷ list) (c ∷ cs) from to all among = elim (member_cases (name_of m.index.head) (file_names list) (Component from to) among) [
    | inl same ↦
        let named : Component c.from c.to ≡ Component from to = ap (λ (i : Index). name_of i.head) (sym all.0.index) ∙ same in
        let begins : c.from ≡ from = cc in
        let ends : c.to ≡ to = cc in
        inl (omega (arith, begins), omega (arith, ends))
    | inr further ↦ inr (listed_covers list cs from to all.1 further)
  ]

  -- where no other file is left, the machine may start
  pub tidy_at_last : (part : Partition) (cs : List Content) (list : List (ComponentState F)) (disks : List Disk) → Stands content part cs [] list [] disks → IfTold disks (AreOwn list []) → IfTold disks (IsTidy part cs [])
  tidy_at_last part cs list [] stands own = tt
  tidy_at_last part cs list (disk ∷ past) stands own = record {
    kept = stands.opening.kept;
    still = λ name. rests (disk name) (own.taken name) (stands.opening.home name);
    expected = λ name there. elim (own.own name there) [
      | inl listed ↦ expected name listed
      | inr none ↦ absurd (no_member name none)
    ];
  }
    where
      expected : (name : FileName) → Contains (file_names list) name → IsExpected (opening_at cs [] disk) name
      expected (Component from to) listed = inl (listed_covers list cs from to stands.loaded listed)
      expected (Log generation) listed = absurd (no_log_listed list generation listed)

-- ---- what is stored

-- a component of what logs leave, behind the others, holds what was stored, with the names that are taken again
pub stored_behind : (cs : List Content) (logs : List (List Write)) (c : Content) → live (cs ++ c ∷ []) ≡ (recovered cs logs).pairs → c.names ≡ (recovered cs logs).taken → recovered (cs ++ c ∷ []) [] ≡ recovered cs logs
stored_behind cs logs c holds names = ap (λ (pairs : Pairs). record { pairs = pairs; taken = names_of (cs ++ c ∷ []) }) holds ∙ ap (λ taken. record { pairs = (recovered cs logs).pairs; taken = taken }) (names_of-push cs c ∙ names)
