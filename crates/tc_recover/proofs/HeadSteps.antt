-- The headers of open files are read one after the other.
use Rattle.std.proofs.Common.{◌≡◌, ◌≤◌, ℕ, zero, suc, Bool, List, [], ◌∷◌, filter, length, refl, sym, subst, ap, cond, inl, inr, arith}
use Rattle.std.specs.Prelude.{Contains, Result, Option, Some, None, unwrap_or, All, IsSome, IfSome, true, false, Ok, Err}
use Rattle.std.specs.Option.{option_or}
use Rattle.std.proofs.lemmas.List.Elements.{All-cons}
use Rattle.tc_bytes.specs.Counts.{next_count}
use Rattle.tc_lsm_model.specs.Contents.{Partition}
use Rattle.tc_store.specs.declared.file_name.FileName.{FileName}
use Rattle.tc_store.specs.declared.damage.Damage.TheVariants.{Bytes, Files}
use Rattle.tc_store.specs.Counted.{Counts}
use Rattle.tc_store.specs.Gate.{is_open_file}
use Rattle.tc_recover.specs.declared.cause.FilesCause.{FilesCause}
use Rattle.tc_recover.specs.declared.cause.FilesCause.TheVariants.{Disk, Damaged, Layout, Memory}
use Rattle.tc_recover.specs.declared.taken.Taken.{Taken}
use Rattle.tc_recover.specs.Files.{entry_in, picture_in, AreTold, AreGates, IsLawfulName, AreLawful}
use Rattle.tc_recover.specs.Reads.{count_after}
use Rattle.tc_recover.specs.Refusals.{Refusal, head_refused, file_refused, heads_refused, Refuses, IsHeadCause}
use Rattle.tc_recover.specs.Causes.{IsOfRead}
use Rattle.tc_recover.proofs.Members.{AreAmong, member_cases, member_first, member_further, no_member}
use Rattle.tc_store.specs.declared.file_name.FileName.TheVariants.{Component, Log}
use Rattle.tc_store.specs.declared.damage.ReadFault.{ReadFault}
use Rattle.tc_store.specs.declared.damage.ReadFault.TheVariants.{Disk as unread, Damaged as broken, Memory as no_memory}
use Rattle.tc_store.specs.Judging.{damage, IfDamaged}
use Rattle.tc_component.specs.Reading as component
use Rattle.tc_log.specs.Reading as log

all_first : {X : Type 0} (P : X → Type 0) (x : X) (xs : List X) → All P (x ∷ xs) → P x
all_first P x xs all = all 0 x (omega arith)

all_behind : {X : Type 0} (P : X → Type 0) (x : X) (xs : List X) → All P (x ∷ xs) → All P xs
all_behind P x xs all = λ k d low. all (suc k) d (omega (arith, low))

pub count_moves : (n count : ℕ) → count_after n (next_count count) ≡ next_count (count_after n count)
count_moves zero count = refl
count_moves (suc n) count = ap (λ m. next_count m) (count_moves n count)

-- of an open file its header is judged, and of a closed one nothing
open_judged : (part : Partition) (name : FileName) (is_open : Bool) (content : Option (List ℕ)) → IsSome content → IfSome content (λ bytes. is_open ≡ is_open_file bytes) → is_open ≡ true
    → file_refused part (name, unwrap_or content []) ≡ head_refused part name (unwrap_or content [])
open_judged part name is_open None some gate is = absurd (cc)
open_judged part name is_open (Some bytes) some gate is = let byte : is_open_file bytes ≡ true = cc in rw byte refl

closed_passes : (part : Partition) (name : FileName) (is_open : Bool) (content : Option (List ℕ)) → IsSome content → IfSome content (λ bytes. is_open ≡ is_open_file bytes) → is_open ≡ false
    → file_refused part (name, unwrap_or content []) ≡ None
closed_passes part name is_open None some gate is = absurd (cc)
closed_passes part name is_open (Some bytes) some gate is = let byte : is_open_file bytes ≡ false = cc in rw byte refl

pub told_holds : (P : List ℕ → Type 0) (content : Option (List ℕ)) → IsSome content → IfSome content P → P (unwrap_or content [])
told_holds P None some holds = absurd (cc)
told_holds P (Some bytes) some holds = holds

-- what is refused first is refused of all
refused_first : (X Y : Type 0) (cause : FilesCause) (refused rest : Option Refusal) → Refuses {X = X} (Err cause) refused → Refuses {X = Y} (Err cause) (option_or refused rest)
refused_first X Y Disk refused rest is = tt
refused_first X Y (Damaged (Bytes file place bytes)) refused rest is = rw is refl
refused_first X Y (Damaged (Files names)) refused rest is = rw is refl
refused_first X Y (Layout found found_of) refused rest is = rw is refl
refused_first X Y Memory refused rest is = tt

-- what is left to be read
pub record AreHeadsLeft {F W : Type 0} (tells : F → Option (List ℕ)) (part : Partition) (all rest : List (Taken F W)) (before now : Counts) : Type 0 where
  pub gates : AreGates tells rest
  pub told : AreTold tells all → AreTold tells rest
  pub judged : AreTold tells all → heads_refused part (picture_in tells all) ≡ heads_refused part (picture_in tells rest)
  pub faults : before.faults ≤ now.faults
  pub among : AreAmong rest all
  pub lawful : AreLawful rest → AreLawful all
  pub reads : count_after (length (filter (λ t. t.open) rest)) now.reads ≡ count_after (length (filter (λ t. t.open) all)) before.reads

pub heads_begin : {F W : Type 0} (tells : F → Option (List ℕ)) (part : Partition) (all : List (Taken F W)) (counts : Counts) → AreGates tells all → AreHeadsLeft tells part all all counts counts
heads_begin tells part all counts gates = record { gates = gates; told = λ told. told; judged = λ told. refl; among = λ t member. member; lawful = λ lawful. lawful; faults = omega arith; reads = refl }

pub gate_first : {F W : Type 0} (tells : F → Option (List ℕ)) (t : Taken F W) (ts : List (Taken F W)) → AreGates tells (t ∷ ts) → IfSome (tells t.file) (λ bytes. t.open ≡ is_open_file bytes)
gate_first tells t ts gates = all_first (λ u. IfSome (tells u.file) (λ bytes. u.open ≡ is_open_file bytes)) t ts gates

pub gates_behind : {F W : Type 0} (tells : F → Option (List ℕ)) (t : Taken F W) (ts : List (Taken F W)) → AreGates tells (t ∷ ts) → AreGates tells ts
gates_behind tells t ts gates = all_behind (λ u. IfSome (tells u.file) (λ bytes. u.open ≡ is_open_file bytes)) t ts gates

pub told_first : {F W : Type 0} (tells : F → Option (List ℕ)) (t : Taken F W) (ts : List (Taken F W)) → AreTold tells (t ∷ ts) → IsSome (tells t.file)
told_first tells t ts told = all_first (λ u. IsSome (tells u.file)) t ts told

pub told_behind : {F W : Type 0} (tells : F → Option (List ℕ)) (t : Taken F W) (ts : List (Taken F W)) → AreTold tells (t ∷ ts) → AreTold tells ts
told_behind tells t ts told = all_behind (λ u. IsSome (tells u.file)) t ts told

pub head_skipped : {F W : Type 0} (tells : F → Option (List ℕ)) (part : Partition) (all rest ts : List (Taken F W)) (t : Taken F W) (before now : Counts) → AreHeadsLeft tells part all rest before now
    → rest ≡ t ∷ ts → t.open ≡ false → AreHeadsLeft tells part all ts before now
head_skipped tells part all rest ts t before now p rests closed = skipped (subst (λ left. AreHeadsLeft tells part all left before now) rests p)
  where
    skipped : AreHeadsLeft tells part all (t ∷ ts) before now → AreHeadsLeft tells part all ts before now
    skipped q = record {
      gates = gates_behind tells t ts q.gates;
      told = λ told. told_behind tells t ts (q.told told);
      judged = λ told.
          let passes = closed_passes part t.name t.open (tells t.file) (told_first tells t ts (q.told told)) (gate_first tells t ts q.gates) closed in
          subst (λ first. heads_refused part (picture_in tells all) ≡ option_or first (heads_refused part (picture_in tells ts))) passes (q.judged told);
      among = λ u member. q.among u (member_further t ts u member);
      lawful = λ lawful. q.lawful (All-cons (λ u. u.open ≡ true → IsLawfulName u.name) t ts (λ is_open. absurd (cc)) lawful);
      faults = q.faults;
      reads = subst (λ is. count_after (length (cond is (t ∷ filter (λ u. u.open) ts) (filter (λ u. u.open) ts))) now.reads ≡ count_after (length (filter (λ u. u.open) all)) before.reads) closed q.reads;
    }

pub head_read : {F W : Type 0} (tells : F → Option (List ℕ)) (part : Partition) (all rest ts : List (Taken F W)) (t : Taken F W) (before now after : Counts) → AreHeadsLeft tells part all rest before now
    → rest ≡ t ∷ ts → t.open ≡ true → IfSome (tells t.file) (λ bytes. head_refused part t.name bytes ≡ None) → IsLawfulName t.name → now.faults ≤ after.faults → after.reads ≡ count_after 1 now.reads
    → AreHeadsLeft tells part all ts before after
head_read tells part all rest ts t before now after p rests is_open passes name risen read = done (subst (λ left. AreHeadsLeft tells part all left before now) rests p)
  where
    done : AreHeadsLeft tells part all (t ∷ ts) before now → AreHeadsLeft tells part all ts before after
    done q = record {
      gates = gates_behind tells t ts q.gates;
      told = λ told. told_behind tells t ts (q.told told);
      judged = λ told.
          let some = told_first tells t ts (q.told told) in
          let judged = open_judged part t.name t.open (tells t.file) some (gate_first tells t ts q.gates) is_open in
          let nothing = told_holds (λ bytes. head_refused part t.name bytes ≡ None) (tells t.file) some passes in
          let first : file_refused part (entry_in tells t) ≡ None = cc in
          subst (λ first. heads_refused part (picture_in tells all) ≡ option_or first (heads_refused part (picture_in tells ts))) first (q.judged told);
      among = λ u member. q.among u (member_further t ts u member);
      lawful = λ lawful. q.lawful (All-cons (λ u. u.open ≡ true → IsLawfulName u.name) t ts (λ is_open. name) lawful);
      faults = omega (arith, q.faults, risen);
      reads =
          let was = subst (λ is. count_after (length (cond is (t ∷ filter (λ u. u.open) ts) (filter (λ u. u.open) ts))) now.reads ≡ count_after (length (filter (λ u. u.open) all)) before.reads) is_open q.reads in
          let moves = count_moves (length (filter (λ u. u.open) ts)) now.reads in
          let here = ap (λ m. count_after (length (filter (λ u. u.open) ts)) m) read in
          cc;
    }

pub head_refuses : (X Y : Type 0) {F W : Type 0} (tells : F → Option (List ℕ)) (part : Partition) (all rest ts : List (Taken F W)) (t : Taken F W) (before now : Counts) (cause : FilesCause)
    → AreHeadsLeft tells part all rest before now → rest ≡ t ∷ ts → t.open ≡ true → IfSome (tells t.file) (λ bytes. Refuses {X = X} (Err cause) (head_refused part t.name bytes)) → AreTold tells all
    → Refuses {X = Y} (Err cause) (heads_refused part (picture_in tells all))
head_refuses X Y tells part all rest ts t before now cause p rests is_open refuses told = refused (subst (λ left. AreHeadsLeft tells part all left before now) rests p)
  where
    refused : AreHeadsLeft tells part all (t ∷ ts) before now → Refuses {X = Y} (Err cause) (heads_refused part (picture_in tells all))
    refused q =
        let some = told_first tells t ts (q.told told) in
        let judged = open_judged part t.name t.open (tells t.file) some (gate_first tells t ts q.gates) is_open in
        let first = subst (λ r. Refuses {X = X} (Err cause) r) (sym judged) (told_holds (λ bytes. Refuses {X = X} (Err cause) (head_refused part t.name bytes)) (tells t.file) some refuses) in
        subst (λ r. Refuses {X = Y} (Err cause) r) (sym (q.judged told)) (refused_first X Y cause (file_refused part (entry_in tells t)) (heads_refused part (picture_in tells ts)) first)

pub heads_counted : {F W : Type 0} (tells : F → Option (List ℕ)) (part : Partition) (all rest : List (Taken F W)) (before now : Counts) → AreHeadsLeft tells part all rest before now → rest ≡ []
    → now.reads ≡ count_after (length (filter (λ t. t.open) all)) before.reads
heads_counted tells part all rest before now p done = subst (λ left. count_after (length (filter (λ t. t.open) left)) now.reads ≡ count_after (length (filter (λ t. t.open) all)) before.reads) done p.reads

-- ---- causes

pub component_cause : {X F W : Type 0} (size : F → ℕ) (part : Partition) (t : Taken F W) (from to : ℕ) (judged : Result X ReadFault) (fault : ReadFault) (cause : FilesCause) → t.open ≡ true → t.name ≡ Component from to
    → IsOfRead (Component from to) fault cause → IfDamaged judged (λ place bytes. (whole : List ℕ) × (length whole ≡ size t.file) × (component.head_judged (Component from to) whole ≡ Err (damage place bytes))) → judged ≡ Err fault
    → IsHeadCause size part (t ∷ []) cause
component_cause size part t from to (Ok x) fault cause is_open name of_read damaged was = absurd (cc)
component_cause size part t from to (Err unread) fault cause is_open name of_read damaged was = subst (IsHeadCause size part (t ∷ [])) (sym (let same : fault ≡ unread = cc in subst (λ f. IsOfRead (Component from to) f cause) same of_read)) tt
component_cause size part t from to (Err (broken place bytes)) fault cause is_open name of_read damaged was =
    subst (IsHeadCause size part (t ∷ [])) (sym (let same : fault ≡ broken place bytes = cc in subst (λ f. IsOfRead (Component from to) f cause) same of_read)) record {
      file = t;
      there = member_first t [];
      is_open = is_open;
      named = name;
      whole = damaged.0;
      sized = damaged.1;
      refused = rw damaged.2 refl;
    }
component_cause size part t from to (Err no_memory) fault cause is_open name of_read damaged was = subst (IsHeadCause size part (t ∷ [])) (sym (let same : fault ≡ no_memory = cc in subst (λ f. IsOfRead (Component from to) f cause) same of_read)) tt

pub log_cause : {X F W : Type 0} (size : F → ℕ) (part : Partition) (t : Taken F W) (generation : ℕ) (judged : Result X ReadFault) (fault : ReadFault) (cause : FilesCause) → t.open ≡ true → t.name ≡ Log generation
    → IsOfRead (Log generation) fault cause → IfDamaged judged (λ place bytes. (whole : List ℕ) × (length whole ≡ size t.file) × (log.front_judged generation (log.front_of whole) ≡ Err (damage place bytes))) → judged ≡ Err fault
    → IsHeadCause size part (t ∷ []) cause
log_cause size part t generation (Ok x) fault cause is_open name of_read damaged was = absurd (cc)
log_cause size part t generation (Err unread) fault cause is_open name of_read damaged was = subst (IsHeadCause size part (t ∷ [])) (sym (let same : fault ≡ unread = cc in subst (λ f. IsOfRead (Log generation) f cause) same of_read)) tt
log_cause size part t generation (Err (broken place bytes)) fault cause is_open name of_read damaged was =
    subst (IsHeadCause size part (t ∷ [])) (sym (let same : fault ≡ broken place bytes = cc in subst (λ f. IsOfRead (Log generation) f cause) same of_read)) record {
      file = t;
      there = member_first t [];
      is_open = is_open;
      named = name;
      whole = damaged.0;
      sized = damaged.1;
      refused = rw damaged.2 refl;
    }
log_cause size part t generation (Err no_memory) fault cause is_open name of_read damaged was = subst (IsHeadCause size part (t ∷ [])) (sym (let same : fault ≡ no_memory = cc in subst (λ f. IsOfRead (Log generation) f cause) same of_read)) tt

pub cause_of_all : {F W : Type 0} (size : F → ℕ) (part : Partition) (all : List (Taken F W)) (t : Taken F W) (cause : FilesCause) → Contains all t → IsHeadCause size part (t ∷ []) cause → IsHeadCause size part all cause
cause_of_all size part all t Disk member is = tt
cause_of_all size part all t (Damaged (Bytes name place bytes)) member is = record {
  file = is.file;
  there = elim (member_cases t [] is.file is.there) [
    | inl same ↦ subst (Contains all) same member
    | inr further ↦ absurd (no_member is.file further)
  ];
  is_open = is.is_open;
  named = is.named;
  whole = is.whole;
  sized = is.sized;
  refused = is.refused;
}
cause_of_all size part all t (Damaged (Files names)) member is = absurd is
cause_of_all size part all t (Layout found found_of) member is = is
cause_of_all size part all t Memory member is = tt
