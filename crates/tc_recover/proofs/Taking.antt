-- Files are taken one after the other.
use Rattle.std.proofs.Common.{◌≡◌, ◌≤◌, ◌⊎◌, ◌+◌, ℕ, suc, Bool, List, [], ◌∷◌, ◌++◌, filter, length, length-append, inl, inr, refl, sym, subst, ap, append_assoc, append-nil, arith}
use Rattle.std.specs.Prelude.{◌<◌, ◌^◌, OnErr, Result, Ok, Err, Contains, Option, None, Some, unwrap_or, IsSome, IfSome, true, false, nat_lt, if◌then◌else◌}
use Rattle.std.specs.List.Sorted.{IsStrictlySortedBy}
use Rattle.std.proofs.lemmas.List.{map-append}
use Rattle.std.proofs.lemmas.List.Elements.{All-push, filter-append}
use Rattle.tc_bytes.specs.Codec.{IsBytes}
use Rattle.tc_bytes.specs.Counts.{next_count}
use Rattle.tc_store.specs.Counted.{Counts}
use Rattle.tc_store.specs.Gate.{is_open_file}
use Rattle.tc_recover.specs.Reads.{count_after}
use Rattle.std.proofs.lemmas.Map.Keys.{sorted_tail}
use Rattle.tc_store.specs.declared.file_name.FileName.{FileName}
use Rattle.tc_store.specs.Disk.{Disk, Entry, none, home, still, out, put, taken, same_name, content_of, IsSettledHome}
use Rattle.tc_store.specs.Moments.{IfTold}
use Rattle.tc_store.specs.NameOrder.{name_cmp}
use Rattle.tc_store.specs.StoreCalls.{takes, content_at}
use Rattle.tc_recover.specs.declared.taken.Taken.{Taken}
use Rattle.tc_recover.specs.Files.{picture_in, AreBytes, AreTold, AreGates, AreNamed, is_long, names_in, picture_at, takes_all, TakesFirst}
use Rattle.tc_recover.proofs.Members.{member_first, member_further}
use Rattle.tc_recover.proofs.NameOrders.{first_apart}

-- the files of the names before these were taken
pub record IsTaking {F W : Type 0} (tells : F → Option (List ℕ)) (all rest : List FileName) (old new : List Disk) (ts : List (Taken F W)) : Type 0 where
  pub names : all ≡ names_in ts ++ rest
  pub history : new ≡ takes_all (names_in ts) old
  pub ascend : IsStrictlySortedBy name_cmp rest
  pub at_home : IfTold new (λ disk. (n : FileName) → Contains rest n → IsSettledHome (disk n))
  pub same : IfTold old (λ before. IfTold new (λ disk. (n : FileName) → Contains rest n → disk n ≡ before n))
  pub told : IfTold old (λ before. AreTold tells ts × (picture_in tells ts ≡ picture_at before (names_in ts)))

pub takes_one_more : (names : List FileName) (n : FileName) (disks : List Disk) → takes_all (names ++ n ∷ []) disks ≡ takes n (takes_all names disks)
takes_one_more [] n disks = refl
takes_one_more (m ∷ names) n disks = takes_one_more names n (takes m disks)

stays_told : (names : List FileName) (disk : Disk) (past : List Disk) → [] ≡ takes_all names (disk ∷ past) → ⊥
stays_told [] disk past untold = cc
stays_told (n ∷ names) disk past untold = stays_told names (put n (taken (disk n)) disk) (disk ∷ past) untold

put_other : (n m : FileName) (entry : Entry) (disk : Disk) → same_name n m ≡ false → put n entry disk m ≡ disk m
put_other n m entry disk other = rw other refl

names_pushed : {F W : Type 0} (ts : List (Taken F W)) (t : Taken F W) → names_in (ts ++ t ∷ []) ≡ names_in ts ++ t.name ∷ []
names_pushed ts t = map-append (λ (u : Taken _ _). u.name) ts (t ∷ [])

still_home : (names : List FileName) (n : FileName) (new : List Disk) → IsStrictlySortedBy name_cmp (n ∷ names) → IfTold new (λ disk. (m : FileName) → Contains (n ∷ names) m → IsSettledHome (disk m))
    → IfTold (takes n new) (λ disk. (m : FileName) → Contains names m → IsSettledHome (disk m))
still_home names n [] ascend settled = tt
still_home names n (disk ∷ past) ascend settled = λ m member.
    subst IsSettledHome (sym (put_other n m (taken (disk n)) disk (first_apart n names m ascend member))) (settled m (member_further n names m member))

still_same : (names : List FileName) (n : FileName) (old new : List Disk) → IsStrictlySortedBy name_cmp (n ∷ names)
    → IfTold old (λ before. IfTold new (λ disk. (m : FileName) → Contains (n ∷ names) m → disk m ≡ before m))
    → IfTold old (λ before. IfTold (takes n new) (λ disk. (m : FileName) → Contains names m → disk m ≡ before m))
still_same names n [] new ascend same = tt
still_same names n (before ∷ past) [] ascend same = tt
still_same names n (before ∷ past) (disk ∷ earlier) ascend same = λ m member.
    let other = put_other n m (taken (disk n)) disk (first_apart n names m ascend member) in
    let was = same m (member_further n names m member) in
    cc

some_content : (entry : Entry) → IsSettledHome entry → IsSome (content_of entry)
some_content (none before) settled = absurd settled
some_content (home f) settled = refl
some_content (still bytes) settled = refl
some_content out settled = absurd settled

picture_pushed : {F W : Type 0} (tells : F → Option (List ℕ)) (before : Disk) (ts : List (Taken F W)) (t : Taken F W) → picture_in tells ts ≡ picture_at before (names_in ts)
    → tells t.file ≡ content_of (before t.name) → picture_in tells (ts ++ t ∷ []) ≡ picture_at before (names_in (ts ++ t ∷ []))
picture_pushed tells before [] t told is = ap (λ content. (t.name, unwrap_or content []) ∷ []) is
picture_pushed tells before (u ∷ us) t told is =
    let tails : picture_in tells us ≡ picture_at before (names_in us) = cc in
    let rest = picture_pushed tells before us t tails is in
    cc

one_told : {F W : Type 0} (tells : F → Option (List ℕ)) (names : List FileName) (n : FileName) (old new : List Disk) (ts : List (Taken F W)) (t : Taken F W)
    → new ≡ takes_all (names_in ts) old
    → IfTold new (λ disk. (m : FileName) → Contains (n ∷ names) m → IsSettledHome (disk m))
    → IfTold old (λ before. IfTold new (λ disk. (m : FileName) → Contains (n ∷ names) m → disk m ≡ before m))
    → IfTold old (λ before. AreTold tells ts × (picture_in tells ts ≡ picture_at before (names_in ts)))
    → t.name ≡ n → tells t.file ≡ content_at n new
    → IfTold old (λ before. AreTold tells (ts ++ t ∷ []) × (picture_in tells (ts ++ t ∷ []) ≡ picture_at before (names_in (ts ++ t ∷ []))))
one_told tells names n [] new ts t history settled same told named tells_it = tt
one_told tells names n (before ∷ past) [] ts t history settled same told named tells_it = absurd (stays_told (names_in ts) before past history)
one_told tells names n (before ∷ past) (disk ∷ earlier) ts t history settled same told named tells_it =
    let was = same n (member_first n names) in
    let is : tells t.file ≡ content_of (before n) = subst (λ entry. tells t.file ≡ content_of entry) was tells_it in
    let some : IsSome (tells t.file) = subst IsSome (sym tells_it) (some_content (disk n) (settled n (member_first n names))) in
    let here : tells t.file ≡ content_of (before t.name) = subst (λ m. tells t.file ≡ content_of (before m)) (sym named) is in
    (All-push (λ u. IsSome (tells u.file)) ts t told.0 some, picture_pushed tells before ts t told.1 here)

-- one more
pub one_taken : {F W : Type 0} (tells : F → Option (List ℕ)) (all names : List FileName) (n : FileName) (old new : List Disk) (ts : List (Taken F W)) (t : Taken F W)
    → IsTaking tells all (n ∷ names) old new ts → t.name ≡ n → tells t.file ≡ content_at n new → IsTaking tells all names old (takes n new) (ts ++ t ∷ [])
one_taken tells all names n old new ts t p named tells_it = record {
  names = subst (λ ns. all ≡ ns ++ names) (sym (subst (λ m. names_in (ts ++ t ∷ []) ≡ names_in ts ++ m ∷ []) named (names_pushed ts t))) (subst (λ ns. all ≡ ns) (sym (append_assoc (names_in ts) (n ∷ []) names)) p.names);
  history = subst (λ ns. takes n new ≡ takes_all ns old) (sym (subst (λ m. names_in (ts ++ t ∷ []) ≡ names_in ts ++ m ∷ []) named (names_pushed ts t)))
      (subst (λ disks. takes n new ≡ disks) (sym (takes_one_more (names_in ts) n old)) (ap (takes n) p.history));
  ascend = sorted_tail name_cmp n names p.ascend;
  at_home = still_home names n new p.ascend p.at_home;
  same = still_same names n old new p.ascend p.same;
  told = one_told tells names n old new ts t p.history p.at_home p.same p.told named tells_it;
}

-- as many bytes as the file is long
pub short_bytes : (told : Option (List ℕ)) (size : ℕ) → IfSome told IsBytes → size < 2 ^ 63 → IfSome told (λ bytes. size ≡ length bytes) → IfSome told (λ bytes. IsBytes bytes × (length bytes < 2 ^ 63))
short_bytes None size bytes short same = tt
short_bytes (Some all) size bytes short same = (bytes, subst (λ n. n < 2 ^ 63) same short)

-- with what is read of them
pub record IsTakingFiles {F W : Type 0} (tells : F → Option (List ℕ)) (named : F → FileName) (size : F → ℕ) (all rest : List FileName) (old new : List Disk) (ts : List (Taken F W))
    (before now : Counts) : Type 0 where
  pub taking : IsTaking tells all rest old new ts
  pub names_are : AreNamed named ts
  pub gates : AreGates tells ts
  pub bytes : AreBytes tells ts
  pub faults : before.faults ≤ now.faults
  pub reads : now.reads ≡ count_after (length (filter (is_long size) ts)) before.reads

pub one_file : {F W : Type 0} (tells : F → Option (List ℕ)) (named : F → FileName) (size : F → ℕ) (all rest names : List FileName) (n : FileName) (old new later : List Disk)
    (ts us : List (Taken F W)) (t : Taken F W) (before now after : Counts) → IsTakingFiles tells named size all rest old new ts before now
    → rest ≡ n ∷ names → later ≡ takes n new → us ≡ ts ++ t ∷ [] → t.name ≡ n → named t.file ≡ t.name → tells t.file ≡ content_at n new
    → IfSome (tells t.file) (λ bytes. t.open ≡ is_open_file bytes) → IfSome (tells t.file) (λ bytes. IsBytes bytes × (length bytes < 2 ^ 63)) → now.faults ≤ after.faults → after.reads ≡ count_after (length (filter (is_long size) (t ∷ []))) now.reads
    → IsTakingFiles tells named size all names old later us before after
one_file tells named size all rest names n old new later ts us t before now after p rests laters pushed name name_is told gate short risen read =
    subst (λ vs. IsTakingFiles tells named size all names old later vs before after) (sym pushed) record {
      taking = subst (λ disks. IsTaking tells all names old disks (ts ++ t ∷ [])) (sym laters)
          (one_taken tells all names n old new ts t (subst (λ left. IsTaking tells all left old new ts) rests p.taking) name told);
      names_are = All-push (λ u. named u.file ≡ u.name) ts t p.names_are name_is;
      gates = All-push (λ u. IfSome (tells u.file) (λ bytes. u.open ≡ is_open_file bytes)) ts t p.gates gate;
      bytes = All-push (λ u. IfSome (tells u.file) (λ bytes. IsBytes bytes × (length bytes < 2 ^ 63))) ts t p.bytes short;
      faults = omega (arith, p.faults, risen);
      reads = subst (λ m. after.reads ≡ count_after m before.reads) (sym long) (counted (nat_lt 1 (size t.file)) read);
    }
  where
    long : length (filter (is_long size) (ts ++ t ∷ [])) ≡ length (filter (is_long size) ts) + length (filter (is_long size) (t ∷ []))
    long = subst (λ vs. length vs ≡ length (filter (is_long size) ts) + length (filter (is_long size) (t ∷ []))) (sym (filter-append (is_long size) ts (t ∷ []))) (length-append (filter (is_long size) ts) (filter (is_long size) (t ∷ [])))

    counted : (is : Bool) → after.reads ≡ count_after (length (if is then t ∷ [] else [])) now.reads
        → after.reads ≡ count_after (length (filter (is_long size) ts) + length (if is then t ∷ [] else [])) before.reads
    counted true once =
        let one : suc (length (filter (is_long size) ts)) ≡ length (filter (is_long size) ts) + 1 = omega arith in
        subst (λ m. after.reads ≡ count_after m before.reads) one (subst (λ m. after.reads ≡ next_count m) p.reads once)
    counted false once =
        let more : length (filter (is_long size) ts) ≡ length (filter (is_long size) ts) + 0 = omega arith in
        subst (λ m. after.reads ≡ count_after m before.reads) more (subst (λ m. after.reads ≡ m) p.reads once)

-- what was taken where the next one failed, before it was taken or behind that
pub taken_first : {T E F W : Type 0} (result : Result T E) (tells : F → Option (List ℕ)) (all rest names : List FileName) (n : FileName) (old new later : List Disk) (ts : List (Taken F W))
    → IsTaking tells all rest old new ts → rest ≡ n ∷ names → (later ≡ new) ⊎ (later ≡ takes n new) → OnErr result (TakesFirst all old later)
taken_first (Ok x) tells all rest names n old new later ts p rests failed = tt
taken_first (Err e) tells all rest names n old new later ts p rests (inl same) = (names_in ts, rest, p.names, (let was = p.history in cc))
taken_first (Err e) tells all rest names n old new later ts p rests (inr taken) = (
  names_in ts ++ n ∷ [],
  names,
  subst (λ ns. all ≡ ns) (sym (append_assoc (names_in ts) (n ∷ []) names)) (subst (λ left. all ≡ names_in ts ++ left) rests p.names),
  subst (λ disks. later ≡ disks) (sym (takes_one_more (names_in ts) n old)) (subst (λ disks. later ≡ takes n disks) p.history taken),
)

-- all of them
pub all_names : {F W : Type 0} (tells : F → Option (List ℕ)) (all rest : List FileName) (old new : List Disk) (ts : List (Taken F W)) → IsTaking tells all rest old new ts → rest ≡ [] → names_in ts ≡ all
all_names tells all rest old new ts p done = sym (subst (λ ns. all ≡ ns) (append-nil (names_in ts)) (subst (λ left. all ≡ names_in ts ++ left) done p.names))

pub all_taken : {F W : Type 0} (tells : F → Option (List ℕ)) (all rest : List FileName) (old new : List Disk) (ts : List (Taken F W)) → IsTaking tells all rest old new ts → rest ≡ [] → new ≡ takes_all all old
all_taken tells all rest old new ts p done = subst (λ ns. new ≡ takes_all ns old) (all_names tells all rest old new ts p done) p.history

pub all_told : {F W : Type 0} (tells : F → Option (List ℕ)) (all rest : List FileName) (old new : List Disk) (ts : List (Taken F W)) → IsTaking tells all rest old new ts
    → IfTold old (λ disk. AreTold tells ts)
all_told tells all rest [] new ts p = tt
all_told tells all rest (disk ∷ past) new ts p = p.told.0
