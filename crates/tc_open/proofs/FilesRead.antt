-- The files that were read of a partition: which are left, that those listed have their names, and how far its logs reach.
use Rattle.std.proofs.Common.{◌≡◌, ◌∙◌, ◌⊎◌, ◌+◌, ◌<◌, ◌^◌, ℕ, Bool, List, [], ◌∷◌, filter, length, map, refl, sym, ap, subst, arith, inl, inr, true, false, None}
use Rattle.std.specs.Prelude.{◌&&◌, ◌↔◌, All, Contains, Option, nat_lt}
use Rattle.std.proofs.lemmas.Bool.{cases_Bool, false≢true}
use Rattle.std.proofs.lemmas.List.Elements.{All-cons, All-head, All-nil, All-tail}
use Rattle.tc_store.specs.declared.file_name.FileName.{FileName}
use Rattle.tc_store.specs.declared.file_name.FileName.TheVariants.{Component, Log}
use Rattle.tc_store.specs.Disk.{Disk, Entry, IsAtRest, IsSettledHome, IsThere, home, is_out, none, out, put, same_name, still, taken}
use Rattle.tc_store.specs.Moments.{IfTold}
use Rattle.tc_store.specs.StoreCalls.{takes}
use Rattle.tc_store.proofs.NameLemmas.{same_name-is}
use Rattle.tc_component.specs.Loading.{ComponentState}
use Rattle.tc_component.specs.Spelling.{name_of}
use Rattle.tc_jobs.specs.Lists.{file_names}
use Rattle.tc_machine.proofs.FilesLeft.{at_name}
use Rattle.tc_part.specs.Ready.{AreNamed as HaveNames}
use Rattle.tc_recover.specs.declared.interval.Interval.{Interval}
use Rattle.tc_recover.specs.declared.taken.Taken.{Taken}
use Rattle.tc_recover.specs.Files.{AreLawful, IsLawfulName, names_in, takes_all}
use Rattle.tc_recover.specs.Loading.{files_of, interval_of, is_file_of, left_of, tile_name}
use Rattle.tc_recover.specs.Loads.{is_above, is_log}
use Rattle.tc_recover.specs.Opening.{AreAllTaken, IsReadOf}
use Rattle.tc_recover.specs.Sorting.{Follow, logs_above, open_names}
use Rattle.tc_recover.proofs.Members.{member_cases, member_first, member_further, no_member}
use Rattle.tc_open.specs.BeingOpened.{AreIn}
use Rattle.tc_open.specs.Resting.{AreOwn, IsTaken}
use Rattle.tc_open.specs.Steps.{IsLogUpTo}

second_true : (a b : Bool) → a && b ≡ true → b ≡ true
second_true false b is = absurd (false≢true is)
second_true true b is = is

pub second_false : (a b : Bool) → b ≡ false → a && b ≡ false
second_false false b is = refl
second_false true b is = is

-- ---- all files are taken

taken_is : (e : Entry) → IsTaken (taken e)
taken_is (none before) = tt
taken_is (home f) = tt
taken_is (still bytes) = tt
taken_is out = tt

pub taken_in : (e : Entry) → is_out e ≡ false → is_out (taken e) ≡ false
taken_in (none before) is = refl
taken_in (home f) is = refl
taken_in (still bytes) is = refl
taken_in out is = is

was_there : (e : Entry) → IsThere (taken e) → IsThere e
was_there (none before) there = there
was_there (home f) there = tt
was_there (still bytes) there = tt
was_there out there = tt

settled_in : (e : Entry) → IsSettledHome e → is_out e ≡ false
settled_in (none before) is = absurd is
settled_in (home f) is = refl
settled_in (still bytes) is = absurd is
settled_in out is = absurd is

settled_there : (e : Entry) → IsSettledHome e → IsThere e
settled_there (none before) is = is
settled_there (home f) is = tt
settled_there (still bytes) is = absurd is
settled_there out is = absurd is

-- the files of some of all names are still to be taken
record AreToTake (all rest : List FileName) (disk : Disk) : Type 0 where
  is_in : (n : FileName) → is_out (disk n) ≡ false
  there : (n : FileName) → IsThere (disk n) → Contains all n
  waits : (n : FileName) → IsTaken (disk n) ⊎ Contains rest n

one_taken : (all : List FileName) (m : FileName) (rest : List FileName) (disk : Disk) → AreToTake all (m ∷ rest) disk → AreToTake all rest (put m (taken (disk m)) disk)
one_taken all m rest disk is = record {
  is_in = λ n. at_name m n (taken (disk m)) disk (λ e. is_out e ≡ false) (λ same. taken_in (disk m) (is.is_in m)) (λ apart. is.is_in n);
  there = λ n. at_name m n (taken (disk m)) disk (λ e. IsThere e → Contains all n) (λ same there. subst (λ k. Contains all k) same (is.there m (was_there (disk m) there))) (λ apart. is.there n);
  waits = λ n. at_name m n (taken (disk m)) disk (λ e. IsTaken e ⊎ Contains rest n) (λ same. inl (taken_is (disk m))) (λ apart. further n apart (is.waits n));
}
  where
    further : (n : FileName) → (m ≡ n → ⊥) → IsTaken (disk n) ⊎ Contains (m ∷ rest) n → IsTaken (disk n) ⊎ Contains rest n
    further n apart (inl done) = inl done
    further n apart (inr among) = elim (member_cases m rest n among) [
      | inl same ↦ absurd (apart same)
      | inr later ↦ inr later
    ]

all_taken : (all rest : List FileName) (disks : List Disk) → IfTold disks (AreToTake all rest) → IfTold (takes_all rest disks) (AreToTake all [])
all_taken all [] disks is = is
all_taken all (m ∷ rest) [] is = all_taken all rest [] tt
all_taken all (m ∷ rest) (disk ∷ past) is = all_taken all rest (takes m (disk ∷ past)) (one_taken all m rest disk is)

pub in_at_rest : (disk : Disk) → IsAtRest disk → AreIn disk
in_at_rest disk rest n = elim (rest n) [
  | inl absent ↦ ap is_out absent
  | inr settled ↦ settled_in (disk n) settled
]

to_take : (all : List FileName) (disk : Disk) → IsAtRest disk → ((n : FileName) → Contains all n ↔ IsThere (disk n)) → AreToTake all all disk
to_take all disk rest exact = record { is_in = in_at_rest disk rest; there = λ n. (exact n).1; waits = λ n. waiting n (rest n) }
  where
    waiting : (n : FileName) → (disk n ≡ none None) ⊎ IsSettledHome (disk n) → IsTaken (disk n) ⊎ Contains all n
    waiting n (inl absent) = inl (subst IsTaken (sym absent) tt)
    waiting n (inr settled) = inr ((exact n).1 (settled_there (disk n) settled))

-- ---- listed or left

tile_names : {F : Type 0} (list : List (ComponentState F)) → map tile_name (map interval_of list) ≡ file_names list
tile_names [] = refl
tile_names (c ∷ cs) = ap (λ ns. name_of c.index.head ∷ ns) (tile_names cs)

module _ {F W : Type 0} (name : F → FileName) where
  named_tile : (tile : Interval) (t : Taken F W) → is_file_of tile t ≡ true → tile_name tile ≡ t.name
  named_tile tile t is = same_name-is (tile_name tile) t.name (second_true t.open (same_name (tile_name tile) t.name) is)

  listed_or_left : (tiles : List Interval) (files : List (Taken F W)) (n : FileName) → Contains (names_in files) n → Contains (map tile_name tiles) n ⊎ Contains (names_in (left_of tiles files)) n
  listed_or_left tiles [] n among = absurd (no_member n among)
  listed_or_left [] (t ∷ ts) n among = inr among
  listed_or_left (tile ∷ tiles) (t ∷ ts) n among = elim (cases_Bool (is_file_of tile t)) [
    | inl is ↦ rw is (elim (member_cases t.name (names_in ts) n among) [
      | inl same ↦ inl (subst (λ m. Contains (map tile_name (tile ∷ tiles)) m) (named_tile tile t is ∙ same) (member_first (tile_name tile) (map tile_name tiles)))
      | inr further ↦ elim (listed_or_left tiles ts n further) [
        | inl listed ↦ inl (member_further (tile_name tile) (map tile_name tiles) n listed)
        | inr left ↦ inr left
      ]
    ])
    | inr other ↦ rw other (elim (member_cases t.name (names_in ts) n among) [
      | inl same ↦ inr (subst (λ m. Contains (t.name ∷ names_in (left_of (tile ∷ tiles) ts)) m) same (member_first t.name (names_in (left_of (tile ∷ tiles) ts))))
      | inr further ↦ elim (listed_or_left (tile ∷ tiles) ts n further) [
        | inl listed ↦ inl listed
        | inr left ↦ inr (member_further t.name (names_in (left_of (tile ∷ tiles) ts)) n left)
      ]
    ])
  ]

  abbrev IsNamed : Taken F W → Type 0
  IsNamed t = name t.file ≡ t.name

  pub left_named : (tiles : List Interval) (files : List (Taken F W)) → All IsNamed files → All IsNamed (left_of tiles files)
  left_named tiles [] all = All-nil IsNamed
  left_named [] (t ∷ ts) all = all
  left_named (tile ∷ tiles) (t ∷ ts) all = elim (cases_Bool (is_file_of tile t)) [
    | inl is ↦ rw is (left_named tiles ts (All-tail IsNamed t ts all))
    | inr other ↦ rw other (All-cons IsNamed t (left_of (tile ∷ tiles) ts) (All-head IsNamed t ts all) (left_named (tile ∷ tiles) ts (All-tail IsNamed t ts all)))
  ]

  pub file_names_are : (ts : List (Taken F W)) → All IsNamed ts → map (λ t. name t.file) ts ≡ names_in ts
  file_names_are [] all = refl
  file_names_are (t ∷ ts) all =
      let one : name t.file ≡ t.name = All-head IsNamed t ts all in
      let rest = file_names_are ts (All-tail IsNamed t ts all) in
      ap (λ n. n ∷ map (λ (u : Taken F W). name u.file) ts) one ∙ ap (λ ns. t.name ∷ ns) rest

  -- each listed component has the name of its file
  pub listed_named : (list : List (ComponentState F)) (files : List (Taken F W)) → All IsNamed files → map (λ c. c.file) list ≡ files_of (map interval_of list) files → HaveNames name list
  listed_named [] files all are = All-nil (λ (c : ComponentState F). name c.file ≡ name_of c.index.head)
  listed_named (c ∷ cs) [] all are = absurd (cc)
  listed_named (c ∷ cs) (t ∷ ts) all are = at (cases_Bool (is_file_of (interval_of c) t)) (listed_named cs ts (All-tail IsNamed t ts all)) (listed_named (c ∷ cs) ts (All-tail IsNamed t ts all))
    where
      at : (is_file_of (interval_of c) t ≡ true) ⊎ (is_file_of (interval_of c) t ≡ false) → (map (λ (d : ComponentState F). d.file) cs ≡ files_of (map interval_of cs) ts → HaveNames name cs)
          → (map (λ (d : ComponentState F). d.file) (c ∷ cs) ≡ files_of (map interval_of (c ∷ cs)) ts → HaveNames name (c ∷ cs)) → HaveNames name (c ∷ cs)
      at (inl is) rest same =
          let these : c.file ∷ map (λ (d : ComponentState F). d.file) cs ≡ t.file ∷ files_of (map interval_of cs) ts = are ∙ rw is refl in
          let file : c.file ≡ t.file = cc in
          let others : map (λ (d : ComponentState F). d.file) cs ≡ files_of (map interval_of cs) ts = cc in
          All-cons (λ (d : ComponentState F). name d.file ≡ name_of d.index.head) c cs (ap name file ∙ All-head IsNamed t ts all ∙ sym (named_tile (interval_of c) t is)) (rest others)
      at (inr other) rest same = same (are ∙ rw other refl)

  pub own_read : {content : F → Option (List ℕ)} (list : List (ComponentState F)) (left files : List (Taken F W)) (last : ℕ) (old new : List Disk) → IfTold old IsAtRest → AreAllTaken content name files old new → IsReadOf files list left last
      → IfTold new (AreOwn list (map (λ t. name t.file) left))
  own_read list left files last old new rest all read = subst (λ ds. IfTold ds (AreOwn list (map (λ (t : Taken F W). name t.file) left))) (sym all.taken) (each (takes_all (names_in files) old) (all_taken (names_in files) (names_in files) old (first old rest all.exact)))
    where
      first : (disks : List Disk) → IfTold disks IsAtRest → IfTold disks (λ disk. (n : FileName) → Contains (names_in files) n ↔ IsThere (disk n)) → IfTold disks (AreToTake (names_in files) (names_in files))
      first [] rest exact = tt
      first (disk ∷ past) rest exact = to_take (names_in files) disk rest exact

      left_are : map (λ (t : Taken F W). name t.file) left ≡ names_in (left_of (map interval_of list) files)
      left_are = ap (λ (ts : List (Taken F W)). map (λ (t : Taken F W). name t.file) ts) read.left_are ∙ file_names_are (left_of (map interval_of list) files) (left_named (map interval_of list) files all.named)

      known : (n : FileName) → Contains (names_in files) n → Contains (file_names list) n ⊎ Contains (map (λ (t : Taken F W). name t.file) left) n
      known n among = elim (listed_or_left (map interval_of list) files n among) [
        | inl listed ↦ inl (subst (λ ns. Contains ns n) (tile_names list) listed)
        | inr left ↦ inr (subst (λ ns. Contains ns n) (sym left_are) left)
      ]

      done : (e : Entry) (n : FileName) → IsTaken e ⊎ Contains {X = FileName} [] n → IsTaken e
      done e n (inl is) = is
      done e n (inr among) = absurd (no_member n among)

      each : (disks : List Disk) → IfTold disks (AreToTake (names_in files) []) → IfTold disks (AreOwn list (map (λ (t : Taken F W). name t.file) left))
      each [] is = tt
      each (disk ∷ past) is = record {
        taken = λ n. done (disk n) n (is.waits n);
        is_in = is.is_in;
        own = λ n there. known n (is.there n there);
      }

-- ---- how far the logs reach

-- those behind a generation, with the one that they reach
pub record Reach {F W : Type 0} (before : ℕ) (logs : List (Taken F W)) : Type 0 where
  pub up_to : All (λ t. IsLogUpTo (before + length logs) t.name) logs
  pub bound : before + length logs < 2 ^ 63

module _ {F W : Type 0} (last : ℕ) where
  abbrev Skips : Taken F W → List (Taken F W) → Type 0
  Skips t ts = (is_log last t ≡ false) × (logs_above last (open_names (t ∷ ts)) ≡ logs_above last (open_names ts))

  abbrev Counts : Taken F W → List (Taken F W) → Type 0
  Counts t ts = (g : ℕ) × (is_log last t ≡ true) × (t.open ≡ true) × (t.name ≡ Log g) × (logs_above last (open_names (t ∷ ts)) ≡ g ∷ logs_above last (open_names ts))

  skips_or_counts : (t : Taken F W) (ts : List (Taken F W)) → Skips t ts ⊎ Counts t ts
  skips_or_counts t ts = at t.open refl t.name refl
    where
      at : (o : Bool) → t.open ≡ o → (n : FileName) → t.name ≡ n → Skips t ts ⊎ Counts t ts
      at false is n named = inl (rw is refl, rw is refl)
      at true is (Component from to) named = inl (rw (is, named) refl, rw (is, named) refl)
      at true is (Log g) named = elim (cases_Bool (nat_lt last g)) [
        | inl above ↦ inr (g, rw (is, named) above, is, named, rw (is, named) (rw above refl))
        | inr below ↦ inl (rw (is, named) below, rw (is, named) (rw below refl))
      ]

  one_more : (before g : ℕ) (t : Taken F W) (logs : List (Taken F W)) → t.name ≡ Log g → g ≡ before + 1 → Reach g logs → Reach before (t ∷ logs)
  one_more before g t logs named next rest =
      let same : g + length logs ≡ before + length (t ∷ logs) = omega (arith, next) in
      record {
        up_to = subst (λ (m : ℕ). All (λ (u : Taken F W). IsLogUpTo m u.name) (t ∷ logs)) same
            (All-cons (λ (u : Taken F W). IsLogUpTo (g + length logs) u.name) t logs (subst (λ n. IsLogUpTo (g + length logs) n) (sym named) (omega arith)) rest.up_to);
        bound = subst (λ (m : ℕ). m < 2 ^ 63) same rest.bound;
      }

  lawful_log : (t : Taken F W) (g : ℕ) → (t.open ≡ true → IsLawfulName t.name) → t.open ≡ true → t.name ≡ Log g → g < 2 ^ 63
  lawful_log t g lawful is named = (subst IsLawfulName named (lawful is)).1

  reach : (before : ℕ) (files : List (Taken F W)) → before < 2 ^ 63 → AreLawful files → Follow before (logs_above last (open_names files)) → Reach before (filter (is_log last) files)
  reach before [] bound lawful follow = record { up_to = All-nil (λ (t : Taken F W). IsLogUpTo (before + 0) t.name); bound = omega (arith, bound) }
  reach before (t ∷ ts) bound lawful follow = at (skips_or_counts t ts) (λ b low. reach b ts low (All-tail Lawful t ts lawful))
    where
      Lawful : Taken F W → Type 0
      Lawful u = u.open ≡ true → IsLawfulName u.name

      at : Skips t ts ⊎ Counts t ts → ((b : ℕ) → b < 2 ^ 63 → Follow b (logs_above last (open_names ts)) → Reach b (filter (is_log last) ts)) → Reach before (filter (is_log last) (t ∷ ts))
      at (inl skips) rest = rw skips.0 (rest before bound (subst (λ gs. Follow before gs) skips.1 follow))
      at (inr counts) rest =
          let follows : (counts.0 ≡ before + 1) × Follow counts.0 (logs_above last (open_names ts)) = subst (λ gs. Follow before gs) counts.4 follow in
          rw counts.1 (one_more before counts.0 t (filter (is_log last) ts) counts.3 follows.0 (rest counts.0 (lawful_log t counts.0 (All-head Lawful t ts lawful) counts.2 counts.3) follows.1))

  -- the files of tiles are no logs
  no_log : (tile : Interval) (t : Taken F W) → is_file_of tile t ≡ true → is_log last t ≡ false
  no_log tile t is = second_false t.open (is_above last t.name) (ap (λ n. is_above last n) (sym (same_name-is (tile_name tile) t.name (second_true t.open (same_name (tile_name tile) t.name) is))))

  logs_left : (tiles : List Interval) (files : List (Taken F W)) → filter (is_log last) (left_of tiles files) ≡ filter (is_log last) files
  logs_left tiles [] = refl
  logs_left [] (t ∷ ts) = refl
  logs_left (tile ∷ tiles) (t ∷ ts) = elim (cases_Bool (is_file_of tile t)) [
    | inl is ↦ rw (is, no_log tile t is) (logs_left tiles ts)
    | inr other ↦ rw other (both (cases_Bool (is_log last t)) (logs_left (tile ∷ tiles) ts))
  ]
    where
      both : (is_log last t ≡ true) ⊎ (is_log last t ≡ false) → filter (is_log last) (left_of (tile ∷ tiles) ts) ≡ filter (is_log last) ts → filter (is_log last) (t ∷ left_of (tile ∷ tiles) ts) ≡ filter (is_log last) (t ∷ ts)
      both (inl log) same = rw log (ap (λ us. t ∷ us) same)
      both (inr other) same = rw other same

  pub logs_reach : (tiles : List Interval) (files : List (Taken F W)) → last < 2 ^ 63 → AreLawful files → Follow last (logs_above last (open_names files)) → Reach last (filter (is_log last) (left_of tiles files))
  logs_reach tiles files bound lawful follow = subst (λ ls. Reach last ls) (sym (logs_left tiles files)) (reach last files bound lawful follow)
