-- The open files of a picture: their headers were judged, and they are sorted by their names.
use Rattle.std.proofs.Common.{◌≡◌, ◌∙◌, ℕ, Bool, true, false, List, [], ◌∷◌, Option, None, Some, map, refl, sym, subst, ap, arith}
use Rattle.std.specs.Prelude.{Contains}
use Rattle.std.specs.Option.{option_or}
use Rattle.std.specs.List.{AllByRecursion}
use Rattle.std.specs.Ordering.{nat_cmp}
use Rattle.std.specs.declared.cmp.Ordering.TheVariants.{Less, Equal}
use Rattle.std.proofs.lemmas.Grind.{common_steps}
use Rattle.tc_store.specs.declared.file_name.FileName.{FileName}
use Rattle.tc_store.specs.declared.file_name.FileName.TheVariants.{Component, Log}
use Rattle.tc_store.specs.Disk.{Picture, bytes_at, same_name}
use Rattle.tc_store.specs.Gate.{is_open_file}
use Rattle.tc_store.specs.NameOrder.{name_cmp}
use Rattle.tc_store.proofs.NameLemmas.{same_name-is}
use Rattle.tc_lsm_model.specs.Contents.{Partition}
use Rattle.tc_recover.specs.declared.interval.Interval.{Interval}
use Rattle.tc_recover.specs.Opening.{open_in}
use Rattle.tc_recover.specs.Refusals.{Refusal, file_refused, head_refused, heads_refused}
use Rattle.tc_recover.specs.Sorting.{intervals_of}
use Rattle.tc_recover.proofs.Members.{member_first, member_further}

-- what stands under a name is the first file, or stands behind it
pub at_first : (file : FileName × List ℕ) (files : Picture) (name : FileName) (bytes : List ℕ) (P : Type 0) → (file.0 ≡ name → file.1 ≡ bytes → P) → (bytes_at files name ≡ Some bytes → P) → bytes_at (file ∷ files) name ≡ Some bytes → P
at_first file files name bytes P here behind is = cases (same_name file.0 name) refl
  where
    cases : (same : Bool) → same_name file.0 name ≡ same → P
    cases true same =
        let there : bytes_at (file ∷ files) name ≡ Some file.1 = rw same refl in
        here (same_name-is file.0 name same) (cc)
    cases false same =
        let there : bytes_at (file ∷ files) name ≡ bytes_at files name = rw same refl in
        behind (sym there ∙ is)

-- ---- headers

none_of : (first second : Option Refusal) → option_or first second ≡ None → (first ≡ None) × (second ≡ None)
none_of None second none = (refl, none)
none_of (Some refusal) second none = absurd (cc)

-- where no header is refused, that of each open file is not
pub open_passes : (part : Partition) (picture : Picture) (name : FileName) (bytes : List ℕ) → heads_refused part picture ≡ None → bytes_at picture name ≡ Some bytes → is_open_file bytes ≡ true → head_refused part name bytes ≡ None
open_passes part [] name bytes none is opened = absurd (cc)
open_passes part (file ∷ files) name bytes none is opened =
    let both = none_of (file_refused part file) (heads_refused part files) none in
    at_first file files name bytes (head_refused part name bytes ≡ None) (λ called held. subst (λ n. head_refused part n bytes ≡ None) called (subst (λ b. head_refused part file.0 b ≡ None) held (first held both.0)))
    (λ behind. open_passes part files name bytes both.1 behind opened) is
  where
    first : file.1 ≡ bytes → file_refused part file ≡ None → head_refused part file.0 file.1 ≡ None
    first held none =
        let is_open : is_open_file file.1 ≡ true = ap is_open_file held ∙ opened in
        let there : file_refused part file ≡ head_refused part file.0 file.1 = rw is_open refl in
        sym there ∙ none

-- ---- intervals

-- the intervals of the open files, where one more stands before them
pub intervals_with : (file : FileName × List ℕ) (files : Picture) (i : Interval) → Contains (intervals_of (open_in files)) i → Contains (intervals_of (open_in (file ∷ files))) i
intervals_with file files i there = cases (is_open_file file.1) refl file.0 refl
  where
    cases : (opened : Bool) → is_open_file file.1 ≡ opened → (name : FileName) → file.0 ≡ name → Contains (intervals_of (open_in (file ∷ files))) i
    cases false closed name named = rw closed there
    cases true opened (Component from to) named = rw opened (rw named (member_further (record { from = from; to = to }) (intervals_of (open_in files)) i there))
    cases true opened (Log generation) named = rw opened (rw named there)

-- an open component has its interval among them
pub interval_there : (picture : Picture) (from to : ℕ) (bytes : List ℕ) → bytes_at picture (Component from to) ≡ Some bytes → is_open_file bytes ≡ true → Contains (intervals_of (open_in picture)) (record { from = from; to = to })
interval_there [] from to bytes is opened = absurd (cc)
interval_there (file ∷ files) from to bytes is opened =
    at_first file files (Component from to) bytes (Contains (intervals_of (open_in (file ∷ files))) (record { from = from; to = to }))
    (λ called held. let is_open : is_open_file file.1 ≡ true = ap is_open_file held ∙ opened in rw is_open (rw called (member_first (record { from = from; to = to }) (intervals_of (open_in files)))))
    (λ behind. intervals_with file files (record { from = from; to = to }) (interval_there files from to bytes behind opened)) is

-- ---- names

pub not_before_itself : (name : FileName) → name_cmp name name ≡ Less → ⊥
not_before_itself (Component from to) less =
    let one : nat_cmp from from ≡ Equal = grind (arith, common_steps) in
    let two : nat_cmp to to ≡ Equal = grind (arith, common_steps) in
    let equal : name_cmp (Component from to) (Component from to) ≡ Equal = rw (one, two) refl in
    cc
not_before_itself (Log generation) less =
    let equal : nat_cmp generation generation ≡ Equal = grind (arith, common_steps) in
    cc

-- what is found among files of later names has another name
pub found_apart : (name : FileName) (files : Picture) (other : FileName) (bytes : List ℕ) → AllByRecursion (λ later. name_cmp name later ≡ Less) (map (λ file. file.0) files) → bytes_at files other ≡ Some bytes → same_name name other ≡ false
found_apart name [] other bytes later is = absurd (cc)
found_apart name (file ∷ files) other bytes later is =
    at_first file files other bytes (same_name name other ≡ false) (λ called held. apart (same_name name other) refl (subst (λ n. name_cmp name n ≡ Less) called later.0)) (λ behind. found_apart name files other bytes later.1 behind) is
  where
    apart : (same : Bool) → same_name name other ≡ same → name_cmp name other ≡ Less → same_name name other ≡ false
    apart false same less = same
    apart true same less = absurd (not_before_itself name (subst (λ n. name_cmp name n ≡ Less) (sym (same_name-is name other same)) less))
