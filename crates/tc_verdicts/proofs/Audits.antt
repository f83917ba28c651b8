-- An audit goes from one partition to the next, or ends.
use Rattle.std.proofs.Common.{◌≡◌, ◌≢◌, ◌≤◌, ◌<◌, ◌∙◌, ◌+◌, ℕ, suc, List, [], ◌∷◌, ◌++◌, length, length-append, arith, refl, ap, sym, subst, inr}
use Rattle.std.specs.Prelude.{Option, Some, IfSome, slice_get}
use Rattle.tc_bytes.specs.Counts.{Rose}
use Rattle.tc_store.specs.Counted.{Counts}
use Rattle.tc_store.specs.Disk.{Disk}
use Rattle.tc_store.specs.KitFaults.{KitFaults}
use Rattle.tc_store.specs.declared.kit.Kit.{Kit}
use Rattle.tc_recover.specs.Files.{TakesSome}
use Rattle.tc_check.specs.declared.fault.CheckFault.{CheckFault}
use Rattle.tc_check.specs.declared.fault.CheckFault.TheVariants as check
use Rattle.tc_check.specs.declared.verdict.Verdict.{Verdict}
use Rattle.tc_verdicts.specs.Faults.{fault_of_check}
use Rattle.tc_verdicts.specs.Kits.{AtPlaces, HasEnded, IsGivenBack, IsVerdict}
use Rattle.tc_verdicts.specs.Lines.{lines_from, verdict_line}
use Rattle.tc_verdicts.specs.Stages.{IsKept, IsOfKit, StandsAt}
use Rattle.tc_verdicts.specs.declared.fault.CheckedFault.{CheckedFault}
use Rattle.tc_verdicts.specs.declared.fault.CheckedFault.TheVariants.{Disk as DiskFault, Memory, Write}
use Rattle.tc_verdicts.proofs.Places.{lines-append, place_behind, places-append}

-- the kit of this number came from a shelf, which then stands so
pub record Comes {S W D F H : Type 0} (history : S → List Disk) (counts : W → Counts) (files : H → ℕ → List Disk) (came : H → ℕ → KitFaults) (faults : H → ℕ) (n : ℕ) (now next : H) (kit : Kit S W D F) : Type 0 where
  pub files_are : history kit.store ≡ files now n
  pub main : (counts kit.main).faults ≡ (came now n).main
  pub flusher : (counts kit.flusher).faults ≡ (came now n).flusher
  pub merger : (counts kit.merger).faults ≡ (came now n).merger
  pub reader : (counts kit.reader).faults ≡ (came now n).reader
  pub other_files : (p : ℕ) → p ≢ n → files next p ≡ files now p
  pub other_faults : (p : ℕ) → p ≢ n → came next p ≡ came now p
  pub kept : faults now ≤ faults next

many_more : {K : Type 0} (kits kits' : List K) (n : ℕ) (back : K) → length kits ≡ n → kits' ≡ kits ++ back ∷ [] → length kits' ≡ n + 1
many_more kits kits' n back many more = ap length more ∙ omega (arith, length-append kits (back ∷ []), many)

module _ {S W D F H : Type 0} (history : S → List Disk) (counts : W → Counts) (content : F → Option (List ℕ)) (files : H → ℕ → List Disk) (came : H → ℕ → KitFaults) (faults : H → ℕ) (count : ℕ) (first : H) where
  abbrev Stands : H → List (Kit S W D F) → List ℕ → ℕ → Type 0
  Stands now kits lines n = StandsAt history counts content files came faults count first now kits lines n

  abbrev AreBack : List (Kit S W D F) → Type 0
  AreBack kits = AtPlaces (λ p kit. IsGivenBack history counts (files first p) (came first p) kit) kits

  pub stands_first : (kits : List (Kit S W D F)) (lines : List ℕ) → kits ≡ [] → lines ≡ [] → Stands first kits lines 0
  stands_first kits lines none empty = record {
    verdicts = [];
    said = refl;
    each = λ p. tt;
    lines_are = empty;
    many = ap length none;
    back = subst (λ ks. AreBack ks) (sym none) (λ p. tt);
    behind = λ p from. (refl, refl);
    kept = omega arith;
    same = λ is. refl;
  }

  given_back : (n : ℕ) (now next : H) (kit back : Kit S W D F) → Comes history counts files came faults n now next kit → (files now n ≡ files first n) × (came now n ≡ came first n)
      → IsKept history counts kit back → IsGivenBack history counts (files first n) (came first n) back
  given_back n now next kit back comes stays kept = record {
    files = subst (λ disks. TakesSome disks (history back.store)) (comes.files_are ∙ stays.0) kept.files;
    main = omega (arith, kept.main, comes.main, ap (λ (k : KitFaults). k.main) stays.1);
    flusher = ap (λ w. (counts w).faults) kept.flusher ∙ comes.flusher ∙ ap (λ (k : KitFaults). k.flusher) stays.1;
    merger = ap (λ w. (counts w).faults) kept.merger ∙ comes.merger ∙ ap (λ (k : KitFaults). k.merger) stays.1;
    reader = ap (λ w. (counts w).faults) kept.reader ∙ comes.reader ∙ ap (λ (k : KitFaults). k.reader) stays.1;
  }

  -- with one more kit all are given back
  pub back_more : (now next : H) (kits kits' : List (Kit S W D F)) (lines : List ℕ) (n : ℕ) (kit back : Kit S W D F) → Stands now kits lines n → Comes history counts files came faults n now next kit
      → kits' ≡ kits ++ back ∷ [] → IsKept history counts kit back → AreBack kits'
  back_more now next kits kits' lines n kit back at comes more kept =
      let here = given_back n now next kit back comes (at.behind n (omega arith)) kept in
      let there = subst (λ p. IsGivenBack history counts (files first p) (came first p) back) (sym at.many) here in
      subst (λ ks. AreBack ks) (sym more) (places-append (λ p k. IsGivenBack history counts (files first p) (came first p) k) kits back at.back there)

  -- what is behind the kit of this number is as it was
  behind_more : (now next : H) (kits : List (Kit S W D F)) (lines : List ℕ) (n : ℕ) (kit : Kit S W D F) → Stands now kits lines n → Comes history counts files came faults n now next kit
      → (p : ℕ) → n + 1 ≤ p → (files next p ≡ files first p) × (came next p ≡ came first p)
  behind_more now next kits lines n kit at comes p from =
      let other : p ≢ n = λ is. omega (arith, is, from) in
      let stays = at.behind p (omega (arith, from)) in
      (comes.other_files p other ∙ stays.0, comes.other_faults p other ∙ stays.1)

  pub stands_next : (now next : H) (kits kits' : List (Kit S W D F)) (lines lines' : List ℕ) (n : ℕ) (kit back : Kit S W D F) (v : Verdict) → Stands now kits lines n → Comes history counts files came faults n now next kit
      → kits' ≡ kits ++ back ∷ [] → IsKept history counts kit back → IsVerdict content (record { number = n; count = count }) (history kit.store) v → lines' ≡ lines ++ verdict_line n v
      → Stands next kits' lines' (n + 1)
  stands_next now next kits kits' lines lines' n kit back v at comes more kept is put =
      let stays = at.behind n (omega arith) in
      let here = subst (λ disks. IsVerdict content (record { number = n; count = count }) disks v) (comes.files_are ∙ stays.0) is in
      let there = subst (λ p. IsVerdict content (record { number = p; count = count }) (files first p) v) (sym at.said) here in
      let many = many_more kits kits' n back at.many more in
      record {
        verdicts = at.verdicts ++ v ∷ [];
        said = omega (arith, length-append at.verdicts (v ∷ []), at.said);
        each = places-append (λ p verdict. IsVerdict content (record { number = p; count = count }) (files first p) verdict) at.verdicts v at.each there;
        lines_are = put ∙ ap (λ bs. bs ++ verdict_line n v) at.lines_are ∙ ap (λ p. lines_from 0 at.verdicts ++ verdict_line p v) (omega (arith, at.said)) ∙ sym (lines-append 0 at.verdicts v);
        many = many;
        back = back_more now next kits kits' lines n kit back at comes more kept;
        behind = behind_more now next kits lines n kit at comes;
        kept = omega (arith, at.kept, comes.kept);
        same = λ none. absurd (omega (arith, ap length none, many));
      }

-- ---- it ends at a kit

-- by this fault, if there is no verdict on it
pub check_fault : (p : ℕ) (rose : Type 0) (fault : CheckFault) → (fault ≡ check.Disk → rose) → IsOfKit p rose (fault_of_check p fault)
check_fault p rose check.Disk cause = (refl, cause refl)
check_fault p rose check.Memory cause = tt

pub kit_ended : {S W D F : Type 0} (counts : W → Counts) (count : ℕ) (came : ℕ → KitFaults) (rose : Type 0) (kits kits' : List (Kit S W D F)) (n : ℕ) (kit back : Kit S W D F) (fault : CheckedFault) → n < count → length kits ≡ n
    → kits' ≡ kits ++ back ∷ [] → (counts kit.main).faults ≡ (came n).main → IsOfKit n (Rose (counts kit.main).faults (counts back.main).faults) fault → HasEnded counts count came rose kits' (Some fault)
kit_ended counts count came rose kits kits' n kit back (Write m) below many more main of = absurd of
kit_ended counts count came rose kits kits' n kit back (DiskFault q) below many more main of =
    let counted = subst (λ m. Rose m (counts back.main).faults) main of.1 in
    let last = subst (λ p. IfSome (slice_get (kits ++ back ∷ []) p) (λ k. Rose (came n).main (counts k.main).faults)) many (place_behind (λ k. Rose (came n).main (counts k.main).faults) kits back counted) in
    let here = subst (λ ks. IfSome (slice_get ks n) (λ k. Rose (came n).main (counts k.main).faults)) (sym more) last in
    let one : length kits' ≡ suc n = omega (arith, many_more kits kits' n back many more) in
    subst (λ p. HasEnded counts count came rose kits' (Some (DiskFault p))) (sym of.0) (below, inr (one, here))
kit_ended counts count came rose kits kits' n kit back Memory below many more main of = omega (arith, many_more kits kits' n back many more, below)
