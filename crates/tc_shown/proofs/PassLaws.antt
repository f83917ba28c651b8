-- What holds of passes, one by one and all together.
use Rattle.std.proofs.Common.{◌≡◌, ◌<◌, ℕ, zero, suc, List, [], ◌∷◌, length, map, set, slice_index_or, arith, refl, sym, subst, append-nil, Option, Err}
use Rattle.std.specs.Prelude.{All, HoldsAt, zip}
use Rattle.std.specs.List.{AllZip}
use mathlib.Core.List.{IsPrefix}
use Rattle.std.proofs.lemmas.List.{length-set}
use Rattle.std.proofs.lemmas.List.Elements.{All-nil, All-cons, All-head, All-tail}
use Rattle.tc_bytes.specs.Counts.{Rose}
use Rattle.tc_component.specs.Loaded.{IsLoadedOf}
use Rattle.tc_log.specs.Writes.{IsWrite}
use Rattle.tc_lsm_model.specs.Contents as documents
use Rattle.tc_query.specs.declared.fault.QueryFault.{QueryFault}
use Rattle.tc_query.specs.declared.fault.QueryFault.TheVariants as query
use Rattle.tc_query.specs.Faults.{OfDamage, IsHarmIn, IsUnharmed}
use Rattle.tc_store.specs.Counted.{Counts}
use Rattle.tc_view.specs.declared.content.Content.{Content}
use Rattle.tc_view.specs.declared.lens.Lens.{Lens}
use Rattle.tc_view.specs.Places.{kept_by, IsLensOf}
use Rattle.tc_request_model.specs.Request.{Ask}
use Rattle.tc_shown.specs.declared.fault.ScanFault.{ScanFault}
use Rattle.tc_shown.specs.declared.fault.ScanFault.TheVariants.{Disk, Damaged, Memory}
use Rattle.tc_shown.specs.declared.scan.Pass.{Pass}
use Rattle.tc_shown.specs.Scans.{GoesOn, HasScanned, IsFaultOf, IsRead, IsReadFor, IsTaken, ReadsAView, of_query}
use Rattle.tc_shown.proofs.Turns.{set_at, zip_set_at}

module _ {F W : Type 0} where
  -- ---- one pass

  pub taken_same : (pass : Pass F W) → IsTaken pass pass
  taken_same pass = record { lens = λ k is. is; seen = ([], append-nil (kept_by pass.lens).history); watch = refl }

  unread : (c : Content F W) (counts : Counts) → IsReadFor c counts counts
  unread c counts = record { faults = omega arith; reads = omega arith; windows = omega arith }

  pub read_same : (counts : W → Counts) (pass : Pass F W) → IsRead counts pass pass
  read_same counts pass = record { lens = refl; watch = unread (kept_by pass.lens) (counts pass.watch) }

  -- a snapshot, and then the reads for it
  pub taken_goes_on : (counts : W → Counts) (old new : Pass F W) → IsTaken old new → GoesOn counts old new
  taken_goes_on counts old new taken = record {
    lens = taken.lens;
    seen = taken.seen;
    watch = subst (λ (w : W). IsReadFor (kept_by new.lens) (counts old.watch) (counts w)) (sym taken.watch) (unread (kept_by new.lens) (counts old.watch));
  }

  read_goes_on : (counts : W → Counts) (old taken new : Pass F W) → IsTaken old taken → IsRead counts taken new → GoesOn counts old new
  read_goes_on counts old taken new is read = record {
    lens = λ k of. subst (λ (l : Lens F W). IsLensOf k l) (sym read.lens) (is.lens k of);
    seen = subst (λ (l : Lens F W). IsPrefix (kept_by old.lens).history (kept_by l).history) (sym read.lens) is.seen;
    watch = subst (λ (w : W). IsReadFor (kept_by new.lens) (counts w) (counts new.watch)) is.watch read.watch;
  }

  -- ---- all of them

  pub all_taken : (counts : W → Counts) (olds news : List (Pass F W)) → AllZip IsTaken olds news → AllZip (GoesOn counts) olds news
  all_taken counts [] [] all = tt
  all_taken counts [] (n ∷ news) all = absurd all
  all_taken counts (o ∷ olds) [] all = absurd all
  all_taken counts (o ∷ olds) (n ∷ news) all = (taken_goes_on counts o n all.0, all_taken counts olds news all.1)

  pub all_read : (counts : W → Counts) (olds taken news : List (Pass F W)) → AllZip IsTaken olds taken → AllZip (IsRead counts) taken news → AllZip (GoesOn counts) olds news
  all_read counts [] [] [] all read = tt
  all_read counts [] [] (n ∷ news) all read = absurd read
  all_read counts [] (t ∷ taken) news all read = absurd all
  all_read counts (o ∷ olds) [] news all read = absurd all
  all_read counts (o ∷ olds) (t ∷ taken) [] all read = absurd read
  all_read counts (o ∷ olds) (t ∷ taken) (n ∷ news) all read = (read_goes_on counts o t n all.0 read.0, all_read counts olds taken news all.1 read.1)

  -- what is read of passes is what their lenses keep
  pub same_lenses : {V : Type 0} (counts : W → Counts) (f : Lens F W → V) (olds news : List (Pass F W)) → AllZip (IsRead counts) olds news → map (λ (p : Pass F W). f p.lens) olds ≡ map (λ (p : Pass F W). f p.lens) news
  same_lenses counts f [] [] all = refl
  same_lenses counts f [] (n ∷ news) all = absurd all
  same_lenses counts f (o ∷ olds) [] all = absurd all
  same_lenses counts f (o ∷ olds) (n ∷ news) all = λ i. f (sym all.0.lens i) ∷ same_lenses counts f olds news all.1 i

  pub zip_lenses : {Y : Type 0} (counts : W → Counts) (R : Lens F W → Y → Type 0) (olds news : List (Pass F W)) (ys : List Y) → AllZip (IsRead counts) olds news → AllZip (λ (p : Pass F W) y. R p.lens y) news ys → AllZip (λ (p : Pass F W) y. R p.lens y) olds ys
  zip_lenses counts R [] [] ys all zip = zip
  zip_lenses counts R [] (n ∷ news) ys all zip = absurd all
  zip_lenses counts R (o ∷ olds) [] ys all zip = absurd all
  zip_lenses counts R (o ∷ olds) (n ∷ news) [] all zip = absurd zip
  zip_lenses counts R (o ∷ olds) (n ∷ news) (y ∷ ys) all zip = (subst (λ (l : Lens F W). R l y) all.0.lens zip.0, zip_lenses counts R olds news ys all.1 zip.1)

  -- a lens of a view keeps writes that a log takes
  pub all_stored : (olds news : List (Pass F W)) → AllZip IsTaken olds news → All ReadsAView olds → All (λ (p : Pass F W). All IsWrite (kept_by p.lens).written) news
  all_stored [] [] all reads = All-nil (λ (p : Pass F W). All IsWrite (kept_by p.lens).written)
  all_stored [] (n ∷ news) all reads = absurd all
  all_stored (o ∷ olds) [] all reads = absurd all
  all_stored (o ∷ olds) (n ∷ news) all reads =
      let k = All-head ReadsAView o olds reads in
      All-cons (λ (p : Pass F W). All IsWrite (kept_by p.lens).written) n news (all.0.lens k.0 k.1).kept.stored (all_stored olds news all.1 (All-tail ReadsAView o olds reads))

  -- ---- a fault

  pub fault_there : (content : F → Option (List ℕ)) (counts : W → Counts) (olds nows : List (Pass F W)) (at : ℕ) (s t : Pass F W) (fault : QueryFault) → at < length olds → at < length nows → s ≡ slice_index_or olds at s → IsRead counts s t
      → (fault ≡ query.Disk → Rose (counts s.watch).faults (counts t.watch).faults) → OfDamage fault (λ file place bytes. IsHarmIn content (kept_by s.lens).list file place bytes)
      → ((cs : List documents.Content) → AllZip (IsLoadedOf content) (kept_by s.lens).list cs → IsUnharmed fault) → IsFaultOf content counts olds (set nows at t) (of_query at fault)
  fault_there content counts olds nows at s t query.Disk below within is read cause harmed unharmed = record {
    disk_within = omega (arith, within, length-set nows at t);
    damaged_within = tt;
    cause = zip_set_at (λ pass. Rose (counts pass.0.watch).faults (counts pass.1.watch).faults) olds nows at s t below within is (cause refl);
    harmed = tt;
    unharmed = tt;
  }
  fault_there content counts olds nows at s t (query.Damaged file place bytes) below within is read cause harmed unharmed = record {
    disk_within = tt;
    damaged_within = omega (arith, within, length-set nows at t);
    cause = tt;
    harmed = set_at (λ (p : Pass F W). IsHarmIn content (kept_by p.lens).list file place bytes) nows at t within (subst (λ (l : Lens F W). IsHarmIn content (kept_by l).list file place bytes) (sym read.lens) harmed);
    unharmed = set_at (λ (p : Pass F W). (cs : List documents.Content) → AllZip (IsLoadedOf content) (kept_by p.lens).list cs → ⊥) nows at t within
        (subst (λ (l : Lens F W). (cs : List documents.Content) → AllZip (IsLoadedOf content) (kept_by l).list cs → ⊥) (sym read.lens) unharmed);
  }
  fault_there content counts olds nows at s t query.Memory below within is read cause harmed unharmed = record { disk_within = tt; damaged_within = tt; cause = tt; harmed = tt; unharmed = tt }

  rises_before : (counts : W → Counts) (olds taken news : List (Pass F W)) (at : ℕ) → AllZip IsTaken olds taken → HoldsAt (λ pass. Rose (counts pass.0.watch).faults (counts pass.1.watch).faults) (zip taken news) at
      → HoldsAt (λ pass. Rose (counts pass.0.watch).faults (counts pass.1.watch).faults) (zip olds news) at
  rises_before counts [] [] news at all rises = rises
  rises_before counts [] (t ∷ taken) news at all rises = absurd all
  rises_before counts (o ∷ olds) [] news at all rises = absurd all
  rises_before counts (o ∷ olds) (t ∷ taken) [] at all rises = rises
  rises_before counts (o ∷ olds) (t ∷ taken) (n ∷ news) zero all rises = λ d. subst (λ (w : W). Rose (counts w).faults (counts n.watch).faults) all.0.watch (rises d)
  rises_before counts (o ∷ olds) (t ∷ taken) (n ∷ news) (suc at) all rises = rises_before counts olds taken news at all.1 rises

  -- it is one of the passes as they were before their snapshots
  pub fault_before : (content : F → Option (List ℕ)) (counts : W → Counts) (olds taken news : List (Pass F W)) (fault : ScanFault) → AllZip IsTaken olds taken → IsFaultOf content counts taken news fault → IsFaultOf content counts olds news fault
  fault_before content counts olds taken news (Disk p) all is = record { disk_within = is.disk_within; damaged_within = tt; cause = rises_before counts olds taken news p all is.cause; harmed = tt; unharmed = tt }
  fault_before content counts olds taken news (Damaged p file place bytes) all is = record { disk_within = tt; damaged_within = is.damaged_within; cause = tt; harmed = is.harmed; unharmed = is.unharmed }
  fault_before content counts olds taken news Memory all is = record { disk_within = tt; damaged_within = tt; cause = tt; harmed = tt; unharmed = tt }

  -- ---- the end

  pub scan_failed : (content : F → Option (List ℕ)) (counts : W → Counts) (ask : Ask) (olds news : List (Pass F W)) (fault : ScanFault) → AllZip (GoesOn counts) olds news → IsFaultOf content counts olds news fault → HasScanned content counts ask olds news (Err fault)
  scan_failed content counts ask olds news fault back is = record { back = back; rows = λ parts shows own. tt; texts = tt; upto = tt; fault = is }

  pub no_memory : (content : F → Option (List ℕ)) (counts : W → Counts) (olds news : List (Pass F W)) (fault : ScanFault) → fault ≡ Memory → IsFaultOf content counts olds news fault
  no_memory content counts olds news fault is = subst (λ (f : ScanFault). IsFaultOf content counts olds news f) (sym is) (record { disk_within = tt; damaged_within = tt; cause = tt; harmed = tt; unharmed = tt })
