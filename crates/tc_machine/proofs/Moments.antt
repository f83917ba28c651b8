-- The moments of a device are its calls.
use Rattle.std.proofs.Common.{◌≡◌, ℕ, List, [], ◌∷◌, ◌++◌, refl, sym, ap, subst, inl, inr, Some, None, length}
use Rattle.std.specs.Prelude.{All, map}
use Rattle.std.proofs.Math.Path.{fun_ext}
use Rattle.std.proofs.lemmas.Bool.{cases_Bool}
use Rattle.std.proofs.lemmas.List.Elements.{All-head, All-tail}
use Rattle.tc_plain_model.specs.Writes.{Write}
use Rattle.tc_lsm_model.specs.Contents.{Content, IsContent, Partition}
use Rattle.tc_lsm_model.specs.Flushes.{IsFlush}
use Rattle.tc_store.specs.Disk.{Disk, Entry, home, put, same_name}
use Rattle.tc_store.specs.DiskFile.{DiskFile}
use Rattle.tc_store.specs.Gate.{IsShutOrWhole}
use Rattle.tc_store.specs.Images.{Image}
use Rattle.tc_store.specs.Moments.{LeavesAt}
use Rattle.tc_store.specs.declared.file_name.FileName.{FileName}
use Rattle.tc_store.proofs.NameLemmas.{put_there}
use Rattle.tc_log.specs.Appending.{MeansWithOrWithout}
use Rattle.tc_log.specs.Spelling.{IsHead, Means, log_at_rest}
use Rattle.tc_component.specs.Rows.{IsComponent, IsShortWrite, component_bytes}
use Rattle.tc_component.proofs.Versions.{written_component}
use Rattle.tc_machine.specs.Events.{Event, device_called, step, with_entry}
use Rattle.tc_machine.specs.Logs.{IsLog, kept_write, log_head}
use Rattle.tc_machine.specs.Runs.{Runs, after_moments, calls}
use Rattle.tc_machine.specs.State.{State, Sealed}
use Rattle.tc_machine.specs.Steps.{IsShutOrHas, LeavesWithOrWithout, MayCall, IsFlushed}
use Rattle.tc_machine.proofs.LogHeads.{new_log}

pub Runs-append : (part : Partition) (xs ys : List Event) (s t u : State) → Runs part s xs t → Runs part t ys u → Runs part s (xs ++ ys) u
Runs-append part [] ys s t u one two = subst (λ x. Runs part x ys u) (sym one) two
Runs-append part (e ∷ xs) ys s t u one two = (one.0, Runs-append part xs ys (step e s) t u one.1 two)

pub put_twice : (name : FileName) (x y : Entry) (files : Disk) → put name y (put name x files) ≡ put name y files
put_twice name x y files = fun_ext λ n. elim (cases_Bool (same_name name n)) [
  | inl same ↦ rw same refl
  | inr other ↦ rw other refl
]

same_calls : (part : Partition) (s : State) (name : FileName) (f g : DiskFile) → MayCall part s name f → MayCall part (with_entry name (home g) s) name f
same_calls part s name f g (inl c) = inl (record { active = c.active; is_active = c.is_active; frame = c.frame; is_frame = c.is_frame; named = c.named; leaves = c.leaves })
same_calls part s name f g (inr (inl c)) = inr (inl (record { named = c.named; leaves = c.leaves }))
same_calls part s name f g (inr (inr (inl c))) = inr (inr (inl (record { flushing = c.flushing; is_out = c.is_out; named = c.named; leaves = c.leaves })))
same_calls part s name f g (inr (inr (inr c))) = inr (inr (inr (record { merging = c.merging; is_out = c.is_out; named = c.named; leaves = c.leaves })))

-- Moments of which each may be left by a call are a run of calls.
pub moments_run : (part : Partition) (s : State) (name : FileName) (old : DiskFile) (fs : List DiskFile) → s.files name ≡ home old
    → All (MayCall part s name) fs → Runs part s (calls name fs) (after_moments s name fs)
moments_run part s name old [] is all = refl
moments_run part s name old (f ∷ fs) is all =
    Runs-append part (calls name fs) (device_called name f ∷ []) s (after_moments s name fs) (with_entry name (home f) s)
    (moments_run part s name old fs is (All-tail (MayCall part s name) f fs all))
    (last fs)
  where
    may : MayCall part s name f
    may = All-head (MayCall part s name) f fs all

    last : (fs : List DiskFile) → Runs part (after_moments s name fs) (device_called name f ∷ []) (with_entry name (home f) s)
    last [] = (record { old = old; home = is; may = may }, refl)
    last (g ∷ gs) = (record { old = g; home = put_there name (home g) s.files; may = same_calls part s name f g may }, ap (λ fl. record s { files = fl }) (put_twice name (home g) (home f) s.files))

-- ---- what the contracts of a log say of its moments is what the machine asks

map-append' : {X Y : Type 0} (f : X → Y) (xs ys : List X) → map f (xs ++ ys) ≡ map f xs ++ map f ys
map-append' f [] ys = refl
map-append' f (x ∷ xs) ys = ap (λ r. f x ∷ r) (map-append' f xs ys)

pub appending : (part : Partition) (g : ℕ) (ws frame : List Write) (f : DiskFile) → LeavesAt (MeansWithOrWithout (log_head part g) (map kept_write ws) (map kept_write frame)) f → LeavesAt (LeavesWithOrWithout part g ws frame) f
appending part g ws frame f leaves image left = at image (leaves image left)
  where
    at : (image : Image) → MeansWithOrWithout (log_head part g) (map kept_write ws) (map kept_write frame) image → LeavesWithOrWithout part g ws frame image
    at None is = is
    at (Some b) (inl is) = inl is
    at (Some b) (inr is) = inr (subst (λ l. Means b (log_head part g) l) (sym (map-append' kept_write ws frame)) is)

pub creating : (part : Partition) (g : ℕ) (f : DiskFile) → IsHead (log_head part g) → LeavesAt (IsShutOrWhole None (log_at_rest (log_head part g) [])) f → LeavesAt (IsShutOrHas (IsLog part g [])) f
creating part g f is leaves image left = at image (leaves image left)
  where
    at : (image : Image) → IsShutOrWhole None (log_at_rest (log_head part g) []) image → IsShutOrHas (IsLog part g []) image
    at None h = tt
    at (Some b) (inl closed) = inl closed
    at (Some b) (inr (inl before)) = absurd (cc)
    at (Some b) (inr (inr whole)) = inr (subst (λ x. IsLog part g [] x) (sym whole.same) (new_log part g is))

-- what a builder says of a component's file
pub making : (c : Content) (f : DiskFile) → IsContent c → All IsShortWrite c.entries → LeavesAt (IsShutOrWhole None (component_bytes c)) f → LeavesAt (IsShutOrHas (IsComponent c)) f
making c f content records leaves image left = at image (leaves image left)
  where
    at : (image : Image) → IsShutOrWhole None (component_bytes c) image → IsShutOrHas (IsComponent c) image
    at None h = tt
    at (Some b) (inl closed) = inl closed
    at (Some b) (inr (inl before)) = absurd (cc)
    at (Some b) (inr (inr whole)) = inr (written_component c b content records whole.same whole.short)

-- where it is the component of a flush
pub making_flush : (part : Partition) (cs : List Content) (d : Sealed) (c : Content) (f : DiskFile) → IsFlush part cs d.table (length d.logs) c → IsContent c → All IsShortWrite c.entries → LeavesAt (IsShutOrWhole None (component_bytes c)) f
    → LeavesAt (IsShutOrHas (IsFlushed part cs (Some d))) f
making_flush part cs d c f is_flush content records leaves image left = at image (making c f content records leaves image left)
  where
    at : (image : Image) → IsShutOrHas (IsComponent c) image → IsShutOrHas (IsFlushed part cs (Some d)) image
    at None h = tt
    at (Some b) (inl closed) = inl closed
    at (Some b) (inr whole) = inr (c, is_flush, whole)
