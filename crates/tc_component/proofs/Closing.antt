-- What a stop may leave of a component while it is written.
use Rattle.std.proofs.Common.{◌≡◌, List, [], ◌∷◌, ℕ, None, Some, inl, refl, subst, ap, ◌∙◌, Result, Ok, Err}
use Rattle.std.specs.Prelude.{IfOk, IfErr}
use Rattle.tc_store.specs.DiskFile.{DiskFile, written, synced_file}
use Rattle.tc_store.specs.Gate.{opened, IsShutOr, IsClosed, IsClosedOrWhole}
use Rattle.tc_store.specs.Images.{Image}
use Rattle.tc_store.specs.Moments.{goes_on, IfTold, LeavesAt, LeavesOnly}
use Rattle.tc_store.proofs.MomentLemmas.{EachSince-none, EachSince-trans}
use Rattle.tc_store.proofs.StopLaws.{leaves_only_weaker}

shut-closed : (before image : Image) → IsClosed image → IsShutOr before image
shut-closed before None closed = tt
shut-closed before (Some image) closed = inl closed

closed_or_whole : (whole : List ℕ) (image : Image) → IsClosed image → IsClosedOrWhole whole image
closed_or_whole whole None closed = closed
closed_or_whole whole (Some image) closed = inl closed

-- the gate was begun, and a write behind it was tried
pub begun_shut : (before : Image) (old begun new : List DiskFile) → LeavesOnly (IsShutOr before) old begun → LeavesOnly IsClosed begun new → LeavesOnly (IsShutOr before) old new
begun_shut before old begun new shut closed =
    EachSince-trans (LeavesAt (IsShutOr before)) old begun new shut (leaves_only_weaker IsClosed (IsShutOr before) begun new (shut-closed before) closed)

-- two calls, and more, that leave the file closed
pub closed_twice : (first second third : List DiskFile) → LeavesOnly IsClosed first second → LeavesOnly IsClosed second third → LeavesOnly IsClosed first third
closed_twice first second third one two = EachSince-trans (LeavesAt IsClosed) first second third one two

-- all but the gate was written, or could not be
rest_moments : (whole : List ℕ) (old new : List DiskFile) → LeavesOnly IsClosed old new → LeavesOnly (IsClosedOrWhole whole) old new
rest_moments whole old new closed = leaves_only_weaker IsClosed (IsClosedOrWhole whole) old new (closed_or_whole whole) closed

-- and then the gate was opened, or could not be
finished_moments : (whole : List ℕ) (old rest new : List DiskFile) → LeavesOnly IsClosed old rest → IfTold rest (λ f. opened f.content ≡ whole)
    → IfTold rest (λ f. LeavesOnly (IsClosedOrWhole (opened f.content)) rest new) → (rest ≡ [] → new ≡ []) → LeavesOnly (IsClosedOrWhole whole) old new
finished_moments whole old [] new closed is opens untold =
    EachSince-trans (LeavesAt (IsClosedOrWhole whole)) old [] new (rest_moments whole old [] closed) (EachSince-none (LeavesAt (IsClosedOrWhole whole)) [] new (untold refl))
finished_moments whole old (f ∷ past) new closed is opens untold =
    EachSince-trans (LeavesAt (IsClosedOrWhole whole)) old (f ∷ past) new (rest_moments whole old (f ∷ past) closed)
    (subst (λ (bytes : List ℕ). LeavesOnly (IsClosedOrWhole bytes) (f ∷ past) new) is opens)

pub opened_moments : {X Y : Type 0} (history : X → List DiskFile) (r : Result X Y) (whole : List ℕ) (old rest : List DiskFile) → LeavesOnly IsClosed old rest → IfTold rest (λ f. opened f.content ≡ whole)
    → IfTold rest (λ f. IfOk r (λ d. LeavesOnly (IsClosedOrWhole (opened f.content)) rest (history d))) → IfOk r (λ d. history d ≡ goes_on synced_file (goes_on (written 0 (1 ∷ [])) (goes_on synced_file rest)))
    → IfOk r (λ d. LeavesOnly (IsClosedOrWhole whole) old (history d))
opened_moments history (Err e) whole old rest closed is opens open_is = tt
opened_moments history (Ok d) whole old rest closed is opens open_is =
    finished_moments whole old rest (history d) closed is opens (λ none. open_is ∙ ap (λ (moments : List DiskFile). goes_on synced_file (goes_on (written 0 (1 ∷ [])) (goes_on synced_file moments))) none)

pub broken_moments : {X Y : Type 0} (history : Y → List DiskFile) (r : Result X Y) (whole : List ℕ) (old rest : List DiskFile) → LeavesOnly IsClosed old rest → IfTold rest (λ f. opened f.content ≡ whole)
    → IfTold rest (λ f. IfErr r (λ b. LeavesOnly (IsClosedOrWhole (opened f.content)) rest (history b))) → IfErr r (λ b. rest ≡ [] → history b ≡ [])
    → IfErr r (λ b. LeavesOnly (IsClosedOrWhole whole) old (history b))
broken_moments history (Ok d) whole old rest closed is opens untold = tt
broken_moments history (Err b) whole old rest closed is opens untold = finished_moments whole old rest (history b) closed is opens untold
