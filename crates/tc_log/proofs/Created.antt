-- What a stop may leave of a log while it is created.
use Rattle.std.proofs.Common.{◌≡◌, ℕ, List, [], ◌∷◌, ◌++◌, None, length, refl, sym, ap, subst, append-nil}
use Rattle.std.proofs.lemmas.List.{nil_from_length}
use Rattle.tc_store.specs.DiskFile.{DiskFile, settled_file, written, synced_file}
use Rattle.tc_store.specs.Gate.{opened, IsShutOr, IsClosed, IsClosedOrWhole, IsShutOrWhole}
use Rattle.tc_store.specs.Images.{Image}
use Rattle.tc_store.specs.Moments.{goes_on, IfTold, LeavesAt, LeavesOnly}
use Rattle.tc_store.proofs.MomentLemmas.{EachSince-trans}
use Rattle.tc_store.proofs.StopLaws.{leaves_only_weaker, shut_or_whole-shut, shut_or_whole-closed, shut_or_whole-whole}
use Rattle.tc_log.specs.declared.head.LogHead.{LogHead}
use Rattle.tc_log.specs.Spelling.{head_bytes, log_at_rest}

-- the gate was begun, or could not be
pub begun_moments : (before : Image) (whole : List ℕ) (old new : List DiskFile) → LeavesOnly (IsShutOr before) old new → LeavesOnly (IsShutOrWhole before whole) old new
begun_moments before whole old new shut = leaves_only_weaker (IsShutOr before) (IsShutOrWhole before whole) old new (shut_or_whole-shut before whole) shut

-- the header was written, or could not be
pub filled_moments : (before : Image) (whole : List ℕ) (old begun new : List DiskFile) → LeavesOnly (IsShutOr before) old begun → LeavesOnly IsClosed begun new → LeavesOnly (IsShutOrWhole before whole) old new
filled_moments before whole old begun new shut closed =
    EachSince-trans (LeavesAt (IsShutOrWhole before whole)) old begun new (begun_moments before whole old begun shut) (leaves_only_weaker IsClosed (IsShutOrWhole before whole) begun new (shut_or_whole-closed before whole) closed)

-- what stands in the file before its gate is opened
filled_file : (head : LogHead) (content : List ℕ) → length content ≡ 0
    → opened (written 1 (head_bytes head ++ 0 ∷ []) (synced_file (written 0 (0 ∷ []) (record { content = content; synced = None; tried = []; before = None })))).content ≡ log_at_rest head []
filled_file head content empty = let none = nil_from_length content empty in rw none (ap (λ (bytes : List ℕ). 1 ∷ (bytes ++ 0 ∷ [])) (sym (append-nil (head_bytes head))))

-- what stands in the file once its gate is opened
pub created_file : (head : LogHead) (old begun filled new : List DiskFile) → IfTold old (λ f. length f.content ≡ 0) → begun ≡ goes_on synced_file (goes_on (written 0 (0 ∷ [])) old)
    → filled ≡ goes_on (written 1 (head_bytes head ++ 0 ∷ [])) begun → new ≡ goes_on synced_file (goes_on (written 0 (1 ∷ [])) (goes_on synced_file filled))
    → IfTold new (λ f. f ≡ settled_file (log_at_rest head []))
created_file head [] begun filled new empty is_begun is_filled is_new = rw (is_new, is_filled, is_begun) tt
created_file head (f ∷ past) begun filled new empty is_begun is_filled is_new = rw (is_new, is_filled, is_begun) (ap settled_file (filled_file head f.content empty))

-- the gate was opened, or could not be
pub opened_moments : (before : Image) (head : LogHead) (f : DiskFile) (past old begun filled new : List DiskFile) → length f.content ≡ 0 → old ≡ f ∷ past
    → begun ≡ goes_on synced_file (goes_on (written 0 (0 ∷ [])) old) → filled ≡ goes_on (written 1 (head_bytes head ++ 0 ∷ [])) begun
    → LeavesOnly (IsShutOr before) old begun → LeavesOnly IsClosed begun filled → IfTold filled (λ g. LeavesOnly (IsClosedOrWhole (opened g.content)) filled new)
    → LeavesOnly (IsShutOrWhole before (log_at_rest head [])) old new
opened_moments before head f past old begun filled new empty is_old is_begun is_filled shut closed opens =
    let whole = log_at_rest head [] in
    let g : DiskFile = written 1 (head_bytes head ++ 0 ∷ []) (synced_file (written 0 (0 ∷ []) f)) in
    let begun_is : begun ≡ synced_file (written 0 (0 ∷ []) f) ∷ written 0 (0 ∷ []) f ∷ f ∷ past = rw (is_begun, is_old) refl in
    let filled_is : filled ≡ g ∷ begun = rw (is_filled, begun_is) refl in
    let last : LeavesOnly (IsClosedOrWhole (opened g.content)) filled new = subst (λ (moments : List DiskFile). IfTold moments (λ g. LeavesOnly (IsClosedOrWhole (opened g.content)) filled new)) filled_is opens in
    let content : opened g.content ≡ whole = filled_file head f.content empty in
    let last_whole : LeavesOnly (IsClosedOrWhole whole) filled new = subst (λ (bytes : List ℕ). LeavesOnly (IsClosedOrWhole bytes) filled new) content last in
    EachSince-trans (LeavesAt (IsShutOrWhole before whole)) old filled new (filled_moments before whole old begun filled shut closed)
    (leaves_only_weaker (IsClosedOrWhole whole) (IsShutOrWhole before whole) filled new (shut_or_whole-whole before whole) last_whole)
