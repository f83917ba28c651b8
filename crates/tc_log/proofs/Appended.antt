-- What a stop may leave of a log while a frame is appended, and how long a log is.
use Rattle.std.proofs.Common.{◌≡◌, ◌↔◌, ◌∙◌, ◌<◌, ◌≤◌, ◌+◌, ◌-◌, ℕ, List, [], ◌∷◌, ◌++◌, Some, Result, Ok, Err, length, flat_map, refl, sym, ap, subst, inl, inr, arith, length-append, append_assoc, append-nil}
use Rattle.std.specs.Prelude.{OnOk, OnErr, All}
use Rattle.std.specs.List.{AllByRecursion}
use Rattle.std.proofs.lemmas.Bool.{cases_eq}
use Rattle.std.proofs.lemmas.List.Elements.{All-head}
use Rattle.std.proofs.lemmas.List.Concat.{flat_map-append}
use Rattle.tc_store.specs.DiskFile.{DiskFile, FailsWrite, IsSettled, overlaid, settled_file, synced_file, written}
use Rattle.tc_store.specs.Images.{Image}
use Rattle.tc_store.specs.Moments.{goes_on, IfTold, LeavesAt, LeavesOnly}
use Rattle.tc_store.specs.declared.fault.DeviceFault.{DeviceFault}
use Rattle.tc_store.proofs.GateLemmas.{settled_leaves}
use Rattle.tc_store.proofs.FileLaws.{over_end, over_gate}
use Rattle.tc_store.proofs.MomentLemmas.{EachSince-none, EachSince-one, EachSince-trans, EachSince-failed, FailedWrite, told_map}
use Rattle.tc_log.specs.declared.head.LogHead.{LogHead}
use Rattle.tc_log.specs.declared.write.Write.{Write}
use Rattle.tc_log.specs.Appending.{IsAtRest, appended, MeansWithOrWithout, Appends}
use Rattle.tc_log.specs.Frame.{with_closed_gate, IsFrameKept}
use Rattle.tc_log.specs.Layout.{empty_size}
use Rattle.tc_log.specs.Spelling.{head_bytes, IsHead, frame_fields, frame_bytes, IsFrame, IsShut, log_bytes, log_at_rest, writes_of, Means}
use Rattle.tc_store.proofs.Judged.{same_Ok}
use Rattle.tc_log.proofs.Logs.{judged_spelled}
use Rattle.tc_log.proofs.Torn.{behind_leaves, gate_leaves}

-- ---- what bytes mean

-- bytes mean one header and one list of writes
pub means_same : (bytes : List ℕ) (head other : LogHead) (writes others : List Write) → Means bytes head writes → Means bytes other others → (head ≡ other) × (writes ≡ others)
means_same bytes head other writes others one two =
    let same : (head, writes_of one.frames) ≡ (other, writes_of two.frames) = same_Ok _ _ (sym (judged_spelled bytes head one.frames one.spells) ∙ judged_spelled bytes other two.frames two.spells) in
    (ap (λ (q : LogHead × List Write). q.0) same, one.all_are ∙ ap (λ (q : LogHead × List Write). q.1) same ∙ sym two.all_are)

means_with : (head : LogHead) (frames : List (List Write)) (rest : List ℕ) → IsHead head → AllByRecursion IsFrame frames → IsShut rest → Means (log_bytes head frames ++ rest) head (writes_of frames)
means_with head frames rest is each shut = record { frames = frames; spells = record { head_is = is; each = each; rest = rest; shut = shut; spelled = refl }; all_are = refl }

all_and_one : (P : List Write → Type 0) (xs : List (List Write)) (x : List Write) → AllByRecursion P xs → P x → AllByRecursion P (xs ++ x ∷ [])
all_and_one P [] x each one = (one, tt)
all_and_one P (y ∷ ys) x each one = (each.0, all_and_one P ys x each.1 one)

regroup : (h f b z : List ℕ) → (h ++ f) ++ (b ++ z) ≡ (h ++ (f ++ b)) ++ z
regroup h f b z = append_assoc h f (b ++ z) ∙ ap (λ (rest : List ℕ). h ++ rest) (sym (append_assoc f b z)) ∙ sym (append_assoc h (f ++ b) z)

-- a log with one frame more
grown : (head : LogHead) (frames : List (List Write)) (more : List Write) → log_bytes head frames ++ 1 ∷ with_closed_gate more ≡ log_at_rest head (frames ++ more ∷ [])
grown head frames more =
    let all : flat_map frame_bytes (frames ++ more ∷ []) ≡ flat_map frame_bytes frames ++ frame_bytes more =
    flat_map-append frame_bytes frames (more ∷ []) ∙ ap (λ (bytes : List ℕ). flat_map frame_bytes frames ++ bytes) (append-nil (frame_bytes more)) in
    ap (λ (bytes : List ℕ). 1 ∷ bytes) (regroup (head_bytes head) (flat_map frame_bytes frames) (frame_bytes more) (0 ∷ []))
    ∙ ap (λ (bytes : List ℕ). (1 ∷ (head_bytes head ++ bytes)) ++ 0 ∷ []) (sym all)

more_writes : (frames : List (List Write)) (more : List Write) → writes_of (frames ++ more ∷ []) ≡ writes_of frames ++ more
more_writes frames more = flat_map-append (λ (writes : List Write). writes) frames (more ∷ []) ∙ ap (λ (ws : List Write). writes_of frames ++ ws) (append-nil more)

-- a log at rest whose end is at a place, and a frame
record Ready (f : DiskFile) (gate : ℕ) (bytes : List ℕ) (head : LogHead) (writes more : List Write) : Type 0 where
  head_is : IsHead head
  frames : List (List Write)
  each : AllByRecursion IsFrame frames
  file : f ≡ settled_file (log_bytes head frames ++ 0 ∷ [])
  writes_are : writes ≡ writes_of frames
  place : gate ≡ length (log_bytes head frames)
  frame : IsFrame more
  kept : bytes ≡ with_closed_gate more

ready : (f : DiskFile) (size : ℕ) (bytes : List ℕ) (head : LogHead) (writes more : List Write) → IsAtRest f → size ≡ length f.content → IsFrameKept more bytes → Means f.content head writes → Ready f (size - 1) bytes head writes more
ready f size bytes head writes more rest sized kept means =
    let content : f.content ≡ log_at_rest rest.head rest.frames = ap (λ (g : DiskFile). g.content) rest.file in
    let own : Means f.content rest.head (writes_of rest.frames) = subst (λ (bs : List ℕ). Means bs rest.head (writes_of rest.frames)) (sym content) (means_with rest.head rest.frames (0 ∷ []) rest.head_is rest.each (λ e. absurd (omega (arith, e)))) in
    let same = means_same f.content head rest.head writes (writes_of rest.frames) means own in
    subst (λ (h : LogHead). Ready f (size - 1) bytes h writes more) (sym same.0) (record {
      head_is = rest.head_is;
      frames = rest.frames;
      each = rest.each;
      file = rest.file;
      writes_are = same.1;
      place = omega (arith, sized, ap length content, length-append (log_bytes rest.head rest.frames) (0 ∷ []));
      frame = kept.is;
      kept = kept.spelled;
    })

-- the content before the gate is opened, and behind it
staged : (head : LogHead) (frames : List (List Write)) (gate : ℕ) (bytes : List ℕ) → gate ≡ length (log_bytes head frames)
    → overlaid (gate + 1) bytes (log_bytes head frames ++ 0 ∷ []) ≡ log_bytes head frames ++ 0 ∷ bytes
staged head frames gate bytes place =
    over_end (gate + 1) bytes (log_bytes head frames ++ 0 ∷ []) (omega (arith, place, length-append (log_bytes head frames) (0 ∷ []))) ∙ append_assoc (log_bytes head frames) (0 ∷ []) bytes

whole : (head : LogHead) (frames : List (List Write)) (gate : ℕ) (bytes : List ℕ) (more : List Write) → gate ≡ length (log_bytes head frames) → bytes ≡ with_closed_gate more
    → overlaid gate (1 ∷ []) (overlaid (gate + 1) bytes (log_bytes head frames ++ 0 ∷ [])) ≡ log_at_rest head (frames ++ more ∷ [])
whole head frames gate bytes more place kept =
    ap (overlaid gate (1 ∷ [])) (staged head frames gate bytes place) ∙ over_gate gate 0 (log_bytes head frames) bytes place ∙ ap (λ (bs : List ℕ). log_bytes head frames ++ 1 ∷ bs) kept ∙ grown head frames more

-- each image before the gate is opened, and each with any byte as the gate
before_gate : (head : LogHead) (frames : List (List Write)) (more : List Write) (rest : List ℕ) → IsHead head → AllByRecursion IsFrame frames
    → MeansWithOrWithout head (writes_of frames) more (Some ((log_bytes head frames ++ 0 ∷ []) ++ rest))
before_gate head frames more rest is each =
    inl (subst (λ (bytes : List ℕ). Means bytes head (writes_of frames)) (sym (append_assoc (log_bytes head frames) (0 ∷ []) rest)) (means_with head frames (0 ∷ rest) is each (λ e. absurd (omega (arith, e)))))

any_gate : (head : LogHead) (frames : List (List Write)) (more : List Write) (y : ℕ) → IsHead head → AllByRecursion IsFrame frames → IsFrame more
    → MeansWithOrWithout head (writes_of frames) more (Some (log_bytes head frames ++ y ∷ with_closed_gate more))
any_gate head frames more y is each frame = elim (cases_eq y 1) [
  | inl one ↦
      let all = means_with head (frames ++ more ∷ []) (0 ∷ []) is (all_and_one IsFrame frames more each frame) (λ e. absurd (omega (arith, e))) in
      let bytes_are : log_bytes head frames ++ y ∷ with_closed_gate more ≡ log_at_rest head (frames ++ more ∷ []) = ap (λ (g : ℕ). log_bytes head frames ++ g ∷ with_closed_gate more) one ∙ grown head frames more in
      inr (subst (λ (bytes : List ℕ). Means bytes head (writes_of frames ++ more)) (sym bytes_are) (subst (λ (ws : List Write). Means (log_at_rest head (frames ++ more ∷ [])) head ws) (more_writes frames more) all))
  | inr other ↦ inl (means_with head frames (y ∷ with_closed_gate more) is each other)
]

settled_appends : (head : LogHead) (frames : List (List Write)) (gate : ℕ) (bytes : List ℕ) (more : List Write) → IsHead head → AllByRecursion IsFrame frames → gate ≡ length (log_bytes head frames) → IsFrame more
    → bytes ≡ with_closed_gate more → Appends (MeansWithOrWithout head (writes_of frames) more) gate bytes (settled_file (log_bytes head frames ++ 0 ∷ []))
settled_appends head frames gate bytes more is each place frame kept =
    let P : Image → Type 0 = MeansWithOrWithout head (writes_of frames) more in
    let front = log_bytes head frames in
    let c = front ++ 0 ∷ [] in
    let d = overlaid (gate + 1) bytes c in
    let end : gate + 1 ≡ length c = omega (arith, place, length-append front (0 ∷ [])) in
    let early : (rest : List ℕ) → P (Some (c ++ rest)) = λ rest. before_gate head frames more rest is each in
    let late : (y : ℕ) → P (Some (front ++ y ∷ bytes)) = λ y. subst (λ (bs : List ℕ). P (Some (front ++ y ∷ bs))) (sym kept) (any_gate head frames more y is each frame) in
    let some : 0 < length bytes = omega (arith, ap length kept, length-append (frame_fields more) (0 ∷ [])) in
    let stage = staged head frames gate bytes place in
    let opened_is : overlaid gate (1 ∷ []) d ≡ front ++ 1 ∷ bytes = ap (overlaid gate (1 ∷ [])) stage ∙ over_gate gate 0 front bytes place in
    let long : length (overlaid gate (1 ∷ []) d) ≤ length d = omega (arith, ap length opened_is, ap length stage, length-append front (1 ∷ bytes), length-append front (0 ∷ bytes)) in
    let within : gate + 1 ≤ length d = omega (arith, place, ap length stage, length-append front (0 ∷ bytes)) in
    record {
      behind = behind_leaves P c (gate + 1) (length bytes) (written (gate + 1) bytes (settled_file c)) end refl refl refl early;
      behind_failed = λ after fails. behind_leaves P c (gate + 1) (length bytes) after end fails.synced fails.tried fails.before early;
      first_sync = settled_leaves d P (subst (λ (bs : List ℕ). P (Some bs)) (sym (over_end (gate + 1) bytes c end)) (early bytes));
      opened = gate_leaves P front bytes d 0 gate (written gate (1 ∷ []) (settled_file d)) some stage place long refl refl refl late;
      opened_failed = λ after fails. gate_leaves P front bytes d 0 gate after some stage place (omega (arith, fails.content.no_longer, within)) fails.synced fails.tried fails.before late;
      second_sync = settled_leaves (overlaid gate (1 ∷ []) d) P (subst (λ (bs : List ℕ). P (Some bs)) (sym opened_is) (late 1));
    }

ready_appends : (f : DiskFile) (gate : ℕ) (bytes : List ℕ) (head : LogHead) (writes more : List Write) → Ready f gate bytes head writes more → Appends (MeansWithOrWithout head writes more) gate bytes f
ready_appends f gate bytes head writes more r =
    subst (λ (g : DiskFile). Appends (MeansWithOrWithout head writes more) gate bytes g) (sym r.file)
    (subst (λ (ws : List Write). Appends (MeansWithOrWithout head ws more) gate bytes (settled_file (log_bytes head r.frames ++ 0 ∷ []))) (sym r.writes_are)
    (settled_appends head r.frames gate bytes more r.head_is r.each r.place r.frame r.kept))

-- ---- where the device tells

pub told_appends : (moments : List DiskFile) (size : ℕ) (bytes : List ℕ) (head : LogHead) (writes more : List Write) → IfTold moments IsAtRest → IfTold moments (λ f. size ≡ length f.content) → IsFrameKept more bytes
    → IfTold moments (λ f. Means f.content head writes) → IfTold moments (Appends (MeansWithOrWithout head writes more) (size - 1) bytes)
told_appends [] size bytes head writes more rest sized kept means = tt
told_appends (f ∷ past) size bytes head writes more rest sized kept means = ready_appends f (size - 1) bytes head writes more (ready f size bytes head writes more rest sized kept means)

-- a log at rest stays what it is
rest_leaves : (f : DiskFile) (head : LogHead) (writes more : List Write) → IsAtRest f → Means f.content head writes → LeavesAt (MeansWithOrWithout head writes more) f
rest_leaves f head writes more rest means =
    let settled : f ≡ settled_file f.content = rest.file ∙ ap settled_file (sym (ap (λ (g : DiskFile). g.content) rest.file)) in
    subst (LeavesAt (MeansWithOrWithout head writes more)) (sym settled) (settled_leaves f.content (MeansWithOrWithout head writes more) (inl means))

pub told_after : (old new : List DiskFile) (head : LogHead) (writes more : List Write) → IfTold old IsAtRest → IfTold old (λ f. Means f.content head writes) → LeavesOnly (MeansWithOrWithout head writes more) old new
    → IfTold new (LeavesAt (MeansWithOrWithout head writes more))
told_after old new head writes more rest means leaves = rw leaves.goes_on (now leaves.added leaves.each old rest means)
  where
    now : (added : List DiskFile) → All (LeavesAt (MeansWithOrWithout head writes more)) added → (old : List DiskFile) → IfTold old IsAtRest → IfTold old (λ f. Means f.content head writes)
        → IfTold (added ++ old) (LeavesAt (MeansWithOrWithout head writes more))
    now [] each [] rest means = tt
    now [] each (f ∷ past) rest means = rest_leaves f head writes more rest means
    now (f ∷ added) each old rest means = All-head (LeavesAt (MeansWithOrWithout head writes more)) f added each

ready_rest : (f : DiskFile) (gate : ℕ) (bytes : List ℕ) (head : LogHead) (writes more : List Write) → Ready f gate bytes head writes more → IsAtRest (synced_file (written gate (1 ∷ []) (synced_file (written (gate + 1) bytes f))))
ready_rest f gate bytes head writes more r = record {
  head = head;
  head_is = r.head_is;
  frames = r.frames ++ more ∷ [];
  each = all_and_one IsFrame r.frames more r.each r.frame;
  file = ap settled_file (ap (λ (g : DiskFile). overlaid gate (1 ∷ []) (overlaid (gate + 1) bytes g.content)) r.file ∙ whole head r.frames gate bytes more r.place r.kept);
}

ready_means : (f : DiskFile) (gate : ℕ) (bytes : List ℕ) (head : LogHead) (writes more : List Write) → Ready f gate bytes head writes more
    → Means (synced_file (written gate (1 ∷ []) (synced_file (written (gate + 1) bytes f)))).content head (writes ++ more)
ready_means f gate bytes head writes more r =
    let content = ap (λ (g : DiskFile). overlaid gate (1 ∷ []) (overlaid (gate + 1) bytes g.content)) r.file ∙ whole head r.frames gate bytes more r.place r.kept in
    subst (λ (bs : List ℕ). Means bs head (writes ++ more)) (sym content)
    (subst (λ (ws : List Write). Means (log_at_rest head (r.frames ++ more ∷ [])) head ws) (more_writes r.frames more ∙ ap (λ (ws : List Write). ws ++ more) (sym r.writes_are))
    (means_with head (r.frames ++ more ∷ []) (0 ∷ []) r.head_is (all_and_one IsFrame r.frames more r.each r.frame) (λ e. absurd (omega (arith, e)))))

-- a log at rest means what its frames are
own_means : (f : DiskFile) (rest : IsAtRest f) → Means f.content rest.head (writes_of rest.frames)
own_means f rest =
    subst (λ (bs : List ℕ). Means bs rest.head (writes_of rest.frames)) (sym (ap (λ (g : DiskFile). g.content) rest.file)) (means_with rest.head rest.frames (0 ∷ []) rest.head_is rest.each (λ e. absurd (omega (arith, e))))

-- what it was at first is one of the moments of an append, so that there is one
pub tells_on : (old new : List DiskFile) (more : List Write) → IfTold old IsAtRest
    → ((head : LogHead) (writes : List Write) → IfTold old (λ f. Means f.content head writes) → LeavesOnly (MeansWithOrWithout head writes more) old new) → new ≡ [] → old ≡ []
tells_on [] new more rest leaves none = refl
tells_on (f ∷ past) new more rest leaves none =
    let since = leaves rest.head (writes_of rest.frames) (own_means f rest) in
    absurd (some_moment since.added (sym since.goes_on ∙ none))
  where
    some_moment : (added : List DiskFile) → added ++ f ∷ past ≡ [] → ⊥
    some_moment [] same = cc
    some_moment (g ∷ added) same = cc

pub told_rest : (moments : List DiskFile) (size : ℕ) (bytes : List ℕ) (more : List Write) → IfTold moments IsAtRest → IfTold moments (λ f. size ≡ length f.content) → IsFrameKept more bytes
    → IfTold (appended (size - 1) bytes moments) IsAtRest
told_rest [] size bytes more rest sized kept = tt
told_rest (f ∷ past) size bytes more rest sized kept =
    ready_rest f (size - 1) bytes rest.head (writes_of rest.frames) more (ready f size bytes rest.head (writes_of rest.frames) more rest sized kept (own_means f rest))

pub told_durable : (moments : List DiskFile) (size : ℕ) (bytes : List ℕ) (head : LogHead) (writes more : List Write) → IfTold moments IsAtRest → IfTold moments (λ f. size ≡ length f.content) → IsFrameKept more bytes
    → IfTold moments (λ f. Means f.content head writes) → IfTold (appended (size - 1) bytes moments) (λ f. IsSettled f × Means f.content head (writes ++ more))
told_durable [] size bytes head writes more rest sized kept means = tt
told_durable (f ∷ past) size bytes head writes more rest sized kept means =
    (refl, ready_means f (size - 1) bytes head writes more (ready f size bytes head writes more rest sized kept means))

-- ---- the four device calls

pub write_failed : (P : Image → Type 0) (gate : ℕ) (bytes : List ℕ) (old new : List DiskFile) (cause : DeviceFault) → FailedWrite (gate + 1) (length bytes) old new cause → IfTold old (Appends P gate bytes) → LeavesOnly P old new
write_failed P gate bytes old new cause failed told =
    EachSince-failed (LeavesAt P) (gate + 1) (length bytes) old new cause failed (told_map (Appends P gate bytes) (λ f. (after : DiskFile) → FailsWrite (gate + 1) (length bytes) f after → LeavesAt P after) old (λ f a. a.behind_failed) told)

wrote : (P : Image → Type 0) (gate : ℕ) (bytes : List ℕ) (old : List DiskFile) → IfTold old (Appends P gate bytes) → LeavesOnly P old (goes_on (written (gate + 1) bytes) old)
wrote P gate bytes old told = EachSince-one (LeavesAt P) (written (gate + 1) bytes) old (told_map (Appends P gate bytes) (λ f. LeavesAt P (written (gate + 1) bytes f)) old (λ f a. a.behind) told)

pub not_synced : (P : Image → Type 0) (gate : ℕ) (bytes : List ℕ) (old first new : List DiskFile) → first ≡ goes_on (written (gate + 1) bytes) old → new ≡ first → IfTold old (Appends P gate bytes) → LeavesOnly P old new
not_synced P gate bytes old first new one two told = rw (two, one) (wrote P gate bytes old told)

synced_too : (P : Image → Type 0) (gate : ℕ) (bytes : List ℕ) (old : List DiskFile) → IfTold old (Appends P gate bytes) → LeavesOnly P old (goes_on synced_file (goes_on (written (gate + 1) bytes) old))
synced_too P gate bytes [] told = EachSince-none (LeavesAt P) [] [] refl
synced_too P gate bytes (f ∷ past) told =
    EachSince-trans (LeavesAt P) (f ∷ past) (written (gate + 1) bytes f ∷ f ∷ past) _ (wrote P gate bytes (f ∷ past) told) (EachSince-one (LeavesAt P) synced_file (written (gate + 1) bytes f ∷ f ∷ past) told.first_sync)

pub gate_failed : (P : Image → Type 0) (gate : ℕ) (bytes : List ℕ) (old first second new : List DiskFile) (cause : DeviceFault) → first ≡ goes_on (written (gate + 1) bytes) old → second ≡ goes_on synced_file first
    → FailedWrite gate 1 second new cause → IfTold old (Appends P gate bytes) → LeavesOnly P old new
gate_failed P gate bytes old first second new cause one two failed told =
    let second_is : second ≡ goes_on synced_file (goes_on (written (gate + 1) bytes) old) = two ∙ ap (goes_on synced_file) one in
    EachSince-trans (LeavesAt P) old second new (rw second_is (synced_too P gate bytes old told))
    (EachSince-failed (LeavesAt P) gate 1 second new cause failed (rw second_is (further old told)))
  where
    further : (old : List DiskFile) → IfTold old (Appends P gate bytes) → IfTold (goes_on synced_file (goes_on (written (gate + 1) bytes) old)) (λ f. (after : DiskFile) → FailsWrite gate 1 f after → LeavesAt P after)
    further [] told = tt
    further (f ∷ past) told = told.opened_failed

opened_too : (P : Image → Type 0) (gate : ℕ) (bytes : List ℕ) (old : List DiskFile) → IfTold old (Appends P gate bytes) → LeavesOnly P old (goes_on (written gate (1 ∷ [])) (goes_on synced_file (goes_on (written (gate + 1) bytes) old)))
opened_too P gate bytes [] told = EachSince-none (LeavesAt P) [] [] refl
opened_too P gate bytes (f ∷ past) told =
    EachSince-trans (LeavesAt P) (f ∷ past) (synced_file (written (gate + 1) bytes f) ∷ written (gate + 1) bytes f ∷ f ∷ past) _ (synced_too P gate bytes (f ∷ past) told)
    (EachSince-one (LeavesAt P) (written gate (1 ∷ [])) (synced_file (written (gate + 1) bytes f) ∷ written (gate + 1) bytes f ∷ f ∷ past) told.opened)

last_too : (P : Image → Type 0) (gate : ℕ) (bytes : List ℕ) (old : List DiskFile) → IfTold old (Appends P gate bytes) → LeavesOnly P old (appended gate bytes old)
last_too P gate bytes [] told = EachSince-none (LeavesAt P) [] [] refl
last_too P gate bytes (f ∷ past) told =
    let third = goes_on (written gate (1 ∷ [])) (goes_on synced_file (goes_on (written (gate + 1) bytes) (f ∷ past))) in
    EachSince-trans (LeavesAt P) (f ∷ past) third _ (opened_too P gate bytes (f ∷ past) told) (EachSince-one (LeavesAt P) synced_file third told.second_sync)

-- the gate was written, and synced or not
pub gate_written : (P : Image → Type 0) (gate : ℕ) (bytes : List ℕ) (old first second third new : List DiskFile) (r : Result (Unit {0}) DeviceFault) → first ≡ goes_on (written (gate + 1) bytes) old → second ≡ goes_on synced_file first
    → third ≡ goes_on (written gate (1 ∷ [])) second → OnOk r (new ≡ goes_on synced_file third) → OnErr r (new ≡ third) → IfTold old (Appends P gate bytes) → LeavesOnly P old new
gate_written P gate bytes old first second third new (Ok done) one two three ok err told = rw (ok, three, two, one) (last_too P gate bytes old told)
gate_written P gate bytes old first second third new (Err cause) one two three ok err told = rw (err, three, two, one) (opened_too P gate bytes old told)

-- a log that was just created
pub created_means : (moments : List DiskFile) (head : LogHead) → IsHead head → IfTold moments (λ f. f ≡ settled_file (log_at_rest head [])) → IfTold moments (λ f. IsSettled f × Means f.content head [])
created_means [] head is created = tt
created_means (f ∷ past) head is created =
    let content : f.content ≡ log_at_rest head [] = ap (λ (g : DiskFile). g.content) created in
    (created ∙ ap settled_file (sym content), subst (λ (bytes : List ℕ). Means bytes head []) (sym content) (means_with head [] (0 ∷ []) is tt (λ e. absurd (omega (arith, e)))))

pub told_settled : (moments : List DiskFile) → IfTold moments IsAtRest → IfTold moments IsSettled
told_settled [] rest = tt
told_settled (f ∷ past) rest = rest.file ∙ ap settled_file (sym (ap (λ (g : DiskFile). g.content) rest.file))

-- ---- how long a log is

no_frames : (frames : List (List Write)) → AllByRecursion IsFrame frames → writes_of frames ≡ [] → frames ≡ []
no_frames [] each none = refl
no_frames ([] ∷ frames) each none = absurd (omega (arith, each.0.some))
no_frames ((w ∷ ws) ∷ frames) each none = absurd (cc)

no_bytes : (frames : List (List Write)) → length (flat_map frame_bytes frames) ≡ 0 → frames ≡ []
no_bytes [] none = refl
no_bytes (f ∷ frames) none = absurd (omega (arith, none))

rest_length : (head : LogHead) (frames : List (List Write)) → length (log_at_rest head frames) ≡ empty_size + length (flat_map frame_bytes frames)
rest_length head frames = omega (arith, length-append (flat_map frame_bytes frames) (0 ∷ []))

-- it is as long as its gates and its header exactly where it has no write
rest_empty : (f : DiskFile) (size : ℕ) (head : LogHead) (writes : List Write) → IsAtRest f → size ≡ length f.content → Means f.content head writes → (size ≡ empty_size) ↔ (writes ≡ [])
rest_empty f size head writes rest sized means =
    let own : writes ≡ writes_of rest.frames = (means_same f.content head rest.head writes (writes_of rest.frames) means (own_means f rest)).1 in
    let long : size ≡ empty_size + length (flat_map frame_bytes rest.frames) = sized ∙ ap (λ (g : DiskFile). length g.content) rest.file ∙ rest_length rest.head rest.frames in (
      λ empty. own ∙ ap writes_of (no_bytes rest.frames (omega (arith, long, empty))),
      λ none. long ∙ ap (λ (frames : List (List Write)). empty_size + length (flat_map frame_bytes frames)) (no_frames rest.frames rest.each (sym own ∙ none)),
    )

pub told_empty : (moments : List DiskFile) (size : ℕ) → IfTold moments IsAtRest → IfTold moments (λ f. size ≡ length f.content)
    → IfTold moments (λ f. (head : LogHead) (writes : List Write) → Means f.content head writes → (size ≡ empty_size) ↔ (writes ≡ []))
told_empty [] size rest sized = tt
told_empty (f ∷ past) size rest sized = λ head writes means. rest_empty f size head writes rest sized means
