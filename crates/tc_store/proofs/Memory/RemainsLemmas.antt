-- What a stop leaves of a file in memory, call by call.
use Rattle.std.proofs.Common.{◌≡◌, ◌≤◌, ◌<◌, ℕ, ◌+◌, List, [], ◌∷◌, ◌++◌, length, take, drop, reverse, get_or, append_assoc, refl, ◌∙◌, ap, sym, subst, arith, inl}
use Rattle.std.specs.Prelude.{Result, Ok, Err, OnOk, Option, Some, option_map, false}
use Rattle.std.proofs.lemmas.List.{take_more, reverse-append, append-nil, take-append-drop}
use Rattle.std.proofs.lemmas.List.Elements.{All-head}
use Rattle.tc_store.specs.declared.mem.device.DeviceCall.{DeviceCall}
use Rattle.tc_store.specs.declared.mem.device.DeviceCall.TheVariants.{Written, Tried, Synced}
use Rattle.tc_store.specs.declared.mem.device.MemDevice.{MemDevice}
use Rattle.tc_store.specs.declared.mem.entry.Held.TheVariants.{Home}
use Rattle.tc_store.specs.Memory.DeviceCalls.{after_device_call, file_after}
use Rattle.tc_store.specs.Memory.DeviceLaws.{not_within, untouched_before, length-overlaid, may_stay_after, settled_may_stay}
use Rattle.tc_store.specs.DiskFile.{DiskFile, Range, empty_file, settled_file, written}
use Rattle.tc_store.specs.Disk.{Entry, home, MayLeaveAt}
use Rattle.tc_store.specs.Images.{Image, MayLeave, IsImageOf, IsWithin, furthest_end}
use Rattle.tc_store.specs.Memory.Disk.{entry_of}
use Rattle.tc_store.specs.Memory.Remains.{file_from, is_sync, Lays, IsUnsynced, IsAbsent}

-- what follows where a call went well
pub map_on_ok : {T E P Q : Type 0} (r : Result T E) → (P → Q) → OnOk r P → OnOk r Q
map_on_ok (Ok x) give p = give p
map_on_ok (Err e) give p = tt

-- bytes that stay as they are
pub lays_nothing : (at count : ℕ) (old : List ℕ) → Lays at count old old
lays_nothing at count old = record { kept = λ position within outside. refl; no_shorter = omega arith; no_longer = omega arith }

furthest_end-mono : (size longer : ℕ) (ranges : List Range) → size ≤ longer → furthest_end size ranges ≤ furthest_end longer ranges
furthest_end-mono size longer [] le = le
furthest_end-mono size longer (range ∷ ranges) le = omega (arith, furthest_end-mono size longer ranges le)

-- what is left after one more range was tried
image_after : (f : DiskFile) (content : List ℕ) (at count : ℕ) (old new : List ℕ) → length f.content ≤ length content → IsImageOf f old → Lays at count old new
    → IsImageOf (record f { content = content; tried = (at, count) ∷ f.tried }) new
image_after f content at count old new longer is lays = record {
  no_longer = omega (arith, is.no_longer, lays.no_longer, furthest_end-mono (length f.content) (length content) f.tried longer);
  untouched = λ position un.
      let was = is.untouched position (untouched_before f content (at, count) position un) in
      let outside = not_within position (at, count) (All-head (λ range. IsWithin position range → ⊥) (at, count) f.tried un.not_tried) in
      (omega (arith, was.0, lays.no_shorter), lays.kept position was.0 outside ∙ was.1);
}

-- what is left after a write, and after one that failed
pub written_image : (at : ℕ) (bytes seen old new : List ℕ) → seen ≡ bytes → Lays at (length seen) old new → (f : DiskFile) → IsImageOf f old → IsImageOf (written at bytes f) new
written_image at bytes seen old new same lays f is = image_after f _ at (length bytes) old new (length-overlaid at bytes f.content) is (rw same at lays)

pub tried_image : (at count : ℕ) (old new : List ℕ) → Lays at count old new → (f : DiskFile) → IsImageOf f old → IsImageOf (record f { tried = (at, count) ∷ f.tried }) new
tried_image at count old new lays f is = image_after f f.content at count old new (omega arith) is lays

file_from-append : (f : DiskFile) (calls more : List DeviceCall) → file_from f (calls ++ more) ≡ file_from (file_from f calls) more
file_from-append f [] more = refl
file_from-append f (call ∷ calls) more = file_from-append (after_device_call call f) calls more

-- the file after one call more
pub file_from-next : (f : DiskFile) (calls : List DeviceCall) (i : ℕ) (call : DeviceCall) → i < length calls → call ≡ get_or calls i call
    → file_from f (take (i + 1) calls) ≡ after_device_call call (file_from f (take i calls))
file_from-next f calls i call within is = ap (file_from f) (take_more calls i call within) ∙ file_from-append f (take i calls) (get_or calls i call ∷ [])
    ∙ ap (λ (read : DeviceCall). after_device_call read (file_from f (take i calls))) (sym is)

after_reversed : (before : Option (List ℕ)) (calls earlier : List DeviceCall) → file_after before (reverse calls ++ earlier) ≡ file_from (file_after before earlier) calls
after_reversed before [] earlier = refl
after_reversed before (call ∷ calls) earlier =
    let last : reverse (call ∷ calls) ++ earlier ≡ reverse calls ++ call ∷ earlier =
    ap (λ (all : List DeviceCall). all ++ earlier) (reverse-append (call ∷ []) calls) ∙ append_assoc (reverse calls) (call ∷ []) earlier in
    ap (file_after before) last ∙ after_reversed before calls (call ∷ earlier)

-- the record of a device tells the same file in either order
pub file_after-from : (before : Option (List ℕ)) (calls : List DeviceCall) → file_after before (reverse calls) ≡ file_from (empty_file before) calls
file_after-from before calls = ap (file_after before) (sym (append-nil (reverse calls))) ∙ after_reversed before calls []

-- the content after some calls, with what was left of the others
pub left_image : (before : Option (List ℕ)) (calls done pending : List DeviceCall) (n : ℕ) (content image : List ℕ) → done ≡ take n calls → pending ≡ drop n calls
    → (file_from (empty_file before) done).content ≡ content
    → ((f : DiskFile) → IsImageOf f content → IsImageOf (file_from f pending) image) → IsImageOf (file_from (empty_file before) calls) image
left_image before calls done pending n content image front back holds leaves =
    let f = file_from (empty_file before) done in
    let stays : IsImageOf f f.content = subst (λ (g : DiskFile). IsImageOf g g.content) (file_after-from before done) (may_stay_after before (reverse done)) in
    let whole : file_from f pending ≡ file_from (empty_file before) calls =
    sym (file_from-append (empty_file before) done pending)
    ∙ ap (file_from (empty_file before)) (ap (λ (first : List DeviceCall). first ++ pending) front ∙ ap (λ (rest : List DeviceCall). take n calls ++ rest) back ∙ take-append-drop n calls) in
    subst (λ (g : DiskFile). IsImageOf g image) whole (leaves f (subst (λ (bytes : List ℕ). IsImageOf f bytes) holds stays))

-- a call that is no sync leaves an unsynced file so
pub unsynced_after : (before : Option (List ℕ)) (f : DiskFile) (call : DeviceCall) → is_sync call ≡ false → IsUnsynced before f → IsUnsynced before (after_device_call call f)
unsynced_after before f (Written at bytes) test is = record { synced = is.synced; before = is.before }
unsynced_after before f (Tried at count) test is = record { synced = is.synced; before = is.before }
unsynced_after before f Synced test is = absurd (cc)

-- what is left of a file at home
pub home_left : (device : MemDevice) (calls : List DeviceCall) (image : Image) → calls ≡ device.calls.items
    → MayLeave (file_from (empty_file (option_map (λ bytes. bytes.value.items) device.before)) calls) image → MayLeaveAt IsAbsent (entry_of (Home device)) image
home_left device calls image same leaves =
    let before = option_map (λ bytes. bytes.value.items) device.before in
    subst (λ (f : DiskFile). MayLeave f image) (sym (file_after-from before device.calls.items))
    (subst (λ (all : List DeviceCall). MayLeave (file_from (empty_file before) all) image) same leaves)

-- and of one that was never taken
pub file_left : (entry : Entry) (bytes seen : List ℕ) (image : Image) → entry ≡ home (settled_file bytes) → seen ≡ bytes → image ≡ Some seen → MayLeaveAt IsAbsent entry image
file_left entry bytes seen image is same copied = rw (is, copied, same) (inl (settled_may_stay bytes))
