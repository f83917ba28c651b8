-- One more call in the record of a device in memory.
use Rattle.std.proofs.Common.{◌≡◌, ℕ, List, [], ◌∷◌, ◌++◌, reverse, Option, Vec, refl, ◌∙◌, ap, subst, sym, arith}
use Rattle.std.specs.declared.alloc.Global.{Global}
use Rattle.std.proofs.lemmas.List.{reverse-append}
use Rattle.tc_store.specs.declared.mem.device.DeviceCall.{DeviceCall}
use Rattle.tc_store.specs.declared.mem.device.DeviceCall.TheVariants.{Written, Tried}
use Rattle.tc_store.specs.Memory.DeviceCalls.{after_device_call, file_after, files_after}
use Rattle.tc_store.specs.DiskFile.{DiskFile, FailsWrite, written}
use Rattle.tc_store.specs.Moments.{goes_on, FailsWriting}

pub files_after-push : (before : Option (List ℕ)) (calls roomy longer : List DeviceCall) (call : DeviceCall) → roomy ≡ calls → longer ≡ roomy ++ call ∷ []
    → files_after before (reverse longer) ≡ goes_on (after_device_call call) (files_after before (reverse calls))
files_after-push before calls roomy longer call same pushed =
    ap (λ all. files_after before (reverse all)) (pushed ∙ ap (λ (first : List DeviceCall). first ++ call ∷ []) same)
    ∙ ap (files_after before) (reverse-append calls (call ∷ []))

-- a write that failed and left the content as it was
tried_fails : (at count : ℕ) (f : DiskFile) → FailsWrite at count f (record f { tried = (at, count) ∷ f.tried })
tried_fails at count f = record {
  content = record { front = refl; rest = refl; no_shorter = omega arith; no_longer = omega arith };
  synced = refl;
  tried = refl;
  before = refl;
}

fails-files_after : (before : Option (List ℕ)) (at count : ℕ) (calls : List DeviceCall)
    → FailsWriting at count (files_after before calls) (files_after before (Tried at count ∷ calls))
fails-files_after before at count calls = (_, refl, tried_fails at count (file_after before calls))

-- the copy of the bytes is what the record keeps
pub written-push : (before : Option (List ℕ)) (at : ℕ) (bytes : List ℕ) (copy : Vec ℕ Global) (calls roomy longer : List DeviceCall) → copy.items ≡ bytes
    → roomy ≡ calls → longer ≡ roomy ++ Written at copy ∷ []
    → files_after before (reverse longer) ≡ goes_on (written at bytes) (files_after before (reverse calls))
written-push before at bytes copy calls roomy longer copied same pushed =
    files_after-push before calls roomy longer (Written at copy) same pushed
    ∙ ap (λ (written_bytes : List ℕ). goes_on (written at written_bytes) (files_after before (reverse calls))) copied

pub fails-push : (before : Option (List ℕ)) (at count : ℕ) (calls roomy longer : List DeviceCall) → roomy ≡ calls → longer ≡ roomy ++ Tried at count ∷ []
    → FailsWriting at count (files_after before (reverse calls)) (files_after before (reverse longer))
fails-push before at count calls roomy longer same pushed =
    subst (λ (rest : List DeviceCall). FailsWriting at count (files_after before (reverse calls)) (files_after before rest))
    (sym (ap reverse (pushed ∙ ap (λ (first : List DeviceCall). first ++ Tried at count ∷ []) same) ∙ reverse-append calls (Tried at count ∷ []))) (fails-files_after before at count (reverse calls))
