-- A component that was read back is listed where its names fit, and else its names are damaged.
use Rattle.std.proofs.Common.{◌≡◌, ◌∙◌, ℕ, Bool, true, false, List, Option, None, Some, Result, Ok, Err, sym, ap, subst, inl, inr}
use Rattle.std.specs.Prelude.{◌↔◌, IfSome, IsTrue}
use Rattle.std.proofs.lemmas.Option.{IfSome_then}
use Rattle.tc_lsm_model.specs.Contents.{Content}
use Rattle.tc_model.specs.Document.{Name}
use Rattle.tc_names.specs.Section.{section}
use Rattle.tc_store.specs.DiskFile.{DiskFile}
use Rattle.tc_store.specs.StoreCalls.{content_now}
use Rattle.tc_store.specs.declared.damage.Damage.TheVariants.{Bytes, Files}
use Rattle.tc_store.specs.declared.file_name.FileName.{FileName}
use Rattle.tc_component.specs.declared.head.Head.{Head}
use Rattle.tc_component.specs.Layout.{names_place}
use Rattle.tc_component.specs.Loaded.{IsLoadedOf}
use Rattle.tc_component.specs.Loading.{ComponentState, index_in}
use Rattle.tc_component.specs.Rows.{head_of, IsComponent}
use Rattle.tc_component.specs.Spelling.{Index, IsIndex, name_of, sizes_in}
use Rattle.tc_jobs.specs.declared.fault.JobFault.{JobFault}
use Rattle.tc_jobs.specs.declared.fault.JobFault.TheVariants.{Disk, Damaged, Memory}
use Rattle.tc_jobs.specs.Faults.{AreBytes, IfDamaged, IfHarmed}
use Rattle.tc_jobs.specs.Listing.{IsListed, IsReadBack, IsUnlisted}
use Rattle.tc_jobs.specs.Lists.{IsListOf, IsOf}
use Rattle.tc_jobs.specs.ReadBack.{IsDamageIn, JudgesFile, own_judged}

pub is_read_back : {F : Type 0} (content : F → Option (List ℕ)) (name : F → FileName) (head : Head) (device_name : FileName) (device : List DiskFile) (c : ComponentState F)
    → c.index.head ≡ head → IsIndex c.index → content c.file ≡ content_now device → name c.file ≡ device_name → IfSome (content_now device) (λ bytes. own_judged head bytes ≡ Ok c.index)
    → IfSome (content_now device) (λ bytes. (of : Content) → IsComponent of bytes → head_of of ≡ head → IsLoadedOf content c of) → IsReadBack content name head device_name device c
is_read_back content name head device_name device c has_head lawful has_content has_name judged loaded = record {
  has_head = has_head;
  lawful = lawful;
  has_content = has_content;
  has_name = has_name;
  judged = judged;
  loaded = loaded;
}

-- what cannot be read back is damaged, and its names are not asked for
module _ {F : Type 0} (Made Fits : ComponentState F → Type 0) (head : Head) (size : ℕ) (device : List DiskFile) where
  unread_at : (Y : Type 0) (fault : JobFault) → IfSome (content_now device) (λ bytes. JudgesFile {X = ComponentState F} (name_of head) index_in (Err fault) (own_judged head bytes))
      → IfDamaged {X = ComponentState F} (Err fault) (AreBytes (λ file place bytes. (file ≡ name_of head) × IsDamageIn head size place bytes)) → IfDamaged {X = Y} (Err fault) (IsUnlisted Made Fits head size device)
  unread_at Y Disk judged damaged = tt
  unread_at Y (Damaged (Bytes file place bytes)) judged damaged = (damaged.0, inl (record { some = damaged.1; told = IfSome_then (content_now device) judged (λ whole is. is.1) }))
  unread_at Y (Damaged (Files names)) judged damaged = absurd damaged
  unread_at Y Memory judged damaged = tt

  pub unread : {Y : Type 0} (result : Result Y JobFault) (fault : JobFault) → result ≡ Err fault → IfSome (content_now device) (λ bytes. JudgesFile {X = ComponentState F} (name_of head) index_in (Err fault) (own_judged head bytes))
      → IfDamaged {X = ComponentState F} (Err fault) (AreBytes (λ file place bytes. (file ≡ name_of head) × IsDamageIn head size place bytes)) → IfDamaged result (IsUnlisted Made Fits head size device)
  unread {Y = Y} result fault is judged damaged = subst (λ r. IfDamaged r (IsUnlisted Made Fits head size device)) (sym is) (unread_at Y fault judged damaged)

-- harmed are its names, at their place, since it does not fit
abbrev pub HarmsNames : {F : Type 0} → ComponentState F → Bool → JobFault → Type 0
HarmsNames c fits fault = IfHarmed fault (λ file place bytes. (fits ≡ false) × (file ≡ name_of c.index.head) × (place ≡ names_place (sizes_in c.index)) × (bytes ≡ section c.index.names))

never : (b : Bool) → b ≡ true → b ≡ false → ⊥
never b set unset = cc

-- Fits is what is asked of its names
module _ {F : Type 0} (content : F → Option (List ℕ)) (name : F → FileName) (head : Head) (device_name : FileName) (device : List DiskFile) (Fits : List Name → Type 0) (c : ComponentState F) (fits : Bool)
    (made : IsReadBack content name head device_name device c) (exact : IsTrue fits ↔ Fits c.index.names) where
  -- ---- it is not listed

  unfit_at : (Y : Type 0) (size : ℕ) (fault : JobFault) → HarmsNames c fits fault
      → IfDamaged {X = Y} (Err fault) (IsUnlisted (IsReadBack content name head device_name device) (λ d. Fits d.index.names) head size device)
  unfit_at Y size Disk damaged = tt
  unfit_at Y size (Damaged (Bytes file place bytes)) damaged =
      (damaged.1 ∙ ap name_of made.has_head, inr (record { component = c; made = made; unfit = λ fit. never fits (exact.1 fit) damaged.0; names = (damaged.2, damaged.3) }))
  unfit_at Y size (Damaged (Files names)) damaged = absurd damaged
  unfit_at Y size Memory damaged = tt

  pub unfit : {Y : Type 0} (size : ℕ) (result : Result Y JobFault) (fault : JobFault) → result ≡ Err fault → HarmsNames c fits fault
      → IfDamaged result (IsUnlisted (IsReadBack content name head device_name device) (λ d. Fits d.index.names) head size device)
  unfit {Y = Y} size result fault is damaged = subst (λ r. IfDamaged r (IsUnlisted (IsReadBack content name head device_name device) (λ d. Fits d.index.names) head size device)) (sym is) (unfit_at Y size fault damaged)

  fit_at : (Y : Type 0) (fault : JobFault) → Fits c.index.names → HarmsNames c fits fault → IfDamaged {X = Y} (Err fault) (λ d. ⊥)
  fit_at Y Disk fit damaged = tt
  fit_at Y (Damaged (Bytes file place bytes)) fit damaged = never fits (exact.1 fit) damaged.0
  fit_at Y (Damaged (Files names)) fit damaged = absurd damaged
  fit_at Y Memory fit damaged = tt

  fit_told : {Y : Type 0} (told : Option (List ℕ)) (result : Result Y JobFault) (fault : JobFault) → result ≡ Err fault → HarmsNames c fits fault
      → IfSome told (λ bytes. (of : Content) → IsComponent of bytes → head_of of ≡ head → IsLoadedOf content c of)
      → IfSome told (λ bytes. (of : Content) → IsComponent of bytes → head_of of ≡ head → Fits of.names → IfDamaged result (λ d. ⊥))
  fit_told None result fault is damaged loaded = tt
  fit_told {Y = Y} (Some bytes) result fault is damaged loaded = λ of whole same fit.
      let here = (loaded of whole same).index in
      subst (λ r. IfDamaged r (λ d. ⊥)) (sym is) (fit_at Y fault (subst (λ (i : Index). Fits i.names) (sym here) fit) damaged)

  -- so that a content that fits is no damage
  pub fit : {Y : Type 0} (result : Result Y JobFault) (fault : JobFault) → result ≡ Err fault → HarmsNames c fits fault
      → IfSome (content_now device) (λ bytes. (of : Content) → IsComponent of bytes → head_of of ≡ head → Fits of.names → IfDamaged result (λ d. ⊥))
  fit result fault is damaged = fit_told (content_now device) result fault is damaged made.loaded

  -- ---- it is listed

  pub is_listed : (put : ComponentState F → List (ComponentState F)) (new : List (ComponentState F)) (shared : ComponentState F) → new ≡ put shared → (shared ≡ c) × (fits ≡ true)
      → IsListed (IsReadBack content name head device_name device) (λ d. Fits d.index.names) put new
  is_listed put new shared is taken = record { component = c; made = made; fits = exact.0 taken.1; listed = is ∙ ap put taken.0 }

  pub is_list : (put : ComponentState F → List (ComponentState F)) (old new : List (ComponentState F)) (shared : ComponentState F) → new ≡ put shared → (shared ≡ c) × (fits ≡ true)
      → ((number count : ℕ) → IsTrue fits → IsListOf number count old → IsOf number count c → IsListOf number count (put c))
      → (number count : ℕ) → head.number ≡ number → head.count ≡ count → IsListOf number count old → IsListOf number count new
  is_list put old new shared is taken listed number count of_number of_count before =
      let of : IsOf number count c = (ap (λ (h : Head). h.number) made.has_head ∙ of_number, ap (λ (h : Head). h.count) made.has_head ∙ of_count) in
      subst (IsListOf number count) (sym (is ∙ ap put taken.0)) (listed number count taken.1 before of)
