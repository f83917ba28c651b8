-- The component that is read back from the device of a flush is that of its content.
use Rattle.std.proofs.Common.{◌≡◌, ◌∙◌, ◌+◌, ◌-◌, ◌++◌, ℕ, List, [], ◌∷◌, false, map, Option, Some, None, is_some, true, length, refl, sym, ap, subst, arith}
use Rattle.std.specs.Prelude.{IfSome, not}
use Rattle.std.proofs.lemmas.List.{map-append}
use Rattle.tc_model.specs.Document.{Name}
use Rattle.tc_store.specs.declared.file_name.FileName.{FileName}
use Rattle.tc_store.specs.Disk.{Disk}
use Rattle.tc_store.specs.DiskFile.{DiskFile, settled_file}
use Rattle.tc_store.specs.Moments.{IfTold}
use Rattle.tc_store.specs.StoreCalls.{content_now}
use Rattle.tc_memory.specs.Table as memory
use Rattle.tc_component.specs.declared.head.Head.{Head}
use Rattle.tc_component.specs.Loaded.{IsLoadedOf}
use Rattle.tc_component.specs.Loading.{ComponentState}
use Rattle.tc_component.specs.Rows.{IsComponent, component_bytes, head_of}
use Rattle.tc_log.specs.Appending.{LogState}
use Rattle.tc_lsm_model.specs.Contents.{Content, Partition}
use Rattle.tc_lsm_model.specs.Flushes.{IsFlush}
use Rattle.tc_lsm_model.specs.Lists.{last_of}
use Rattle.tc_machine.specs.State.{Sealed, sealed_logs}
use Rattle.tc_jobs.specs.Listing.{IsReadBack}
use Rattle.tc_part_model.specs.Calls.{HasMade, MakesFlush}
use Rattle.tc_part_model.specs.Meaning.{IsOfContent, IsPart, KeepsSealed}
use Rattle.tc_part_model.specs.PartState.{AreTold, IsTold, PartState, Told, told, told_component}
use Rattle.tc_part_model.specs.PartView.{PartView}
use Rattle.tc_part.specs.JobHeads.{flushed_head}

pub flush_headed : (t : Told) (p : PartView) (c : Content) → IsPart t p → is_some t.sealed ≡ true → MakesFlush p c → head_of c ≡ flushed_head t.part.number t.part.count t.generation
flush_headed t p c is there makes = given p.sealed t.sealed refl is.view.sealed there makes
  where
    given : (o : Option Sealed) (kept : Option memory.Table) → p.sealed ≡ o → KeepsSealed (AreTold t.components) o kept → is_some kept ≡ true → IfSome o (λ d. IsFlush p.part p.list d.table (length d.logs) c)
        → head_of c ≡ flushed_head t.part.number t.part.count t.generation
    given None None same keeps there makes = absurd (cc)
    given None (Some k) same keeps there makes = absurd keeps
    given (Some d) None same keeps there makes = absurd keeps
    given (Some d) (Some k) same keeps there flush =
        let generation : t.generation ≡ last_of p.list + length d.logs + 1 = is.view.generation ∙ ap (λ o. last_of p.list + length (sealed_logs o) + 1) same in
        let from : c.from ≡ t.generation - 1 = omega (arith, flush.goes_on.next, generation, keeps.0) in
        let to : c.to ≡ t.generation - 1 = omega (arith, flush.to, generation) in
        ap (λ (q : Partition). record { number = q.number; count = q.count; from = c.from; to = c.to }) (flush.goes_on.here ∙ sym is.view.part)
        ∙ ap (λ (n : ℕ). record { number = t.part.number; count = t.part.count; from = n; to = c.to }) from ∙ ap (λ (n : ℕ). record { number = t.part.number; count = t.part.count; from = t.generation - 1; to = n }) to

pub of_made : {F : Type 0} (content : F → Option (List ℕ)) (name : F → FileName) (head : Head) (device_name : FileName) (disks : List Disk) (c : Content) (device : List DiskFile) (m : ComponentState F) → IsReadBack content name head device_name device m
    → HasMade c disks device → head_of c ≡ head → (IsLoadedOf content m c → IsOfContent (told_component content m) c) → IfTold disks (λ disk. IsOfContent (told_component content m) c)
of_made content name head device_name disks c device m back made is of = given disks device made.tells made.content back.loaded
  where
    given : (ds : List Disk) (dev : List DiskFile) → IfTold ds (λ disk. IsTold dev) → IfTold dev (λ f. f ≡ settled_file (component_bytes c))
        → IfSome (content_now dev) (λ bytes. (d : Content) → IsComponent d bytes → head_of d ≡ head → IsLoadedOf content m d) → IfTold ds (λ disk. IsOfContent (told_component content m) c)
    given [] dev tells whole loaded = tt
    given (disk ∷ past) [] tells whole loaded = absurd tells
    given (disk ∷ past) (f ∷ more) tells whole loaded = of (loaded c (subst (λ bytes. IsComponent c bytes) (sym (ap (λ (x : DiskFile). x.content) whole)) made.whole) is)

-- what holds of what is there holds of something
pub some_there : {X : Type 0} (o : Option X) (P : X → Type 0) → is_some o ≡ true → IfSome o P → (x : X) × (o ≡ Some x) × P x
some_there None P there holds = absurd (cc)
some_there (Some x) P there holds = (x, refl, holds)

pub none_out : {X : Type 0} (o : Option X) → not (is_some o) ≡ true → is_some o ≡ false
none_out None is = refl
none_out (Some x) is = absurd (cc)

-- what a part tells once a component is listed, and its store came to be this
pub told_listed : {S D F W : Type 0} (disks : S → List Disk) (moments : D → List DiskFile) (content : F → Option (List ℕ)) (old new : PartState S D F W) (m : ComponentState F) (ds : List Disk)
    → new ≡ record old { store = new.store; main = new.main; list = new.list; sealed = None; sealed_log = None } → new.list ≡ old.list ++ m ∷ [] → disks new.store ≡ ds
    → told disks moments content new ≡ record (told disks moments content old) { disks = ds; sealed = None; sealed_log = None; components = map (told_component content) old.list ++ told_component content m ∷ [] }
told_listed disks moments content old new m ds same listed store =
    ap (told disks moments content) same
    ∙ ap (λ d. record (told disks moments content old) { disks = d; sealed = None; sealed_log = None; components = map (told_component content) new.list }) store
    ∙ ap (λ cs. record (told disks moments content old) { disks = ds; sealed = None; sealed_log = None; components = cs }) (ap (map (told_component content)) listed ∙ map-append (told_component content) old.list (m ∷ []))

-- the log that is there
pub log_there : {D : Type 0} (o : Option (LogState D)) → is_some o ≡ true → (l : LogState D) × (o ≡ Some l)
log_there None there = absurd (cc)
log_there (Some l) there = (l, refl)

pub told_any : {X : Type 0} (xs : List X) (Q : Type 0) → Q → IfTold xs (λ x. Q)
told_any [] Q q = tt
told_any (x ∷ xs) Q q = q

-- what is so of the bytes of a content whose names fit is so where the store tells its files
pub made_so : (head : Head) (Fits : List Name → Type 0) (disks : List Disk) (device : List DiskFile) (c : Content) (Q : Type 0) → HasMade c disks device → head_of c ≡ head → Fits c.names
    → IfSome (content_now device) (λ bytes. (d : Content) → IsComponent d bytes → head_of d ≡ head → Fits d.names → Q) → IfTold disks (λ disk. Q)
made_so head Fits disks device c Q made is fits so = given disks device made.tells made.content so
  where
    given : (ds : List Disk) (dev : List DiskFile) → IfTold ds (λ disk. IsTold dev) → IfTold dev (λ f. f ≡ settled_file (component_bytes c))
        → IfSome (content_now dev) (λ bytes. (d : Content) → IsComponent d bytes → head_of d ≡ head → Fits d.names → Q) → IfTold ds (λ disk. Q)
    given [] dev tells whole so = tt
    given (disk ∷ past) [] tells whole so = absurd tells
    given (disk ∷ past) (f ∷ more) tells whole so = so c (subst (λ bytes. IsComponent c bytes) (sym (ap (λ (x : DiskFile). x.content) whole)) made.whole) is fits
