-- What a component that is read back is judged to be.
use Rattle.std.proofs.Common.{◌≡◌, ◌∙◌, ℕ, Bool, true, List, Option, None, Some, Result, Ok, Err, refl, sym, ap, subst, eq-eqb}
use Rattle.std.specs.Prelude.{◌==◌, if◌then◌else◌, IfOk, IfSome}
use Rattle.std.proofs.lemmas.Bool.{and_from}
use Rattle.tc_lsm_model.specs.Contents.{Content}
use Rattle.tc_store.proofs.Judged.{same_Ok}
use Rattle.tc_store.specs.Judging.{Damage, damage, judged_then}
use Rattle.tc_store.specs.declared.damage.Damage.TheVariants.{Bytes, Files}
use Rattle.tc_component.specs.declared.head.Head.{Head}
use Rattle.tc_component.specs.Layout.{head_place}
use Rattle.tc_component.specs.Loaded.{IsLoadedOf}
use Rattle.tc_component.specs.Loading.{ComponentState, index_in}
use Rattle.tc_component.specs.Reading.{file_judged, front_of, version_of}
use Rattle.tc_component.specs.Rows.{component_index, head_of, IsComponent}
use Rattle.tc_component.specs.Spelling.{Index, name_of}
use Rattle.tc_jobs.specs.declared.fault.JobFault.{JobFault}
use Rattle.tc_jobs.specs.declared.fault.JobFault.TheVariants.{Disk, Damaged, Memory}
use Rattle.tc_jobs.specs.Faults.{IfDamaged}
use Rattle.tc_jobs.specs.ReadBack.{JudgesFile, has_numbers, own_judged}

-- the partition is compared
abbrev pub compared : Head → List ℕ → Index → Result Index Damage
compared own bytes c = if has_numbers own c.head then Ok c else Err (damage head_place (front_of bytes))

own_numbers : (own : Head) → has_numbers own own ≡ true
own_numbers own = and_from (own.number == own.number) (own.count == own.count) (eq-eqb own.number own.number refl) (eq-eqb own.count own.count refl)

-- the file of a content is judged to be it
abbrev pub JudgesContents : Type 0
JudgesContents = (c : Content) (bytes : List ℕ) → IsComponent c bytes → file_judged (name_of (head_of c)) bytes ≡ Ok (component_index (version_of bytes) c)

own_is : (own : Head) (c : Content) (bytes : List ℕ) → file_judged (name_of (head_of c)) bytes ≡ Ok (component_index (version_of bytes) c) → head_of c ≡ own → own_judged own bytes ≡ Ok (component_index (version_of bytes) c)
own_is own c bytes judged same =
    subst (λ (h : Head). own_judged h bytes ≡ Ok (component_index (version_of bytes) c)) same
    (ap (λ r. judged_then r (compared (head_of c) bytes)) judged ∙ ap (λ (b : Bool). if b then Ok (component_index (version_of bytes) c) else Err (damage head_place (front_of bytes))) (own_numbers (head_of c)))

pub sound : {F : Type 0} (own : Head) → JudgesContents → (content : Option (List ℕ)) (result : Result (ComponentState F) JobFault) → IfSome content (λ bytes. JudgesFile (name_of own) index_in result (own_judged own bytes))
    → IfSome content (λ bytes. (c : Content) → IsComponent c bytes → head_of c ≡ own → IfDamaged result (λ d. ⊥))
sound own law None result judged = tt
sound own law (Some bytes) (Ok m) judged = λ c is same. tt
sound own law (Some bytes) (Err Disk) judged = λ c is same. tt
sound own law (Some bytes) (Err (Damaged (Bytes file place kept))) judged = λ c is same.
    let clash : ◌≡◌ {A = Result Index Damage} (Err (damage place kept)) (Ok (component_index (version_of bytes) c)) = sym judged.1 ∙ own_is own c bytes (law c bytes is) same in
    cc
sound own law (Some bytes) (Err (Damaged (Files names))) judged = absurd judged
sound own law (Some bytes) (Err Memory) judged = λ c is same. tt

-- and what was loaded of it has beside its records what the content's has
pub loads : {F : Type 0} (told : F → Option (List ℕ)) (own : Head) → JudgesContents → (content : Option (List ℕ)) (result : Result (ComponentState F) JobFault) → IfOk result (λ m. told m.file ≡ content)
    → IfSome content (λ bytes. JudgesFile (name_of own) index_in result (own_judged own bytes)) → IfSome content (λ bytes. (c : Content) → IsComponent c bytes → head_of c ≡ own → IfOk result (λ m. IsLoadedOf told m c))
loads told own law None result tells judged = tt
loads told own law (Some bytes) (Err fault) tells judged = λ c is same. tt
loads told own law (Some bytes) (Ok m) tells judged = λ c is same. record {
  bytes = bytes;
  tells = tells;
  is = is;
  index = same_Ok m.index (component_index (version_of bytes) c) (sym judged ∙ own_is own c bytes (law c bytes is) same);
}
