-- The files of a partition that starts: those of its components, and the log behind them.
use Rattle.std.proofs.Common.{◌≤◌, ◌⊎◌, ℕ, List, [], ◌∷◌, map, arith, subst, inl, inr, Option}
use Rattle.std.specs.Prelude.{All, Contains}
use Rattle.std.proofs.lemmas.List.Elements.{All-cons, All-contains, All-map, All-nil, All-weaker}
use Rattle.tc_store.specs.declared.file_name.FileName.{FileName}
use Rattle.tc_store.specs.declared.file_name.FileName.TheVariants.{Log}
use Rattle.tc_store.specs.Disk.{Disk, IsThere, out}
use Rattle.tc_store.specs.DiskFile.{DiskFile}
use Rattle.tc_store.specs.Moments.{IfTold}
use Rattle.tc_store.specs.StoreCalls.{makes}
use Rattle.tc_component.specs.Loading.{ComponentState}
use Rattle.tc_component.specs.Spelling.{name_of}
use Rattle.tc_lsm_model.specs.Contents.{Partition}
use Rattle.tc_jobs.specs.Lists.{file_names}
use Rattle.tc_machine.proofs.FilesLeft.{at_name}
use Rattle.tc_part.specs.OwnFiles.{HasOnlyOwn, IsOwn, LieWithin}
use Rattle.tc_part_model.specs.PartState.{Told, ToldComponent, told_component}
use Rattle.tc_part_model.specs.Starting.{started}
use Rattle.tc_open.specs.Resting.{AreOwn}

abbrev LiesIn : {F : Type 0} → List ToldComponent → ComponentState F → Type 0
LiesIn components c = LieWithin c.index.head.from c.index.head.to components

-- each component lies within itself
each_within : {F : Type 0} (content : F → Option (List ℕ)) (list : List (ComponentState F)) → All (LiesIn (map (told_component content) list)) list
each_within content [] = All-nil (LiesIn [])
each_within content (c ∷ list) =
    let all = map (told_component content) (c ∷ list) in
    All-cons (LiesIn all) c list (inl (omega arith, omega arith)) (All-weaker (LiesIn (map (told_component content) list)) (LiesIn all) (λ d within. inr within) list (each_within content list))

module _ {F : Type 0} (content : F → Option (List ℕ)) (list : List (ComponentState F)) (part : Partition) (disks : List Disk) (log : List DiskFile) where
  abbrev t : Told
  t = started (record { part = part; disks = disks; log = log; components = map (told_component content) list })

  listed_own : (n : FileName) → Contains (file_names list) n → IsOwn t n
  listed_own n listed = All-contains (IsOwn t) (file_names list) n (All-map (IsOwn t) (λ c. name_of c.index.head) list (All-weaker (LiesIn t.components) (λ c. IsOwn t (name_of c.index.head)) (λ c within. inl within) list (each_within content list))) listed

  own_name : (n : FileName) → Contains (file_names list) n ⊎ Contains [] n → IsOwn t n
  own_name n (inl listed) = listed_own n listed
  own_name n (inr none) = let low = none.1 in absurd (omega (arith, low))

  pub makes_own : (g : ℕ) (old : List Disk) → g ≤ t.generation → IfTold old (AreOwn list []) → IfTold (makes (Log g) old) (HasOnlyOwn t)
  makes_own g [] up own = tt
  makes_own g (disk ∷ past) up own = λ n there. at_name (Log g) n out disk (λ e. IsThere e → IsOwn t n) (λ same here. subst (IsOwn t) same up) (λ apart here. own_name n (own.own n here)) there
