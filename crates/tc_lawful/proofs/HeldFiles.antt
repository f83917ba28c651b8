-- The file of each component that was read is a component with what was read of it, where it is bytes.
use Rattle.std.proofs.Common.{◌≡◌, ◌∙◌, ◌<◌, ℕ, true, List, [], ◌∷◌, map, Option, None, Some, Ok, length, refl, sym, subst}
use Rattle.std.specs.Prelude.{All, IfSome, IsSome, unwrap_or}
use Rattle.std.proofs.lemmas.Bool.{and_parts}
use Rattle.std.proofs.lemmas.List.Elements.{All-cons, All-head, All-nil, All-tail, All-weaker}
use Rattle.tc_bytes.specs.Codec.{IsBytes}
use Rattle.tc_store.specs.declared.file_name.FileName.{FileName}
use Rattle.tc_store.specs.Disk.{Picture, bytes_at, same_name}
use Rattle.tc_store.specs.Gate.{is_open_file}
use Rattle.tc_component.specs.Layout.{number_end}
use Rattle.tc_component.specs.Loading.{ComponentState, index_in}
use Rattle.tc_component.specs.Reading.{file_judged}
use Rattle.tc_component.specs.Spelling.{Holds, Index, name_of}
use Rattle.tc_recover.specs.declared.taken.Taken.{Taken}
use Rattle.tc_recover.specs.Files.{AreGates, AreTold}
use Rattle.tc_recover.specs.Loading.{interval_of, tile_name}
use Rattle.tc_lawful.proofs.CountedTiles.{IsJudgedAt}
use Rattle.tc_lawful.proofs.LoadedFiles.{HoldsBy, IsOwn}

-- a file of bytes, no longer than a file may be
abbrev pub IsFile : List ℕ → Type 0
IsFile bytes = IsBytes bytes × (length bytes < number_end)

-- and open
abbrev pub IsOpenFile : List ℕ → Type 0
IsOpenFile bytes = (is_open_file bytes ≡ true) × IsFile bytes

open_own : {F W : Type 0} (content : F → Option (List ℕ)) (t : Taken F W) → IfSome (content t.file) (λ bytes. t.open ≡ is_open_file bytes) → IfSome (content t.file) IsFile → HoldsBy (λ x. IfSome (content x.file) IsOpenFile) t
open_own content t gate file x same is =
    let opened = (and_parts t.open (same_name (tile_name (interval_of x)) t.name) is).0 in
    subst (λ f. IfSome (content f) IsOpenFile) (sym same) (both (content t.file) gate file opened)
  where
    both : (told : Option (List ℕ)) → IfSome told (λ bytes. t.open ≡ is_open_file bytes) → IfSome told IsFile → t.open ≡ true → IfSome told IsOpenFile
    both None gate file opened = tt
    both (Some bytes) gate file opened = (sym gate ∙ opened, file)

pub files_open : {F W : Type 0} (content : F → Option (List ℕ)) (files : List (Taken F W)) → AreGates content files → All (λ (t : Taken F W). IfSome (content t.file) IsFile) files → All (HoldsBy (λ x. IfSome (content x.file) IsOpenFile)) files
files_open {F = F} {W = W} content [] gates each = All-nil (HoldsBy {F = F} {W = W} (λ x. IfSome (content x.file) IsOpenFile))
files_open {F = F} {W = W} content (t ∷ files) gates each =
    All-cons (HoldsBy {F = F} {W = W} (λ x. IfSome (content x.file) IsOpenFile)) t files
    (open_own content t (All-head (λ (u : Taken F W). IfSome (content u.file) (λ bytes. u.open ≡ is_open_file bytes)) t files gates) (All-head (λ (u : Taken F W). IfSome (content u.file) IsFile) t files each))
    (files_open content files (All-tail (λ (u : Taken F W). IfSome (content u.file) (λ bytes. u.open ≡ is_open_file bytes)) t files gates) (All-tail (λ (u : Taken F W). IfSome (content u.file) IsFile) t files each))

-- what is judged of an open file of bytes is what it holds
abbrev pub AreHeld : Type 0
AreHeld = (name : FileName) (bytes : List ℕ) (c : Index) → IsBytes bytes → is_open_file bytes ≡ true → length bytes < number_end → file_judged name bytes ≡ Ok c → Holds bytes c

-- the file tells a component with this index
abbrev pub IsHeldBy : {F : Type 0} → (F → Option (List ℕ)) → ComponentState F → Type 0
IsHeldBy content x = (bytes : List ℕ) × (content x.file ≡ Some bytes) × Holds bytes x.index

one_held : AreHeld → (told : Option (List ℕ)) (c : Index) → IsSome told → file_judged (name_of c.head) (unwrap_or told []) ≡ Ok c → IfSome told IsOpenFile → (bytes : List ℕ) × (told ≡ Some bytes) × Holds bytes c
one_held held None c some judged is = absurd (cc)
one_held held (Some bytes) c some judged is = (bytes, refl, held (name_of c.head) bytes c is.1.0 is.0 is.1.1 judged)

pub all_held : {F : Type 0} → AreHeld → (content : F → Option (List ℕ)) (picture : Picture) (list : List (ComponentState F)) → All (IsOwn content picture) list → All (IsJudgedAt picture) (map index_in list) → All (λ x. IsSome (content x.file)) list
    → All (λ x. IfSome (content x.file) IsOpenFile) list → All (IsHeldBy content) list
all_held {F = F} held content picture [] own judged some opened = All-nil (IsHeldBy {F = F} content)
all_held {F = F} held content picture (x ∷ list) own judged some opened =
    let told : content x.file ≡ bytes_at picture (name_of x.index.head) = All-head (IsOwn {F = F} content picture) x list own in
    let here : file_judged (name_of x.index.head) (unwrap_or (bytes_at picture (name_of x.index.head)) []) ≡ Ok x.index = All-head (IsJudgedAt picture) x.index (map index_in list) judged in
    let judged_so = subst (λ image. file_judged (name_of x.index.head) (unwrap_or image []) ≡ Ok x.index) (sym told) here in
    All-cons (IsHeldBy {F = F} content) x list
    (one_held held (content x.file) x.index (All-head (λ (y : ComponentState F). IsSome (content y.file)) x list some) judged_so (All-head (λ (y : ComponentState F). IfSome (content y.file) IsOpenFile) x list opened))
    (all_held held content picture list (All-tail (IsOwn {F = F} content picture) x list own) (All-tail (IsJudgedAt picture) x.index (map index_in list) judged) (All-tail (λ (y : ComponentState F). IsSome (content y.file)) x list some)
    (All-tail (λ (y : ComponentState F). IfSome (content y.file) IsOpenFile) x list opened))

-- each file that was taken tells its bytes
pub files_some : {F W : Type 0} (content : F → Option (List ℕ)) (files : List (Taken F W)) → AreTold content files → All (HoldsBy (λ x. IsSome (content x.file))) files
files_some {F = F} {W = W} content files told =
    All-weaker (λ (t : Taken F W). IsSome (content t.file)) (HoldsBy {F = F} {W = W} (λ x. IsSome (content x.file))) (λ t some x same is. subst (λ f. IsSome (content f)) (sym same) some) files told

-- pictures with the same files
pub own_same : {F : Type 0} (content : F → Option (List ℕ)) (p q : Picture) (list : List (ComponentState F)) → ((name : FileName) → bytes_at p name ≡ bytes_at q name) → All (IsOwn content p) list → All (IsOwn content q) list
own_same {F = F} content p q list same own = All-weaker (IsOwn {F = F} content p) (IsOwn {F = F} content q) (λ x is. is ∙ same (tile_name (interval_of x))) list own
