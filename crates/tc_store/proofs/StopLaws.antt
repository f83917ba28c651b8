-- What a stop may leave, file by file and moment by moment.
use Rattle.std.proofs.Common.{◌≡◌, ℕ, List, [], ◌∷◌, ◌++◌, refl, inl, inr, subst, arith}
use Rattle.std.specs.Prelude.{◌⊎◌, Option, None, Some, All}
use Rattle.std.proofs.lemmas.Bool.{cases_Bool}
use Rattle.std.proofs.lemmas.List.Elements.{All-head, All-weaker}
use Rattle.tc_store.specs.declared.file_name.FileName.{FileName}
use Rattle.tc_store.specs.Disk.{Disk, Entry, none, home, still, out, put, same_name, Picture, bytes_at, IsPictureOf, MayLeaveAt}
use Rattle.tc_store.specs.DiskFile.{DiskFile, empty_file, settled_file}
use Rattle.tc_store.specs.Gate.{IsShutOr, IsClosed, IsClosedOrWhole, IsShutOrWhole}
use Rattle.tc_store.specs.Images.{Image, MayLeave}
use Rattle.tc_store.specs.Moments.{EachSince, IfTold, LeavesAt, LeavesOnly}
use Rattle.tc_store.proofs.GateLemmas.{settled_leaves}
use Rattle.tc_store.proofs.NameLemmas.{same_name-is, same_name-refl}

pub settled_image : (bytes : List ℕ) (image : Image) → MayLeave (settled_file bytes) image → image ≡ Some bytes
settled_image bytes = settled_leaves bytes (λ image. image ≡ Some bytes) refl

pub fresh_image : (before : Option (List ℕ)) (image : Image) → MayLeave (empty_file before) image → (image ≡ None) ⊎ ((image ≡ Some []) ⊎ (before ≡ image))
fresh_image before None may = inl refl
fresh_image before (Some []) (inl is) = inr (inl refl)
fresh_image before (Some (x ∷ xs)) (inl is) = absurd (omega (arith, is.no_longer))
fresh_image before (Some image) (inr was) = inr (inr was)

entry_weaker : (held other : Image → Type 0) (entry : Entry) (image : Image) → ((image : Image) → held image → other image) → MayLeaveAt held entry image → MayLeaveAt other entry image
entry_weaker held other (none before) None give may = tt
entry_weaker held other (none before) (Some image) give may = may
entry_weaker held other (home f) image give may = may
entry_weaker held other (still bytes) image give may = may
entry_weaker held other out image give may = give image may

pub picture_weaker : (held other : FileName → Image → Type 0) (disk : Disk) (picture : Picture) → ((name : FileName) (image : Image) → held name image → other name image)
    → IsPictureOf held disk picture → IsPictureOf other disk picture
picture_weaker held other disk picture give is = record {
  once = is.once;
  each = λ name. entry_weaker (held name) (other name) (disk name) (bytes_at picture name) (give name) (is.each name);
}

-- what each moment so far had, and each further one has, the last one has
pub now_since : {X : Type 0} (P : X → Type 0) (old new : List X) → IfTold old P → EachSince P old new → IfTold new P
now_since {X = X} P old new was since = rw since.goes_on (now since.added since.each old was)
  where
    now : (added : List X) → All P added → (old : List X) → IfTold old P → IfTold (added ++ old) P
    now [] each old was = was
    now (x ∷ added) each old was = All-head P x added each

pub since_weaker : {X : Type 0} (P Q : X → Type 0) (old new : List X) → ((x : X) → P x → Q x) → EachSince P old new → EachSince Q old new
since_weaker P Q old new give since = record { added = since.added; goes_on = since.goes_on; each = All-weaker P Q give since.added since.each; untold = since.untold }

pub leaves_only_weaker : (P Q : Image → Type 0) (old new : List DiskFile) → ((image : Image) → P image → Q image) → LeavesOnly P old new → LeavesOnly Q old new
leaves_only_weaker P Q old new give leaves = since_weaker (LeavesAt P) (LeavesAt Q) old new (λ f at image may. give image (at image may)) leaves

-- ---- absent, closed, the file before, or whole

pub shut_or_whole-shut : (before : Image) (whole : List ℕ) (image : Image) → IsShutOr before image → IsShutOrWhole before whole image
shut_or_whole-shut before whole None is = tt
shut_or_whole-shut before whole (Some image) (inl closed) = inl closed
shut_or_whole-shut before whole (Some image) (inr same) = inr (inl same)

pub shut_or_whole-closed : (before : Image) (whole : List ℕ) (image : Image) → IsClosed image → IsShutOrWhole before whole image
shut_or_whole-closed before whole None is = tt
shut_or_whole-closed before whole (Some image) closed = inl closed

pub shut_or_whole-whole : (before : Image) (whole : List ℕ) (image : Image) → IsClosedOrWhole whole image → IsShutOrWhole before whole image
shut_or_whole-whole before whole None is = tt
shut_or_whole-whole before whole (Some image) (inl closed) = inl closed
shut_or_whole-whole before whole (Some image) (inr same) = inr (inr same)
