-- What a stop leaves while a file is begun, filled and closed.
use Rattle.std.proofs.Common.{ℕ, List, None, Some, inl, inr}
use Rattle.tc_store.specs.DiskFile.{DiskFile}
use Rattle.tc_store.specs.Gate.{IsClosed, IsClosedOrWhole, IsShutOr, IsShutOrWhole}
use Rattle.tc_store.specs.Images.{Image}
use Rattle.tc_store.specs.Moments.{LeavesAt, LeavesOnly}
use Rattle.tc_store.proofs.MomentLemmas.{EachSince-trans}
use Rattle.tc_store.proofs.StopLaws.{leaves_only_weaker}

module _ (before : Image) (whole : List ℕ) where
  shut : (image : Image) → IsShutOr before image → IsShutOrWhole before whole image
  shut None is = tt
  shut (Some image) (inl closed) = inl closed
  shut (Some image) (inr old) = inr (inl old)

  closed : (image : Image) → IsClosed image → IsShutOrWhole before whole image
  closed None is = tt
  closed (Some image) is = inl is

  closed_or_whole : (image : Image) → IsClosedOrWhole whole image → IsShutOrWhole before whole image
  closed_or_whole None is = tt
  closed_or_whole (Some image) (inl closed) = inl closed
  closed_or_whole (Some image) (inr is) = inr (inr is)

  pub begun_moments : (old begun : List DiskFile) → LeavesOnly (IsShutOr before) old begun → LeavesOnly (IsShutOrWhole before whole) old begun
  begun_moments old begun leaves = leaves_only_weaker (IsShutOr before) (IsShutOrWhole before whole) old begun shut leaves

  pub filled_moments : (old begun filled : List DiskFile) → LeavesOnly (IsShutOr before) old begun → LeavesOnly IsClosed begun filled → LeavesOnly (IsShutOrWhole before whole) old filled
  filled_moments old begun filled first fills =
      EachSince-trans (LeavesAt (IsShutOrWhole before whole)) old begun filled (begun_moments old begun first) (leaves_only_weaker IsClosed (IsShutOrWhole before whole) begun filled closed fills)

  pub finished_moments : (old begun filled new : List DiskFile) → LeavesOnly (IsShutOr before) old begun → LeavesOnly IsClosed begun filled → LeavesOnly (IsClosedOrWhole whole) filled new → LeavesOnly (IsShutOrWhole before whole) old new
  finished_moments old begun filled new first fills ends =
      EachSince-trans (LeavesAt (IsShutOrWhole before whole)) old filled new (filled_moments old begun filled first fills)
      (leaves_only_weaker (IsClosedOrWhole whole) (IsShutOrWhole before whole) filled new closed_or_whole ends)
