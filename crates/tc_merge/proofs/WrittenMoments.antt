-- What a stop leaves while a file is written by one call after the other.
use Rattle.std.proofs.Common.{List}
use Rattle.tc_store.specs.DiskFile.{DiskFile}
use Rattle.tc_store.specs.Images.{Image}
use Rattle.tc_store.specs.Moments.{LeavesAt, LeavesOnly}
use Rattle.tc_store.proofs.MomentLemmas.{EachSince-trans}
use Rattle.tc_store.proofs.StopLaws.{leaves_only_weaker}

pub then_leaves : (Q P : Image → Type 0) (old middle new : List DiskFile) → ((image : Image) → P image → Q image) → LeavesOnly Q old middle → LeavesOnly P middle new → LeavesOnly Q old new
then_leaves Q P old middle new give first second = EachSince-trans (LeavesAt Q) old middle new first (leaves_only_weaker P Q middle new give second)
