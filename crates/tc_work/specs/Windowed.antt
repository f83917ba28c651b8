-- What a window makes of a part that is seen in documents.
use Rattle.std.specs.Prelude.{◌≡◌, ◌++◌, List}
use Rattle.tc_request_model.specs.Request.{Request}
use Rattle.tc_plain_model.specs.Room.{Limits}
use Rattle.tc_request_model.specs.Part.{part_left_all, part_writes_all}
use Rattle.tc_plain_model.specs.Store.{Store}
use Rattle.tc_plain_model.specs.Writes.{Write, after_writes}
use Rattle.tc_part_model.specs.Changes.{committed_part}
use Rattle.tc_part_model.specs.Meaning.{IsPart, plain_of}
use Rattle.tc_part_model.specs.PartState.{PartState, Told}
use Rattle.tc_part_model.specs.PartView.{PartView, store_of}

-- writes are staged behind those that were
abbrev pub staged_as : List Write → PartView → PartView
staged_as ws p = record p { staged = p.staged ++ ws }

-- the writes of a window are in the log as one frame
abbrev pub windowed : List Write → PartView → PartView
windowed ws p = committed_part (staged_as ws p)

-- these writes are staged, and as a plain store it is this one
pub record IsStagedAs (ws : List Write) (s : Store) (p : PartView) (t : Told) : Type 0 where
  pub part : IsPart t (staged_as ws p)
  pub plain : plain_of t (staged_as ws p) ≡ s

-- the writes of a window are committed: what its requests leave of a plain store is what there is now
pub record IsWindowed (limits : Limits) (rs : List Request) (old : Told) (p : PartView) (new : Told) : Type 0 where
  pub part : IsPart new (windowed (part_writes_all limits rs (plain_of old p)) p)
  pub plain : plain_of new (windowed (part_writes_all limits rs (plain_of old p)) p) ≡ part_left_all limits rs (plain_of old p)
  pub stores : store_of (windowed (part_writes_all limits rs (plain_of old p)) p) ≡ after_writes (store_of p) (part_writes_all limits rs (plain_of old p))

-- nothing changed but what is staged, and what the watch counted
abbrev pub HasOnlyStaged : {S D F W : Type 0} → PartState S D F W → PartState S D F W → Type 0
HasOnlyStaged old new = new ≡ record old { main = new.main; active = new.active; staged = new.staged; taken = new.taken; live = new.live; failed = new.failed }
