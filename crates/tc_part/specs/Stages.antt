-- What comes of a write that is staged: the answer, and the part that it leaves.
use Rattle.std.specs.Prelude.{◌≡◌, ◌+◌, ◌-◌, ◌&&◌, ℕ, Bool, true, false, not, nat_le, List, [], ◌∷◌, ◌++◌, Option, Some, None, if◌then◌else◌}
use Rattle.tc_model.specs.Document.{Name, Document, ShapeTree}
use Rattle.tc_request_model.specs.Request.{Refusal, names_full, full}
use Rattle.tc_record.specs.Record.{IsRecordOf}
use Rattle.tc_log.specs.declared.write.Write as log
use Rattle.tc_log.specs.declared.write.Write.TheVariants.{Upsert, Delete}
use Rattle.tc_memory.specs.Table.{upserted, deleted}
use Rattle.tc_plain_model.specs.Room.{Limits, lacks_names}
use Rattle.tc_request_model.specs.Part.{upsert_refusal, unless_refused}
use Rattle.tc_plain_model.specs.Store.{Store, names_with}
use Rattle.tc_plain_model.specs.Writes.{Write}
use Rattle.tc_part_model.specs.Changes.{with_staged}
use Rattle.tc_part_model.specs.PartState.{PartState}
use Rattle.tc_part_model.specs.PartView.{PartView}
use Rattle.tc_part.specs.declared.staging.Staged.{Staged}
use Rattle.tc_part.specs.declared.staging.Staged.TheVariants.{Done, NamesFull, Full}

-- ---- the answer

-- why a write is refused, if it is; a delete never is
abbrev pub refusal_for : Limits → Write → Store → Option Refusal
refusal_for limits (key, Some d) s = upsert_refusal limits key d s
refusal_for limits (key, None) s = None

-- an upsert is refused for its names, or else for want of room
abbrev pub refused_as : Refusal → Staged
refused_as names_full = NamesFull
refused_as refusal = Full

abbrev pub answer_to : Option Refusal → Bool → Staged
answer_to refusal was_live = unless_refused refusal (Done was_live) refused_as

-- the refusal of an upsert, by the names that are taken and by how many documents are live
abbrev pub refusal_by : Limits → Document → List Name → Bool → ℕ → Option Refusal
refusal_by limits d taken was_live live =
    if lacks_names limits d taken then Some names_full
    else (if not was_live && nat_le limits.docs live then Some full else None)

-- so it is of a record, over every store, where the key is seen to have a document or not
abbrev pub IsAnswerTo : Limits → List Name → ℕ → log.Write → Bool → Staged → Type 0
IsAnswerTo limits taken live (Upsert key bytes) was_live answer = (d : Document) → IsRecordOf d bytes → answer ≡ answer_to (refusal_by limits d taken was_live live) was_live
IsAnswerTo limits taken live (Delete key) was_live answer = answer ≡ Done was_live

-- ---- what is left

-- what is refused changes nothing, and neither does a delete of a key without a document
abbrev pub stages : Option Refusal → Write → Bool → PartView → PartView
stages None (key, Some d) was_live p = with_staged (key, Some d) p
stages None (key, None) true p = with_staged (key, None) p
stages None (key, None) false p = p
stages (Some refusal) w was_live p = p

-- A record is staged. The shape that its table keeps of what is below comes from the files.
abbrev pub HasUpserted : {S D F W : Type 0} → ℕ → List ℕ → Bool → PartState S D F W → PartState S D F W → Type 0
HasUpserted key bytes was_live old new =
    (handed : Option ShapeTree)
    × (new ≡ record old { main = new.main; active = upserted key bytes handed old.active; staged = old.staged ++ Upsert key bytes ∷ []; taken = new.taken; live = if was_live then old.live else old.live + 1 })
    × ((d : Document) → IsRecordOf d bytes → new.taken ≡ names_with d old.taken)

-- it is staged that a key is taken out
abbrev pub HasDeleted : {S D F W : Type 0} → ℕ → PartState S D F W → PartState S D F W → Type 0
HasDeleted key old new =
    (handed : Option ShapeTree) × (new ≡ record old { main = new.main; active = deleted key handed old.active; staged = old.staged ++ Delete key ∷ []; live = old.live - 1 })

-- what an answer leaves, over every store
abbrev pub HasStaged : {S D F W : Type 0} → Staged → log.Write → PartState S D F W → PartState S D F W → Type 0
HasStaged (Done was_live) (Upsert key bytes) old new = HasUpserted key bytes was_live old new
HasStaged (Done true) (Delete key) old new = HasDeleted key old new
HasStaged (Done false) (Delete key) old new = new ≡ old
HasStaged NamesFull write old new = new ≡ old
HasStaged Full write old new = new ≡ old
