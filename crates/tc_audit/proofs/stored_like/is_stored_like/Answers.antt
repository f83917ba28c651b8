use Rattle.tc_audit.proofs.LikeStored.{shaped_like, stored_known, stored_like}
use Rattle.tc_audit.proofs.stored_like.is_stored_like.Goals as goal

pub spells_like-requires-clause-known : goal.spells_like-requires-clause-known
spells_like-requires-clause-known c = stored_known c.args.of.now.form c.args.names.now c.args.other.now c.len-known.ensures.dictionary c.requires.stored

pub returns-clause-stored : goal.returns-clause-stored
returns-clause-stored c = λ like.
    let told = c.spells_like.ensures in
    stored_like c.args.names.now c.args.of.now c.args.other.now c.len-known.ensures.dictionary c.requires.stored (told.shape like) c.bytes-bytes.ensures.spells c.requires.numbered (told.found like) (told.short like)

-- both documents are stored
pub returns-clause-shape : goal.returns-clause-shape
returns-clause-shape c = λ like.
    shaped_like c.args.names.now c.args.of.now c.args.other.now c.len-known.ensures.dictionary c.requires.stored (c.spells_like.ensures.shape like) c.document_meant.ensures.read (returns-clause-stored c like)
