use Rattle.std.proofs.Common.{◌∙◌, refl, sym, ap, length}
use Rattle.tc_record.specs.Borrowed.{Record}
use Rattle.tc_record.specs.Held.{tokens_held}
use Rattle.tc_record.specs.Record.{labels}
use Rattle.tc_record.proofs.Told.{slots_many}
use Rattle.tc_record.proofs.record_ref.RecordRef.member_count.Goals as goal

pub returns : goal.returns
returns c =
    let r = c.self.inside in
    slots_many r.bytes.now r.sections (tokens_held r.sections) c.self.invariant.0 c.self.invariant.1 refl (sym c.self.invariant.2) ∙ ap (λ (v : Record). length (labels v.tokens)) c.self.view_is
