use Rattle.std.proofs.Common.{◌≡◌, ◌∙◌, refl, sym, ap, Some}
use Rattle.tc_bytes.specs.Reading.{byte_at}
use Rattle.tc_record.specs.Behind.{behind_close}
use Rattle.tc_record.proofs.TokensPassed.{passed_whole}
use Rattle.tc_record.proofs.cursor.Cursor.pass_to_close.Goals as goal

pub returns-in-Some : goal.returns-in-Some
returns-in-Some c =
    let s = c.self.inside in
    let next : byte_at s.tags.now ≡ Some (c.in-Some._first, c.in-Some.rest.now) = sym c.u8_at.ensures ∙ rw c.in-Some.is refl in
    passed_whole s.started s.tags.now c.in-Some.rest.now c.in-Some._first s.walk _ _ c.if-self.false next c.self.invariant c.tags_behind_close-inner.ensures c.tags_behind_close-self-inside-in-Some.ensures ∙ ap behind_close c.self.view_is
