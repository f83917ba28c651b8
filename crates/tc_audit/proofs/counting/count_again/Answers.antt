use Rattle.std.proofs.Common.{◌≡◌, ◌∙◌, ◌+◌, set, sym, subst}
use Rattle.std.proofs.lemmas.Bool.{both_ways}
use Rattle.std.proofs.lemmas.Option.{get_or_from_slice_get}
use Rattle.tc_audit.specs.Told.{document_in}
use Rattle.tc_audit.specs.Waiting.{with_waiting, AreKnown}
use Rattle.tc_audit.specs.Walking.{IsMoreBy}
use Rattle.tc_audit.specs.declared.shapes.KnownShape.{KnownShape}
use Rattle.tc_audit.proofs.WaitingLaws.{known_set, one_again}
use Rattle.tc_audit.proofs.counting.count_again.Goals as goal

pub returns-clause-sound : goal.returns-clause-sound
returns-clause-sound c =
    let r = c.args.recount.now in
    let ss = r.shapes.known.items in
    let s = c.requires.shape.shape in
    let here = c.requires.shape.here in
    let is : c.index_mut.result.now ≡ s = c.index_mut.ensures.value ∙ get_or_from_slice_get ss c.args.at s c.index_mut.result.now here in
    record {
      canonical = c.requires.sound.canonical;
      known = subst (λ (x : KnownShape). AreKnown r.shapes.form r.names (set ss c.args.at (record x { waiting = x.waiting + 1 }))) (sym is) (known_set r.names r.shapes.form ss c.args.at s (s.waiting + 1) here c.requires.sound.known);
      settled = λ none. absurd (both_ways r.waits none c.requires.waits);
    }

pub returns-clause-counted : goal.returns-clause-counted
returns-clause-counted c =
    let r = c.args.recount.now in
    let ss = r.shapes.known.items in
    let s = c.requires.shape.shape in
    let here = c.requires.shape.here in
    let is : c.index_mut.result.now ≡ s = c.index_mut.ensures.value ∙ get_or_from_slice_get ss c.args.at s c.index_mut.result.now here in
    let v = document_in r.names c.args.of.now.bytes in
    subst (λ (x : KnownShape). IsMoreBy v r.names (with_waiting r.names ss r.schema) (with_waiting r.names (set ss c.args.at (record x { waiting = x.waiting + 1 })) r.schema)) (sym is)
    (one_again r.names r.shapes.form ss r.schema c.args.at s v c.requires.sound.known here c.requires.shape.same)
