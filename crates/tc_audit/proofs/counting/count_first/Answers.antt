use Rattle.std.proofs.Common.{refl, sym, subst}
use Rattle.std.proofs.lemmas.Bool.{both_ways}
use Rattle.std.proofs.lemmas.Result.{on_ok_weaker}
use Rattle.tc_audit.specs.Stored.{IsStoredIn}
use Rattle.tc_audit.specs.Told.{document_in}
use Rattle.tc_audit.specs.Waiting.{with_waiting, AreKnown, IsKnown}
use Rattle.tc_audit.specs.Walking.{IsMoreBy}
use Rattle.tc_audit.specs.declared.shapes.KnownShape.{KnownShape}
use Rattle.tc_audit.proofs.WaitingLaws.{known_once, known_pushed, one_first}
use Rattle.tc_audit.proofs.counting.count_first.Goals as goal

-- the shape that is learned
abbrev shape_of : goal.After-learn → KnownShape
shape_of c = record { bytes = c.args.of.now.bytes; waiting = 1 }

is_known : (c : goal.After-learn) → IsKnown c.args.recount.now.shapes.form c.args.recount.now.names (shape_of c)
is_known c =
    let r = c.args.recount.now in
    known_once c.document_meant.ensures.read r.shapes.form r.names (shape_of c) c.len-known.ensures.dictionary (subst (λ form. IsStoredIn form r.names c.args.of.now.bytes) c.requires.form c.requires.stored)

pub returns-clause-sound : goal.returns-clause-sound
returns-clause-sound c =
    let r = c.args.recount.now in
    on_ok_weaker c.learn.result
    (λ learned. record {
      canonical = c.requires.sound.canonical;
      known = subst (λ form. AreKnown form r.names c.learn.new.self.known.items) (sym c.learn.ensures.form)
          (subst (AreKnown r.shapes.form r.names) (sym learned) (known_pushed r.names r.shapes.form r.shapes.known.items (shape_of c) c.requires.sound.known (is_known c)));
      settled = λ none. absurd (both_ways r.waits none c.requires.waits);
    })
    c.learn.ensures.learned

pub returns-clause-counted : goal.returns-clause-counted
returns-clause-counted c =
    let r = c.args.recount.now in
    on_ok_weaker c.learn.result
    (λ learned. subst (λ ss. IsMoreBy (document_in r.names c.args.of.now.bytes) r.names (with_waiting r.names r.shapes.known.items r.schema) (with_waiting r.names ss r.schema)) (sym learned)
    (one_first r.names r.shapes.form r.shapes.known.items r.schema (shape_of c) c.requires.sound.known (is_known c) refl))
    c.learn.ensures.learned
