use Rattle.std.proofs.Common.{◌∙◌, ◌<◌, ◌^◌, [], length, sym, subst, arith}
use Rattle.std.proofs.lemmas.Result.{IfOk-weaker}
use Rattle.tc_bits.proofs.Joined.{AreBelow}
use Rattle.tc_record.specs.Record.{spelling_of}
use Rattle.tc_record.proofs.Spellings.{each_below}
use Rattle.tc_compact.specs.Layout.{parts_of, whole}
use Rattle.tc_compact.proofs.Compacts.{names_lie, compacts, compacted_short}
use Rattle.tc_compact.proofs.compacting.compact_numbered.Goals as goal

pub with_numbers-requires-clause-members : goal.with_numbers-requires-clause-members
with_numbers-requires-clause-members c =
    c.requires.members ∙ (names_lie c.args.from c.bytes-bytes.ensures.spells c.requires.named).members

pub with_numbers-requires-clause-short : goal.with_numbers-requires-clause-short
with_numbers-requires-clause-short c =
    let ns = c.args.numbers.now in
    let each : AreBelow 32 ns = each_below (2 ^ 32) ns (omega (arith, c.greatest-greatest.ensures)) in
    compacted_short 2 c.args.from ns c.bytes-bytes.ensures.spells c.requires.named c.requires.short c.requires.members each

pub returns : goal.returns
returns c =
    let r = c.args.from in
    let ns = c.args.numbers.now in
    let spells = c.bytes-bytes.ensures.spells in
    let each : AreBelow 32 ns = each_below (2 ^ 32) ns (omega (arith, c.greatest-greatest.ensures)) in
    let short : length (whole (spelling_of 2) 2 (parts_of r.tokens) ns []) < 2 ^ 32 = compacted_short 2 r ns spells c.requires.named c.requires.short c.requires.members each in
    record {
      compacted =
          IfOk-weaker c.with_numbers.result _ _
          (λ bytes written d is names dictionary has are. compacts 2 names d r ns bytes dictionary spells is has are written (subst (λ bs. length bs < 2 ^ 32) (sym written) short))
          c.with_numbers.ensures;
    }
